use Rattle.rc_explain.specs.Shown.{shape_of}
use Rattle.rc_explain.proofs.Shapes.{shifted}
use Rattle.rc_explain.proofs.places.Found.after.Goals as goal

pub returns : goal.returns
returns c = λ grammar text fits h.
    shifted c.args.count text c.args.self.start c.args.self.end c.saturating_add.result c.saturating_add-2.result fits c.saturating_add.ensures
    c.saturating_add-2.ensures (shape_of grammar c.args.self.kind) h
