use Rattle.api_meta.proofs.Cuts.{few_step}
use Rattle.api_meta.proofs.iterators.SplitN.next.Goals as goal

pub returns-clause-steps : goal.returns-clause-steps
returns-clause-steps g c =
    few_step c.args.self.now.limit c.saturating_sub-self.result c.args.self.now.pieces c.next_piece.new.self c.args.self.now.input c.next_piece.new.input
    c.next_piece.result c.if-limit-eq0.false c.if-limit-eq1.false
    c.saturating_sub-self.ensures c.next_piece.ensures.limited
