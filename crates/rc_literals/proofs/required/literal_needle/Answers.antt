use Rattle.std.proofs.Common.{rules, ◌≡◌, ◌∷◌, [], Some, sym, ◌∙◌, ap, take}
use Rattle.rc_needles.specs.Tables.{needles_in}
use Rattle.rc_literals.proofs.RequiredLemmas.{literal_has}
use Rattle.rc_literals.proofs.required.literal_needle.Goals as goal

pub returns : goal.returns
returns c =
    let e : needles_in c.push.new.self.items ≡ take c.min.result c.args.bytes.now ∷ [] = search rules in
    ap Some e ∙ sym (literal_has c.args.bytes.now c.min.result (sym c.is_empty.ensures ∙ c.if-is_empty.false) c.min.ensures)
