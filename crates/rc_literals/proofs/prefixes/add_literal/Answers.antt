use Rattle.std.proofs.Common.{◌∷◌, [], subst, Some, IfOk}
use Rattle.rc_literals.specs.Extraction.{Extends, greatest_count}
use Rattle.rc_needles.specs.Tables.{needles_in}
use Rattle.rc_literals.proofs.ExtractionLemmas.{literal_prefix}
use Rattle.rc_literals.proofs.prefixes.add_literal.Goals as goal

pub returns : goal.returns
returns c =
    subst (λ w. IfOk c.add_needle.result (λ done. Extends greatest_count done (needles_in c.args.list.now.items) (needles_in c.add_needle.new.list.items) (Some (w ∷ []))))
    (literal_prefix c.args.bytes.now c.min.result c.min.ensures) c.add_needle.ensures
