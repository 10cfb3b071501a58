use Rattle.std.proofs.Common.{map, sym}
use Rattle.rc_pattern.specs.Meaning.{meaning}
use Rattle.rc_needles.specs.Tables.{needles_in}
use Rattle.rc_literals.proofs.RequiredLemmas.{all_held}
use Rattle.rc_literals.proofs.required.required.Goals as goal

pub returns-clause-holds : goal.returns-clause-holds
returns-clause-holds c =
    all_held c.args.longer (map meaning c.args.hirs.now) (needles_in c.in-Some.needles.items) (sym (rw c.in-Some.is at c.in_ok-put_needed_by_each.ensures))
