use Rattle.std.proofs.Common.{◌∙◌, ◌&&◌, ap, map, not}
use Rattle.std.specs.Prelude.{nat_lt}
use Rattle.rc_pattern.specs.Meaning.{alt_all, meaning}
use Rattle.rc_literals.specs.Stops.{reads}
use Rattle.rc_literals.proofs.LeaveLemmas.{all_stops}
use Rattle.rc_literals.proofs.ReadLemmas.{leaves_out}
use Rattle.rc_literals.proofs.stops.stops_of.Goals as goal

pub returns-clause-value : goal.returns-clause-value
returns-clause-value c = λ b. c.pass_each.ensures b ∙ ap (λ z. z && not (reads (alt_all (map meaning c.args.hirs.now)) b)) (all_stops b)

pub returns-clause-leaves : goal.returns-clause-leaves
returns-clause-leaves c =
    leaves_out (map meaning c.args.hirs.now) c.pass_each.new.table (λ b. nat_lt b 256)
    (λ b. c.pass_each.ensures b ∙ ap (λ z. z && not (reads (alt_all (map meaning c.args.hirs.now)) b)) (all_stops b))
