use Rattle.std.proofs.Common.{subst}
use Rattle.rc_pikevm.specs.Near.{seen_from}
use Rattle.rc_pikevm.specs.Moves.{IsMove}
use Rattle.rc_pikevm.proofs.EntranceLemmas.{stops_shut}
use Rattle.rc_pikevm.proofs.entrance.is_shut.Goals as goal

pub returns-in-DeadEnd : goal.returns-in-DeadEnd
returns-in-DeadEnd g c _ =
    stops_shut (seen_from c.args.spot.now g.text) c.args.spot.now.at c.args.place
    (subst (IsMove (seen_from c.args.spot.now g.text) (c.args.place, c.args.spot.now.at)) c.in-DeadEnd.is c.look_up.ensures)
