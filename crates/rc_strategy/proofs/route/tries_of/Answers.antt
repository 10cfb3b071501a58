use Rattle.std.proofs.Common.{subst, sym}
use Rattle.rc_program.specs.Places.{places_of}
use Rattle.rc_dfa_search.specs.Firsts.{TellsOthers}
use Rattle.rc_strategy.proofs.HeadLemmas.{tells_none}
use Rattle.rc_strategy.proofs.route.tries_of.Goals as goal

pub returns-in_default : goal.returns-in_default
returns-in_default c =
    let places = places_of c.args.engine.now.program.places.items in
    subst (TellsOthers places 0) (sym c.new.ensures) (tells_none places 256)
