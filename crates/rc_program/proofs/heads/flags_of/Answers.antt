use Rattle.std.proofs.Common.{sym, subst}
use Rattle.rc_program.specs.Closing.{AreReached}
use Rattle.rc_program.specs.Heads.{flags_in}
use Rattle.rc_program.specs.Places.{places_of}
use Rattle.rc_program.proofs.ClosingLemmas.{flags_are}
use Rattle.rc_program.proofs.heads.flags_of.Goals as goal

pub returns : goal.returns
returns c =
    let places = places_of c.args.places.now in
    let tables = flags_in c.args.tables.now in
    let all = subst (AreReached places tables c.args.place) (sym c.deref.ensures.value) (c.in_ok-open_all.ensures c.if-not-branch.false) in
    λ some. flags_are places tables c.args.place c.deref.result.now c.in_ok-flags.flags.items c.requires.heads all c.in_ok-flags.ensures
