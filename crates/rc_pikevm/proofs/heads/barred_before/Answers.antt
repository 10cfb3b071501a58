use Rattle.std.proofs.Common.{◌∙◌, ap, arith, slice_index}
use Rattle.rc_program.specs.Places.{place_of, places_of}
use Rattle.rc_pikevm.proofs.HeadLemmas.{other_bars, unset_bars}
use Rattle.rc_pikevm.proofs.LookUpLemmas.{placed}
use Rattle.rc_pikevm.proofs.heads.barred_before.Goals as goal

pub returns-in-Some-clause-barred : goal.returns-in-Some-clause-barred
returns-in-Some-clause-barred c k less =
    unset_bars (places_of c.args.program.now.places.items) c.args.place (slice_index c.args.bytes.now k) c.in-Some.flags.now c.in-Some.ensures
    (c.unset_before.ensures.small k (omega (arith, less, c.unset_before.ensures.within))) (c.unset_before.ensures.unset k less)

pub returns-in-Byte-clause-barred : goal.returns-in-Byte-clause-barred
returns-in-Byte-clause-barred c k less =
    other_bars (places_of c.args.program.now.places.items) c.args.place c.in-Byte.byte c.in-Byte.field-1 (slice_index c.args.bytes.now k)
    (placed c.args.program.now.places.items c.args.place c.index.result.now c.requires.place_in c.index.ensures ∙ ap place_of c.in-Byte.is)
    (c.others_before.ensures.others k less)
