use Rattle.std.proofs.Common.{◌∙◌, arith, sym}
use Rattle.std.proofs.lemmas.List.{at_drop_all}
use Rattle.rc_program.specs.Places.{places_of}
use Rattle.rc_pikevm.specs.Readers.{reader_count}
use Rattle.rc_pikevm.proofs.ReaderLemmas.{readers_from}
use Rattle.rc_pikevm.proofs.cache.count_readers.Goals as goal

pub loop-place-preserved-then-not-reads : goal.loop-place-preserved-then-not-reads
loop-place-preserved-then-not-reads c =
    let h = rw (sym c.reads.ensures ∙ c.if-not-reads.true) at
    (readers_from c.args.places.now c.loop-place.place-index c.place-item.result c.loop-place-test.true c.place-item.is) in
    (omega (arith, h, c.loop-place.invariant.0), omega (arith, c.loop-place.invariant.1))

pub loop-place-preserved : goal.loop-place-preserved
loop-place-preserved c =
    let h = rw (sym c.reads.ensures ∙ c.if-not-reads.false) at
    (readers_from c.args.places.now c.loop-place.place-index c.place-item.result c.loop-place-test.true c.place-item.is) in
    (omega (arith, h, c.loop-place.invariant.0), omega (arith, c.loop-place.invariant.1))

pub returns : goal.returns
returns c =
    let none = at_drop_all (λ ps. reader_count (places_of ps)) c.args.places.now c.loop-place.place-index (omega (arith, c.loop-place-test.false)) in
    omega (arith, none, c.loop-place.invariant.0)
