use Rattle.std.proofs.Common.{ap, arith, take}
use Rattle.rc_text.proofs.Joins.{no_chunk}
use Rattle.text_chunks.proofs.Counts.{bytes, bytes-append, bytes-item}
use Rattle.text_chunks.proofs.text.push_all.Goals as goal

pub push-requires : goal.push-requires
push-requires c =
    let xs = c.args.chunks.now in
    let i = c.loop-chunk.chunk-index in
    omega (arith, bytes-item i xs no_chunk (omega (arith, c.loop-chunk-test.true)), bytes-append c.args.pile.now (take i xs), ap bytes c.loop-chunk.invariant, c.requires)
