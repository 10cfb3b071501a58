use Rattle.std.proofs.Common.{◌<◌, length, get_or, ◌∙◌, sym, arith}
use Rattle.std.proofs.lemmas.Bool.{eqb-false}
use Rattle.rc_text.proofs.Joins.{no_chunk, chunk_at-read, joined-take}
use Rattle.rc_text.proofs.chunks.last_filled.Goals as goal

pub returns : goal.returns
returns c =
    let xs = c.args.chunks.now in
    let i = c.loop-index.index in
    let within : i < length xs = omega arith in
    record {
      within = omega arith;
      is = chunk_at-read xs i within;
      some = omega (arith, eqb-false (length (get_or xs i no_chunk).now) 0 (sym c.loop-index-test.ensures));
      between = rw (chunk_at-read xs i within) (c.loop-index.invariant.after ∙ joined-take xs i);
    }
