use Rattle.std.proofs.Common.{◌≡◌, ◌<◌, ◌+◌, ◌-◌, length, ◌∙◌, ap, sym, arith, refl}
use Rattle.std.proofs.lemmas.Bool.{eqb-false, eqb-true}
use Rattle.rc_text.proofs.Joins.{joined-take}
use Rattle.rc_pieces.specs.Pieces.{chunks_of}
use Rattle.rc_pieces.proofs.Chunks.{chunk_at-piece, skip_take, some_first}
use Rattle.rc_pieces.proofs.slices.last_filled.Goals as goal

pub loop-index-preserved : goal.loop-index-preserved
loop-index-preserved g c =
    let xs = c.args.pieces.now in
    let i = c.loop-index.index in
    let within : i < length xs = omega arith in
    let none : length (g.T.Piece.bytes c.index-pieces-index.result) ≡ 0 = rw (← c.bytes.ensures) (eqb-true (length c.bytes.result.now) 0 (sym c.loop-index-test.ensures)) in
    let skip = c.loop-index.invariant.after ∙ skip_take g.T.Piece.bytes xs i c.index-pieces-index.result c.index-pieces-index.is within none in
    let above : 0 < i = some_first (chunks_of g.T.Piece.bytes xs) i (omega (arith, c.requires.some, ap length skip)) in
    let back : i - 1 + 1 ≡ i = omega arith in
    record {
      below = omega arith;
      after = rw back skip;
    }

pub returns : goal.returns
returns g c =
    let xs = c.args.pieces.now in
    let i = c.loop-index.index in
    let within : i < length xs = omega arith in
    let is = chunk_at-piece g.T.Piece.bytes xs i c.index-pieces-index.result c.index-pieces-index.is within in
    record {
      within = omega arith;
      is = refl;
      some = rw (← is, ← c.bytes.ensures) (omega (arith, eqb-false (length c.bytes.result.now) 0 (sym c.loop-index-test.ensures)));
      between = c.loop-index.invariant.after ∙ joined-take (chunks_of g.T.Piece.bytes xs) i;
    }
