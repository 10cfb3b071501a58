use Rattle.std.proofs.Common.{◌≡◌, ◌<◌, length, ◌∙◌, sym, arith}
use Rattle.std.proofs.lemmas.Bool.{eqb-false, eqb-true}
use Rattle.rc_pieces.proofs.Chunks.{length-chunks_of, chunk_at-piece, skip_take, skip_drop, within_by}
use Rattle.rc_pieces.proofs.slices.next_filled.Goals as goal

pub loop-index-preserved : goal.loop-index-preserved
loop-index-preserved g c =
    let b = g.T.Piece.bytes in
    let xs = c.args.pieces.now in
    let i = c.loop-index.index in
    let y = c.index-pieces-index.result in
    let within : i < length xs = within_by b xs i (rw c.loop-index.invariant.after c.requires) in
    let none : length (b y) ≡ 0 = rw (← c.bytes.ensures) (eqb-true (length c.bytes.result.now) 0 (sym c.loop-index-test.ensures)) in
    record {
      before = skip_take b xs i y c.index-pieces-index.is within none ∙ c.loop-index.invariant.before;
      after = skip_drop b xs i y c.index-pieces-index.is within none ∙ c.loop-index.invariant.after;
    }

pub returns : goal.returns
returns g c =
    let b = g.T.Piece.bytes in
    let xs = c.args.pieces.now in
    let i = c.loop-index.index in
    let within : i < length xs = within_by b xs i (rw c.loop-index.invariant.after c.requires) in
    let is = chunk_at-piece b xs i c.index-pieces-index.result c.index-pieces-index.is within in
    record {
      within = rw (length-chunks_of b xs) within;
      some = rw (← is, ← c.bytes.ensures) (omega (arith, eqb-false (length c.bytes.result.now) 0 (sym c.loop-index-test.ensures)));
      between = c.loop-index.invariant.before;
    }
