use Rattle.std.proofs.Common.{◌+◌, length, ap, arith, length-append}
use Rattle.rc_text.proofs.Joins.{joined-parts}
use Rattle.rc_pieces.specs.Pieces.{chunks_of}
use Rattle.rc_pieces.proofs.Chunks.{joined-take_piece}
use Rattle.rc_pieces.proofs.slices.total_of.Goals as goal

pub returns-in-None : goal.returns-in-None
returns-in-None g c =
    let b = g.T.Piece.bytes in
    let xs = c.args.pieces.now in
    let i = c.loop-piece.piece-index in
    let more = simp length-append at (ap length (joined-take_piece b xs i c.piece-item.result c.piece-item.is (omega arith))) in
    omega (arith, c.in-None.ensures, more, ap length c.bytes.ensures, simp length-append at (ap length (joined-parts (chunks_of b xs) (i + 1))))

pub loop-piece-preserved : goal.loop-piece-preserved
loop-piece-preserved g c =
    let b = g.T.Piece.bytes in
    let xs = c.args.pieces.now in
    let i = c.loop-piece.piece-index in
    let more = simp length-append at (ap length (joined-take_piece b xs i c.piece-item.result c.piece-item.is (omega arith))) in
    record {
      sum = omega (arith, more, c.in-Some.ensures, ap length c.bytes.ensures);
      fits = omega (arith, c.in-Some.ensures);
    }
