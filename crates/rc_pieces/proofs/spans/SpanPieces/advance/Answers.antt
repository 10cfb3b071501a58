use Rattle.std.proofs.Common.{◌∙◌, ap, length, slice_range, sym}
use Rattle.rc_pieces.proofs.Parted.{parted}
use Rattle.rc_pieces.proofs.spans.SpanPieces.advance.Goals as goal

pub returns-clause-goes_on : goal.returns-clause-goes_on
returns-clause-goes_on g c =
    let s = c.self.inside in
    ap (λ t. t.left) (sym c.self.view_is)
    ∙ ap (λ l. slice_range l s.next s.end) (sym c.seek.ensures.content)
    ∙ parted (g.C.Cursor.content c.seek.new.cursor) s.next (length c.piece-len.result.now) s.end c.piece-len.ensures.within
