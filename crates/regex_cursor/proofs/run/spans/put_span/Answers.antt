use Rattle.std.proofs.Common.{rules, ◌∙◌, arith}
use Rattle.regex_cursor.proofs.Puts.{err_puts, range_begun, range_more}
use Rattle.regex_cursor.proofs.run.spans.put_span.Goals as goal

pub returns-in_err-put_all-clause-put : goal.returns-in_err-put_all-clause-put
returns-in_err-put_all-clause-put g c =
    let p = c.loop-from.invariant in
    err_puts c.from_residual.result _ _ _ c.from_residual.ensures.0
    (range_begun (g.C.Cursor.content c.args.cursor.now) (g.C.Cursor.content c.seek.new.cursor) c.piece-piece.result.now c.args.span.start c.loop-from.from c.args.span.end _ _ _
    p.low (omega arith) c.piece-piece.ensures.within (c.seek.ensures.content ∙ p.content) c.piece-piece.ensures.bytes p.put c.in_err-put_all.ensures.put)

pub loop-from-preserved : goal.loop-from-preserved
loop-from-preserved g c =
    let p = c.loop-from.invariant in
    record {
      content = c.seek.ensures.content ∙ p.content;
      low = omega (arith, p.low);
      high = search rules;
      put =
          range_more (g.C.Cursor.content c.args.cursor.now) (g.C.Cursor.content c.seek.new.cursor) c.piece-piece.result.now c.args.span.start c.loop-from.from _ _ _ p.low
          (c.seek.ensures.content ∙ p.content) c.piece-piece.ensures.bytes p.put c.in_ok-put_all.ensures.put;
      sound = search rules;
    }
