use Rattle.std.proofs.Common.{rules, ◌∙◌}
use Rattle.regex_cursor.proofs.Puts.{err_puts}
use Rattle.chunk_replace.proofs.Replacing.{parts_begun, parts_more}
use Rattle.chunk_replace.proofs.put.put_parts.Goals as goal

pub loop-part-preserved : goal.loop-part-preserved
loop-part-preserved g c =
    let p = c.loop-part.invariant in
    record {
      content = c.in_ok-put_part.ensures.content ∙ p.content;
      put =
          parts_more (g.C.Cursor.content c.args.cursor.now) (g.C.Cursor.content c.loop-part.cursor) c.args.caps.now c.args.parts.now c.loop-part.part-index _ _ _ _
          c.loop-part-test.true p.content p.put c.in_ok-put_part.ensures.put;
      sound = search rules;
    }

pub returns-in_err-put_part-clause-put : goal.returns-in_err-put_part-clause-put
returns-in_err-put_part-clause-put g c =
    let p = c.loop-part.invariant in
    err_puts c.from_residual.result _ _ _ c.from_residual.ensures.0
    (parts_begun (g.C.Cursor.content c.args.cursor.now) (g.C.Cursor.content c.loop-part.cursor) c.args.caps.now c.args.parts.now c.loop-part.part-index _ _ _ _
    c.loop-part-test.true p.content p.put c.in_err-put_part.ensures.put)
