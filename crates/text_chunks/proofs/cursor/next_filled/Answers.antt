use Rattle.std.proofs.Common.{◌≡◌, ◌∙◌, length, sym}
use Rattle.std.proofs.lemmas.Bool.{eqb-true}
use Rattle.rc_text.specs.Joined.{chunk_at}
use Rattle.text_chunks.proofs.Shown.{skip_drop, skip_take}
use Rattle.text_chunks.proofs.cursor.next_filled.Goals as goal

pub loop-index-preserved : goal.loop-index-preserved
loop-index-preserved c =
    let xs = c.args.text.now in
    let i = c.loop-index.index in
    let none : length (chunk_at xs i) ≡ 0 = rw (← c.get.ensures.bytes) (eqb-true (length c.get.result.now) 0 (sym c.loop-index-test.ensures)) in
    record {
      before = skip_take xs i none ∙ c.loop-index.invariant.before;
      after = skip_drop xs i none ∙ c.loop-index.invariant.after;
    }
