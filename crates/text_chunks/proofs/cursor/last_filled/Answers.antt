use Rattle.std.proofs.Common.{◌≡◌, ◌∙◌, ◌+◌, ◌-◌, ◌<◌, ap, arith, length, refl, sym}
use Rattle.std.proofs.lemmas.Bool.{eqb-false, eqb-true}
use Rattle.rc_text.specs.Joined.{chunk_at}
use Rattle.rc_text.proofs.Joins.{joined-take}
use Rattle.text_chunks.proofs.Shown.{skip_take, some_first}
use Rattle.text_chunks.proofs.cursor.last_filled.Goals as goal

pub loop-index-preserved : goal.loop-index-preserved
loop-index-preserved c =
    let xs = c.args.text.now in
    let i = c.loop-index.index in
    let none : length (chunk_at xs i) ≡ 0 = rw (← c.get.ensures.bytes) (eqb-true (length c.get.result.now) 0 (sym c.loop-index-test.ensures)) in
    let skip = c.loop-index.invariant.after ∙ skip_take xs i none in
    let above : 0 < i = some_first xs i (omega (arith, c.requires.some, ap length skip)) in
    let back : i - 1 + 1 ≡ i = omega (arith, above) in
    record {
      below = omega (arith, c.loop-index.invariant.below);
      after = rw back skip;
    }

pub returns : goal.returns
returns c =
    let xs = c.args.text.now in
    let i = c.loop-index.index in
    record {
      within = c.loop-index.invariant.below;
      is = refl;
      some = rw (← c.get.ensures.bytes) (omega (arith, eqb-false (length c.get.result.now) 0 (sym c.loop-index-test.ensures)));
      between = c.loop-index.invariant.after ∙ joined-take xs i;
    }
