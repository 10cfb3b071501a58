use Rattle.std.proofs.Common.{arith, ◌≡◌, ◌<◌, [], length, ap, sym, ◌∙◌, map, List, ℕ}
use Rattle.std.proofs.lemmas.List.{length-map, get_or-map}
use Rattle.std.specs.Borrow.{Bor}
use Rattle.rc_needles.specs.Tables.{needles_in, numbered}
use Rattle.rc_needles.proofs.TableLemmas.{needles_more}
use Rattle.rc_needles.proofs.prefilter.Prefilter.new.Goals as goal

pub loop-needle-preserved : goal.loop-needle-preserved
loop-needle-preserved c =
    let xs = c.args.needles.now in
    let i = c.loop-needle.needle-index in
    let ws = map (λ (w : Bor (List ℕ)). w.now) xs in
    let l : i < length xs = c.loop-needle-test.true in
    let long : length ws ≡ length xs = length-map xs (λ (w : Bor (List ℕ)). w.now) in
    let copy : c.in_ok-to_vec.field-0.items ≡ numbered ws i = c.in_ok-to_vec.ensures.items_if_clones_equal (λ x y e. e)
    ∙ sym (get_or-map (λ (w : Bor (List ℕ)). w.now) xs i (record { ref_ptr = (0, 0); now = [] }) [] l) in
    ap needles_in c.in_ok-push.ensures.items
    ∙ needles_more c.loop-needle.copies.items c.in_ok-to_vec.field-0 ws i (omega (arith, l, long)) c.loop-needle.invariant copy
