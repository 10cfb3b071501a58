use Rattle.std.proofs.Common.{rules, [], ◌∷◌, ◌++◌, ◌≡◌, ◌∙◌, ◌&&◌, true, false, nat_lt, ap, append_assoc, arith, sym}
use Rattle.std.proofs.lemmas.Bool.{le-ltb, lt-ltb}
use Rattle.api_meta.specs.Left.{find_left}
use Rattle.gap_buffer.specs.Shown.{overlaps}
use Rattle.gap_buffer.proofs.Ordered.{no_more, one_more, passed}
use Rattle.gap_buffer.proofs.search.shown_of.Goals as goal

-- one more that ends before the window
pub loop-found-preserved : goal.loop-found-preserved
loop-found-preserved c =
    let done = c.loop-found.yielded in
    let m = c.in-Some.found in
    let w = c.args.window in
    let begins : nat_lt m.start w.end ≡ true = lt-ltb m.start w.end (omega (arith, c.start.ensures.value, c.if-start-window.false)) in
    let above : nat_lt w.start m.end ≡ false = le-ltb w.start m.end (omega (arith, c.end.ensures.value, c.if-end-window.false)) in
    record {
      left = c.loop-found.invariant.left ∙ ap (λ ms. done ++ ms) c.in-Some.ensures.steps.0 ∙ sym (append_assoc done (m ∷ []) (find_left c.next.new.self.now));
      shown = c.loop-found.invariant.shown ∙ sym (no_more (overlaps w) done m (ap (λ b. b && nat_lt w.start m.end) begins ∙ above));
    }

-- one more in the window
pub loop-found-preserved-in-Continue-1 : goal.loop-found-preserved-in-Continue-1
loop-found-preserved-in-Continue-1 c =
    let done = c.loop-found.yielded in
    let m = c.in-Some.found in
    let w = c.args.window in
    let begins : nat_lt m.start w.end ≡ true = lt-ltb m.start w.end (omega (arith, c.start.ensures.value, c.if-start-window.false)) in
    let ends : nat_lt w.start m.end ≡ true = lt-ltb w.start m.end (omega (arith, c.end.ensures.value, c.if-end-window.true)) in
    record {
      left = c.loop-found.invariant.left ∙ ap (λ ms. done ++ ms) c.in-Some.ensures.steps.0 ∙ sym (append_assoc done (m ∷ []) (find_left c.next.new.self.now));
      shown = c.in_ok-push.ensures.items ∙ ap (λ ms. ms ++ m ∷ []) c.loop-found.invariant.shown
          ∙ sym (one_more (overlaps w) done m (ap (λ b. b && nat_lt w.start m.end) begins ∙ ends));
    }

-- this one begins behind the window, and so do those after it
pub returns-then-start-window : goal.returns-then-start-window
returns-then-start-window c hi order =
    let w = c.args.window in
    let all = find_left c.args.matches.now in
    let done = c.loop-found.yielded in
    let m = c.in-Some.found in
    let begun : find_left c.into_iter-found-iterator.result.now ≡ all = search rules in
    let split : all ≡ done ++ m ∷ find_left c.next.new.self.now =
    sym begun ∙ c.loop-found.invariant.left ∙ ap (λ ms. done ++ ms) c.in-Some.ensures.steps.0 in
    c.loop-found.invariant.shown
    ∙ passed (overlaps w) w.end hi (λ n le. ap (λ b. b && nat_lt w.start n.end) (le-ltb n.start w.end le)) all done (find_left c.next.new.self.now) m order split
    (omega (arith, c.start.ensures.value, c.if-start-window.true))
