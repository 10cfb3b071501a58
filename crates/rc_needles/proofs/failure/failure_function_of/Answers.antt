use Rattle.std.proofs.Common.{◌≡◌, ◌<◌, ℕ, [], ◌∷◌, ◌++◌, arith, length, length-append, refl, slice_index, subst, sym, ap, ◌∙◌}
use Rattle.rc_needles.specs.Failures.{IsFailure}
use Rattle.rc_needles.proofs.FailureLemmas.{longest_next, one_more_failure}
use Rattle.rc_needles.proofs.failure.failure_function_of.Goals as goal

pub loop-at-preserved : goal.loop-at-preserved
loop-at-preserved c =
    let needle = c.args.needle.now in
    let at = c.loop-at.at in
    let failures = c.loop-at.failures.items in
    let failure = c.failure_at-failure.result in
    let more : c.push-in-loop-at.new.self.items ≡ failures ++ failure ∷ [] = c.in_ok-push-2.ensures.items in
    record {
      count = ap length more ∙ length-append failures (failure ∷ []) ∙ (let n = c.loop-at.invariant.count in omega (arith, n));
      are = subst (λ fs. (j : ℕ) → j < length fs → IsFailure needle j (slice_index fs j)) (sym more)
          (one_more_failure needle failures at failure c.loop-at.invariant.count c.loop-at.invariant.are c.failure_at-failure.ensures);
      border = longest_next needle at c.loop-at.border c.next_state-border.result (slice_index needle at) c.loop-at.invariant.border refl c.next_state-border.ensures;
    }
