use Rattle.std.proofs.Common.{◌≡◌, ◌+◌, ◌-◌, ◌≤◌, ℕ, ◌∙◌, length, take, drop, arith, ap, subst, sym, inl, inr}
use Rattle.std.proofs.lemmas.Bool.{cases_lt}
use Rattle.std.proofs.lemmas.List.{length-take, take_all}
use Rattle.rc_text.specs.Joined.{joined}
use Rattle.rc_text.proofs.Joins.{joined-stretch}
use Rattle.rc_text.proofs.chunks.count_to.Goals as goal

pub loop-done-preserved : goal.loop-done-preserved
loop-done-preserved c =
    let xs = c.args.chunks.now in
    let i : ℕ = c.loop-done.done in
    let total : ℕ = c.loop-done.count.total in
    let sized : i + 64 - i ≡ 64 = omega arith in
    let sum : c.sum_of_block.result ≡ length (joined (take 64 (drop i xs))) =
    subst (λ k. c.sum_of_block.result ≡ length (joined (take k (drop i xs)))) sized c.sum_of_block.ensures.sum in
    let to : ℕ → ℕ = λ k. length (joined (take k xs)) in
    let counted : length (take (i + 64 - i) (drop i xs)) ≤ 64 = omega (arith, length-take (i + 64 - i) (drop i xs)) in
    record {
      within = omega (arith, c.loop-done-test.true);
      total = omega (arith, c.and-count.ensures.total, sum, joined-stretch xs i 64, c.loop-done.invariant.total);
      bound = omega (arith, c.and-count.ensures.total, counted, c.sum_of_block.ensures.bound, c.loop-done.invariant.bound);
      index = elim (cases_lt total c.args.at) [
        | inl h ↦ omega (arith, (c.and-count.ensures.moved h).0)
        | inr h ↦ omega (arith, (c.and-count.ensures.stays h).0, c.loop-done.invariant.index)
      ];
      offset = elim (cases_lt total c.args.at) [
        | inl h ↦ (c.and-count.ensures.moved h).1 ∙ c.loop-done.invariant.total ∙ ap to (sym (c.and-count.ensures.moved h).0)
        | inr h ↦ (c.and-count.ensures.stays h).1 ∙ c.loop-done.invariant.offset ∙ ap to (sym (c.and-count.ensures.stays h).0)
      ];
      low = elim (cases_lt total c.args.at) [
        | inl h ↦ omega (arith, (c.and-count.ensures.moved h).1, h)
        | inr h ↦ omega (arith, (c.and-count.ensures.stays h).1, c.loop-done.invariant.low)
      ];
    }

pub returns-clause-total : goal.returns-clause-total
returns-clause-total c =
    let xs = c.args.chunks.now in
    let i : ℕ = c.loop-done.done in
    let whole : take (i + (length xs - i)) xs ≡ xs = take_all (i + (length xs - i)) xs (omega arith) in
    omega (arith, c.and.ensures.total, c.loop-done.invariant.total, c.sum_of.ensures.sum, joined-stretch xs i (length xs - i), ap (λ ys. length (joined ys)) whole)
