-- A window shows what a search sees at a position.
use Rattle.std.proofs.Common.{◌≡◌, ℕ, ◌+◌, ◌-◌, ◌≤◌, ◌⊎◌, length, take, drop, slice_range, slice_get, sym, ap, ap₂, ◌∙◌, arith, inl, inr, ⊎_elim, length-take}
use Rattle.std.proofs.lemmas.Bool.{cases_lt}
use Rattle.std.proofs.lemmas.List.{take-take, take_all, drop-take, drop-drop}
use Rattle.rc_text.specs.Text.{Searched, slice_end, high}
use Rattle.rc_text.proofs.Ranges.{length-slice_range, slice_range-append, slice_get-slice_range}
use Rattle.rc_program.specs.Looks.{side_before, side_after}
use Rattle.rc_program.specs.Scalars.{scalar_at}
use Rattle.rc_program.proofs.SideLemmas.{side_before-append, side_after-append, scalar_at-take}
use Rattle.rc_program.specs.declared.program.Program.{Program}
use Rattle.rc_pikevm.specs.Windows.{IsWindow, IsBegun, IsAround}
use Rattle.rc_pikevm.specs.Moves.{seen}
use Rattle.rc_pikevm.specs.Near.{IsNear}
use Rattle.rc_pikevm.specs.declared.window.Window.{Window}

module _ (s : Searched) (at : ℕ) (w : Window) (window : IsWindow s w) (begun : IsBegun s at w) (around : IsAround s at w) where
  -- the end of the window
  stop : ℕ
  stop = w.start + w.len

  short : w.start + w.len ≤ length s.content
  short = omega (arith, window.end)

  pub before_is : take (at - w.start) w.bytes ≡ slice_range s.content w.start at
  before_is =
      sym (take-take (at - w.start) w.len w.bytes (omega (arith, around.above, begun.below))) ∙ ap (take (at - w.start)) window.bytes
      ∙ take-take (at - w.start) (w.start + w.len - w.start) (drop w.start s.content) (omega (arith, around.above, begun.below))

  pub after_is : slice_range w.bytes (at - w.start) w.len ≡ slice_range s.content at (w.start + w.len)
  after_is =
      let skip : ℕ = at - w.start in
      let parts : w.len ≡ skip + (w.len - skip) = omega (arith, around.above, begun.below) in
      let parts2 : w.start + w.len - w.start ≡ skip + (w.len - skip) = omega (arith, around.above, begun.below) in
      let there : w.start + skip ≡ at = omega (arith, begun.below) in
      let left : w.len - skip ≡ w.start + w.len - at = omega (arith, begun.below) in
      sym (drop-take skip (w.len - skip) w.bytes) ∙ ap (λ n. drop skip (take n w.bytes)) (sym parts) ∙ ap (drop skip) window.bytes
      ∙ ap (λ n. drop skip (take n (drop w.start s.content))) parts2 ∙ drop-take skip (w.len - skip) (drop w.start s.content)
      ∙ ap₂ (λ n xs. take n xs) left (drop-drop skip w.start s.content ∙ ap (λ n. drop n s.content) there)

  behind : side_before (slice_range s.content w.start at) ≡ side_before (slice_range s.content s.slice.start at)
  behind =
      ⊎_elim (λ e. ap (λ x. side_before (slice_range s.content x at)) e)
      (λ four.
      let size = length-slice_range s.content w.start at (omega (arith, around.above, short)) in
      sym (side_before-append (slice_range s.content s.slice.start w.start) (slice_range s.content w.start at) (omega (arith, size, four)))
      ∙ ap side_before (slice_range-append s.content s.slice.start w.start at window.low begun.below))
      begun.four

  beyond : side_after (slice_range s.content at (w.start + w.len)) ≡ side_after (slice_range s.content at (slice_end s))
  beyond =
      ⊎_elim (λ e. ap (λ x. side_after (slice_range s.content at x)) e)
      (λ four.
      let size = length-slice_range s.content at (w.start + w.len) short in
      sym (side_after-append (slice_range s.content at (w.start + w.len)) (slice_range s.content (w.start + w.len) (slice_end s)) (omega (arith, size, four)))
      ∙ ap side_after (slice_range-append s.content at (w.start + w.len) (slice_end s) around.above (omega (arith, window.end))))
      around.four

  -- the bytes up to hi, or more than a scalar takes
  ahead_is : (hi : ℕ) → hi ≤ slice_end s →
      (take (hi - at) (slice_range s.content at (w.start + w.len)) ≡ slice_range s.content at hi)
      ⊎ ((at + 4 ≤ w.start + w.len) × (at + 4 ≤ hi)
      × (take (hi - at) (slice_range s.content at (w.start + w.len)) ≡ slice_range s.content at (w.start + w.len)))
  ahead_is hi le =
      let rest = drop at s.content in
      ⊎_elim
      (λ l. ⊎_elim (λ e. absurd (omega (arith, l, e, le)))
      (λ four. inr (
        four,
        omega (arith, l, four),
        take_all (hi - at) (slice_range s.content at (w.start + w.len)) (let n = length-take (w.start + w.len - at) rest in omega (arith, n, l)),
      )) around.four)
      (λ ge. inl (take-take (hi - at) (w.start + w.len - at) rest (omega (arith, ge))))
      (cases_lt (w.start + w.len) hi)

  pub is_near : (p : Program) → at ≤ high s →
      IsNear (seen p s) at (take (at - w.start) w.bytes) (slice_range w.bytes (at - w.start) w.len)
  is_near p le = record {
    within = le;
    behind = ap side_before before_is ∙ behind;
    beyond = ap side_after after_is ∙ beyond;
    next = ap (λ xs. slice_get (take (high s - at) xs) 0) after_is
        ∙ ⊎_elim (λ e. ap (λ xs. slice_get xs 0) e)
        (λ q. ap (λ xs. slice_get xs 0) q.2 ∙ slice_get-slice_range s.content at (w.start + w.len) 0 (omega (arith, q.0))
        ∙ sym (slice_get-slice_range s.content at (high s) 0 (omega (arith, q.1)))) (ahead_is (high s) (omega arith));
    scalar = ap (λ xs. scalar_at (take (high s - at) xs)) after_is
        ∙ ⊎_elim (λ e. ap scalar_at e)
        (λ q. ap scalar_at q.2 ∙ scalar_at-take (w.start + w.len - at) (drop at s.content) (omega (arith, q.0))
        ∙ sym (scalar_at-take (high s - at) (drop at s.content) (omega (arith, q.1)))) (ahead_is (high s) (omega arith));
  }
