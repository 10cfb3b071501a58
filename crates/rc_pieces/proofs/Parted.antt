-- A range of a content, parted.
use Rattle.std.proofs.Common.{◌≡◌, ℕ, ◌+◌, ◌-◌, ◌≤◌, List, ◌++◌, max, slice_range, inl, inr, refl, sym, arith}
use Rattle.std.proofs.lemmas.Bool.{cases_lt}
use Rattle.rc_text.proofs.Ranges.{slice_range-append}

-- so many bytes from p on, and what follows them
pub parted : (xs : List ℕ) (p n end : ℕ) → p + n ≤ max p end → slice_range xs p end ≡ slice_range xs p (p + n) ++ slice_range xs (p + n) end
parted xs p n end h =
    elim (cases_lt end p) [
      | inl k ↦
          let all : end - p ≡ 0 = omega arith in
          let shown : p + n - p ≡ 0 = omega arith in
          let left : end - (p + n) ≡ 0 = omega arith in
          rw (all, shown, left) refl
      | inr k ↦ sym (slice_range-append xs p (p + n) end (omega arith) (omega arith))
    ]
