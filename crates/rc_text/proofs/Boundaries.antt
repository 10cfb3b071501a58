-- The test of a boundary.
use Rattle.std.proofs.Common.{ℕ, ◌≤◌, ◌↔◌, inl, inr, List, length, get_or, nat_le, refl, arith, IsTrue}
use Rattle.std.proofs.lemmas.Bool.{cases_lt, leb-true, le-leb, or_cases, or_left, or_right}
use Rattle.std.proofs.lemmas.Option.{slice_get-get_or, slice_get_past}
use Rattle.rc_text.specs.Text.{IsBoundary, is_boundary}

-- up to the end the test is true exactly at the boundaries
pub is_boundary-true : (content : List ℕ) (p : ℕ) → p ≤ length content → IsTrue (is_boundary content p) ↔ IsBoundary content p
is_boundary-true content p h =
    let byte : ℕ = get_or content p 0 in
    elim (cases_lt p (length content)) [
      | inl within ↦ rw (slice_get-get_or content p 0 within) (
        λ t. inr (within, elim (or_cases (nat_le byte 127) (nat_le 192 byte) t) [ inl e ↦ inl (leb-true byte 127 e) | inr e ↦ inr (leb-true 192 byte e) ]),
        λ b. elim b [
          | inl e ↦ absurd (omega (arith, e, within))
          | inr k ↦ elim k.1 [ inl e ↦ or_left (nat_le byte 127) (nat_le 192 byte) (le-leb byte 127 e) | inr e ↦ or_right (nat_le byte 127) (nat_le 192 byte) (le-leb 192 byte e) ]
        ],
      )
      | inr past ↦ rw (slice_get_past content p past) (λ _. inl (omega arith), λ _. refl)
    ]
