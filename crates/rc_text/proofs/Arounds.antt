-- What stands around a position inside the slice, by what stands before it and after it.
use Rattle.std.proofs.Common.{◌≡◌, ℕ, ◌+◌, ◌-◌, ◌<◌, ◌≤◌, false, length, take, drop, ap, ◌∙◌, sym, refl, inl, inr, arith, length-take, slice_range}
use Rattle.std.proofs.lemmas.Bool.{cases_lt, le-ltb, or_from}
use Rattle.std.proofs.lemmas.List.{drop-drop, drop-take, take-take, take_all}
use Rattle.rc_text.specs.Text.{Searched, slice_end, is_outside, around_start, around_end, around_bytes_at, around_place_at, bytes_before, bytes_after, last_bytes}
use Rattle.rc_text.proofs.Ranges.{length-slice_range}

module _ (s : Searched) (p : ℕ) (low : s.slice.start ≤ p) (high : p ≤ slice_end s) where
  is_inside : is_outside s p ≡ false
  is_inside = or_from _ _ (le-ltb p s.slice.start low) (le-ltb s.slice.end p (omega arith))

  bytes_inside : around_bytes_at s p ≡ slice_range s.content (around_start s p) (around_end s p)
  bytes_inside = rw is_inside refl

  place_inside : around_place_at s p ≡ p - around_start s p
  place_inside = rw is_inside refl

  -- the bytes around p that stand before it are the last four of the slice's bytes before p
  pub around-before : take (around_place_at s p) (around_bytes_at s p) ≡ last_bytes 4 (bytes_before s p)
  around-before =
      let start : ℕ = s.slice.start in
      let from : ℕ = around_start s p in
      let to : ℕ = around_end s p in
      let skip : ℕ = p - start - 4 in
      let ordered : p - from ≤ to - from = omega arith in
      let parts : p - start ≡ skip + (p - from) = omega arith in
      let at : start + skip ≡ from = omega arith in
      let long : length (bytes_before s p) ≡ p - start = length-slice_range s.content start p (omega arith) in
      rw (place_inside, bytes_inside) (take-take (p - from) (to - from) (drop from s.content) ordered)
      ∙ sym (ap (λ n. drop (n - 4) (bytes_before s p)) long ∙ ap (λ n. drop skip (take n (drop start s.content))) parts ∙ drop-take skip (p - from) (drop start s.content)
      ∙ ap (take (p - from)) (drop-drop skip start s.content ∙ ap (λ n. drop n s.content) at))

  -- those from p on are the first four of the slice's bytes from p on
  pub around-after : drop (around_place_at s p) (around_bytes_at s p) ≡ take 4 (bytes_after s p)
  around-after =
      let from : ℕ = around_start s p in
      let to : ℕ = around_end s p in
      let left : ℕ = slice_end s - p in
      let rest = drop p s.content in
      let parts : to - from ≡ (p - from) + (to - p) = omega arith in
      let at : from + (p - from) ≡ p = omega arith in
      let short : left < 4 → to - p ≡ left = λ h. omega (arith, h) in
      let long : 4 ≤ left → to - p ≡ 4 = λ h. omega (arith, h) in
      let few : left < 4 → length (take left rest) ≤ 4 = λ h. simp length-take (omega (arith, h)) in
      let four : take (to - p) rest ≡ take 4 (take left rest) =
      elim (cases_lt left 4) [
        | inl h ↦ ap (λ n. take n rest) (short h) ∙ sym (take_all 4 (take left rest) (few h))
        | inr h ↦ ap (λ n. take n rest) (long h) ∙ sym (take-take 4 left rest h)
      ] in
      rw (place_inside, bytes_inside) (ap (λ n. drop (p - from) (take n (drop from s.content))) parts ∙ drop-take (p - from) (to - p) (drop from s.content)
      ∙ ap (take (to - p)) (drop-drop (p - from) from s.content ∙ ap (λ n. drop n s.content) at)) ∙ four
