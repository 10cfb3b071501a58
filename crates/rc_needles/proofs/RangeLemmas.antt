-- A needle read piece by piece.
use Rattle.std.proofs.Common.{◌≡◌, ◌≢◌, ℕ, ◌+◌, ◌-◌, ◌≤◌, List, [], ◌∷◌, ◌++◌, length, take, drop, true, false, true≢false, sym, ap, ap₂, ◌∙◌, refl, arith, slice_get, slice_range, take-add}
use Rattle.std.specs.Prelude.{bytes_eq}
use Rattle.std.proofs.lemmas.List.{drop-take, drop-drop, take-take}
use Rattle.std.proofs.lemmas.Slice.Eq.{bytes_eq-Decides}
use Rattle.rc_text.proofs.Ranges.{slice_range-add_one, slice_range_grown}

-- a range of a range
pub range_of_range : (xs : List ℕ) (i m d n : ℕ) → d + n ≤ m → take n (drop d (slice_range xs i (i + m))) ≡ slice_range xs (i + d) (i + d + n)
range_of_range xs i m d n h =
    let a : i + m - i ≡ d + (m - d) = omega arith in
    let b : i + d + n - (i + d) ≡ n = omega arith in
    let inner : drop d (slice_range xs i (i + m)) ≡ take (m - d) (drop d (drop i xs)) =
    ap (λ k. drop d (take k (drop i xs))) a ∙ drop-take d (m - d) (drop i xs) in
    ap (take n) inner ∙ take-take n (m - d) (drop d (drop i xs)) (omega arith) ∙ ap (take n) (drop-drop d i xs)
    ∙ ap (λ k. take k (drop (i + d) xs)) (sym b)

-- one more piece of the needle stands
pub one_more_piece : (content needle piece : List ℕ) (at done : ℕ) → piece ≡ slice_range content (at + done) (at + done + length piece) →
    slice_range content at (at + done) ≡ take done needle → bytes_eq piece (take (done + length piece - done) (drop done needle)) ≡ true →
    slice_range content at (at + (done + length piece)) ≡ take (done + length piece) needle
one_more_piece content needle piece at done is same e =
    let n : done + length piece - done ≡ length piece = omega arith in
    let k : at + done + length piece ≡ at + (done + length piece) = omega arith in
    let p : piece ≡ take (length piece) (drop done needle) =
    (bytes_eq-Decides piece (take (done + length piece - done) (drop done needle))).0 e ∙ ap (λ m. take m (drop done needle)) n in
    ap (slice_range content at) (sym k)
    ∙ sym (slice_range_grown content (slice_range content at (at + done)) piece at (at + done) (at + done + length piece) refl is (omega arith) (omega arith))
    ∙ ap₂ (λ x y. x ++ y) same p ∙ sym (take-add done (length piece) needle)

-- a piece of the needle differs
pub other_piece : (content needle piece : List ℕ) (at done : ℕ) → piece ≡ slice_range content (at + done) (at + done + length piece) →
    done + length piece ≤ length needle → bytes_eq piece (take (done + length piece - done) (drop done needle)) ≡ false →
    slice_range content at (at + length needle) ≢ needle
other_piece content needle piece at done is short e same =
    let n : done + length piece - done ≡ length piece = omega arith in
    let r = range_of_range content at (length needle) done (length piece) short in
    let p : piece ≡ take (done + length piece - done) (drop done needle) =
    is ∙ sym r ∙ ap (λ xs. take (length piece) (drop done xs)) same ∙ ap (λ m. take m (drop done needle)) (sym n) in
    true≢false (sym ((bytes_eq-Decides piece (take (done + length piece - done) (drop done needle))).1 p) ∙ e)

-- the only byte of a needle, where it stands
pub one_byte : (content needle : List ℕ) (at : ℕ) → length needle ≡ 1 → slice_get needle 0 ≡ slice_get content at →
    slice_range content at (at + length needle) ≡ needle
one_byte content [] at one same = absurd (omega (arith, one))
one_byte content (b ∷ []) at one same =
    let none : at - at ≡ 0 = omega arith in
    slice_range-add_one content at at b (omega arith) (sym same) ∙ ap (λ k. take k (drop at content) ++ b ∷ []) none
one_byte content (b ∷ x ∷ xs) at one same = absurd (omega (arith, one))
