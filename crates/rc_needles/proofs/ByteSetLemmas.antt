-- Bytes that a byte set passes.
use Rattle.std.proofs.Common.{◌≡◌, ℕ, ◌+◌, ◌-◌, ◌<◌, ◌≤◌, Bool, true, false, IsTrue, List, length, inl, inr, refl, subst, arith, slice_index, slice_index_or}
use Rattle.std.specs.Int.{bit_at}
use Rattle.std.proofs.lemmas.Bool.{cases_lt}
use Rattle.rc_needles.specs.declared.teddy.Sift.{Sift}
use Rattle.rc_needles.specs.Teddies.{AreLanes, buckets}
use Rattle.rc_needles.specs.ByteSets.{AreInside, TakesOutside}

-- none of the first n bytes is taken
abbrev pub NoneTaken : Sift → List ℕ → ℕ → Type 0
NoneTaken t piece n = (k : ℕ) → k < n → buckets t (slice_index piece k) ≡ 0

-- where no bit of a vector is set
pub none_taken : (t : Sift) (piece v : List ℕ) (at bits to : ℕ) → NoneTaken t piece at → AreLanes v (λ k. buckets t (slice_index piece (at + k))) →
    ((k : ℕ) → k < 16 → 0 < slice_index v k → 0 < bit_at bits k) → ((i : ℕ) → i < to → bit_at bits i ≡ 0) → to ≤ 16 → NoneTaken t piece (at + to)
none_taken t piece v at bits to before lanes set zeros most k lt =
    elim (cases_lt k at) [
      | inl l ↦ before k l
      | inr g ↦
          let i : ℕ = k - at in
          let here : at + i ≡ k = omega (arith, g) in
          let e : slice_index v i ≡ buckets t (slice_index piece k) =
          subst (λ j. slice_index v i ≡ buckets t (slice_index piece j)) here (lanes.each i (omega (arith, lt, most, g))) in
          elim (cases_lt 0 (slice_index v i)) [
            | inl some ↦
                let one = set i (omega (arith, lt, most, g)) some in
                let zero = zeros i (omega (arith, lt, g)) in
                absurd (omega (arith, one, zero))
            | inr none ↦ omega (arith, e, none)
          ]
    ]

flag_of : (b : Bool) (n : ℕ) → (b ≡ false → 0 < n) → n ≡ 0 → IsTrue b
flag_of true n some zero = refl
flag_of false n some zero = let more = some refl in absurd (omega (arith, more, zero))

-- what isn't taken is in the set
pub inside : (flags : List Bool) (t : Sift) (piece : List ℕ) (n : ℕ) → ((i : ℕ) → slice_index piece i < 256) → TakesOutside flags t → NoneTaken t piece n →
    AreInside flags piece n
inside flags t piece n small takes none k lt =
    let byte = slice_index piece k in
    flag_of (slice_index_or flags byte false) (buckets t byte) (takes byte (small k)) (none k lt)
