-- The patterns of places.
use Rattle.std.proofs.Common.{◌≡◌, ℕ, ◌<◌, List, [], ◌∷◌, ◌++◌, length, slice_index_or, inl, inr, sym, ap, ◌∙◌, arith}
use Rattle.std.proofs.lemmas.Bool.{cases_lt}
use Rattle.std.proofs.lemmas.List.{get_or_append_left, get_or_past, length_push}
use Rattle.std.proofs.Math.Seq.{get_or-append_seam}
use Rattle.rc_program.specs.Program.{Place, place_at}
use Rattle.rc_program.specs.Answer.{pattern_at}
use Rattle.rc_program.proofs.WayLemmas.{past_places}

-- the patterns of the first places
pub record AreOfFirst (places : List Place) (patterns : List ℕ) : Type 0 where
  pub told : (k : ℕ) → k < length patterns → slice_index_or patterns k 0 ≡ pattern_at (place_at places k)

pub no_patterns : (places : List Place) (patterns : List ℕ) → patterns ≡ [] → AreOfFirst places patterns
no_patterns places patterns e = record { told = λ k lt. let none = ap length e in absurd (omega (arith, lt, none)) }

pub pattern_more : (places : List Place) (patterns : List ℕ) (pattern place : ℕ) → length patterns ≡ place → pattern ≡ pattern_at (place_at places place) →
    AreOfFirst places patterns → AreOfFirst places (patterns ++ pattern ∷ [])
pattern_more places patterns pattern place len is a = record {
  told = λ k lt. elim (cases_lt k (length patterns)) [
    | inl old ↦ get_or_append_left patterns (pattern ∷ []) 0 k old ∙ a.told k old
    | inr past ↦
        let grown = length_push patterns pattern in
        let last : k ≡ length patterns = omega (arith, past, lt, grown) in
        ap (λ i. slice_index_or (patterns ++ pattern ∷ []) i 0) last ∙ get_or-append_seam patterns pattern [] 0 ∙ is
        ∙ ap (λ i. pattern_at (place_at places i)) (sym (last ∙ len))
  ];
}

pub all_patterns : (places : List Place) (patterns : List ℕ) → length patterns ≡ length places → AreOfFirst places patterns → (place : ℕ) →
    slice_index_or patterns place 0 ≡ pattern_at (place_at places place)
all_patterns places patterns len a = λ place. elim (cases_lt place (length patterns)) [
  | inl lt ↦ a.told place lt
  | inr past ↦ get_or_past patterns place 0 past ∙ ap pattern_at (sym (past_places places place (omega (arith, past, len))))
]
