-- Steps of the search for the first pattern that isn't well-formed.
use Rattle.std.proofs.Common.{◌≡◌, ℕ, ◌+◌, ◌<◌, ◌≤◌, List, take, map, length, get_or, Option, Some, ap, refl, sym, ◌∙◌}
use Rattle.std.specs.Prelude.{All}
use Rattle.std.specs.Option.{option_map, SomeIff}
use Rattle.std.proofs.lemmas.List.{take_all, take-map}
use Rattle.std.proofs.lemmas.List.Elements.{All-more, All-map}
use Rattle.std.proofs.lemmas.Option.{slice_get_read, slice_get-map}
use Rattle.rc_pattern.specs.Meaning.{meaning}
use Rattle.rc_pattern.specs.WellFormed.{IsWellFormed}
use Rattle.rc_pattern.specs.declared.hir.Hir.{Hir}
use Rattle.rc_build.specs.Refusals.{IsFirstIllFormed}

-- the tree is of a well-formed pattern
abbrev pub MeansWellFormed : Hir → Type 0
MeansWellFormed h = IsWellFormed (meaning h)

pub sound_more : (xs : List Hir) (i : ℕ) (x : Hir) → i < length xs → x ≡ get_or xs i x → All MeansWellFormed (take i xs) → MeansWellFormed x → All MeansWellFormed (take (i + 1) xs)
sound_more xs i x inside is before here = All-more MeansWellFormed xs i x inside before (rw (sym is) here)

pub all_sound : (xs : List Hir) (n : ℕ) → length xs ≤ n → All MeansWellFormed (take n xs) → All IsWellFormed (map meaning xs)
all_sound xs n done ok = All-map IsWellFormed meaning xs (rw (take_all n xs done) at ok)

pub first_unsound : (xs : List Hir) (i : ℕ) (x : Hir) → i < length xs → x ≡ get_or xs i x → All MeansWellFormed (take i xs) → ¬ MeansWellFormed x →
    IsFirstIllFormed (map meaning xs) i
first_unsound xs i x inside is before bad = record {
  before = rw (take-map meaning i xs) (All-map IsWellFormed meaning (take i xs) before);
  here = (meaning x, slice_get-map meaning xs i ∙ ap (option_map meaning) (slice_get_read xs (length xs) i x refl inside is), bad);
}

-- the number that a test of numbers lets through is that number
pub number_of_some : (r : Option ℕ) (P : Type 0) (i p : ℕ) → SomeIff r P i → r ≡ Some p → p ≡ i
number_of_some r P i p told is = (rw is at told).1
