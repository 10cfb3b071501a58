-- Only proofs use this file.
-- Sparse sets: what callers see of one is a list without repeats.
use Rattle.std.specs.Prelude.{◌≡◌, ℕ, ◌<◌, ◌≤◌, List, length, slice_index, refl}
use Rattle.rc_determinize.specs.Steps.{HasPlace}
use Rattle.std.specs.Coded.{Coded, code_by, coded×, coded_ℕ, coded_list}

pub record Members : Type 0 where
  -- All members are below it.
  pub capacity : ℕ
  -- The members, in the order of insertion.
  pub items : List ℕ

abbrev pub members_code : Coded Members
members_code =
    code_by (ℕ × List ℕ) (coded× coded_ℕ (coded_list coded_ℕ)) (λ m. (m.capacity, m.items))
    (λ p. record { capacity = p.0; items = p.1 }) (λ _. refl)

-- `sparse` has the index in `dense` of each member.
abbrev pub IsIndexed : List ℕ → List ℕ → Type 0
IsIndexed dense sparse =
    (k : ℕ) → k < length dense → (slice_index dense k < length sparse) × (slice_index sparse (slice_index dense k) ≡ k)

-- Each number is below n, and none is in the list twice.
pub record IsSet (n : ℕ) (items : List ℕ) : Type 0 where
  pub below : (p : ℕ) → HasPlace p items → p < n
  pub apart : (i j : ℕ) → i < length items → j < length items → slice_index items i ≡ slice_index items j → i ≡ j
  pub few : length items ≤ n
