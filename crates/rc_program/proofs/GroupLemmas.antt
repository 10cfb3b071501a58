-- A pattern without its groups spells the same.
use Rattle.std.proofs.Common.{◌≡◌, ◌↔◌, ℕ, zero, suc, ◌+◌, ◌*◌, ◌≤◌, List, [], ◌∷◌, ◌++◌, length, map, Bool, true, false, Some, None, inl, inr, ⊎_elim, ap, ap₂, refl, arith}
use Rattle.std.specs.Prelude.{All}
use Rattle.std.specs.Option.{option_map}
use Rattle.std.proofs.lemmas.List.{length-map}
use Rattle.std.proofs.lemmas.List.Elements.{All-map, All-weaker}
use Rattle.std.proofs.Math.Nat.{mul-le-mul_left}
use Rattle.rc_pattern.specs.Re.{Re, empty, literal, byte_in, char_in, look, repeat, capture, cat, alt, none}
use Rattle.rc_pattern.specs.WellFormed.{HasBounds, group_numbers}
use Rattle.rc_pattern.specs.Weight.{copies_of, weight, sum_of_weights, list_weight}
use Rattle.rc_pattern.specs.Properties.{minimum_len, saturated, both, least}
use Rattle.rc_program.specs.Text.{Text}
use Rattle.rc_program.specs.Spells.{Turns, Spells, SpelledBy}
use Rattle.rc_program.specs.Program.{without_groups, shown}
use Rattle.rc_program.specs.Laws.{GroupLaw}

Turns-map : (R S : ℕ → ℕ → Type 0) → ((i j : ℕ) → R i j → S i j) → (n i j : ℕ) → Turns R n i j → Turns S n i j
Turns-map R S f zero i j h = h
Turns-map R S f (suc n) i j h = (h.0, f i h.0 h.1, Turns-map R S f n h.0 j h.2)

module _ (t : Text) where
  spells_bare : (h : Re) (i j : ℕ) → Spells t h i j → Spells t (without_groups h) i j
  spells_bare empty i j s = s
  spells_bare (literal bs) i j s = s
  spells_bare (byte_in rs) i j s = s
  spells_bare (char_in rs) i j s = s
  spells_bare (look l) i j s = s
  spells_bare (repeat min max greedy a) i j s =
      (s.0, s.1, s.2, Turns-map (Spells t a) (Spells t (without_groups a)) (λ k l r. spells_bare a k l r) s.0 i j s.3)
  spells_bare (capture n name a) i j s = spells_bare a i j s
  spells_bare (cat a rest) i j s = (s.0, spells_bare a i s.0 s.1, spells_bare rest s.0 j s.2)
  spells_bare (alt a rest) i j s = ⊎_elim (λ r. inl (spells_bare a i j r)) (λ r. inr (spells_bare rest i j r)) s
  spells_bare none i j s = s

  spells_whole : (h : Re) (i j : ℕ) → Spells t (without_groups h) i j → Spells t h i j
  spells_whole empty i j s = s
  spells_whole (literal bs) i j s = s
  spells_whole (byte_in rs) i j s = s
  spells_whole (char_in rs) i j s = s
  spells_whole (look l) i j s = s
  spells_whole (repeat min max greedy a) i j s =
      (s.0, s.1, s.2, Turns-map (Spells t (without_groups a)) (Spells t a) (λ k l r. spells_whole a k l r) s.0 i j s.3)
  spells_whole (capture n name a) i j s = spells_whole a i j s
  spells_whole (cat a rest) i j s = (s.0, spells_whole a i s.0 s.1, spells_whole rest s.0 j s.2)
  spells_whole (alt a rest) i j s = ⊎_elim (λ r. inl (spells_whole a i j r)) (λ r. inr (spells_whole rest i j r)) s
  spells_whole none i j s = s

  -- a pattern without its groups spells the same
  pub without_groups_spells : (h : Re) (i j : ℕ) → Spells t (without_groups h) i j ↔ Spells t h i j
  without_groups_spells h i j = ((λ s. spells_whole h i j s), (λ s. spells_bare h i j s))

  list_bare : (n : ℕ) (hs : List Re) (p i j : ℕ) → SpelledBy t n hs p i j → SpelledBy t n (map without_groups hs) p i j
  list_bare n [] p i j s = s
  list_bare n (h ∷ hs) p i j s =
      ⊎_elim (λ r. inl (r.0, spells_bare h i j r.1)) (λ r. inr (list_bare (n + 1) hs p i j r)) s

  list_whole : (n : ℕ) (hs : List Re) (p i j : ℕ) → SpelledBy t n (map without_groups hs) p i j → SpelledBy t n hs p i j
  list_whole n [] p i j s = s
  list_whole n (h ∷ hs) p i j s =
      ⊎_elim (λ r. inl (r.0, spells_whole h i j r.1)) (λ r. inr (list_whole (n + 1) hs p i j r)) s

  -- the patterns as their program shows them spell the same
  pub shown_spells : (groups : Bool) (n : ℕ) (hs : List Re) (p i j : ℕ) → SpelledBy t n (shown groups hs) p i j ↔ SpelledBy t n hs p i j
  shown_spells true n hs p i j = ((λ s. s), (λ s. s))
  shown_spells false n hs p i j = ((λ s. list_whole n hs p i j s), (λ s. list_bare n hs p i j s))

pub without_groups_bounded : (h : Re) → HasBounds h → HasBounds (without_groups h)
without_groups_bounded empty ok = ok
without_groups_bounded (literal bs) ok = ok
without_groups_bounded (byte_in rs) ok = ok
without_groups_bounded (char_in rs) ok = ok
without_groups_bounded (look l) ok = ok
without_groups_bounded (repeat min None greedy a) ok = without_groups_bounded a ok
without_groups_bounded (repeat min (Some max) greedy a) ok = (ok.0, without_groups_bounded a ok.1)
without_groups_bounded (capture n name a) ok = without_groups_bounded a ok
without_groups_bounded (cat a rest) ok = (without_groups_bounded a ok.0, without_groups_bounded rest ok.1)
without_groups_bounded (alt a rest) ok = (without_groups_bounded a ok.0, without_groups_bounded rest ok.1)
without_groups_bounded none ok = ok

-- it is no heavier
pub without_groups_lighter : (h : Re) → weight (without_groups h) ≤ weight h
without_groups_lighter empty = omega arith
without_groups_lighter (literal bs) = omega arith
without_groups_lighter (byte_in rs) = omega arith
without_groups_lighter (char_in rs) = omega arith
without_groups_lighter (look l) = omega arith
without_groups_lighter (repeat min max greedy a) =
    let h = without_groups_lighter a in
    let k : copies_of min max * (weight (without_groups a) + 2) ≤ copies_of min max * (weight a + 2) =
    mul-le-mul_left (copies_of min max) (omega (arith, h)) in
    omega (arith, k)
without_groups_lighter (capture n name a) = let h = without_groups_lighter a in omega (arith, h)
without_groups_lighter (cat a rest) = let h = without_groups_lighter a in let k = without_groups_lighter rest in omega (arith, h, k)
without_groups_lighter (alt a rest) = let h = without_groups_lighter a in let k = without_groups_lighter rest in omega (arith, h, k)
without_groups_lighter none = omega arith

-- its least length is the same
pub minimum_len-without_groups : (h : Re) → minimum_len (without_groups h) ≡ minimum_len h
minimum_len-without_groups empty = refl
minimum_len-without_groups (literal bs) = refl
minimum_len-without_groups (byte_in rs) = refl
minimum_len-without_groups (char_in rs) = refl
minimum_len-without_groups (look l) = refl
minimum_len-without_groups (repeat zero max greedy a) = refl
minimum_len-without_groups (repeat (suc n) max greedy a) =
    ap (option_map (λ k. saturated (suc n * k))) (minimum_len-without_groups a)
minimum_len-without_groups (capture n name a) = minimum_len-without_groups a
minimum_len-without_groups (cat a rest) =
    ap₂ (both (λ m n. Some (saturated (m + n)))) (minimum_len-without_groups a) (minimum_len-without_groups rest)
minimum_len-without_groups (alt a rest) = ap₂ least (minimum_len-without_groups a) (minimum_len-without_groups rest)
minimum_len-without_groups none = refl

-- it has no group
pub group_numbers-without_groups : (h : Re) → group_numbers (without_groups h) ≡ []
group_numbers-without_groups empty = refl
group_numbers-without_groups (literal bs) = refl
group_numbers-without_groups (byte_in rs) = refl
group_numbers-without_groups (char_in rs) = refl
group_numbers-without_groups (look l) = refl
group_numbers-without_groups (repeat min max greedy a) = group_numbers-without_groups a
group_numbers-without_groups (capture n name a) = group_numbers-without_groups a
group_numbers-without_groups (cat a rest) = ap₂ ◌++◌ (group_numbers-without_groups a) (group_numbers-without_groups rest)
group_numbers-without_groups (alt a rest) = ap₂ ◌++◌ (group_numbers-without_groups a) (group_numbers-without_groups rest)
group_numbers-without_groups none = refl

list_lighter : (hs : List Re) → sum_of_weights (map without_groups hs) ≤ sum_of_weights hs
list_lighter [] = omega arith
list_lighter (h ∷ hs) = let a = without_groups_lighter h in let b = list_lighter hs in omega (arith, a, b)

-- as many patterns are shown as there are
pub length-shown : (groups : Bool) (hs : List Re) → length (shown groups hs) ≡ length hs
length-shown true hs = refl
length-shown false hs = length-map hs without_groups

-- what is shown is no heavier
pub shown_lighter : (groups : Bool) (hs : List Re) → list_weight (shown groups hs) ≤ list_weight hs
shown_lighter true hs = omega arith
shown_lighter false hs = let a = list_lighter hs in omega (arith, a)

-- what holds of each pattern, and of the same without its groups, holds of each that is shown
pub shown_all : (P : Re → Type 0) → ((h : Re) → P h → P (without_groups h)) → (groups : Bool) (hs : List Re) → All P hs → All P (shown groups hs)
shown_all P f true hs ok = ok
shown_all P f false hs ok = All-map P without_groups hs (All-weaker P (λ h. P (without_groups h)) f hs ok)

pub group_law : GroupLaw
group_law = record {
  spells = without_groups_spells;
  bounded = without_groups_bounded;
  lighter = without_groups_lighter;
  least = minimum_len-without_groups;
  bare = group_numbers-without_groups;
  shown_spells = shown_spells;
  shown_length = length-shown;
  shown_lighter = shown_lighter;
}
