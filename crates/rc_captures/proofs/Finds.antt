-- Which group has a name.
use Rattle.std.proofs.Common.{◌≡◌, ℕ, suc, ◌+◌, Bool, cond, List, [], ◌∷◌, map, Option, Some, None, option_map, string_bytes, String, ltb, slice_get, position, refl, ap, sym, ◌∙◌, arith}
use Rattle.std.specs.List.{prefix_len}
use Rattle.std.proofs.lemmas.List.{length-map}
use Rattle.std.proofs.lemmas.Bool.Decides.{nat_tests}
use Rattle.rc_captures.specs.Names.{Names, is_named, to_index}

-- a front of what a function gives
prefix_len-map : {X Y : Type 0} (f : X → Y) (p : Y → Bool) (xs : List X) → prefix_len p (map f xs) ≡ prefix_len (λ x. p (f x)) xs
prefix_len-map f p [] = refl
prefix_len-map f p (x ∷ xs) = rw (prefix_len-map f p xs)

-- a place among what a function gives
position-map : {X Y : Type 0} (f : X → Y) (p : Y → Bool) (xs : List X) → position p (map f xs) ≡ position (λ x. p (f x)) xs
position-map f p xs = simp (prefix_len-map, length-map)

-- a place behind group 0
next-position : (m n : ℕ) → cond (ltb (1 + m) (suc n)) (Some (1 + m)) None ≡ option_map (λ k. k + 1) (cond (ltb m n) (Some m) None)
next-position m n = grind (arith, nat_tests)

-- the first group of a name stands one behind its place among the explicit groups
to_index-at : (names : Names) (p : ℕ) (gs : List (Option (List ℕ))) (name : List ℕ) → slice_get names p ≡ Some gs → to_index names p name ≡ option_map (λ n. n + 1) (position (λ o. is_named o name) gs)
to_index-at names p gs name is = rw is (next-position _ _)

-- the same, where the names are texts
pub to_index-texts : {Z : Type 0} (names : Names) (p : ℕ) (name : List ℕ) (texts : List (Option (String Z))) → Some (map (option_map string_bytes) texts) ≡ slice_get names p → to_index names p name ≡ option_map (λ n. n + 1) (position (λ o. is_named (option_map string_bytes o) name) texts)
to_index-texts names p name texts is =
    to_index-at names p (map (option_map string_bytes) texts) name (sym is) ∙ ap (option_map (λ n. n + 1)) (position-map (option_map string_bytes) (λ o. is_named o name) texts)
