-- Names and groups find one another.
use Rattle.std.proofs.Common.{◌≡◌, ◌≢◌, inl, inr, ◌↔◌, ℕ, zero, suc, ◌<◌, ◌≤◌, false, cond, ltb, Decides, List, [], ◌∷◌, length, get_or, Option, Some, None, slice_get, position, refl, ap, sym, ◌∙◌, arith}
use Rattle.std.specs.Option.{option_flatten}
use Rattle.std.specs.List.{position_or_len}
use Rattle.std.proofs.lemmas.Bool.{cases_lt, false≢true}
use Rattle.std.proofs.lemmas.Bool.Decides.{nat_tests}
use Rattle.std.proofs.lemmas.List.{get_or_past}
use Rattle.std.proofs.lemmas.List.Sums.{fails_before_first}
use Rattle.std.proofs.lemmas.List.Quantifiers.{position-Some}
use Rattle.std.proofs.lemmas.Slice.Eq.{bytes_eq-Decides}
use Rattle.rc_pattern.specs.WellFormed.{AreDistinct, IsNew}
use Rattle.rc_captures.specs.Names.{Names, names_at, is_named, to_index, to_name}

-- the test says that it is the name
is_named-Decides : (o : Option (List ℕ)) (name : List ℕ) → Decides (is_named o name) (o ≡ Some name)
is_named-Decides None name = (λ e. absurd (false≢true e), λ e. absurd (cc))
is_named-Decides (Some other) name = ((λ e. ap Some ((bytes_eq-Decides other name).0 e)), (λ e. (bytes_eq-Decides other name).1 (cc)))

-- the name at a place, and none past the end
flat-get_or : (xs : List (Option (List ℕ))) (k : ℕ) → option_flatten (slice_get xs k) ≡ get_or xs k None
flat-get_or [] k = refl
flat-get_or (x ∷ xs) zero = refl
flat-get_or (x ∷ xs) (suc k) = flat-get_or xs k

-- where the test fails it is another name
fails : (o : Option (List ℕ)) (name : List ℕ) → is_named o name ≡ false → o ≢ Some name
fails o name f e = absurd (false≢true (sym f ∙ (is_named-Decides o name).1 e))

-- the first place of a name
first_of_name : (xs : List (Option (List ℕ))) (name : List ℕ) (i : ℕ) → position (λ o. is_named o name) xs ≡ Some i → (get_or xs i None ≡ Some name) × ((k : ℕ) → k < i → get_or xs k None ≢ Some name)
first_of_name xs name i is =
    let found = position-Some (λ o. is_named o name) xs i None is in
    ((is_named-Decides (get_or xs i None) name).0 found.1, λ k below. fails (get_or xs k None) name (found.2 k below))

-- no place is found where there is none
no_place : (m n : ℕ) → cond (ltb m n) (Some m) None ≡ None → n ≤ m
no_place m n is = grind (arith, nat_tests)

-- where no place is found no place has the name
none_of_name : (xs : List (Option (List ℕ))) (name : List ℕ) (k : ℕ) → position (λ o. is_named o name) xs ≡ None → get_or xs k None ≢ Some name
none_of_name xs name k is =
    let past = no_place (position_or_len (λ o. is_named o name) xs) (length xs) is in
    elim (cases_lt k (length xs)) [
      | inl l ↦ fails (get_or xs k None) name (fails_before_first (λ o. is_named o name) xs k None (omega arith))
      | inr r ↦ λ e. absurd (let none = get_or_past xs k None r in cc)
    ]

-- a new name stands nowhere
new_name : (o : Option (List ℕ)) (xs : List (Option (List ℕ))) (name : List ℕ) (k : ℕ) → IsNew o xs → o ≡ Some name → get_or xs k None ≢ Some name
new_name None xs name k new is = absurd (cc)
new_name (Some other) [] name k new is = λ e. absurd (cc)
new_name (Some other) (x ∷ xs) name zero new is = λ e. new.0 (e ∙ sym is)
new_name (Some other) (x ∷ xs) name (suc k) new is = new_name (Some other) xs name k new.1 is

-- a name that stands once has one place
one_place : (xs : List (Option (List ℕ))) (name : List ℕ) (i j : ℕ) → AreDistinct xs → get_or xs i None ≡ Some name → get_or xs j None ≡ Some name → i ≡ j
one_place [] name i j distinct a b = absurd (cc)
one_place (x ∷ xs) name zero zero distinct a b = refl
one_place (x ∷ xs) name zero (suc j) distinct a b = absurd (new_name x xs name j distinct.0 a b)
one_place (x ∷ xs) name (suc i) zero distinct a b = absurd (new_name x xs name i distinct.0 b a)
one_place (x ∷ xs) name (suc i) (suc j) distinct a b = ap suc (one_place xs name i j distinct.1 a b)

-- the group of a name is the first of that name
pub to_index-first : (names : Names) (p g : ℕ) (name : List ℕ) → to_index names p name ≡ Some g → (to_name names p g ≡ Some name) × ((k : ℕ) → k < g → to_name names p k ≢ Some name)
to_index-first names p g name is =
    let found = first_of_name (names_at names p) name g is in
    (flat-get_or (names_at names p) g ∙ found.0, λ k below e. found.1 k below (sym (flat-get_or (names_at names p) k) ∙ e))

-- where there is no group of a name, none has it
pub to_index-none : (names : Names) (p : ℕ) (name : List ℕ) → to_index names p name ≡ None → (k : ℕ) → to_name names p k ≢ Some name
to_index-none names p name is k e = none_of_name (names_at names p) name k is (sym (flat-get_or (names_at names p) k) ∙ e)

-- one of the places of a name that stands once is its first
index_from : (names : Names) (p g : ℕ) (name : List ℕ) (o : Option ℕ) → to_index names p name ≡ o → AreDistinct (names_at names p) → to_name names p g ≡ Some name → o ≡ Some g
index_from names p g name None is distinct e = absurd (to_index-none names p name is g e)
index_from names p g name (Some i) is distinct e =
    let found = first_of_name (names_at names p) name i is in
    ap Some (one_place (names_at names p) name i g distinct found.0 (sym (flat-get_or (names_at names p) g) ∙ e))

-- where no name stands twice the two look-ups are inverse
pub to_index-inverse : (names : Names) (p g : ℕ) (gs : List (Option (List ℕ))) (name : List ℕ) → slice_get names p ≡ Some gs → AreDistinct gs → (to_index names p name ≡ Some g) ↔ (to_name names p g ≡ Some name)
to_index-inverse names p g gs name is distinct =
    let all : AreDistinct (names_at names p) = rw is (tt, distinct) in
    (λ e. (to_index-first names p g name e).0, λ e. index_from names p g name (to_index names p name) refl all e)
