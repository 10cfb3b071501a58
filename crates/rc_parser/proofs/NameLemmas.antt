-- Names in order, and the same names as a set.
use Rattle.std.proofs.Common.{◌≡◌, ℕ, String, string_bytes, Bool, true, false, cond, ◌||◌, ◌&&◌, ◌==◌, List, [], ◌∷◌, ◌++◌, refl, ap, sym, ◌∙◌, arith}
use Rattle.std.specs.BTreeSet as sorted
use Rattle.std.specs.BTreeSet.{BTreeSet, contains_text}
use Rattle.std.specs.Cmp.Lexicographic.{slice_cmp}
use Rattle.std.specs.Ordering.{nat_cmp}
use Rattle.std.specs.Str.{bytes_eq}
use Rattle.std.specs.String.{string_cmp}
use Rattle.std.proofs.lemmas.Map.Text.{btree_set_updates_text}
use Rattle.rc_tokens.specs.Text.{same_text}
use Rattle.rc_parser.specs.Grammar.{is_named}

same_flip : (a b : List ℕ) → same_text a b ≡ bytes_eq b a
same_flip [] [] = refl
same_flip [] (d ∷ t) = refl
same_flip (c ∷ s) [] = refl
same_flip (c ∷ s) (d ∷ t) = ap (λ x. c == d && x) (same_flip s t) ∙ ap (λ x. x && bytes_eq t s) (flip c d)
  where
    flip : (c d : ℕ) → (c == d) ≡ (d == c)
    flip c d = grind (arith)

or_later : (e t r : Bool) → (t || cond e true r) ≡ cond e true (t || r)
or_later true true r = refl
or_later true false r = refl
or_later false t r = refl

or_now : (t : Bool) → (t || false) ≡ cond t true false
or_now true = refl
or_now false = refl

named_more : (q name : List ℕ) (names : List (List ℕ)) → is_named q (names ++ name ∷ []) ≡ cond (bytes_eq name q) true (is_named q names)
named_more q name [] = or_now (same_text q name) ∙ ap (λ t. cond t true false) (same_flip q name)
named_more q name (other ∷ names) = ap (λ t. same_text q other || t) (named_more q name names) ∙ or_later (bytes_eq name q) (same_text q other) (is_named q names)

-- one more name
pub named_with : {Y : Type 0} (name : List ℕ) (names : List (List ℕ)) (s n : BTreeSet (String Y)) →
    sorted.UpdatesBy string_cmp (λ k. slice_cmp nat_cmp name (string_bytes k)) s n true →
    ((q : List ℕ) → contains_text s q ≡ is_named q names) → (q : List ℕ) → contains_text n q ≡ is_named q (names ++ name ∷ [])
named_with name names s n updates same q = btree_set_updates_text name s n true updates q ∙ ap (cond (bytes_eq name q) true) (same q) ∙ sym (named_more q name names)
