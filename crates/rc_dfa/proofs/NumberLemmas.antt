-- States with their numbers.
use Rattle.std.proofs.Common.{◌≡◌, ◌⊎◌, inl, inr, ℕ, zero, suc, Bool, true, false, cond, List, [], ◌∷◌, ◌++◌, length, map, Option, Some, None, slice_get, refl, sym, ◌∙◌, ap, Vec, Global}
use Rattle.std.specs.Cmp.Lexicographic.{slice_cmp}
use Rattle.std.specs.Ordering.{nat_cmp, is_eq}
use Rattle.std.specs.declared.cmp.Ordering.{Ordering}
use Rattle.std.specs.declared.cmp.Ordering.TheVariants.{Less, Equal, Greater}
use Rattle.std.proofs.lemmas.Cmp.{nat_list_cmp_total, tied_itself}
use Rattle.std.proofs.lemmas.Map.Lookups.{exact_bytes}
use Rattle.std.proofs.lemmas.List.{map-append, length-map}
use Rattle.rc_determinize.specs.States.{State}
use Rattle.rc_determinize.specs.declared.state.State as code
use Rattle.rc_determinize.specs.Places.{state_of}
use Rattle.rc_dfa.specs.Keys.{key_of, Numbers, number_of, IsAbsent, IsFound, AreNumbered}
use Rattle.rc_dfa.proofs.KeyLemmas.{keys_apart}
use Rattle.rc_dfa.proofs.ListLemmas.{get_more, get_last, get_parts}

there : (states : List State) (id : ℕ) (s : State) → slice_get states id ≡ Some s → slice_get (map key_of states) id ≡ Some (key_of s)
there [] id s e = cc
there (t ∷ states) zero s e = let same : t ≡ s = cc in ap (λ u. Some (key_of u)) same
there (t ∷ states) (suc id) s e = there states id s e

back : (states : List State) (id : ℕ) (s : State) → slice_get (map key_of states) id ≡ Some (key_of s) → slice_get states id ≡ Some s
back [] id s e = cc
back (t ∷ states) zero s e = let same : key_of t ≡ key_of s = cc in ap Some (keys_apart t s same)
back (t ∷ states) (suc id) s e = back states id s e

pub is_found : (states : List State) (numbers : Numbers) (key : Vec ℕ Global) (s : State) (r : Option ℕ) → AreNumbered states numbers →
    key.items ≡ key_of s → r ≡ number_of numbers key.items → IsFound states s r
is_found states numbers key s None n k e = λ id h.
    let at : slice_get (map key_of states) id ≡ Some key.items = there states id s h ∙ ap Some (sym k) in
    let got = n.kept key id at in
    cc
is_found states numbers key s (Some id) n k e = back states id s (n.found key id (sym e) ∙ ap Some k)

same_key : (xs ys : List ℕ) → is_eq (slice_cmp nat_cmp xs ys) ≡ true → xs ≡ ys
same_key xs ys e = exact_bytes xs ys (tied (slice_cmp nat_cmp xs ys) e) where
  tied : (o : Ordering) → is_eq o ≡ true → o ≡ Equal
  tied Less h = cc
  tied Equal h = refl
  tied Greater h = cc

own_key : (xs ys : List ℕ) → xs ≡ ys → is_eq (slice_cmp nat_cmp xs ys) ≡ true
own_key xs ys e = rw (← e, tied_itself nat_list_cmp_total xs) refl

two : (b : Bool) → (b ≡ true) ⊎ (b ≡ false)
two true = inl refl
two false = inr refl

-- one more state under the next number
pub one_more : (states : List State) (numbers new : Numbers) (key : Vec ℕ Global) (s : State) (next : ℕ) → AreNumbered states numbers →
    IsAbsent states s → key.items ≡ key_of s → next ≡ length states →
    ((q : Vec ℕ Global) → number_of new q.items ≡ cond (is_eq (slice_cmp nat_cmp key.items q.items)) (Some next) (number_of numbers q.items)) →
    AreNumbered (states ++ s ∷ []) new
one_more states numbers new key s next n absent k at updates = record {
  found = λ q id e. elim (two (is_eq (slice_cmp nat_cmp key.items q.items))) [
    | inl h ↦
        let own : key.items ≡ q.items = same_key key.items q.items h in
        let e2 : Some next ≡ Some id = sym (updates q ∙ ap (λ b. cond b (Some next) (number_of numbers q.items)) h) ∙ e in
        let last : id ≡ length states = cc in
        rw (last) (there (states ++ s ∷ []) (length states) s (get_last states s) ∙ ap Some (sym k ∙ own))
    | inr h ↦
        let old : number_of numbers q.items ≡ Some id = sym (updates q ∙ ap (λ b. cond b (Some next) (number_of numbers q.items)) h) ∙ e in
        rw map-append (get_more (map key_of states) (key_of s ∷ []) id q.items (n.found q id old))
  ];
  kept = λ q id e. elim (get_parts (map key_of states) (key_of s) id q.items (rw map-append at e)) [
    | inl h ↦ elim (two (is_eq (slice_cmp nat_cmp key.items q.items))) [
      | inl t ↦
          let own : q.items ≡ key_of s = sym (same_key key.items q.items t) ∙ k in
          absurd (absent id (back states id s (h ∙ ap Some own)))
      | inr t ↦ updates q ∙ ap (λ b. cond b (Some next) (number_of numbers q.items)) t ∙ n.kept q id h
    ]
    | inr h ↦
        let own = own_key key.items q.items (k ∙ h.1) in
        let place : next ≡ id = at ∙ sym (h.0 ∙ length-map states key_of) in
        updates q ∙ ap (λ b. cond b (Some next) (number_of numbers q.items)) own ∙ ap Some place
  ];
}

-- a copy of a state, added to the list
pub added : (old new : List code.State) (copy s : code.State) → new ≡ old ++ copy ∷ [] → copy.list.items ≡ s.list.items → copy.beside ≡ s.beside →
    copy.goes_on ≡ s.goes_on → copy.matched ≡ s.matched → map state_of new ≡ map state_of old ++ state_of s ∷ []
added old new copy s e list beside goes_on matched =
    let same : state_of copy ≡ state_of s = simp (list, beside, goes_on, matched) in
    ap (map state_of) e ∙ map-append state_of old (copy ∷ []) ∙ ap (λ t. map state_of old ++ t ∷ []) same
