-- Overlapping search: what the set has.
use Rattle.std.proofs.Common.{◌≡◌, ℕ, ◌+◌, ◌<◌, ◌≤◌, Bool, true, false, true≢false, IsTrue, List, length, slice_index, slice_set, get_or, Some, None, inl, inr, ⊎_elim, length-set, refl, sym, subst, ap, ◌∙◌, arith}
use Rattle.std.proofs.lemmas.Bool.{cases_Bool, cases_eq, cases_lt}
use Rattle.std.proofs.lemmas.Option.{slice_get-get_or}
use Rattle.rc_pattern_set.specs.Sets.{Has, members}
use Rattle.rc_pattern_set.proofs.SetLemmas.{fewer_members, has_set, set_has, set_keeps}
use Rattle.rc_program.specs.Program.{Place, accept, is_match_place, place_at}
use Rattle.rc_program.specs.Answer.{pattern_at}
use Rattle.rc_program.proofs.WayLemmas.{past_places}
use Rattle.rc_program.proofs.AnswerLemmas.{match_place_is}
use Rattle.rc_determinize.specs.States.{is_match}
use Rattle.rc_determinize.specs.Steps.{HasPlace}
use Rattle.rc_determinize.proofs.SparseLemmas.{has_at, index_of}
use Rattle.rc_lazy_dfa.specs.Overlaps.{AddsOnly, HasEach, IsAmong}

-- a set that has as many members as it can hold has each
pub full : (set : List Bool) → length (members set) ≡ length set → (p : ℕ) → p < length set → Has set p
full set same p lt =
    ⊎_elim
    (λ e. slice_get-get_or set p false lt ∙ ap Some e)
    (λ e. let few = fewer_members 0 set p (slice_get-get_or set p false lt ∙ ap Some e) in absurd (omega (arith, few, same)))
    (cases_Bool (get_or set p false))

-- WHAT IS ADDED

pub adds_none : (Is : ℕ → Type 0) (set : List Bool) → AddsOnly Is set set
adds_none Is set = record { capacity = refl; keeps = λ p h. h; only = λ p h. inl h }

pub adds_more : (Is : ℕ → Type 0) (a b c : List Bool) → AddsOnly Is a b → AddsOnly Is b c → AddsOnly Is a c
adds_more Is a b c x y = record {
  capacity = y.capacity ∙ x.capacity;
  keeps = λ p h. y.keeps p (x.keeps p h);
  only = λ p h. ⊎_elim (λ k. x.only p k) (λ k. inr k) (y.only p h);
}

pub adds_as : (Is Js : ℕ → Type 0) (a b : List Bool) → ((p : ℕ) → Is p → Js p) → AddsOnly Is a b → AddsOnly Js a b
adds_as Is Js a b f x = record {
  capacity = x.capacity;
  keeps = x.keeps;
  only = λ p h. ⊎_elim (λ k. inl k) (λ k. inr (f p k)) (x.only p h);
}

pub each_kept : (Is Js : ℕ → Type 0) (a b : List Bool) → AddsOnly Js a b → HasEach Is a → HasEach Is b
each_kept Is Js a b x h p lt is = let same = x.capacity in x.keeps p (h p (omega (arith, lt, same)) is)

-- THE MATCH PLACES OF A LIST

pub matched_below : (places : List Place) (q : ℕ) → IsTrue (is_match places q) → q < length places
matched_below places q h =
    ⊎_elim (λ lt. lt)
    (λ ge. absurd (true≢false (sym h ∙ ap (is_match_place None) (past_places places q ge))))
    (cases_lt q (length places))

-- those before the index were inserted
pub record AreInserted (places : List Place) (list : List ℕ) (old set : List Bool) (n : ℕ) : Type 0 where
  pub adds : AddsOnly (IsAmong places list) old set
  pub each : (k p : ℕ) → k < n → p < length set → place_at places (slice_index list k) ≡ accept p → Has set p

pub none_inserted : (places : List Place) (list : List ℕ) (set : List Bool) → AreInserted places list set set 0
none_inserted places list set = record {
  adds = adds_none (IsAmong places list) set;
  each = λ k p lt short is. absurd (omega (arith, lt));
}

pub one_inserted : (places : List Place) (list : List ℕ) (old set new : List Bool) (n q number : ℕ) → n < length list → q ≡ slice_index list n →
    IsTrue (is_match places q) → number ≡ pattern_at (place_at places q) → new ≡ slice_set set number true →
    AreInserted places list old set n → AreInserted places list old new (n + 1)
one_inserted places list old set new n q number lt at is own made x =
    let there : HasPlace q list = subst (λ k. HasPlace k list) (sym at) (has_at list n lt) in
    let accepts : place_at places q ≡ accept number = match_place_is None (place_at places q) is ∙ ap accept (sym own) in
    let long : length (slice_set set number true) ≡ length set = length-set set number true in
    rw made (record {
      adds = adds_more (IsAmong places list) old set (slice_set set number true) x.adds (record {
        capacity = long;
        keeps = λ p h. set_keeps set number p h;
        only = λ p h. ⊎_elim (λ e. inr (q, there, accepts ∙ ap accept (sym e))) (λ k. inl k) (has_set set number p h);
      });
      each = λ k p below short accepted. ⊎_elim
          (λ e. let same : number ≡ p = ap pattern_at (sym accepts ∙ ap (λ i. place_at places i) (at ∙ ap (λ i. slice_index list i) (sym e)) ∙ accepted) in
          subst (λ i. Has (slice_set set number true) i) same (set_has set number (omega (arith, short, long, same))))
          (λ ne. set_keeps set number p (x.each k p (omega (arith, below, ne)) (omega (arith, short, long)) accepted))
          (cases_eq k n);
    })

pub all_inserted : (places : List Place) (list : List ℕ) (old set : List Bool) (n : ℕ) → length list ≤ n → AreInserted places list old set n →
    HasEach (IsAmong places list) set
all_inserted places list old set n past x p lt is =
    let r = index_of list is.0 is.1 in
    let below = r.1 in
    x.each r.0 p (omega (arith, below, past)) lt (ap (λ i. place_at places i) r.2 ∙ is.2)
