-- What is noted along a walk: where it began, the last visit of a slot of each column, and its end.
use Rattle.std.proofs.Common.{◌≡◌, ℕ, ◌<◌, List, [], ◌∷◌, length, ◌⊎◌, inl, inr, ⊎_elim, sym, subst, ap, ◌∙◌, refl, arith, true≢false, Option, Some, None, nat_eq, slice_set, slice_index_or, if◌then◌else◌, get_or-set_same, get_or-set_other, length-set, eqb-true, eq-eqb, replicate}
use Rattle.std.proofs.lemmas.Bool.{cases_Bool}
use Rattle.std.proofs.lemmas.Option.{none-some, same_Some}
use Rattle.std.proofs.lemmas.List.{length-replicate, get_or-replicate}
use Rattle.std.specs.Option.{option_or}
use Rattle.rc_walks.specs.Walks.{Pair, IsIn, IsWalk, stops, goes}
use Rattle.rc_walks.specs.Threads.{noted}
use Rattle.rc_program.specs.Program.{Place, choice, byte, branch, scalar, guard, slot, accept, place_at}
use Rattle.rc_program.specs.Answer.{last_of, pattern_at}
use Rattle.rc_program.specs.Columns.{column_at}
use Rattle.rc_program.proofs.AnswerLemmas.{last_of_more, walk_ends}
use Rattle.rc_pikevm.specs.Trace.{Trace, note, note_at}
use Rattle.rc_pikevm.specs.Found.{fills, last_filled}

pub start_kept : (c : ℕ) (q : Place) (h : Trace) (i : ℕ) → (note_at c q h i).start ≡ h.start
start_kept c (choice ns) h i = refl
start_kept c (byte rs n) h i = refl
start_kept c (branch ts) h i = refl
start_kept c (scalar rs n) h i = refl
start_kept c (guard l n) h i = refl
start_kept c (slot k n) h i = refl
start_kept c (accept p) h i = refl

length_kept : (c : ℕ) (q : Place) (h : Trace) (i : ℕ) → length (note_at c q h i).slots ≡ length h.slots
length_kept c (choice ns) h i = refl
length_kept c (byte rs n) h i = refl
length_kept c (branch ts) h i = refl
length_kept c (scalar rs n) h i = refl
length_kept c (guard l n) h i = refl
length_kept c (slot k n) h i = length-set h.slots c (Some i)
length_kept c (accept p) h i = refl

slot_at : (c : ℕ) (q : Place) (h : Trace) (i k : ℕ) → k < length h.slots →
    slice_index_or (note_at c q h i).slots k None ≡ option_or (if fills c q k then Some i else None) (slice_index_or h.slots k None)
slot_at c (choice ns) h i k l = refl
slot_at c (byte rs n) h i k l = refl
slot_at c (branch ts) h i k l = refl
slot_at c (scalar rs n) h i k l = refl
slot_at c (guard a n) h i k l = refl
slot_at c (accept p) h i k l = refl
slot_at c (slot s n) h i k l =
    ⊎_elim
    (λ t. let e : c ≡ k = eqb-true c k t in
    rw t (subst (λ x. slice_index_or (slice_set h.slots x (Some i)) k None ≡ Some i) (sym e) (get_or-set_same h.slots k (Some i) None l)))
    (λ f. rw f (get_or-set_other h.slots c k (Some i) None (λ e. true≢false (sym (eq-eqb c k (sym e)) ∙ f))))
    (cases_Bool (nat_eq c k))

or_or : {X : Type 0} (a b c : Option X) → option_or a (option_or b c) ≡ option_or (option_or a b) c
or_or None b c = refl
or_or (Some x) b c = refl

or_none : {X : Type 0} (o : Option X) → option_or o None ≡ o
or_none None = refl
or_none (Some x) = refl

ended_at : (c : ℕ) (q : Place) (h : Trace) (i : ℕ) → q ≡ accept (pattern_at q) → (note_at c q h i).ended ≡ Some (pattern_at q, i)
ended_at c q h i e = ap (λ z. (note_at c z h i).ended) e

module _ (places : List Place) where
  pub noted_start : (h : Trace) (w : List Pair) → (noted (note places) h w).start ≡ h.start
  noted_start h [] = refl
  noted_start h (n ∷ w) = noted_start (note places h n) w ∙ start_kept (column_at places n.0) (place_at places n.0) h n.1

  noted_slot : (h : Trace) (w : List Pair) (k : ℕ) → k < length h.slots →
      slice_index_or (noted (note places) h w).slots k None ≡ option_or (last_filled places k w) (slice_index_or h.slots k None)
  noted_slot h [] k l = refl
  noted_slot h (n ∷ w) k l =
      let q : Place = place_at places n.0 in
      let same : length (note_at (column_at places n.0) q h n.1).slots ≡ length h.slots = length_kept (column_at places n.0) q h n.1 in
      noted_slot (note places h n) w k (omega (arith, same, l))
      ∙ ap (λ x. option_or (last_filled places k w) x) (slot_at (column_at places n.0) q h n.1 k l)
      ∙ or_or (last_filled places k w) (if fills (column_at places n.0) q k then Some n.1 else None) (slice_index_or h.slots k None)

  -- with no cell filled before, a cell has its column's last visit
  pub noted_visit : (h : Trace) (w : List Pair) (width k : ℕ) → h.slots ≡ replicate width None → k < width →
      slice_index_or (noted (note places) h w).slots k None ≡ last_filled places k w
  noted_visit h w width k e l =
      noted_slot h w k (rw (e, length-replicate) l)
      ∙ ap (option_or (last_filled places k w)) (ap (λ xs. slice_index_or xs k None) e ∙ get_or-replicate width k None None l)
      ∙ or_none (last_filled places k w)

  pub noted_length : (h : Trace) (w : List Pair) → length (noted (note places) h w).slots ≡ length h.slots
  noted_length h [] = refl
  noted_length h (n ∷ w) = noted_length (note places h n) w ∙ length_kept (column_at places n.0) (place_at places n.0) h n.1

  -- the trace of a walk that ends at a match place tells the pattern and the end
  pub noted_stop : (ways : Pair → List Pair) (Ends : Pair → Type 0) (h : Trace) {passed from w : List Pair} → IsWalk ways Ends passed from w →
      place_at places (last_of w).0 ≡ accept (pattern_at (place_at places (last_of w).0)) →
      (noted (note places) h w).ended ≡ Some (pattern_at (place_at places (last_of w).0), (last_of w).1)
  noted_stop ways Ends h (stops n here fresh end) is = ended_at (column_at places n.0) (place_at places n.0) h n.1 is
  noted_stop ways Ends h (goes {w = w} n here fresh rest) is =
      let more = last_of_more ways Ends n rest in
      noted_stop ways Ends (note places h n) rest (subst (λ (e : Pair). place_at places e.0 ≡ accept (pattern_at (place_at places e.0))) more is)
      ∙ ap (λ (e : Pair). Some (pattern_at (place_at places e.0), e.1)) (sym more)

  pub noted_end : (ways : Pair → List Pair) (Ends : Pair → Type 0) → ((n : Pair) → Ends n → place_at places n.0 ≡ accept (pattern_at (place_at places n.0))) →
      (h : Trace) {passed from w : List Pair} → IsWalk ways Ends passed from w →
      (noted (note places) h w).ended ≡ Some (pattern_at (place_at places (last_of w).0), (last_of w).1)
  noted_end ways Ends match h {w = w} walk = noted_stop ways Ends h walk (match (last_of w) (walk_ends ways Ends walk))

  -- a place is a match place, or nothing is noted of an end there
  ended_or_kept : (c : ℕ) (q : Place) (h : Trace) (i : ℕ) → (q ≡ accept (pattern_at q)) ⊎ ((note_at c q h i).ended ≡ h.ended)
  ended_or_kept c (choice ns) h i = inr refl
  ended_or_kept c (byte rs n) h i = inr refl
  ended_or_kept c (branch ts) h i = inr refl
  ended_or_kept c (scalar rs n) h i = inr refl
  ended_or_kept c (guard l n) h i = inr refl
  ended_or_kept c (slot k n) h i = inr refl
  ended_or_kept c (accept p) h i = inl refl

  -- a trace that tells an end tells where its walk ends, wherever walks may end
  pub noted_last : (ways : Pair → List Pair) (Ends : Pair → Type 0) →
      ((n m : Pair) → place_at places n.0 ≡ accept (pattern_at (place_at places n.0)) → ¬ IsIn m (ways n)) →
      (h : Trace) (p e : ℕ) → h.ended ≡ None → {passed from w : List Pair} → IsWalk ways Ends passed from w →
      (noted (note places) h w).ended ≡ Some (p, e) → (last_of w).1 ≡ e
  noted_last ways Ends stop h p e none (stops n here fresh end) told =
      let c : ℕ = column_at places n.0 in
      let q : Place = place_at places n.0 in
      ⊎_elim (λ is. ap (λ (z : ℕ × ℕ). z.1) (same_Some (pattern_at q, n.1) (p, e) (sym (ended_at c q h n.1 is) ∙ told)))
      (λ kept. absurd (none-some (p, e) (sym none ∙ sym kept ∙ told))) (ended_or_kept c q h n.1)
  noted_last ways Ends stop h p e none (goes {w = w} n here fresh rest) told =
      let c : ℕ = column_at places n.0 in
      let q : Place = place_at places n.0 in
      ⊎_elim (λ is. absurd (let k = sets_out_by rest in stop n k.0 is k.1))
      (λ kept. ap (λ (z : Pair). z.1) (last_of_more ways Ends n rest)
      ∙ noted_last ways Ends stop (note places h n) p e (kept ∙ none) rest told) (ended_or_kept c q h n.1)
    where
      sets_out_by : {passed from w : List Pair} → IsWalk ways Ends passed from w → (k : Pair) × IsIn k from
      sets_out_by (stops k here fresh end) = (k, here)
      sets_out_by (goes k here fresh rest) = (k, here)
