-- From passes to the answer of a search.
use Rattle.std.proofs.Common.{◌≡◌, ◌≢◌, ℕ, ◌+◌, ◌*◌, ◌<◌, ◌≤◌, List, [], ◌∷◌, length, ⊎_elim, sym, subst, ap, ap₂, ◌∙◌, refl, arith, true, false, IsTrue, Option, Some, None, not, slice_index_or, slice_set, get_or-set_same, get_or-set_other, length-set, nat_eq, if◌then◌else◌, eq-eqb, ne_eqb}
use Rattle.std.specs.Option.{option_map}
use Rattle.std.proofs.lemmas.Bool.{cases_eq, or_right}
use Rattle.std.proofs.lemmas.List.FromFn.{fill_by_all}
use Rattle.std.proofs.lemmas.Option.{same_Some}
use Rattle.rc_text.specs.Text.{is_boundary}
use Rattle.rc_text.specs.Found.{Found}
use Rattle.rc_walks.specs.Walks.{Pair, IsWalk}
use Rattle.rc_walks.specs.Threads.{noted}
use Rattle.rc_program.specs.Program.{place_at, accept}
use Rattle.rc_program.specs.Answer.{Search, only, ends, next_of, is_allowed, last_of, Chosen, chosen, answer, groups, found, pattern_of, pattern_at, slot_of, slots_of, last_visit, Anchoring, is_anchored}
use Rattle.rc_program.proofs.AnswerLemmas.{last_start_of, match_place_is, chosen_law, chosen_within, chosen_accepts}
use Rattle.rc_pikevm.specs.Trace.{Trace, note, sets_out, done}
use Rattle.rc_pikevm.specs.Found.{IsChosen, last_filled}
use Rattle.rc_pikevm.specs.declared.pass.Ending.{Ending}
use Rattle.rc_pikevm.proofs.NotedLemmas.{noted_start, noted_visit, noted_end}

module _ (s : Search) (width : ℕ) where
  -- what is told of a walk along which that was noted
  pub record IsTold (x : ℕ) (e : Ending) (slots : List (Option ℕ)) (w : List Pair) : Type 0 where
    pub start : e.start ≡ x
    pub pattern : e.pattern ≡ pattern_at (place_at s.places (last_of w).0)
    pub end : e.end ≡ (last_of w).1
    pub visits : (k : ℕ) → k < width → slice_index_or slots k None ≡ last_filled s.places k w

  pub told_by : (e : Ending) (slots : List (Option ℕ)) (x : ℕ) (w : List Pair) → IsWalk (next_of s) (λ n. IsTrue (ends s n)) [] ((0, x) ∷ []) w →
      done e.pattern e.start e.end slots ≡ noted (note s.places) (sets_out width x).0 w → IsTold x e slots w
  told_by e slots x w is_walk same =
      let stop = same_Some (e.pattern, e.end) (pattern_at (place_at s.places (last_of w).0), (last_of w).1)
      (ap (λ (t : Trace). t.ended) same
      ∙ noted_end s.places (next_of s) (λ n. IsTrue (ends s n)) (λ n h. match_place_is (only s.anchoring) (place_at s.places n.0) h) (sets_out width x).0 is_walk) in
      record {
        start = ap (λ (t : Trace). t.start) same ∙ noted_start s.places (sets_out width x).0 w;
        pattern = ap (λ (z : ℕ × ℕ). z.0) stop;
        end = ap (λ (z : ℕ × ℕ). z.1) stop;
        visits = λ k l. ap (λ (t : Trace). slice_index_or t.slots k None) same ∙ noted_visit s.places (sets_out width x).0 w width k refl l;
      }

-- the last start, as the code finds it
pub last_found : (s : Search) (last lo hi : ℕ) (anchoring : Anchoring) → last ≡ (if is_anchored anchoring then lo else hi) → lo ≡ s.lo → hi ≡ s.hi →
    anchoring ≡ s.anchoring → s.lo ≤ s.hi → last ≡ last_start_of s
last_found s last lo hi anchoring e low high same le =
    e ∙ ap₂ (λ x y. if is_anchored anchoring then x else y) low high ∙ ap (λ a. if is_anchored a then s.lo else s.hi) same
    ∙ ap (λ x. if is_anchored s.anchoring then x else s.hi) (omega arith)

module _ (s : Search) where
  pub allowed_free : (w : List Pair) → s.passes_over ≡ false → is_allowed s w ≡ true
  allowed_free w e = rw e refl

  pub allowed_boundary : (w : List Pair) (end : ℕ) → end ≡ (last_of w).1 → is_boundary s.text.content end ≡ true → is_allowed s w ≡ true
  allowed_boundary w end e b = or_right (not s.passes_over) (is_boundary s.text.content (last_of w).1) (ap (is_boundary s.text.content) (sym e) ∙ b)

  pub not_allowed : (w : List Pair) (end : ℕ) → end ≡ (last_of w).1 → s.passes_over ≡ true → is_boundary s.text.content end ≡ false →
      is_allowed s w ≡ false
  not_allowed w end e on b = rw on (ap (is_boundary s.text.content) (sym e) ∙ b)

  pub answer_none : chosen s ≡ None → answer s ≡ None
  unfolding answer
  answer_none e = ap (option_map (found s)) e

  -- The answer, once the walk is picked.
  module _ (picked : Option Chosen) (e : Ending) (slots : List (Option ℕ)) (c : Chosen) (is : IsChosen s picked e slots c) where
    pub found_is : option_map (found s) picked ≡ Some (record { pattern = e.pattern; start = e.start; end = e.end })
    found_is =
        ap (option_map (found s)) is.is_chosen
        ∙ ap Some (ap₂ (λ (p : ℕ) (z : ℕ × ℕ). let f : Found = record { pattern = p; start = z.0; end = z.1 } in f) (sym is.pattern)
        (ap₂ (λ x y. (x, y)) (sym is.start) (sym is.end)))

    -- with the whole match in its two slots, they are the groups
    pub slots_are : (slots2 : List (Option ℕ)) →
        slots2 ≡ slice_set (slice_set slots (2 * e.pattern) (Some e.start)) (2 * e.pattern + 1) (Some e.end) →
        Some slots2 ≡ option_map (slots_of s (length slots)) picked
    slots_are slots2 same =
        ap Some (fill_by_all (slot_of s c) slots2 (length slots) None (ap length same ∙ length-set _ (2 * e.pattern + 1) (Some e.end) ∙ length-set slots (2 * e.pattern) (Some e.start))
        (λ k l. ap (λ xs. slice_index_or xs k None) same ∙ at_slot k l))
        ∙ ap (option_map (slots_of s (length slots))) (sym is.is_chosen)
      where
        first : List (Option ℕ)
        first = slice_set slots (2 * e.pattern) (Some e.start)

        same_length : length first ≡ length slots
        same_length = length-set slots (2 * e.pattern) (Some e.start)

        both : ℕ → ℕ → ℕ → Option ℕ
        both p x k = if nat_eq k (2 * p) then Some x else if nat_eq k (2 * p + 1) then Some e.end else last_visit s.places k c.walk

        told : (k : ℕ) → slot_of s c k ≡ both e.pattern e.start k
        told k =
            ap (λ y. if nat_eq k (2 * pattern_of s c) then Some c.start else if nat_eq k (2 * pattern_of s c + 1) then Some y else last_visit s.places k c.walk) (sym is.end)
            ∙ ap₂ (λ p x. both p x k) (sym is.pattern) (sym is.start)

        at_first : (k : ℕ) → k ≡ 2 * e.pattern → both e.pattern e.start k ≡ Some e.start
        at_first k eq = rw (eq-eqb k (2 * e.pattern) eq) refl

        at_second : (k : ℕ) → k ≢ 2 * e.pattern → k ≡ 2 * e.pattern + 1 → both e.pattern e.start k ≡ Some e.end
        at_second k ne eq = rw (ne_eqb k (2 * e.pattern) ne, eq-eqb k (2 * e.pattern + 1) eq) refl

        at_other : (k : ℕ) → k ≢ 2 * e.pattern → k ≢ 2 * e.pattern + 1 → both e.pattern e.start k ≡ last_visit s.places k c.walk
        at_other k ne nf = rw (ne_eqb k (2 * e.pattern) ne, ne_eqb k (2 * e.pattern + 1) nf) refl

        written : (k : ℕ) → k < length slots → slice_index_or (slice_set first (2 * e.pattern + 1) (Some e.end)) k None ≡ both e.pattern e.start k
        written k l =
            ⊎_elim
            (λ eq. get_or-set_other first (2 * e.pattern + 1) k (Some e.end) None (λ q. absurd (omega (arith, eq, q)))
            ∙ subst (λ x. slice_index_or first x None ≡ Some e.start) (sym eq) (get_or-set_same slots (2 * e.pattern) (Some e.start) None (omega (arith, eq, l)))
            ∙ sym (at_first k eq))
            (λ ne. ⊎_elim
            (λ eq. subst (λ x. slice_index_or (slice_set first (2 * e.pattern + 1) (Some e.end)) x None ≡ Some e.end) (sym eq)
            (get_or-set_same first (2 * e.pattern + 1) (Some e.end) None (omega (arith, eq, l, same_length)))
            ∙ sym (at_second k ne eq))
            (λ nf. get_or-set_other first (2 * e.pattern + 1) k (Some e.end) None nf
            ∙ get_or-set_other slots (2 * e.pattern) k (Some e.start) None ne ∙ is.visits k l ∙ sym (at_other k ne nf)) (cases_eq k (2 * e.pattern + 1)))
            (cases_eq k (2 * e.pattern))

        at_slot : (k : ℕ) → k < length slots → slice_index_or (slice_set first (2 * e.pattern + 1) (Some e.end)) k None ≡ slot_of s c k
        at_slot k l = written k l ∙ sym (told k)

  module _ (e : Ending) (slots : List (Option ℕ)) (c : Chosen) (is : IsChosen s (chosen s) e slots c) where
    pub answer_is : answer s ≡ Some (record { pattern = e.pattern; start = e.start; end = e.end })
    unfolding answer
    answer_is = found_is (chosen s) e slots c is

    pub within : (s.lo ≤ e.start) × (e.start ≤ e.end) × (e.end ≤ s.hi)
    within = let r = chosen_within s c ((chosen_law s c).0 is.is_chosen) in
        (omega (arith, is.start, r.0), omega (arith, is.start, is.end, r.1), omega (arith, is.end, r.2))

    pub pattern_place : place_at s.places (last_of c.walk).0 ≡ accept e.pattern
    pattern_place = chosen_accepts s c ((chosen_law s c).0 is.is_chosen) ∙ ap accept (sym is.pattern)

    pub groups_are : (slots2 : List (Option ℕ)) →
        slots2 ≡ slice_set (slice_set slots (2 * e.pattern) (Some e.start)) (2 * e.pattern + 1) (Some e.end) → Some slots2 ≡ groups s (length slots)
    unfolding groups
    groups_are slots2 same = slots_are (chosen s) e slots c is slots2 same
