-- How far a pass for the first walk has read.
use Rattle.std.proofs.Common.{◌≡◌, ℕ, ◌+◌, ◌≤◌, List, [], ◌∷◌, map, min, inl, inr, ⊎_elim, sym, subst, ap, ◌∙◌, refl, length, arith, false, true, Option, Some, None, MatchOption, is_none, true≢false, if◌then◌else◌}
use Rattle.std.specs.Bool.{⊤}
use Rattle.std.proofs.lemmas.Bool.{cases_Bool, cases_lt, le-ltb, ltb-false}
use Rattle.std.proofs.lemmas.Option.{none-some, same_Some}
use Rattle.rc_text.specs.declared.types.MatchKind.{MatchKind}
use Rattle.rc_text.specs.declared.types.MatchKind.TheVariants.{LeftmostFirst as leftmost_first}
use Rattle.rc_walks.specs.Walks.{Pair, IsIn, IsWalk, stops, goes, EndsAt}
use Rattle.rc_walks.specs.Threads.{noted}
use Rattle.rc_trails.proofs.LimitLemmas.{limit_law}
use Rattle.rc_program.specs.Program.{accept, place_at, ways_out, pair_at}
use Rattle.rc_program.specs.Text.{holds, ahead}
use Rattle.rc_program.specs.Answer.{Search, Chosen, chosen, ends, is_anchored, last_of, next_of, pattern_at}
use Rattle.rc_program.proofs.AnswerLemmas.{last_start_of, start_to_last}
use Rattle.rc_reach.specs.Reads.{AreKnownStarts, IsBoundKnown, IsKnownBelow, IsKnownStart, ReadsBelow}
use Rattle.rc_reach.specs.Settled.{IsInside, IsSettled}
use Rattle.rc_reach.proofs.KnownLemmas.{few_seen}
use Rattle.rc_reach.proofs.LawLemmas.{reach_law}
use Rattle.rc_reach.proofs.SliceLemmas.{slice_law}
use Rattle.rc_pikevm.specs.Sights.{Sight, IsFirstTo, HasNoWalkTo, IsUpTo, is_past, next_to, sight_of}
use Rattle.rc_pikevm.specs.Trace.{Trace, note, sets_out, done}
use Rattle.rc_pikevm.specs.Passing.{GivesTraceTo, best_of}
use Rattle.rc_pikevm.specs.Found.{IsChosen, IsChosenRow, IsPickedBy, last_filled}
use Rattle.rc_text.specs.Text.{Searched}
use Rattle.rc_program.specs.Programs.{search_of}
use Rattle.rc_program.specs.declared.program.Program.{Program}
use Rattle.rc_pikevm.specs.declared.pass.Ending.{Ending}
use Rattle.rc_pikevm.specs.declared.rule.Rule.TheVariants.{First}
use Rattle.rc_pikevm.proofs.NotedLemmas.{noted_last, noted_start}
use Rattle.rc_pikevm.proofs.RuleLemmas.{chosen_by, left_by, none_below_by, none_by, some_by}
use Rattle.rc_pikevm.proofs.SearchLemmas.{allowed_free}
use Rattle.rc_pikevm.proofs.SightLemmas.{last_pair, way_to}

-- a limit that isn't before a position isn't before an earlier one
pub up_to_less : (x y : ℕ) (limit : Option ℕ) → x ≤ y → IsUpTo y limit → IsUpTo x limit
up_to_less x y None le up = tt
up_to_less x y (Some l) le up = omega (arith, le, up)

ends_last : (n : Pair) (w : List Pair) → EndsAt (n ∷ w) (last_of (n ∷ w))
ends_last n [] = refl
ends_last n (m ∷ w) = ends_last m w

pub walk_ends_last : (ways : Pair → List Pair) (Ends : Pair → Type 0) {passed from w : List Pair} → IsWalk ways Ends passed from w → EndsAt w (last_of w)
walk_ends_last ways Ends (stops n here fresh end) = refl
walk_ends_last ways Ends (goes {w = w} n here fresh rest) = ends_last n w

-- no way leads out of a match place
pub accept_last : (limit : Option ℕ) (s : Sight) (n m : Pair) → place_at s.places n.0 ≡ accept (pattern_at (place_at s.places n.0)) → ¬ IsIn m (next_to limit s n)
accept_last limit s n m is i =
    subst (λ q. IsIn m (map (pair_at n.1) (ways_out (λ l. holds s.text l n.1) (ahead s.text s.hi n.1) q))) is (way_to limit s n m i)

pub search_inside : (p : Program) (i : Searched) → IsInside (search_of p i)
search_inside p i = record { lo = omega arith; hi = omega arith; slice_end = omega arith }

-- the slice settles whatever a search finds
pub settled_whole : (kind : MatchKind) (s : Search) → IsInside s → (r : ℕ) → r ≡ s.text.slice_end + 1 → IsSettled kind r s
settled_whole kind s inside r is =
    subst (λ z. IsSettled kind z s) (sym is) (reach_law.match kind s (s.text.slice_end + 1) (slice_law kind s inside))

-- a row that is chosen is so without its slots
pub without_slots : (s : Search) (o : Option Chosen) (e : Ending) (row : List (Option ℕ)) (c : Chosen) → IsChosenRow s o e row c → IsChosen s o e [] c
without_slots s o e row c is = record {
  is_chosen = is.is_chosen;
  pattern = is.pattern;
  start = is.start;
  end = is.end;
  visits = λ k l. absurd (omega (arith, l));
}

module _ (s : Search) (at : ℕ) where
  inside_known : (n : Pair) → is_past at n ≡ false → IsKnownBelow s (at + 4) n
  inside_known n e =
      let few = few_seen (place_at s.places n.0) in
      let le = ltb-false at n.1 e in
      omega (arith, few, le)

  none_known : (y : ℕ) → HasNoWalkTo (Some at) (sight_of s) y → IsKnownStart s (at + 4) y None
  none_known y none =
      let l = limit_law.none (next_of s) (ends s) (is_past at) [] ((0, y) ∷ []) (last_pair (sight_of s)) none in
      (l.0, λ v e trail here. inside_known e (l.1 v e trail here))

  first_known : (x : ℕ) (w : List Pair) → s.passes_over ≡ false → IsFirstTo (Some at) (sight_of s) x w → (last_of w).1 ≤ at →
      IsKnownStart s (at + 4) x (Some w)
  first_known x w free first le =
      let l = limit_law.first (next_of s) (ends s) (is_past at) [] ((0, x) ∷ []) w (last_of w) (last_pair (sight_of s)) first
      (walk_ends_last (next_to (Some at) (sight_of s)) _ first.is_walk) (le-ltb at (last_of w).1 le) in
      (l.0, (λ v e trail late here. inside_known e (l.1 v e trail late here)), (λ over. absurd (true≢false (sym over ∙ free))))

  module _ (width last : ℕ) (free : s.passes_over ≡ false) (last_is : last ≡ last_start_of s) where
    -- up to the start of the walk that was found
    some_known : (e : Ending) (slots : List (Option ℕ)) → e.end ≤ at → GivesTraceTo (Some at) (sight_of s) width s.lo last (best_of (Some e) slots) →
        AreKnownStarts s (at + 4) e.start
    some_known e slots le g y is_start below =
        ⊎_elim (λ n. absurd (none-some (done e.pattern e.start e.end slots) (sym n.0)))
        (λ m.
        let x : ℕ = m.0 in
        let w : List Pair = m.1 in
        let same = same_Some (done e.pattern e.start e.end slots) (noted (note s.places) (sets_out width x).0 w) m.6 in
        let begun : e.start ≡ x = ap (λ (t : Trace). t.start) same ∙ noted_start s.places (sets_out width x).0 w in
        let stop : (last_of w).1 ≡ e.end =
        noted_last s.places (next_to (Some at) (sight_of s)) _ (accept_last (Some at) (sight_of s)) (sets_out width x).0 e.pattern e.end refl
        m.4.is_walk (sym (ap (λ (t : Trace). t.ended) same)) in
        ⊎_elim (λ before. (None, none_known y (m.5 y is_start.0 before)))
        (λ ge. let here : x ≡ y = omega (arith, ge, below, begun) in
        (Some w, subst (λ z. IsKnownStart s (at + 4) z (Some w)) here (first_known x w free m.4 (omega (arith, stop, le)))))
        (cases_lt y x))
        g

    -- and at all starts if none was
    all_known : (slots : List (Option ℕ)) → GivesTraceTo (Some at) (sight_of s) width s.lo last (best_of None slots) → AreKnownStarts s (at + 4) s.hi
    all_known slots g y is_start below =
        ⊎_elim (λ n. let l = start_to_last s y is_start in (None, none_known y (n.1 y is_start.0 (omega (arith, l, last_is)))))
        (λ m. absurd (none-some _ m.6)) g

    bound_known : last ≤ at → s.lo ≤ at → IsBoundKnown s (at + 4)
    bound_known most low =
        ⊎_elim (λ t. inr (t, omega (arith, low)))
        (λ f. let e : last ≡ s.hi = last_is ∙ ap (λ b. if b then min s.lo s.hi else s.hi) f in inl (omega (arith, e, most)))
        (cases_Bool (is_anchored s.anchoring))

    module _ (slots : List (Option ℕ)) (low : s.lo ≤ at) (wide : length slots ≡ width) where
      -- the walk that was found is the one that the search chooses
      pub picked : (best : Option Ending) → GivesTraceTo None (sight_of s) width s.lo last (best_of best slots) →
          IsPickedBy last_filled s (chosen s) best slots
      picked None g = left_by (First 0) s s.lo last (none_below_by (First 0) s s.lo refl) last_is (none_by (First 0) s width s.lo last slots g)
      picked (Some e) g =
          let b = some_by (First 0) s width s.lo last e slots g in
          chosen_by (none_below_by (First 0) s s.lo refl) last_is b.1 wide (omega arith) (allowed_free s b.0 free)

      reads : (best : Option Ending) → MatchOption best ⊤ (λ r. r.end ≤ at) → (is_none best ≡ true → last ≤ at) →
          GivesTraceTo None (sight_of s) width s.lo last (best_of best slots) → GivesTraceTo (Some at) (sight_of s) width s.lo last (best_of best slots) →
          ReadsBelow s (at + 4) (chosen s)
      reads None ended whole g h = subst (ReadsBelow s (at + 4)) (sym (picked None g)) (all_known slots h, bound_known (whole refl) low)
      reads (Some e) ended whole g h =
          let c = picked (Some e) g in
          subst (ReadsBelow s (at + 4)) (sym c.1.is_chosen)
          (subst (AreKnownStarts s (at + 4)) c.1.start (some_known e slots ended h))

      -- four bytes after the last position settle it, or all that the slice has
      pub settles : (best : Option Ending) → IsInside s → MatchOption best ⊤ (λ r. r.end ≤ at) → (is_none best ≡ true → last ≤ at) →
          ((limit : Option ℕ) → IsUpTo at limit → GivesTraceTo limit (sight_of s) width s.lo last (best_of best slots)) →
          (r : ℕ) → r ≡ min (at + 4) (s.text.slice_end + 1) → IsSettled leftmost_first r s
      settles best inside ended whole gives r is =
          let far = reach_law.preferred s (at + 4) inside (reads best ended whole (gives None tt) (gives (Some at) (omega arith))) in
          ⊎_elim (λ l. subst (λ z. IsSettled leftmost_first z s) (omega (arith, is, l)) (reach_law.match leftmost_first s (at + 4) far))
          (λ ge. settled_whole leftmost_first s inside r (omega (arith, is, ge)))
          (cases_lt (at + 4) (s.text.slice_end + 1))
