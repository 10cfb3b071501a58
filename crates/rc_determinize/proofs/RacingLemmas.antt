-- The search for the longest match, from state to state.
use Rattle.std.proofs.Common.{◌≡◌, ℕ, suc, ◌+◌, ◌-◌, ◌<◌, ◌⊎◌, List, [], ◌∷◌, ◌++◌, length, map, Option, Some, None, Bool, true, false, true≢false, IsTrue, ◌&&◌, is_none, ⊎_elim, sym, subst, ap, ap₂, ◌∙◌, refl, arith, append_assoc}
use Rattle.std.proofs.lemmas.List.{append-nil}
use Rattle.std.proofs.lemmas.Option.{none-some}
use Rattle.rc_walks.specs.Walks.{Pair, IsIn}
use Rattle.rc_program.specs.Text.{Text, before_at, after_at}
use Rattle.rc_program.specs.Program.{Way, stays, reads, pair_at, ways}
use Rattle.rc_program.specs.Laws.{IsClosed}
use Rattle.rc_program.proofs.LongestLemmas.{none_back}
use Rattle.rc_program.proofs.WayLemmas.{same_pair}
use Rattle.rc_determinize.specs.Gives.{starts}
use Rattle.rc_determinize.specs.Run.{IsGoal}
use Rattle.rc_determinize.specs.Steps.{HasPlace, AreBelow, all_added, still}
use Rattle.rc_determinize.specs.declared.sides.Seen.{Seen}
use Rattle.rc_determinize.specs.Sides.{told_side, sides_near, holds_by, out_over, byte_of}
use Rattle.rc_determinize.specs.States.{Setting, IsSetting, State, is_match, IsFirstBeside, sides_ahead, IsInside, Stops, later_starts, all_starts, best_at}
use Rattle.rc_determinize.specs.Longest.{flat, groups_of, parted, Closes, GroupSteps, over, goes as goes_over, stops, AddsGroups, all_added as none_added, adds, root_group, IsNextOfLongestOver}
use Rattle.rc_determinize.specs.LongestLaws.{Held, begun, held, AreHeldBelow, IsQuiet, AreCarried, IsKnown, IsRest, IsRacing, GivesLongest}
use Rattle.rc_determinize.proofs.PartsLemmas.{no_walk_both}
use Rattle.rc_determinize.proofs.Passes as passes
use Rattle.rc_determinize.proofs.PositionLemmas.{still_stay}
use Rattle.rc_determinize.proofs.MachineLemmas.{has_right}
use Rattle.rc_determinize.proofs.LimitLemmas.{read_by, under_kept}
use Rattle.rc_determinize.proofs.UnderLemmas.{out_under}
use Rattle.rc_determinize.proofs.TextLemmas.{out_here, same_below, same_at_end, near, last}
use Rattle.rc_determinize.proofs.CloseLemmas.{at_bound}
use Rattle.rc_determinize.proofs.GroupLemmas.{full, full_append, parted_same, groups_parted, nothing_held, one_held, adds_parts}
use Rattle.rc_determinize.proofs.RaceLemmas.{up, MetHere, Stepped, SoFar, step_groups}
use Rattle.rc_determinize.proofs.LongestLemmas.{begun_append, held_append, flat_below, below_append, start_joins, known_none, known_some, over_gives, rest_gives}

-- nothing is read at a bound, so no group holds a place behind it
bound_groups : (out : ℕ → List Way) (ends : ℕ → Bool) {visited : List ℕ} {groups onwards : List (List ℕ)} {matched : Option ℕ} →
    GroupSteps out ends visited groups onwards matched →
    (none : List (List ℕ)) × GroupSteps (λ q. still (out q)) ends visited groups none matched × AddsGroups [] none none × (flat none ≡ [])
bound_groups out ends over = ([], over, none_added, refl)
bound_groups out ends (goes_over {visited} {group} {onward} {visited2} c rest) =
    let r = bound_groups out ends rest in
    ([] ∷ r.0, goes_over (subst (λ z. Closes (λ q. still (out q)) ends visited z [] None visited2) (still_stay group) (at_bound out ends c)) r.1, adds all_added r.2, r.3)
bound_groups out ends (stops {visited} {group} {onward} {visited2} {e = e} c) =
    ([] ∷ [], stops (subst (λ z. Closes (λ q. still (out q)) ends visited z [] (Some e) visited2) (still_stay group) (at_bound out ends c)), adds all_added none_added, refl)

still_reads_nothing : (ws : List Way) → read_by (still ws) ≡ []
still_reads_nothing [] = refl
still_reads_nothing (stays q ∷ ws) = still_reads_nothing ws
still_reads_nothing (reads count q ∷ ws) = still_reads_nothing ws

module _ (ways : Pair → List Pair) (Ends : Pair → Type 0) (last : (n m : Pair) → Ends n → ¬ IsIn m (ways n))
    (near : (n m : Pair) → IsIn m (ways n) → (m.1 ≡ n.1) ⊎ (m.1 ≡ n.1 + 1)) where
  -- nothing has been done yet
  nothing_yet : (i : ℕ) (out : ℕ → List Way) (ends : ℕ → Bool) (same_ends : (q : ℕ) → Ends (q, i) ≡ IsTrue (ends q))
      (same : (q : ℕ) → ways (q, i) ≡ map (pair_at i) (out q)) (n : ℕ) (closed : (q : ℕ) → AreBelow n (read_by (out q))) →
      SoFar ways Ends same_pair last near i out ends same_ends same n closed [] [] [] [] []
  nothing_yet i out ends same_ends same n closed =
      record { base = λ e le r g. g; ran = λ e le. passes.out_of_ways; once = λ e r g. g; below = λ k h. absurd h }

  -- the starts that count, and the others, at the next position
  pub record Next (n root hi : ℕ) (origin : List Pair) (j : ℕ) (goes_on : Bool) (groups : List (List ℕ)) (best : Option Pair) : Type 0 where
    pub starts : List Held
    pub rest : List Pair
    pub all : origin ≡ begun starts ++ rest
    pub is_rest : IsRest goes_on root j hi rest best
    pub list : parted n groups ≡ parted n (held starts)
    pub below : AreHeldBelow n starts
    pub carries : AreCarried ways Ends j [] [] starts
    pub known : IsKnown ways Ends j (begun starts) best

  module _ (i : ℕ) (out : ℕ → List Way) (ends : ℕ → Bool) (same_ends : (q : ℕ) → Ends (q, i) ≡ IsTrue (ends q))
      (same : (q : ℕ) → ways (q, i) ≡ map (pair_at i) (out q)) (n : ℕ) (closed : (q : ℕ) → AreBelow n (read_by (out q)))
      (root hi : ℕ) (origin : List Pair) (hs : List Held) (rest : List Pair) (all : origin ≡ begun hs ++ rest) where
    abbrev After : List (List ℕ) → Option ℕ → Type 0
    After news matched = Stepped ways Ends same_pair last near i out ends same_ends same n closed [] [] hs news matched

    -- those that count no more stand before the rest
    all_after : (news : List (List ℕ)) (matched : Option ℕ) (r : After news matched) → origin ≡ begun r.starts ++ (r.dropped ++ rest)
    all_after news matched r = all ∙ ap (λ z. z ++ rest) r.all ∙ append_assoc (begun r.starts) r.dropped rest

    known_after : (news : List (List ℕ)) (matched : Option ℕ) (best : Option Pair) (r : After news matched) → IsKnown ways Ends i (begun hs) best →
        IsKnown ways Ends (i + 1) (begun r.starts) (best_at i matched best)
    known_after news None best r known =
        known_none ways Ends same_pair last near i (begun r.starts) (begun hs) best
        (r.all ∙ ap (λ z. begun r.starts ++ z) r.met_here.0 ∙ append-nil (begun r.starts)) r.met_here.1 known
    known_after news (Some q) best r known =
        known_some ways Ends same_pair last near i q (begun r.starts) (begun hs) r.dropped r.met_here.0 r.met_here.1 best
        r.all r.met_here.2 r.met_here.3 r.met_here.4 known

    -- no start joins
    stays_so : (news : List (List ℕ)) (matched : Option ℕ) (best : Option Pair) (r : After news matched) → IsKnown ways Ends i (begun hs) best →
        IsRest false root (i + 1) hi (r.dropped ++ rest) (best_at i matched best) → Next n root hi origin (i + 1) false news (best_at i matched best)
    stays_so news matched best r known is_rest = record {
      starts = r.starts;
      rest = r.dropped ++ rest;
      all = all_after news matched r;
      is_rest = is_rest;
      list = sym (parted_same n (held r.starts) news r.same_groups);
      below = r.below;
      carries = r.carries;
      known = known_after news matched best r known;
    }

    -- the next start joins
    joins : (news second : List (List ℕ)) (r : After news None) → i < hi → root < n → IsKnown ways Ends i (begun hs) None →
        rest ≡ starts root (i + 1) (hi - i) → AddsGroups (flat news) ((root ∷ []) ∷ []) second →
        Next n root hi origin (i + 1) true (news ++ second) None
    joins news second r lt rooted known is_rest (adds {own = own} added none_added) =
        let e : hi - i ≡ suc (hi - (i + 1)) = omega (arith, lt) in
        let later = starts root (i + 1 + 1) (hi - (i + 1)) in
        let quiet = known_after news None None r known in
        record {
          starts = r.starts ++ ((root, i + 1), own) ∷ [];
          rest = later;
          all = all_after news None r
              ∙ ap (λ z. begun r.starts ++ (z ++ rest)) r.met_here.0
              ∙ ap (λ z. begun r.starts ++ z) (is_rest ∙ ap (λ z. starts root (i + 1) z) e)
              ∙ sym (append_assoc (begun r.starts) ((root, i + 1) ∷ []) later)
              ∙ ap (λ z. z ++ later) (sym (begun_append r.starts (((root, i + 1), own) ∷ [])));
          is_rest = refl;
          list = parted_same n (news ++ own ∷ []) (held (r.starts ++ ((root, i + 1), own) ∷ []))
              (full_append news (own ∷ []) ∙ ap (λ z. z ++ full (own ∷ [])) (sym r.same_groups)
              ∙ sym (full_append (held r.starts) (own ∷ [])) ∙ ap (λ z. full z) (sym (held_append r.starts (((root, i + 1), own) ∷ []))));
          below = below_append n r.starts ((root, i + 1), own) r.below
              (λ k h. under_kept n added (subst (λ z. AreBelow n z) r.same_places (flat_below n r.starts r.below))
              (λ p z. ⊎_elim (λ q. subst (λ x. x < n) q rooted) (λ never. absurd never) z) k (has_right k (flat news) own h));
          carries = start_joins ways Ends same_pair last near (i + 1) r.starts (flat news) root own r.same_places r.carries added;
          known = λ p l. subst (λ z. IsQuiet ways Ends p z) (sym (begun_append r.starts (((root, i + 1), own) ∷ [])))
              (no_walk_both ways (IsGoal Ends p) {xs = begun r.starts} (quiet p l)
              (none_back ways Ends (up ways Ends same_pair last near) p p [] (root, i + 1) (omega arith) (omega (arith, l))));
        }

    -- as the state says
    pub next_starts : (goes_on : Bool) (news second : List (List ℕ)) (matched : Option ℕ) (best : Option Pair) (r : After news matched) → i < hi → root < n →
        IsKnown ways Ends i (begun hs) best → IsRest goes_on root i hi rest best →
        AddsGroups (flat news) (root_group (goes_on && is_none matched) root) second →
        Next n root hi origin (i + 1) (goes_on && is_none matched) (news ++ second) (best_at i matched best)
    next_starts true news second None None r lt rooted known is_rest a = joins news second r lt rooted known is_rest a
    next_starts true news second None (Some b) r lt rooted known is_rest a = absurd (true≢false is_rest)
    next_starts true news second (Some q) best r lt rooted known is_rest none_added =
        subst (λ z. Next n root hi origin (i + 1) false z (Some (q, i))) (sym (append-nil news)) (stays_so news (Some q) best r known refl)
    next_starts false news second None None r lt rooted known is_rest none_added =
        subst (λ z. Next n root hi origin (i + 1) false z None) (sym (append-nil news))
        (stays_so news None None r known (ap₂ (λ z w. z ++ w) r.met_here.0 is_rest))
    next_starts false news second None (Some b) r lt rooted known is_rest none_added =
        subst (λ z. Next n root hi origin (i + 1) false z (Some b)) (sym (append-nil news)) (stays_so news None (Some b) r known refl)
    next_starts false news second (Some q) best r lt rooted known is_rest none_added =
        subst (λ z. Next n root hi origin (i + 1) false z (Some (q, i))) (sym (append-nil news)) (stays_so news (Some q) best r known refl)

module _ (g : Setting) (ok : IsSetting g) (t : Text) (terminator : g.terminator ≡ t.terminator) (hi root : ℕ) (origin : List Pair) where
  last_here : (n m : Pair) → Stops g.places n → ¬ IsIn m (ways g.places t hi n)
  last_here = last g.places t hi None

  near_here : (n m : Pair) → IsIn m (ways g.places t hi n) → (m.1 ≡ n.1) ⊎ (m.1 ≡ n.1 + 1)
  near_here = near g.places t hi ok.by_bytes

  -- what the table's step reads is what stands there
  told_here : (i : ℕ) (s : State) (best : Option Pair) (far : Seen) → IsRacing g t hi root origin i s best →
      out_over g.places s.beside (sides_near g.needs g.terminator (after_at t i) far) ≡ out_here g.places g.needs ok.by_bytes ok.covers t i
  told_here i s best far u =
      ap₂ (λ x b. out_over g.places b (sides_near g.needs x (after_at t i) far)) terminator u.beside

  steps_here : (i : ℕ) (s s2 : State) (best : Option Pair) (far : Seen) (u : IsRacing g t hi root origin i s best) →
      (m : IsNextOfLongestOver g.places root s (sides_near g.needs g.terminator (after_at t i) far) s2) →
      GroupSteps (out_here g.places g.needs ok.by_bytes ok.covers t i) (is_match g.places) [] (full (held u.starts)) m.onward s2.matched
  steps_here i s s2 best far u m =
      subst (λ z. GroupSteps (out_here g.places g.needs ok.by_bytes ok.covers t i) (is_match g.places) [] z m.onward s2.matched)
      (ap (λ z. groups_of (length g.places) z) u.list ∙ groups_parted (length g.places) u.starts u.below)
      (subst (λ z. GroupSteps z (is_match g.places) [] (groups_of (length g.places) s.list) m.onward s2.matched) (told_here i s best far u) m.steps)

  -- before the first byte
  pub begins : (lo : ℕ) (anchored : Bool) (s : State) → root < length g.places →
      IsFirstBeside root (told_side g.needs g.terminator (before_at t lo)) anchored s → origin ≡ all_starts anchored root lo hi →
      IsRacing g t hi root origin lo s None
  begins lo anchored s rooted f e = record {
    starts = ((root, lo), root ∷ []) ∷ [];
    rest = later_starts s.goes_on root lo hi;
    all = e ∙ ap (λ b. (root, lo) ∷ later_starts b root lo hi) (sym f.goes_on);
    is_rest = refl;
    list = f.list;
    below = ((λ k h. ⊎_elim (λ q. subst (λ x. x < length g.places) q rooted) (λ never. absurd never) h), tt);
    carries = ((λ p le r x. x), tt);
    known = λ p l. none_back (ways g.places t hi) (Stops g.places) (up (ways g.places t hi) (Stops g.places) same_pair last_here near_here)
        p p [] (root, lo) (omega arith) (omega (arith, l));
    beside = f.beside ∙ ap (λ x. told_side g.needs x (before_at t lo)) terminator;
  }

  -- THE STEP
  pub goes : (i : ℕ) (s s2 : State) (best : Option Pair) → IsClosed g.places → root < length g.places → i < hi → IsInside t i hi →
      IsRacing g t hi root origin i s best → IsNextOfLongestOver g.places root s (sides_ahead g t i) s2 →
      IsRacing g t hi root origin (i + 1) s2 (best_at i s2.matched best)
  goes i s s2 best closed rooted lt inside u m =
      let high = inside.high in
      let bounded = inside.bounded in
      let out = out_here g.places g.needs ok.by_bytes ok.covers t i in
      let same = same_below g.places g.needs ok.by_bytes ok.covers t i hi lt high bounded in
      let under = out_under g.places closed (holds_by (told_side g.needs t.terminator (before_at t i)) (told_side g.needs t.terminator (after_at t i))) (byte_of (after_at t i)) in
      let parts = adds_parts m.onward m.once in
      let stepped = step_groups (ways g.places t hi) (Stops g.places) same_pair last_here near_here i out (is_match g.places) (λ q. refl) same (length g.places) under
      u.starts [] [] [] [] [] (nothing_yet (ways g.places t hi) (Stops g.places) last_here near_here i out (is_match g.places) (λ q. refl) same (length g.places) under)
      u.carries (steps_here i s s2 best (told_side g.needs g.terminator (before_at t (i + 1))) u m) parts.3 in
      let next = next_starts (ways g.places t hi) (Stops g.places) last_here near_here i out (is_match g.places) (λ q. refl) same (length g.places) under
      root hi origin u.starts u.rest u.all s.goes_on parts.0 parts.1 s2.matched best stepped lt rooted u.known u.is_rest
      (subst (λ b. AddsGroups (flat parts.0) (root_group b root) parts.1) m.goes_on parts.4) in
      record {
        starts = next.starts;
        rest = next.rest;
        all = next.all;
        is_rest = subst (λ b. IsRest b root (i + 1) hi next.rest (best_at i s2.matched best)) (sym m.goes_on) next.is_rest;
        list = m.list ∙ ap (λ z. parted (length g.places) z) parts.2 ∙ next.list;
        below = next.below;
        carries = next.carries;
        known = next.known;
        beside = m.beside ∙ ap (λ x. told_side g.needs x (before_at t (i + 1))) terminator;
      }

  no_later : (goes_on : Bool) → later_starts goes_on root hi hi ≡ []
  no_later true = let e : 0 ≡ hi - hi = omega arith in subst (λ n. starts root (hi + 1) n ≡ []) e refl
  no_later false = refl

  -- at the bound: the byte that stands behind it, if one does, is looked at, and not read
  pub ends : (s s2 : State) (best : Option Pair) (far : Seen) → IsRacing g t hi root origin hi s best →
      IsNextOfLongestOver g.places root s (sides_near g.needs g.terminator (after_at t hi) far) s2 → GivesLongest (ways g.places t hi) (Stops g.places) origin (best_at hi s2.matched best)
  ends s s2 best far u m =
      let out = out_here g.places g.needs ok.by_bytes ok.covers t hi in
      let same = same_at_end g.places g.needs ok.by_bytes ok.covers t hi in
      let b = bound_groups out (is_match g.places) (steps_here hi s s2 best far u m) in
      let under : (q : ℕ) → AreBelow 0 (read_by (still (out q))) = λ q k h. absurd (subst (λ z. HasPlace k z) (still_reads_nothing (out q)) h) in
      let stepped = step_groups (ways g.places t hi) (Stops g.places) same_pair last_here near_here hi (λ q. still (out q)) (is_match g.places) (λ q. refl) same 0 under
      u.starts [] [] [] [] [] (nothing_yet (ways g.places t hi) (Stops g.places) last_here near_here hi (λ q. still (out q)) (is_match g.places) (λ q. refl) same 0 under)
      u.carries b.1 b.2 in
      over_gives (ways g.places t hi) (Stops g.places) same_pair last_here near_here (hi + 1) stepped.starts (stepped.dropped ++ u.rest) origin (best_at hi s2.matched best)
      stepped.carries (stepped.same_places ∙ b.3)
      (known_after (ways g.places t hi) (Stops g.places) last_here near_here hi (λ q. still (out q)) (is_match g.places) (λ q. refl) same 0 under
      root hi origin u.starts u.rest u.all b.0 s2.matched best stepped u.known)
      (all_after (ways g.places t hi) (Stops g.places) last_here near_here hi (λ q. still (out q)) (is_match g.places) (λ q. refl) same 0 under
      root hi origin u.starts u.rest u.all b.0 s2.matched stepped)
      (no_rest s2.matched best stepped.starts stepped.dropped u.rest stepped.met_here u.is_rest)
    where
      no_rest : (matched : Option ℕ) (best : Option Pair) (starts : List Held) (dropped rest : List Pair) →
          MetHere (ways g.places t hi) (Stops g.places) same_pair last_here near_here hi
          (λ q. still (out_here g.places g.needs ok.by_bytes ok.covers t hi q)) (is_match g.places) (λ q. refl)
          (same_at_end g.places g.needs ok.by_bytes ok.covers t hi) 0
          (λ q k h. absurd (subst (λ z. HasPlace k z) (still_reads_nothing (out_here g.places g.needs ok.by_bytes ok.covers t hi q)) h))
          [] starts dropped matched → IsRest s.goes_on root hi hi rest best → best_at hi matched best ≡ None → dropped ++ rest ≡ []
      no_rest None None starts dropped rest h is_rest e = ap₂ (λ z w. z ++ w) h.0 (is_rest ∙ no_later s.goes_on)
      no_rest None (Some b) starts dropped rest h is_rest e = absurd (none-some b (sym e))
      no_rest (Some q) best starts dropped rest h is_rest e = let n : Pair = (q, hi) in absurd (none-some n (sym e))

  -- a state from which nothing goes on
  pub dies : (i : ℕ) (s : State) (best : Option Pair) → IsRacing g t hi root origin i s best → s.list ≡ [] → s.goes_on ≡ false →
      GivesLongest (ways g.places t hi) (Stops g.places) origin best
  dies i s best u empty done =
      over_gives (ways g.places t hi) (Stops g.places) same_pair last_here near_here i u.starts u.rest origin best u.carries
      (nothing_held (length g.places) (held u.starts) (sym u.list ∙ empty)) u.known u.all
      (no_rest best u.rest (subst (λ b. IsRest b root i hi u.rest best) done u.is_rest))
    where
      no_rest : (best : Option Pair) (rest : List Pair) → IsRest false root i hi rest best → best ≡ None → rest ≡ []
      no_rest None rest is_rest e = is_rest
      no_rest (Some b) rest is_rest e = absurd (none-some b (sym e))

  -- where nothing is under way but the place of the starts
  pub rests : (i : ℕ) (s : State) → IsRacing g t hi root origin i s None → s.list ≡ root ∷ [] → s.goes_on ≡ true → (r : Option Pair) →
      GivesLongest (ways g.places t hi) (Stops g.places) (all_starts false root i hi) r → GivesLongest (ways g.places t hi) (Stops g.places) origin r
  rests i s u one on r h =
      let later : u.rest ≡ later_starts true root i hi = subst (λ b. u.rest ≡ later_starts b root i hi) on u.is_rest in
      subst (λ z. GivesLongest (ways g.places t hi) (Stops g.places) z r) (ap (λ z. begun u.starts ++ z) (sym later) ∙ sym u.all)
      (rest_gives (ways g.places t hi) (Stops g.places) same_pair last_here near_here i root u.starts u.carries
      (one_held (length g.places) root (held u.starts) (sym u.list ∙ one)) u.known (later_starts true root i hi) r h)
