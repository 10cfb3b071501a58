-- What is met, whatever the kind, and whether or not the first that is met is enough.
use Rattle.std.proofs.Common.{◌≡◌, ℕ, ◌+◌, ◌-◌, ◌<◌, ◌≤◌, ◌↔◌, Bool, true, false, true≢false, IsTrue, List, length, Option, Some, None, inl, ⊎_elim, sym, subst, ap, ap₂, ◌∙◌, refl, arith, eq-eqb, eqb-true}
use Rattle.std.specs.Prelude.{slice_index}
use Rattle.std.proofs.lemmas.Bool.{cases_eq}
use Rattle.rc_text.specs.Found.{Found}
use Rattle.rc_text.specs.declared.types.MatchKind.{MatchKind}
use Rattle.rc_text.specs.declared.types.Anchored.{Anchored}
use Rattle.rc_text.specs.declared.types.Anchored.TheVariants.{No, Yes, Pattern}
use Rattle.rc_text.specs.Plain.{only_pattern, is_anchored as anchors}
use Rattle.rc_pattern.specs.Re.{Re}
use Rattle.rc_walks.specs.Walks.{Pair, IsIn}
use Rattle.rc_program.specs.Text.{Text}
use Rattle.rc_program.specs.Program.{Place, accept, place_at, ways, is_match_place, program, entry}
use Rattle.rc_program.specs.Answer.{Search, next_of, ends, only, answer, pattern_at}
use Rattle.rc_program.specs.Greatest.{IsSpelledIn, HasNoSpan, greatest}
use Rattle.rc_program.proofs.AnswerLemmas.{walk_ends, match_place_is}
use Rattle.rc_program.proofs.GreatestLemmas.{greatest_law, other_ends}
use Rattle.rc_utf8.specs.Bytes.{bytes_of}
use Rattle.rc_utf8.specs.Laws.{by_bytes}
use Rattle.rc_utf8.proofs.SpanLemmas.{same_spans}
use Rattle.rc_determinize.specs.Run.{Reaches, arrived, goes_on, IsGoal}
use Rattle.rc_determinize.specs.Sets.{Comes}
use Rattle.rc_determinize.specs.Sets as sets
use Rattle.rc_determinize.specs.States.{all_starts}
use Rattle.rc_determinize.specs.Spans.{IsSpelled}
use Rattle.rc_dfa.specs.Machine.{Machine, IsAsked}
use Rattle.rc_dfa.specs.Runs.{RunEnd, met_last, SearchEnds, SearchEndsDown}
use Rattle.rc_dfa.specs.Runs as runs
use Rattle.rc_dfa.specs.Laws.{starts_of}
use Rattle.rc_dfa.proofs.RunLemmas.{run_law}
use Rattle.rc_dfa.proofs.StartLemmas.{stop_no_met, starts_at, first_start, later_start, once_start, starts_within}
use Rattle.rc_dfa.proofs.MetLemmas.{end_met}
use Rattle.rc_dfa_search.specs.Machines.{entries_of, IsCase}
use Rattle.rc_dfa_search.specs.Laws.{pattern_met, met_from, MetLaw}
use Rattle.rc_dfa_search.proofs.CaseLemmas.{length-entries, entry_index, places_by_bytes, ahead_machine, ahead_direction, ahead_entries, ahead_terminator, back_machine, back_direction, back_terminator, case_closed, anchored_is, only_is}
use Rattle.rc_dfa_search.proofs.ReverseWays.{MayEnd, LeadsTo, walk_leads_from, leads_walk}
use Rattle.rc_dfa_search.proofs.ReverseRoots.{own, from_entry, spelled_onward}
use Rattle.rc_dfa_search.proofs.ReverseLemmas.{first_met, none_met}

-- WAYS

module _ (W : Pair → List Pair) (Goal : Pair → Type 0) (origin : List Pair) where
  -- where edges come and lead on, they lead from one of the first pairs
  comes_back : {n : Pair} → Comes W origin n → Reaches W Goal n → (m : Pair) × IsIn m origin × Reaches W Goal m
  comes_back (sets.begins n h) r = (n, h, r)
  comes_back (sets.goes n m c e) r = comes_back c (goes_on m n e r)

  comes_on : {n : Pair} → Comes W origin n → Reaches W Goal n → (m : Pair) × Comes W origin m × Goal m
  comes_on c (arrived n g) = (n, c, g)
  comes_on c (goes_on n m i more) = comes_on (sets.goes m n c i) more

-- what is met lies within the bound
met_within : (m : Machine) (t : Text) (hi from q e : ℕ) (anchored : Anchored) (earliest : Bool) (o : RunEnd) → SearchEnds m t hi from anchored earliest o →
    o ≡ met_last (Some (q, e)) → e ≤ hi
met_within m t hi from q e anchored earliest o (runs.ran first may begins ends) is =
    let w = end_met m t hi from first earliest o (q, e) ends is in w.within
met_within m t hi from q e anchored earliest o (runs.unread p one h) is = absurd (stop_no_met is)

-- the place is that of a pattern that is allowed
own_allowed : (p : ℕ) → IsTrue (is_match_place (Some p) (accept p))
own_allowed p = eq-eqb p p refl

module _ (hs : List Re) (m : Machine) (t : Text) (lo hi : ℕ) (ordered : lo ≤ hi) (rooted : m.entries ≡ entries_of hs) where
  abbrev B : List Place
  B = bytes_of (program hs)

  -- From where the search enters the program, a walk leads to the match place; so from the root, at a start of the search.
  record Enters (anchored : Anchored) (p e : ℕ) : Type 0 where
    start : ℕ
    low : lo ≤ start
    high : start ≤ hi
    anchored_at : anchors anchored ≡ true → start ≡ lo
    allowed : IsTrue (is_match_place (only_pattern anchored) (accept p))
    leads : LeadsTo B t hi (Some p) e (0, start)

  by_root : (once : Bool) (p e : ℕ) (n : Pair) → IsIn n (all_starts once 0 lo hi) → LeadsTo B t hi (Some p) e n →
      (lo ≤ n.1) × (n.1 ≤ hi) × LeadsTo B t hi (Some p) e (0, n.1)
  by_root once p e n i r =
      let at = starts_at once 0 lo hi n.0 n.1 i in
      (at.1, starts_within once 0 lo hi ordered n i, subst (λ q. LeadsTo B t hi (Some p) e (q, n.1)) at.0 r)

  entered : (anchored : Anchored) (p e : ℕ) (n : Pair) → IsAsked m anchored → IsIn n (starts_of m anchored lo hi) → LeadsTo B t hi (Some p) e n → Enters anchored p e
  entered No p e n asked i r =
      let b = by_root false p e n i r in
      record { start = n.1; low = b.0; high = b.1; anchored_at = λ h. absurd (true≢false (sym h)); allowed = refl; leads = b.2 }
  entered Yes p e n asked i r =
      let b = by_root true p e n i r in
      record { start = n.1; low = b.0; high = b.1; anchored_at = λ h. once_start true 0 lo hi n.0 n.1 refl i; allowed = refl; leads = b.2 }
  entered (Pattern k) p e n asked i r =
      let below : k < length hs = subst (λ l. k < l) (ap length rooted ∙ length-entries 0 hs) asked in
      let at : (slice_index m.entries k, lo) ≡ n = ⊎_elim (λ h. h) (λ never. absurd never) i in
      let root : slice_index m.entries k ≡ entry hs k = ap (λ es. slice_index es k) rooted ∙ entry_index hs k below in
      let from : LeadsTo B t hi (Some p) e (entry hs k, lo) =
      subst (λ q. LeadsTo B t hi (Some p) e (q, lo)) root (subst (λ x. LeadsTo B t hi (Some p) e x) (sym at) r) in
      let same : p ≡ k = own hs t hi k lo p e below from in
      record {
        start = lo;
        low = omega arith;
        high = ordered;
        anchored_at = λ h. refl;
        allowed = subst (λ z. IsTrue (is_match_place (Some z) (accept p))) same (own_allowed p);
        leads = (from_entry hs t hi p lo e).1
            (subst (λ z. z < length hs) (sym same) below, subst (λ z. LeadsTo B t hi (Some p) e (entry hs z, lo)) (sym same) from);
      }

  at_start : (x : ℕ) → lo ≤ x → x ≤ hi → IsIn (0, x) (all_starts false 0 lo hi)
  at_start x low high =
      ⊎_elim (λ e. subst (λ y. IsIn (0, y) (all_starts false 0 lo hi)) e (first_start false 0 lo hi 0 refl))
      (λ ne. let one : x - 1 + 1 ≡ x = omega (arith, low, ne) in
      subst (λ y. IsIn (0, y) (all_starts false 0 lo hi)) one
      (later_start false 0 lo hi (x - 1) 0 (omega (arith, low, ne)) (omega (arith, low, high, ne)) refl refl))
      (cases_eq lo x)

  -- and the other way round
  leaves : (anchored : Anchored) (p e : ℕ) → Enters anchored p e → (n : Pair) × IsIn n (starts_of m anchored lo hi) × LeadsTo B t hi (Some p) e n
  leaves No p e h = ((0, h.start), at_start h.start h.low h.high, h.leads)
  leaves Yes p e h =
      let at = h.anchored_at refl in
      ((0, h.start), subst (λ y. IsIn (0, y) (all_starts true 0 lo hi)) (sym at) (first_start true 0 lo hi 0 refl), h.leads)
  leaves (Pattern k) p e h =
      let at = h.anchored_at refl in
      let same : p ≡ k = eqb-true p k h.allowed in
      let r = (from_entry hs t hi p h.start e).0 h.leads in
      let root : entry hs p ≡ slice_index m.entries k =
      sym (entry_index hs p r.0) ∙ ap₂ (λ es j. slice_index es j) (sym rooted) same in (
        (entry hs p, h.start),
        inl (sym (ap₂ (λ q y. (q, y)) root at)),
        r.1,
      )

-- SPANS

module _ (hs : List Re) (kind : MatchKind) (m n : Machine) (anchored : Anchored) (s : Search) (c : IsCase hs kind m n anchored s) where
  places_of : m.setting.places ≡ bytes_of (program hs)
  places_of = let k = c.machines in ap (λ (x : Machine). x.setting.places) k.ahead

  abbrev EntersHere : ℕ → ℕ → Type 0
  EntersHere p e = Enters hs m s.text s.lo s.hi c.ordered (ahead_entries c) anchored p e

  -- what is entered so is spelled, and what is spelled is entered so
  spells : (p e : ℕ) → (h : EntersHere p e) → IsSpelledIn s (record { pattern = p; start = h.start; end = e })
  spells p e h =
      let over = bytes_of s.places in
      let found : Found = record { pattern = p; start = h.start; end = e } in
      let w = leads_walk over s.text s.hi (places_by_bytes s.places) p e (0, h.start)
      (subst (λ ps. LeadsTo (bytes_of ps) s.text s.hi (Some p) e (0, h.start)) (sym c.places) h.leads) in
      let may = subst (λ (o : Option ℕ). IsTrue (is_match_place o (accept p))) (sym (only_is c)) h.allowed in
      (same_spans s found (case_closed c)).0 (record {
        is_start = (h.low, h.high, λ a. h.anchored_at (sym (anchored_is c) ∙ a));
        walk = w.0;
        is_walk = other_ends (next_of (by_bytes s)) (MayEnd over (Some p)) (λ k. IsTrue (ends (by_bytes s) k)) w.1
            (subst (λ q. IsTrue (is_match_place (only s.anchoring) q)) (sym w.2) may);
        pattern = w.2;
        position = w.3;
      })

  spelled_enters : (f : Found) → IsSpelledIn s f → EntersHere f.pattern f.end
  spelled_enters f spelled =
      let over = bytes_of s.places in
      let p = f.pattern in
      let h = (same_spans s f (case_closed c)).1 spelled in
      let may = subst (λ q. IsTrue (is_match_place (only s.anchoring) q)) h.pattern (walk_ends (next_of (by_bytes s)) (λ k. IsTrue (ends (by_bytes s) k)) h.is_walk) in
      let walk = other_ends (next_of (by_bytes s)) (λ k. IsTrue (ends (by_bytes s) k)) (MayEnd over (Some p)) h.is_walk
      (subst (λ q. IsTrue (is_match_place (Some p) q)) (sym h.pattern) (own_allowed p)) in
      let start = h.is_start in
      record {
        start = f.start;
        low = start.0;
        high = start.1;
        anchored_at = λ a. start.2 (anchored_is c ∙ a);
        allowed = subst (λ (o : Option ℕ). IsTrue (is_match_place o (accept p))) (only_is c) may;
        leads = subst (λ ps. LeadsTo (bytes_of ps) s.text s.hi (Some p) f.end (0, f.start)) c.places
            (walk_leads_from over s.text s.hi (MayEnd over (Some p)) (0, f.start) h.walk f.end walk h.position);
      }

  -- FORWARDS

  ends_here : (earliest : Bool) (q e : ℕ) → SearchEnds m s.text s.hi s.lo anchored earliest (met_last (Some (q, e))) → EntersHere (pattern_met m q) e
  ends_here earliest q e run =
      let met = run_law.met kind m s.text s.hi s.lo anchored earliest (q, e) (ahead_machine c) (ahead_direction c) (ahead_terminator c) c.inside run in
      let p = pattern_met m q in
      let places = m.setting.places in
      let is = match_place_is None (place_at places q) met.1 in
      let there : IsGoal (MayEnd places (Some p)) e (q, e) = (subst (λ z. IsTrue (is_match_place (Some p) z)) (sym is) (own_allowed p), refl) in
      let back = comes_back (ways places s.text s.hi) (IsGoal (MayEnd places (Some p)) e) (starts_of m anchored s.lo s.hi) met.0 (arrived (q, e) there) in
      entered hs m s.text s.lo s.hi c.ordered (ahead_entries c) anchored p e back.0 c.asked back.1
      (subst (λ ps. LeadsTo ps s.text s.hi (Some p) e back.0) places_of back.2)

  ends_so : (earliest : Bool) (q e : ℕ) → SearchEnds m s.text s.hi s.lo anchored earliest (met_last (Some (q, e))) →
      (x : ℕ) × IsSpelledIn s (met_from m q x e) × (anchors anchored ≡ true → x ≡ s.lo)
  ends_so earliest q e run =
      let h = ends_here earliest q e run in (h.start, spells (pattern_met m q) e h, h.anchored_at)

  no_span : (earliest : Bool) → SearchEnds m s.text s.hi s.lo anchored earliest (met_last None) → HasNoSpan s
  no_span earliest run f spelled =
      let places = m.setting.places in
      let h = spelled_enters f spelled in
      let l = leaves hs m s.text s.lo s.hi c.ordered (ahead_entries c) anchored f.pattern f.end h in
      let on = comes_on (ways places s.text s.hi) (IsGoal (MayEnd places (Some f.pattern)) f.end) (starts_of m anchored s.lo s.hi) (sets.begins l.0 l.1)
      (subst (λ ps. LeadsTo ps s.text s.hi (Some f.pattern) f.end l.0) (sym places_of) l.2) in
      run_law.none kind m s.text s.hi s.lo anchored earliest (ahead_machine c) (ahead_direction c) (ahead_terminator c) c.inside run on.0 on.1
      (ap (is_match_place None) (match_place_is (Some f.pattern) (place_at places on.0.0) on.2.0))

  none_so : (earliest : Bool) → SearchEnds m s.text s.hi s.lo anchored earliest (met_last None) → HasNoSpan s × (answer s ≡ None) × (greatest s ≡ None)
  none_so earliest run =
      let none = no_span earliest run in
      (none, no_answer (answer s) refl none, (greatest_law.none s).1 none)
    where
      no_answer : (o : Option Found) → answer s ≡ o → HasNoSpan s → answer s ≡ None
      no_answer None e none = e
      no_answer (Some f) e none = absurd (none f (greatest_law.answer_spelled s f e))

  -- where walks come to a match place
  walks_spell : (p e : ℕ) →
      ((q : ℕ) × Comes (ways m.setting.places s.text s.hi) (starts_of m anchored s.lo s.hi) (q, e) × (place_at m.setting.places q ≡ accept p))
      ↔ ((x : ℕ) × IsSpelledIn s (record { pattern = p; start = x; end = e }))
  walks_spell p e = (
    (λ h. let places = m.setting.places in
        let there : IsGoal (MayEnd places (Some p)) e (h.0, e) = (subst (λ z. IsTrue (is_match_place (Some p) z)) (sym h.2) (own_allowed p), refl) in
        let back = comes_back (ways places s.text s.hi) (IsGoal (MayEnd places (Some p)) e) (starts_of m anchored s.lo s.hi) h.1 (arrived (h.0, e) there) in
        let enters = entered hs m s.text s.lo s.hi c.ordered (ahead_entries c) anchored p e back.0 c.asked back.1
        (subst (λ ps. LeadsTo ps s.text s.hi (Some p) e back.0) places_of back.2) in
        (enters.start, spells p e enters)),
    (λ h. let places = m.setting.places in
        let f : Found = record { pattern = p; start = h.0; end = e } in
        let l = leaves hs m s.text s.lo s.hi c.ordered (ahead_entries c) anchored p e (spelled_enters f h.1) in
        let on = comes_on (ways places s.text s.hi) (IsGoal (MayEnd places (Some p)) e) (starts_of m anchored s.lo s.hi) (sets.begins l.0 l.1)
        (subst (λ ps. LeadsTo ps s.text s.hi (Some p) e l.0) (sym places_of) l.2) in
        let place = place_at places on.0.0 in
        let is = match_place_is (Some p) place on.2.0 in
        let own : pattern_at place ≡ p = eqb-true (pattern_at place) p (subst (λ z. IsTrue (is_match_place (Some p) z)) is on.2.0) in (
          on.0.0,
          subst (λ y. Comes (ways places s.text s.hi) (starts_of m anchored s.lo s.hi) (on.0.0, y)) on.2.1 on.1,
          is ∙ ap (λ k. accept k) own,
        )),
  )

  -- BACKWARDS

  starts_so : (earliest early : Bool) (q e x k : ℕ) → anchors anchored ≡ false → SearchEnds m s.text s.hi s.lo anchored earliest (met_last (Some (q, e))) →
      SearchEndsDown n s.text s.lo e anchored early (met_last (Some (x, k))) → IsSpelledIn s (record { pattern = k; start = x; end = e })
  starts_so earliest early q e x k free run down =
      let le = met_within m s.text s.hi s.lo q e anchored earliest (met_last (Some (q, e))) run refl in
      let l = run_law.met_down n s.text s.hi s.lo e anchored early x k (back_machine c) (back_direction c) (back_terminator c) c.inside le down in
      let high = l.1 in
      let h = (first_met hs kind m n anchored s c k x e (omega (arith, le, high)) l.2).0 in
      record {
        is_start = (l.0, omega (arith, le, high), λ a. absurd (true≢false (sym a ∙ anchored_is c ∙ free)));
        walk = h.0;
        is_walk = h.1;
        pattern = h.2;
        position = h.3;
      }

  some_start_so : (earliest early : Bool) (q e : ℕ) → SearchEnds m s.text s.hi s.lo anchored earliest (met_last (Some (q, e))) →
      ¬ SearchEndsDown n s.text s.lo e anchored early (met_last None)
  some_start_so earliest early q e run down =
      let le = met_within m s.text s.hi s.lo q e anchored earliest (met_last (Some (q, e))) run refl in
      let h = ends_so earliest q e run in
      let x = h.0 in
      let sp = h.1 in
      let l = run_law.none_down n s.text s.hi s.lo e anchored early (back_machine c) (back_direction c) (back_terminator c) c.inside le down in
      let span : IsSpelled s (pattern_met m q) x e = (sp.walk, sp.is_walk, sp.pattern, sp.position) in
      let start = sp.is_start in
      none_met hs kind m n anchored s c x e start.1 (l x start.0 (spelled_onward s (pattern_met m q) x e span)) (pattern_met m q) span

-- a span of the one pattern that is asked for is one from its entry
pub leads_entry : (hs : List Re) (kind : MatchKind) (m n : Machine) (p : ℕ) (s : Search) → IsCase hs kind m n (Pattern p) s → (f : Found) → IsSpelledIn s f →
    LeadsTo m.setting.places s.text s.hi (Some f.pattern) f.end (slice_index m.entries p, s.lo)
leads_entry hs kind m n p s c f spelled =
    let l = leaves hs m s.text s.lo s.hi c.ordered (ahead_entries c) (Pattern p) f.pattern f.end (spelled_enters hs kind m n (Pattern p) s c f spelled) in
    let at : (slice_index m.entries p, s.lo) ≡ l.0 = ⊎_elim (λ h. h) (λ never. absurd never) l.1 in
    subst (λ ps. LeadsTo ps s.text s.hi (Some f.pattern) f.end (slice_index m.entries p, s.lo)) (sym (places_of hs kind m n (Pattern p) s c))
    (subst (λ k. LeadsTo (bytes_of (program hs)) s.text s.hi (Some f.pattern) f.end k) (sym at) l.2)

pub met_law : MetLaw
met_law = record {
  ends = λ hs kind m n anchored s earliest q e c run. ends_so hs kind m n anchored s c earliest q e run;
  starts = λ hs kind m n anchored s earliest early q e x k c free run down. starts_so hs kind m n anchored s c earliest early q e x k free run down;
  some_start = λ hs kind m n anchored s earliest early q e c run down. some_start_so hs kind m n anchored s c earliest early q e run down;
  comes = λ hs kind m n anchored s p e c. walks_spell hs kind m n anchored s c p e;
  none = λ hs kind m n anchored s earliest c run. none_so hs kind m n anchored s c earliest run;
}
