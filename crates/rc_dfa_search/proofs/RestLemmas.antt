-- Runs that rest, and what the starts give from where they are taken up anew.
use Rattle.std.proofs.Common.{◌≡◌, ℕ, zero, suc, ◌+◌, ◌-◌, ◌*◌, ◌<◌, ◌≤◌, Bool, true, false, true≢false, ◌&&◌, List, [], ◌∷◌, ◌++◌, length, Option, Some, None, inl, inr, sym, subst, ap, refl, arith, IsTrue}
use Rattle.std.specs.Option.{option_map, option_or}
use Rattle.std.proofs.lemmas.Bool.{eqb-true}
use Rattle.std.proofs.lemmas.Option.{none-some}
use Rattle.rc_text.specs.declared.types.MatchKind.{MatchKind}
use Rattle.rc_text.specs.declared.types.MatchKind.TheVariants.{All as all_matches, LeftmostFirst as leftmost_first, LeftmostLongest as leftmost_longest}
use Rattle.rc_text.specs.declared.types.Anchored.{Anchored}
use Rattle.rc_text.specs.declared.types.Anchored.TheVariants.{No}
use Rattle.rc_pattern.specs.Re.{Re}
use Rattle.rc_walks.specs.Walks.{Pair, IsWalk, stops, goes, HasNoWalk}
use Rattle.rc_walks.specs.Tries.{walk_by}
use Rattle.rc_walks.proofs.WalkLemmas.{drop_way, first_after}
use Rattle.rc_walks.proofs.TryLemmas.{Finds, walk_by_finds}
use Rattle.rc_program.specs.Text.{Text}
use Rattle.rc_program.specs.Program.{place_at, ways, is_match_place}
use Rattle.rc_program.specs.Answer.{Search, HasNoWalkFrom, next_of, ends, last_of}
use Rattle.rc_program.specs.Laws.{IsClosed}
use Rattle.rc_program.proofs.WayLemmas.{same_pair}
use Rattle.rc_program.proofs.PlaceLemmas.{program_some}
use Rattle.rc_program.proofs.AnswerLemmas.{last_pair, is_bounded}
use Rattle.rc_utf8.specs.Bytes.{bytes_of}
use Rattle.rc_utf8.specs.Laws.{by_bytes}
use Rattle.rc_utf8.proofs.AnswerLemmas.{same_from}
use Rattle.rc_determinize.specs.Gives.{Gives, starts}
use Rattle.rc_determinize.specs.States.{Setting, IsSetting, State, IsInside, IsUnderWay, Stops, all_starts, later_starts}
use Rattle.rc_determinize.specs.Steps.{at}
use Rattle.rc_determinize.specs.LongestLaws.{IsRacing, GivesLongest}
use Rattle.rc_determinize.proofs.LawLemmas.{forward_law}
use Rattle.rc_determinize.proofs.LongestStepLemmas.{longest_forward_law}
use Rattle.rc_dfa.specs.Machine.{Alphabet, Machine, IsMachine, forwards, is_root_alone}
use Rattle.rc_dfa.specs.Runs.{RunEnd, met_last, stopped_at, idle_at, Runs, begun, goes_on, EndsSo, at_bound, dead, early, quit, rests, SearchEnds, ran, unread}
use Rattle.rc_dfa.proofs.AlphabetLemmas.{across_ahead, begins_ahead}
use Rattle.rc_dfa.proofs.LongestRunLemmas as longest
use Rattle.rc_dfa_search.specs.Leftmost.{IsLeftmost, GivesBy}
use Rattle.rc_dfa_search.specs.Machines.{IsCase}
use Rattle.rc_dfa_search.specs.Rests.{StartsGive, HasNoWalkBetween, GivesToo, RestLaw, GivenLaw}
use Rattle.rc_dfa_search.proofs.CaseLemmas.{ahead_machine, ahead_direction, ahead_places, ahead_terminator, case_closed, only_is, starts_are}
use Rattle.rc_dfa_search.proofs.FirstLemmas.{inside_from}
use Rattle.rc_dfa_search.proofs.LeftmostLemmas as leftmost
use Rattle.rc_dfa_search.proofs.LeftmostLemmas.{run_gives}

-- HOW RUNS REST

-- where a search rested
abbrev rest_of : RunEnd → Option ℕ
rest_of (met_last met) = None
rest_of (stopped_at p) = None
rest_of (idle_at i) = Some i

abbrev has_met : RunEnd → Bool
has_met (met_last met) = true
has_met (stopped_at p) = false
has_met (idle_at i) = false

abbrev has_stopped : RunEnd → Bool
has_stopped (met_last met) = false
has_stopped (stopped_at p) = true
has_stopped (idle_at i) = false

same_rest : {i j : ℕ} → idle_at i ≡ idle_at j → i ≡ j
same_rest {i} e = ap (λ (o : Option ℕ). or_zero o) (ap rest_of e)
  where
    or_zero : Option ℕ → ℕ
    or_zero None = 0
    or_zero (Some k) = k

both : (a b : Bool) → (a && b) ≡ true → (a ≡ true) × (b ≡ true)
both true true e = (refl, refl)
both true false e = absurd (true≢false (sym e))
both false b e = absurd (true≢false (sym e))

-- an idle state has the root alone, and starts go on
root_alone : (list : List ℕ) → is_root_alone list ≡ true → list ≡ 0 ∷ []
root_alone [] e = absurd (true≢false (sym e))
root_alone (q ∷ []) e = ap (λ k. k ∷ []) (eqb-true q 0 e)
root_alone (q ∷ p ∷ qs) e = absurd (true≢false (sym e))

runs_low : (m : Machine) (t : Text) (hi from : ℕ) (first : State) {i : ℕ} {s : State} {met : Option Pair} → Runs m t hi from first i s met → from ≤ i
runs_low m t hi from first begun = omega arith
runs_low m t hi from first (goes_on i s next r lt may step) = let low = runs_low m t hi from first r in omega (arith, low)

-- a search rests between where it begins and its bound
end_between : (m : Machine) (t : Text) (hi from : ℕ) (first : State) (earliest : Bool) (e : RunEnd) (i : ℕ) → EndsSo m t hi from first earliest e → e ≡ idle_at i →
    (from ≤ i) × (i ≤ hi)
end_between m t hi from first earliest e i (at_bound s next runs may step) is = absurd (true≢false (ap has_met is))
end_between m t hi from first earliest e i (dead k s runs d) is = absurd (true≢false (ap has_met is))
end_between m t hi from first earliest e i (early k s t2 runs) is = absurd (true≢false (ap has_met is))
end_between m t hi from first earliest e i (quit k s runs le may) is = absurd (true≢false (ap has_stopped is))
end_between m t hi from first earliest e i (rests k s runs le idle) is =
    let low = runs_low m t hi from first runs in let j = same_rest is in (omega (arith, low, j), omega (arith, le, j))

pub rests_between : (m : Machine) (t : Text) (hi from : ℕ) (anchored : Anchored) (earliest : Bool) (e : RunEnd) (i : ℕ) →
    SearchEnds m t hi from anchored earliest e → e ≡ idle_at i → (from ≤ i) × (i ≤ hi)
rests_between m t hi from anchored earliest e i (ran first may begins so) is = end_between m t hi from first earliest e i so is
rests_between m t hi from anchored earliest e i (unread p q may) is = absurd (true≢false (ap has_stopped is))

-- forwards, for the preferred match
abbrev ahead_by : Alphabet → Setting → List ℕ → Machine
ahead_by a g entries = record { setting = g; entries = entries; direction = forwards leftmost_first; alphabet = a }

module _ (a : Alphabet) (g : Setting) (entries : List ℕ) (ok : IsSetting g) (t : Text) (same : g.terminator ≡ t.terminator) (hi from : ℕ) (inside : IsInside t from hi)
    (origin : List Pair) (first : State) (u : IsUnderWay g t hi 0 origin from first None) where
  runs_on : {i : ℕ} {s : State} {met : Option Pair} → Runs (ahead_by a g entries) t hi from first i s met → (from ≤ i) × IsUnderWay g t hi 0 origin i s met
  runs_on begun = (omega arith, u)
  runs_on (goes_on {met} i s next r lt may step) =
      let h = runs_on r in
      let low = h.0 in
      let here : IsInside t i hi = record { low = let l = inside.low in omega (arith, l, low); high = inside.high; bounded = inside.bounded } in
      (omega (arith, low), forward_law.goes_over g t hi 0 origin i s next met ok same lt here h.1 (across_ahead a (ahead_by a g entries) t hi i lt here may s next step))

  -- what the starts from where it rests on give, the first starts give
  rests_carry : (earliest : Bool) (e : RunEnd) (i : ℕ) → EndsSo (ahead_by a g entries) t hi from first earliest e → e ≡ idle_at i →
      (from ≤ i) × (i ≤ hi) × ((r : Option Pair) → Gives (ways g.places t hi) (Stops g.places) [] (all_starts false 0 i hi) r →
      Gives (ways g.places t hi) (Stops g.places) [] origin r)
  rests_carry earliest e i (at_bound s next runs may step) is = absurd (true≢false (ap has_met is))
  rests_carry earliest e i (dead k s runs d) is = absurd (true≢false (ap has_met is))
  rests_carry earliest e i (early k s t2 runs) is = absurd (true≢false (ap has_met is))
  rests_carry earliest e i (quit k s runs le may) is = absurd (true≢false (ap has_stopped is))
  rests_carry earliest e i (rests k s runs le idle) is =
      let h = runs_on runs in
      let u = h.1 in
      let low = h.0 in
      let j = same_rest is in
      let list = root_alone s.list (both (is_root_alone s.list) s.goes_on idle).0 in
      let on = (both (is_root_alone s.list) s.goes_on idle).1 in (
        omega (arith, low, j),
        omega (arith, le, j),
        λ r gives. or_none r (u.carries r
            (subst (λ l. Gives (ways g.places t hi) (Stops g.places) [] (at k l ++ later_starts s.goes_on 0 k hi) r) (sym list)
            (subst (λ b. Gives (ways g.places t hi) (Stops g.places) [] ((0, k) ∷ later_starts b 0 k hi) r) (sym on)
            (subst (λ x. Gives (ways g.places t hi) (Stops g.places) [] ((0, x) ∷ later_starts true 0 x hi) r) (sym j) gives)))),
      )
    where
      or_none : (r : Option Pair) → Gives (ways g.places t hi) (Stops g.places) [] origin (option_or r None) →
          Gives (ways g.places t hi) (Stops g.places) [] origin r
      or_none None h = h
      or_none (Some x) h = h

rests_run : (a : Alphabet) (g : Setting) (entries : List ℕ) → IsSetting g → (t : Text) → g.terminator ≡ t.terminator → (hi from : ℕ) → IsInside t from hi →
    (earliest : Bool) (e : RunEnd) (i : ℕ) → SearchEnds (ahead_by a g entries) t hi from No earliest e → e ≡ idle_at i →
    (from ≤ i) × (i ≤ hi) × ((r : Option Pair) → Gives (ways g.places t hi) (Stops g.places) [] (all_starts false 0 i hi) r →
    Gives (ways g.places t hi) (Stops g.places) [] (all_starts false 0 from hi) r)
rests_run a g entries ok t same hi from inside earliest e i (ran first may begins so) is =
    rests_carry a g entries ok t same hi from inside (all_starts false 0 from hi) first
    (forward_law.begins_beside g t hi 0 from false first ok same (begins_ahead a (ahead_by a g entries) No t from first may begins))
    earliest e i so is
rests_run a g entries ok t same hi from inside earliest e i (unread p q may) is = absurd (true≢false (ap has_stopped is))

-- and for the longest
module _ (a : Alphabet) (g : Setting) (entries : List ℕ)
    (k : IsMachine (record { setting = g; entries = entries; direction = forwards leftmost_longest; alphabet = a })) (t : Text)
    (same : g.terminator ≡ t.terminator) (hi from : ℕ) (inside : IsInside t from hi) where
  abbrev longest_by : Machine
  longest_by = record { setting = g; entries = entries; direction = forwards leftmost_longest; alphabet = a }

  longest_carry : (first : State) → IsRacing g t hi 0 (all_starts false 0 from hi) from first None → (earliest : Bool) (e : RunEnd) (i : ℕ) →
      EndsSo longest_by t hi from first earliest e → e ≡ idle_at i → (r : Option Pair) →
      GivesLongest (ways g.places t hi) (Stops g.places) (all_starts false 0 i hi) r →
      GivesLongest (ways g.places t hi) (Stops g.places) (all_starts false 0 from hi) r
  longest_carry first u earliest e i (at_bound s next runs may step) is = absurd (true≢false (ap has_met is))
  longest_carry first u earliest e i (dead j s runs d) is = absurd (true≢false (ap has_met is))
  longest_carry first u earliest e i (early j s t2 runs) is = absurd (true≢false (ap has_met is))
  longest_carry first u earliest e i (quit j s runs le may) is = absurd (true≢false (ap has_stopped is))
  longest_carry first u earliest e i (rests j s runs le idle) is = λ r gives.
      let h = longest.runs_on a g entries k.setting k.closed t same hi from 0 k.rooted inside (all_starts false 0 from hi) first u (inl refl) runs in
      let idles = both (is_root_alone s.list) s.goes_on idle in
      longest_forward_law.rests g t hi 0 (all_starts false 0 from hi) j s k.setting same h.1 (root_alone s.list idles.0) idles.1 r
      (subst (λ x. GivesLongest (ways g.places t hi) (Stops g.places) (all_starts false 0 x hi) r) (sym (same_rest is)) gives)

  rests_longest : (earliest : Bool) (e : RunEnd) (i : ℕ) → SearchEnds longest_by t hi from No earliest e → e ≡ idle_at i → (r : Option Pair) →
      GivesLongest (ways g.places t hi) (Stops g.places) (all_starts false 0 i hi) r →
      GivesLongest (ways g.places t hi) (Stops g.places) (all_starts false 0 from hi) r
  rests_longest earliest e i (ran first may begins so) is =
      longest_carry first (longest_forward_law.begins_beside g t hi 0 from false first k.setting k.rooted same (begins_ahead a longest_by No t from first may begins)) earliest e i so is
  rests_longest earliest e i (unread p q may) is = absurd (true≢false (ap has_stopped is))

-- STARTS WITHOUT A WALK

module _ (W : Pair → List Pair) (E : Pair → Type 0) where
  drop_start : (kind : MatchKind) → IsLeftmost kind → (n : Pair) (f : List Pair) (r : Option Pair) → HasNoWalk W E [] (n ∷ []) → GivesBy kind W E f r →
      GivesBy kind W E (n ∷ f) r
  drop_start all_matches left n f r none g = absurd left
  drop_start leftmost_first left n f None none g = λ v walk. g v (drop_way W E n none walk)
  drop_start leftmost_first left n f (Some e) none g = (g.0, first_after W E n none g.1, g.2)
  drop_start leftmost_longest left n f None none g = λ v walk. g v (drop_way W E n none walk)
  drop_start leftmost_longest left n f (Some e) none g = inr (none, g)

  no_starts : {v : List Pair} → ¬ IsWalk W E [] [] v
  no_starts (stops k here fresh ends) = here
  no_starts (goes k here fresh more) = here

  none_given : (kind : MatchKind) → IsLeftmost kind → GivesBy kind W E [] None
  none_given all_matches left = absurd left
  none_given leftmost_first left = λ v walk. no_starts walk
  none_given leftmost_longest left = λ v walk. no_starts walk

module _ (kind : MatchKind) (left : IsLeftmost kind) (W : Pair → List Pair) (E : Pair → Type 0) where
  drop_starts : (x count more : ℕ) (r : Option Pair) → ((z : ℕ) → x ≤ z → z < x + count → HasNoWalk W E [] ((0, z) ∷ [])) →
      GivesBy kind W E (starts 0 (x + count) more) r → GivesBy kind W E (starts 0 x (count + more)) r
  drop_starts x zero more r none g =
      let a : x + 0 ≡ x = omega arith in let b : 0 + more ≡ more = omega arith in
      subst (λ k. GivesBy kind W E (starts 0 x k) r) (sym b) (subst (λ y. GivesBy kind W E (starts 0 y more) r) a g)
  drop_starts x (suc count) more r none g =
      let a : x + suc count ≡ x + 1 + count = omega arith in let b : suc count + more ≡ suc (count + more) = omega arith in
      subst (λ k. GivesBy kind W E (starts 0 x k) r) (sym b)
      (drop_start W E kind left (0, x) (starts 0 (x + 1) (count + more)) r (none x (omega arith) (omega arith))
      (drop_starts (x + 1) count more r (λ z low lt. none z (omega (arith, low)) (omega (arith, lt)))
      (subst (λ y. GivesBy kind W E (starts 0 y more) r) a g)))

  -- all starts from i on, where those before x have no walk
  pub jumps_over : (i x hi : ℕ) (r : Option Pair) → i ≤ x → x ≤ hi → ((z : ℕ) → i ≤ z → z < x → HasNoWalk W E [] ((0, z) ∷ [])) →
      GivesBy kind W E (all_starts false 0 x hi) r → GivesBy kind W E (all_starts false 0 i hi) r
  jumps_over i x hi r low high none g =
      let at : i + (x - i) ≡ x = omega (arith, low) in
      let count : (x - i) + suc (hi - x) ≡ suc (hi - i) = omega (arith, low, high) in
      subst (λ k. GivesBy kind W E (starts 0 i k) r) count
      (drop_starts i (x - i) (suc (hi - x)) r (λ z a b. none z a (omega (arith, b, low)))
      (subst (λ y. GivesBy kind W E (starts 0 y (suc (hi - x))) r) (sym at) g))

  pub jumps_out : (i hi : ℕ) → i ≤ hi → ((z : ℕ) → i ≤ z → z < hi + 1 → HasNoWalk W E [] ((0, z) ∷ [])) → GivesBy kind W E (all_starts false 0 i hi) None
  jumps_out i hi low none =
      let count : suc (hi - i) + 0 ≡ suc (hi - i) = omega arith in
      subst (λ k. GivesBy kind W E (starts 0 i k) None) count
      (drop_starts i (suc (hi - i)) 0 None (λ z a b. none z a (omega (arith, b, low))) (none_given W E kind left))

-- OVER THE BYTE PROGRAM

pub same_none : (W V : Pair → List Pair) (E F : Pair → Type 0) (f : List Pair) (o q : Option (List Pair)) → Finds W E [] f o → Finds V F [] f q →
    option_map last_of o ≡ option_map last_of q → HasNoWalk V F [] f → HasNoWalk W E [] f
same_none W V E F f None q a b e none = a
same_none W V E F f (Some w) None a b e none = absurd (none-some (last_of w) (sym e))
same_none W V E F f (Some w) (Some v) a b e none = absurd (none v b.is_walk)

-- where no walk of the program begins, none of the byte program does
pub no_walk_over : (s : Search) → IsClosed s.places → 0 < length s.places → (x : ℕ) → x ≤ s.hi → HasNoWalkFrom s x → HasNoWalkFrom (by_bytes s) x
no_walk_over s closed some x le none =
    let B = by_bytes s in
    same_none (next_of B) (next_of s) (λ n. IsTrue (ends B n)) (λ n. IsTrue (ends s n)) ((0, x) ∷ [])
    (walk_by (next_of B) (ends B) (length (bytes_of s.places) * (s.hi + 1)) [] (0, x))
    (walk_by (next_of s) (ends s) (length s.places * (s.hi + 1)) [] (0, x))
    (walk_by_finds (next_of B) (ends B) same_pair (last_pair B) (length (bytes_of s.places)) (s.hi + 1) (is_bounded B)
    (length (bytes_of s.places) * (s.hi + 1)) [] (0, x) (omega arith) tt tt (omega (arith, le)))
    (walk_by_finds (next_of s) (ends s) same_pair (last_pair s) (length s.places) (s.hi + 1) (is_bounded s)
    (length s.places * (s.hi + 1)) [] (0, x) (omega arith) tt tt (omega (arith, le)))
    (same_from s closed 0 x some le) none

-- LAWS

-- in this direction
turned : (m : Machine) (kind : MatchKind) (e : m.direction ≡ forwards kind) (P : Machine → Type 0) → P m → P (record m { direction = forwards kind })
turned m kind e P h = subst (λ d. P (record m { direction = d })) e h

-- what the starts give from where a run rests
rests_too : (kind : MatchKind) → IsLeftmost kind → (m : Machine) → IsMachine m → m.direction ≡ forwards kind → (t : Text) → m.setting.terminator ≡ t.terminator →
    (hi from : ℕ) → IsInside t from hi → (earliest : Bool) (i : ℕ) → SearchEnds m t hi from No earliest (idle_at i) → (r : Option Pair) →
    GivesBy kind (ways m.setting.places t hi) (Stops m.setting.places) (all_starts false 0 i hi) r →
    GivesBy kind (ways m.setting.places t hi) (Stops m.setting.places) (all_starts false 0 from hi) r
rests_too all_matches left m k d t same hi from inside earliest i h r g = absurd left
rests_too leftmost_first left m k d t same hi from inside earliest i h r g =
    (rests_run m.alphabet m.setting m.entries k.setting t same hi from inside earliest (idle_at i) i
    (turned m leftmost_first d (λ x. SearchEnds x t hi from No earliest (idle_at i)) h) refl).2 r g
rests_too leftmost_longest left m k d t same hi from inside earliest i h r g =
    rests_longest m.alphabet m.setting m.entries (turned m leftmost_longest d IsMachine k) t same hi from inside earliest (idle_at i) i
    (turned m leftmost_longest d (λ x. SearchEnds x t hi from No earliest (idle_at i)) h) refl r g

module _ (hs : List Re) (kind : MatchKind) (left : IsLeftmost kind) (m n : Machine) (s : Search) (c : IsCase hs kind m n No s) where
  abbrev W : Pair → List Pair
  W = ways m.setting.places s.text s.hi

  abbrev E : Pair → Type 0
  E = Stops m.setting.places

  met_so : (from : ℕ) (r : Option Pair) → s.lo ≤ from → SearchEnds m s.text s.hi from No false (met_last r) → StartsGive kind m s from r
  met_so from r low h =
      run_gives kind left m s.text s.hi from No r (ahead_machine c) (ahead_direction c) (ahead_terminator c) (inside_from c.inside low) h

  rests_so : (from i : ℕ) (earliest : Bool) → s.lo ≤ from → SearchEnds m s.text s.hi from No earliest (idle_at i) →
      (from ≤ i) × (i ≤ s.hi) × GivesToo kind m s i from
  rests_so from i earliest low h =
      let b = rests_between m s.text s.hi from No earliest (idle_at i) i h refl in
      (b.0, b.1, λ r g. rests_too kind left m (ahead_machine c) (ahead_direction c) s.text (ahead_terminator c) s.hi from (inside_from c.inside low) earliest i h r g)

  none_here : (x : ℕ) → x ≤ s.hi → HasNoWalkFrom s x → HasNoWalk W E [] ((0, x) ∷ [])
  none_here x le none =
      let some : 0 < length s.places = subst (λ ps. 0 < length ps) (sym c.places) (program_some hs) in
      let over : HasNoWalk (ways (bytes_of s.places) s.text s.hi) (λ p. IsTrue (ends (by_bytes s) p)) [] ((0, x) ∷ []) =
      no_walk_over s (case_closed c) some x le none in
      subst (λ ps. HasNoWalk (ways ps s.text s.hi) (Stops ps) [] ((0, x) ∷ [])) (sym (ahead_places c))
      (subst (λ o. HasNoWalk (ways (bytes_of s.places) s.text s.hi) (λ (p : Pair). IsTrue (is_match_place o (place_at (bytes_of s.places) p.0))) [] ((0, x) ∷ []))
      (only_is c) over)

  jumps_so : (i x : ℕ) → i ≤ x → x ≤ s.hi → HasNoWalkBetween s i x → GivesToo kind m s x i
  jumps_so i x low high none r g =
      jumps_over kind left W E i x s.hi r low high (λ z a b. none_here z (omega (arith, b, high)) (none z a b)) g

  nowhere_so : (i : ℕ) → i ≤ s.hi → HasNoWalkBetween s i (s.hi + 1) → StartsGive kind m s i None
  nowhere_so i low none = jumps_out kind left W E i s.hi low (λ z a b. none_here z (omega (arith, b)) (none z a b))

pub rest_law : RestLaw
rest_law = record {
  met = λ hs kind m n s from r left c low h. met_so hs kind left m n s c from r low h;
  rests = λ hs kind m n s from i earliest left c low h. rests_so hs kind left m n s c from i earliest low h;
  jumps = λ hs kind m n s i x left c low high none. jumps_so hs kind left m n s c i x low high none;
  nowhere = λ hs kind m n s i left c low none. nowhere_so hs kind left m n s c i low none;
}

module _ (hs : List Re) (kind : MatchKind) (left : IsLeftmost kind) (m n : Machine) (s : Search) (from : ℕ) (c : IsCase hs kind m n No s) where
  given : (r : Option Pair) → StartsGive kind m s from r → leftmost.Given hs m n No s from kind r
  given r g = subst (λ o. GivesBy kind (ways m.setting.places s.text s.hi) (Stops m.setting.places) o r) (starts_are c refl from s.hi) g

pub given_law : GivenLaw
given_law = record {
  ends = λ hs kind m n s from q e left c raised g may.
      leftmost.ends_free hs kind left m n No s from c raised refl q e (given hs kind left m n s from c (Some (q, e)) g) may;
  starts = λ hs kind m n s from q e x k left c raised g may d.
      leftmost.starts_so hs kind left m n s from q e c raised (given hs kind left m n s from c (Some (q, e)) g) may x k d;
  some_start = λ hs kind m n s from q e left c raised g may d.
      leftmost.some_start_so hs kind left m n s from q e c raised (given hs kind left m n s from c (Some (q, e)) g) may d;
  raises = λ hs kind m n s from q e left c raised g off.
      let r = leftmost.raises_free hs kind left m n No s from c raised refl q e (given hs kind left m n s from c (Some (q, e)) g) off in
      (λ lt. r.0 lt refl, λ le. r.1 (inl le));
  none = λ hs kind m n s from left c raised g. leftmost.none_free hs kind left m n No s from c raised refl (given hs kind left m n s from c None g);
}
