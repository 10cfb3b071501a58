-- What holds of the machines of a case, and of their settings.
use Rattle.std.proofs.Common.{◌≡◌, ℕ, zero, suc, ◌+◌, ◌*◌, ◌<◌, ◌≤◌, ◌↔◌, List, [], ◌∷◌, length, map, slice_get, Some, None, IsTrue, true≢false, inl, inr, ⊎_elim, sym, subst, ap, ◌∙◌, refl, arith}
use Rattle.std.specs.Prelude.{slice_index}
use Rattle.std.proofs.lemmas.Bool.{cases_lt}
use Rattle.std.proofs.lemmas.Option.{none-some, get_or_from_slice_get}
use Rattle.std.proofs.lemmas.List.Elements.{All-get_or}
use Rattle.rc_text.specs.declared.types.MatchKind.{MatchKind}
use Rattle.rc_text.specs.declared.types.Anchored.{Anchored}
use Rattle.rc_text.specs.declared.types.Anchored.TheVariants.{No, Yes, Pattern}
use Rattle.rc_text.specs.Plain.{only_pattern, is_anchored as anchors}
use Rattle.rc_pattern.specs.Re.{Re}
use Rattle.rc_pattern.specs.WellFormed.{group_count}
use Rattle.rc_walks.specs.Walks.{Pair, IsIn, IsWalk, stops, goes, EndsAt}
use Rattle.rc_walks.proofs.CutLemmas.{cut, EndsAt-cons}
use Rattle.rc_program.specs.Text.{Text, holds, ahead}
use Rattle.rc_program.specs.Program.{Place, choice, place_at, ways, ways_out, pair_at, is_match_place, part, pattern_part, choice_of_patterns, program, entry, entry_from}
use Rattle.rc_program.specs.Answer.{Search, anywhere, last_of, only, is_anchored, pattern_at}
use Rattle.rc_program.specs.Sought.{anchoring_of}
use Rattle.rc_program.specs.Laws.{IsClosed}
use Rattle.rc_program.proofs.WayLemmas.{same_pair, past_places}
use Rattle.rc_program.proofs.PlaceLemmas.{program_some, program_is_closed, entry_below, pattern_sized, length-program}
use Rattle.rc_program.proofs.PartLemmas.{Stand, Stand-second}
use Rattle.rc_program.proofs.WholeLemmas.{stand_all}
use Rattle.rc_program.proofs.AnswerLemmas.{last_of_more, walk_ends, match_place_is}
use Rattle.rc_program.proofs.EntryLemmas.{entry_law}
use Rattle.rc_utf8.specs.Bytes.{bytes_of}
use Rattle.rc_utf8.specs.Laws.{by_bytes, IsBytePlace, IsWalkFrom}
use Rattle.rc_utf8.proofs.SizeLemmas.{bytes_no_scalars, bytes_closed, bytes_longer}
use Rattle.rc_utf8.proofs.SpanLemmas.{places_kept, same_walks}
use Rattle.rc_determinize.specs.declared.sides.Asked.{Asked}
use Rattle.rc_determinize.specs.Sides.{AreAsked}
use Rattle.rc_determinize.specs.Steps.{IsByBytes, HasPlace}
use Rattle.rc_determinize.specs.Run.{Reaches, arrived, goes_on, IsGoal}
use Rattle.rc_determinize.specs.States.{Setting, Stops, all_starts}
use Rattle.rc_determinize.specs.Backward.{IsFirstRoot, ReachesEnd, IsLeastSoFar}
use Rattle.rc_determinize.specs.Laws.{IsSettingOf}
use Rattle.rc_determinize.proofs.RunLemmas.{reach_long, walk_reaches}
use Rattle.rc_determinize.proofs.AnswerLemmas.{last_at}
use Rattle.rc_determinize.proofs.TextLemmas.{near, last}
use Rattle.rc_dfa.specs.Machine.{Alphabet, Direction, forwards, backwards, Machine, IsMachine}
use Rattle.rc_dfa.specs.Laws.{starts_of}
use Rattle.rc_dfa.proofs.EntryLemmas.{HoldsOfSome}
use Rattle.rc_dfa_search.specs.Machines.{entries_from, entries_of, machine_by, IsCase}

-- ENTRIES

pub length-entries : (start : ℕ) (hs : List Re) → length (entries_from start hs) ≡ length hs
length-entries start [] = refl
length-entries start (h ∷ hs) = ap suc (length-entries (start + 1 + ((part h).size + 1)) hs)

pub entry_at : (start : ℕ) (hs : List Re) (p : ℕ) → p < length hs → slice_get (entries_from start hs) p ≡ Some (entry_from start hs p)
entry_at start [] p lt = absurd (omega (arith, lt))
entry_at start (h ∷ hs) zero lt = refl
entry_at start (h ∷ hs) (suc p) lt = entry_at (start + 1 + ((part h).size + 1)) hs p (omega (arith, lt))

pub entry_index : (hs : List Re) (p : ℕ) → p < length hs → slice_index (entries_of hs) p ≡ entry hs p
entry_index hs p lt = get_or_from_slice_get (entries_of hs) p (entry hs p) 0 (entry_at 0 hs p lt)

-- each is some pattern's
pub entry_of : (start : ℕ) (hs : List Re) (q : ℕ) → HasPlace q (entries_from start hs) → (p : ℕ) × (p < length hs) × (entry_from start hs p ≡ q)
entry_of start [] q h = absurd h
entry_of start (h ∷ hs) q (inl e) = (0, omega arith, e)
entry_of start (h ∷ hs) q (inr r) =
    let x = entry_of (start + 1 + ((part h).size + 1)) hs q r in let l = x.1 in (suc x.0, omega (arith, l), x.2)

-- MACHINES

pub places_by_bytes : (places : List Place) → IsByBytes (bytes_of places)
places_by_bytes places q =
    ⊎_elim (λ lt. All-get_or IsBytePlace (bytes_of places) q (choice []) lt (bytes_no_scalars places))
    (λ ge. subst IsBytePlace (sym (past_places (bytes_of places) q ge)) tt) (cases_lt q (length (bytes_of places)))

is_machine : (a : Alphabet) (hs : List Re) (needs : Asked) (terminator : ℕ) (d : Direction) → AreAsked needs (bytes_of (program hs)) →
    IsMachine (machine_by a hs needs terminator d)
is_machine a hs needs terminator d are =
    let longer = bytes_longer (program hs) in
    let some = program_some hs in
    record {
      setting = record { by_bytes = places_by_bytes (program hs); covers = are.covers };
      closed = bytes_closed (program hs) (program_is_closed hs);
      rooted = omega (arith, longer, some);
      entered = λ q h. let e = entry_of 0 hs q h in let below = entry_below hs e.0 in let same = e.2 in omega (arith, longer, below, same);
    }

pub ahead_machine : {hs : List Re} {kind : MatchKind} {m n : Machine} {anchored : Anchored} {s : Search} → IsCase hs kind m n anchored s → IsMachine m
ahead_machine {hs} {kind} {s = s} c =
    let ms = c.machines in subst (λ x. IsMachine x) (sym ms.ahead) (is_machine c.alphabet hs ms.needs s.text.terminator (forwards kind) ms.are_needs)

pub back_machine : {hs : List Re} {kind : MatchKind} {m n : Machine} {anchored : Anchored} {s : Search} → IsCase hs kind m n anchored s → IsMachine n
back_machine {hs} {s = s} c =
    let ms = c.machines in subst (λ x. IsMachine x) (sym ms.back) (is_machine c.alphabet hs ms.needs s.text.terminator backwards ms.are_needs)

pub ahead_direction : {hs : List Re} {kind : MatchKind} {m n : Machine} {anchored : Anchored} {s : Search} → IsCase hs kind m n anchored s →
    m.direction ≡ forwards kind
ahead_direction c = let ms = c.machines in ap (λ (x : Machine). x.direction) ms.ahead

pub back_direction : {hs : List Re} {kind : MatchKind} {m n : Machine} {anchored : Anchored} {s : Search} → IsCase hs kind m n anchored s →
    n.direction ≡ backwards
back_direction c = let ms = c.machines in ap (λ (x : Machine). x.direction) ms.back

pub same_setting : {hs : List Re} {kind : MatchKind} {m n : Machine} {anchored : Anchored} {s : Search} → IsCase hs kind m n anchored s →
    m.setting ≡ n.setting
same_setting c = let ms = c.machines in ap (λ (x : Machine). x.setting) ms.ahead ∙ sym (ap (λ (x : Machine). x.setting) ms.back)

-- both machines read the same
pub ahead_reads : {hs : List Re} {kind : MatchKind} {m n : Machine} {anchored : Anchored} {s : Search} (c : IsCase hs kind m n anchored s) →
    m.alphabet ≡ c.alphabet
ahead_reads c = let ms = c.machines in ap (λ (x : Machine). x.alphabet) ms.ahead

pub back_reads : {hs : List Re} {kind : MatchKind} {m n : Machine} {anchored : Anchored} {s : Search} (c : IsCase hs kind m n anchored s) →
    n.alphabet ≡ c.alphabet
back_reads c = let ms = c.machines in ap (λ (x : Machine). x.alphabet) ms.back

pub same_reading : {hs : List Re} {kind : MatchKind} {m n : Machine} {anchored : Anchored} {s : Search} → IsCase hs kind m n anchored s →
    m.alphabet ≡ n.alphabet
same_reading c = ahead_reads c ∙ sym (back_reads c)

pub ahead_entries : {hs : List Re} {kind : MatchKind} {m n : Machine} {anchored : Anchored} {s : Search} → IsCase hs kind m n anchored s →
    m.entries ≡ entries_of hs
ahead_entries c = let ms = c.machines in ap (λ (x : Machine). x.entries) ms.ahead

pub back_entries : {hs : List Re} {kind : MatchKind} {m n : Machine} {anchored : Anchored} {s : Search} → IsCase hs kind m n anchored s →
    n.entries ≡ entries_of hs
back_entries c = let ms = c.machines in ap (λ (x : Machine). x.entries) ms.back

-- the places of the setting are the byte program
pub ahead_places : {hs : List Re} {kind : MatchKind} {m n : Machine} {anchored : Anchored} {s : Search} → IsCase hs kind m n anchored s →
    m.setting.places ≡ bytes_of s.places
ahead_places c = let ms = c.machines in ap (λ (x : Machine). x.setting.places) ms.ahead ∙ sym (ap bytes_of c.places)

pub back_places : {hs : List Re} {kind : MatchKind} {m n : Machine} {anchored : Anchored} {s : Search} → IsCase hs kind m n anchored s →
    n.setting.places ≡ bytes_of s.places
back_places c = let ms = c.machines in ap (λ (x : Machine). x.setting.places) ms.back ∙ sym (ap bytes_of c.places)

pub ahead_terminator : {hs : List Re} {kind : MatchKind} {m n : Machine} {anchored : Anchored} {s : Search} → IsCase hs kind m n anchored s →
    m.setting.terminator ≡ s.text.terminator
ahead_terminator c = let ms = c.machines in ap (λ (x : Machine). x.setting.terminator) ms.ahead

pub back_terminator : {hs : List Re} {kind : MatchKind} {m n : Machine} {anchored : Anchored} {s : Search} → IsCase hs kind m n anchored s →
    n.setting.terminator ≡ s.text.terminator
back_terminator c = let ms = c.machines in ap (λ (x : Machine). x.setting.terminator) ms.back

pub case_closed : {hs : List Re} {kind : MatchKind} {m n : Machine} {anchored : Anchored} {s : Search} → IsCase hs kind m n anchored s → IsClosed s.places
case_closed {hs} c = subst (λ ps. IsClosed ps) (sym c.places) (program_is_closed hs)

-- ANCHORINGS

pub is_anchored_so : (anchored : Anchored) → is_anchored (anchoring_of anchored) ≡ anchors anchored
is_anchored_so No = refl
is_anchored_so Yes = refl
is_anchored_so (Pattern p) = refl

pub only_so : (anchored : Anchored) → only (anchoring_of anchored) ≡ only_pattern anchored
only_so No = refl
only_so Yes = refl
only_so (Pattern p) = refl

starts_so : (m : Machine) (anchored : Anchored) (from hi : ℕ) → only_pattern anchored ≡ None →
    starts_of m anchored from hi ≡ all_starts (is_anchored (anchoring_of anchored)) 0 from hi
starts_so m No from hi e = refl
starts_so m Yes from hi e = refl
starts_so m (Pattern p) from hi e = absurd (none-some p (sym e))

pub anchored_is : {hs : List Re} {kind : MatchKind} {m n : Machine} {anchored : Anchored} {s : Search} → IsCase hs kind m n anchored s →
    is_anchored s.anchoring ≡ anchors anchored
anchored_is {anchored = anchored} c = ap is_anchored c.anchoring ∙ is_anchored_so anchored

pub only_is : {hs : List Re} {kind : MatchKind} {m n : Machine} {anchored : Anchored} {s : Search} → IsCase hs kind m n anchored s →
    only s.anchoring ≡ only_pattern anchored
only_is {anchored = anchored} c = ap only c.anchoring ∙ only_so anchored

-- where no pattern is asked for
pub starts_are : {hs : List Re} {kind : MatchKind} {m n : Machine} {anchored : Anchored} {s : Search} → IsCase hs kind m n anchored s →
    only_pattern anchored ≡ None → (from hi : ℕ) → starts_of m anchored from hi ≡ all_starts (is_anchored s.anchoring) 0 from hi
starts_are {m = m} {anchored = anchored} c e from hi =
    starts_so m anchored from hi e ∙ ap (λ a. all_starts (is_anchored a) 0 from hi) (sym c.anchoring)

pub ahead_setting : {hs : List Re} {kind : MatchKind} {m n : Machine} {anchored : Anchored} {s : Search} → IsCase hs kind m n anchored s →
    only_pattern anchored ≡ None → IsSettingOf (by_bytes s) m.setting
ahead_setting c e = record {
  setting = let k = ahead_machine c in k.setting;
  places = ahead_places c;
  terminator = ahead_terminator c;
  all = only_is c ∙ e;
}

pub back_setting : {hs : List Re} {kind : MatchKind} {m n : Machine} {anchored : Anchored} {s : Search} → IsCase hs kind m n anchored s →
    only_pattern anchored ≡ None → IsSettingOf (by_bytes s) n.setting
back_setting c e = record {
  setting = let k = back_machine c in k.setting;
  places = back_places c;
  terminator = back_terminator c;
  all = only_is c ∙ e;
}

-- FROM THE ROOT

-- The choices of the program stand in the other places too.
module _ (prog places : List Place) (same : (k : ℕ) (ns : List ℕ) → k < length prog → place_at prog k ≡ choice ns → place_at places k ≡ choice ns)
    (t : Text) (hi end x : ℕ) where
  abbrev W : Pair → List Pair
  W = ways places t hi

  abbrev Goal : Pair → Type 0
  Goal = IsGoal (λ (n : Pair). IsTrue (is_match_place None (place_at places n.0))) end

  abbrev From : ℕ → Type 0
  From q = Reaches W Goal (q, x)

  out_is : (k : ℕ) (ns : List ℕ) → k < length prog → place_at prog k ≡ choice ns → W (k, x) ≡ map (pair_at x) (ways_out (λ l. holds t l x) (ahead t hi x) (choice ns))
  out_is k ns lt e = ap (λ q. map (pair_at x) (ways_out (λ l. holds t l x) (ahead t hi x) q)) (same k ns lt e)

  -- from a choice a walk goes on
  onward : (k : ℕ) (ns : List ℕ) → k < length prog → place_at prog k ≡ choice ns → {n : Pair} → n ≡ (k, x) → Reaches W Goal n →
      (m : Pair) × IsIn m (map (pair_at x) (ways_out (λ l. holds t l x) (ahead t hi x) (choice ns))) × Reaches W Goal m
  onward k ns lt e at (arrived n goal) =
      absurd (true≢false (sym (subst (λ (m : Pair). IsTrue (is_match_place None (place_at places m.0))) at goal.0) ∙ ap (is_match_place None) (same k ns lt e)))
  onward k ns lt e at (goes_on n m i more) =
      (m, subst (λ ms. IsIn m ms) (ap W at ∙ out_is k ns lt e) i, more)

  from_entries : (q slots start next s : ℕ) (rest : List Re) → start + (choice_of_patterns q s rest).size ≤ length prog →
      Stand prog start ((choice_of_patterns q s rest).places slots start next) → From start ↔ HoldsOfSome From (entries_from start rest)
  from_entries q slots start next s [] fits st = ((λ r. absurd (onward start [] (omega (arith, fits)) st.0 refl r).1), (λ never. absurd never))
  from_entries q slots start next s (h ∷ rest) fits st =
      let a = pattern_part q s h in
      let b = choice_of_patterns (q + 1) (s + 2 * group_count h) rest in
      let right = start + 1 + a.size in
      let ns = (start + 1) ∷ right ∷ [] in
      let lt : start < length prog = omega (arith, fits) in
      let ih = from_entries (q + 1) slots right next (s + 2 * group_count h) rest (omega (arith, fits))
      (Stand-second prog a b slots start next (pattern_sized q s h slots (start + 1) next) st) in
      let step : (m : Pair) → IsIn m ((start + 1, x) ∷ (right, x) ∷ []) → Reaches W Goal m → From start =
      λ m i r. goes_on (start, x) m (subst (λ ms. IsIn m ms) (sym (out_is start ns lt st.0)) i) r in (
        (λ r. let o = onward start ns lt st.0 refl r in
            ⊎_elim (λ e. inl (subst (λ m. Reaches W Goal m) (sym e) o.2))
            (⊎_elim (λ e. inr (ih.0 (subst (λ m. Reaches W Goal m) (sym e) o.2))) (λ never. absurd never)) o.1),
        ⊎_elim (λ r. step (start + 1, x) (inl refl) r) (λ r. step (right, x) (inr (inl refl)) (ih.1 r)),
      )

-- over the byte program
pub from_root : (hs : List Re) (places : List Place) → places ≡ bytes_of (program hs) → (t : Text) (hi end x : ℕ) →
    Reaches (ways places t hi) (IsGoal (Stops places) end) (0, x) ↔ HoldsOfSome (λ q. Reaches (ways places t hi) (IsGoal (Stops places) end) (q, x)) (entries_of hs)
from_root hs places is t hi end x =
    let size = length-program hs in
    from_entries (program hs) places
    (λ k ns lt e. ap (λ ps. place_at ps k) is ∙ places_kept (program hs) k lt (subst IsBytePlace (sym e) tt) ∙ e)
    t hi end x 0 0 0 0 (2 * length hs) hs (omega (arith, size)) (stand_all [] (program hs))

-- ROOTS

pub some_holds : (Holds : ℕ → Type 0) (roots : List ℕ) (k : ℕ) → IsFirstRoot Holds roots (Some k) → HoldsOfSome Holds roots
some_holds Holds [] k h = absurd h
some_holds Holds (r ∷ rs) zero h = inl h
some_holds Holds (r ∷ rs) (suc k) h = inr (some_holds Holds rs k h.1)

pub none_holds : (Holds : ℕ → Type 0) (roots : List ℕ) → IsFirstRoot Holds roots None → HoldsOfSome Holds roots → ⊥
none_holds Holds [] h some = some
none_holds Holds (r ∷ rs) h (inl here) = h.0 here
none_holds Holds (r ∷ rs) h (inr later) = none_holds Holds rs h.1 later

-- the first root that holds
pub root_at : (Holds : ℕ → Type 0) (roots : List ℕ) (k : ℕ) → IsFirstRoot Holds roots (Some k) → (k < length roots) × Holds (slice_index roots k)
root_at Holds [] k h = absurd h
root_at Holds (r ∷ rs) zero h = (omega arith, h)
root_at Holds (r ∷ rs) (suc k) h = let x = root_at Holds rs k h.1 in let lt = x.0 in (omega (arith, lt), x.1)

module _ (hs : List Re) (g : Setting) (is : g.places ≡ bytes_of (program hs)) (t : Text) (hi end : ℕ) where
  -- where no entry reaches the end, the root doesn't
  root_none : (y : ℕ) → IsFirstRoot (ReachesEnd g t hi end y) (entries_of hs) None → IsFirstRoot (ReachesEnd g t hi end y) (0 ∷ []) None
  root_none y none = ((λ r. none_holds (ReachesEnd g t hi end y) (entries_of hs) none ((from_root hs g.places is t hi end y).0 r)), tt)

  -- the least start of the entries is that of the root
  pub least_none : (from : ℕ) → IsLeastSoFar g t hi end (entries_of hs) from None → IsLeastSoFar g t hi end (0 ∷ []) from None
  least_none from l y low high = root_none y (l y low high)

  pub least_some : (from x k : ℕ) → IsLeastSoFar g t hi end (entries_of hs) from (Some (x, k)) → IsLeastSoFar g t hi end (0 ∷ []) from (Some (x, 0))
  least_some from x k l = (
    l.0,
    l.1,
    (from_root hs g.places is t hi end x).1 (some_holds (ReachesEnd g t hi end x) (entries_of hs) k l.2),
    λ y low lt. root_none y (l.3 y low lt),
  )

-- WALKS OVER BYTES

-- the same search with the walks of each pattern
abbrev pub any_where : Search → Search
any_where s = record s { anchoring = anywhere }

module _ (hs : List Re) (s : Search) (is : s.places ≡ program hs) where
  -- a walk from an entry leads to the match place of its own pattern
  pub own_walk : (p x q j : ℕ) (w : List Pair) → p < length hs → IsWalkFrom s (entry hs p) x q j w → q ≡ p
  own_walk p x q j w lt h =
      let walk = subst (λ ps. IsWalk (ways ps s.text s.hi) (λ (n : Pair). IsTrue (is_match_place None (place_at ps n.0))) [] ((entry hs p, x) ∷ []) w) is h.is_walk in
      let own = entry_law.own hs s.text s.hi p x w lt walk in
      ap pattern_at (sym h.pattern ∙ ap (λ ps. place_at ps (last_of w).0) is ∙ own)

  pub own_bytes : (p x q j : ℕ) (w : List Pair) → p < length hs → x ≤ s.hi → IsWalkFrom (by_bytes s) (entry hs p) x q j w → q ≡ p
  own_bytes p x q j w lt le h =
      let below : entry hs p < length s.places = subst (λ ps. entry hs p < length ps) (sym is) (entry_below hs p) in
      let closed : IsClosed s.places = subst (λ ps. IsClosed ps) (sym is) (program_is_closed hs) in
      let v = (same_walks s closed (entry hs p) x q j below le).0 (w, h) in
      own_walk p x q j v.0 lt v.1

-- what is reached over bytes is reached by a walk
pub reached_walk : (s : Search) (places : List Place) → places ≡ bytes_of s.places → (k x end : ℕ) →
    Reaches (ways places s.text s.hi) (IsGoal (Stops places) end) (k, x) → (q : ℕ) × ((w : List Pair) × IsWalkFrom (by_bytes s) k x q end w)
reached_walk s places is k x end r =
    let over = bytes_of s.places in
    let z = reach_long (ways over s.text s.hi) (Stops over) same_pair (last over s.text s.hi None) (near over s.text s.hi (places_by_bytes s.places)) end
    (subst (λ ps. Reaches (ways ps s.text s.hi) (IsGoal (Stops ps) end) (k, x)) is r) in
    let w = cut (ways over s.text s.hi) (Stops over) same_pair z.3.1 z.1 in
    let at = last_at w.0 z.0 w.2 in (
      pattern_at (place_at over (last_of w.0).0),
      (
        w.0,
        record {
          is_walk = w.1;
          pattern = match_place_is None (place_at over (last_of w.0).0) (walk_ends (ways over s.text s.hi) (Stops over) w.1);
          position = ap (λ (n : Pair). n.1) at ∙ z.2;
        },
      ),
    )

-- a walk ends at its last pair
pub ends_at_last : {W : Pair → List Pair} {E : Pair → Type 0} {p f v : List Pair} → IsWalk W E p f v → EndsAt v (last_of v)
ends_at_last (stops k here fresh stop) = refl
ends_at_last {W} {E} (goes {w = v} k here fresh rest) =
    EndsAt-cons W E k (last_of (k ∷ v)) rest (subst (λ e. EndsAt v e) (sym (last_of_more W E k rest)) (ends_at_last rest))

-- and what a walk leads to is reached
pub walk_reached : (s : Search) (places : List Place) → places ≡ bytes_of s.places → (k x q end : ℕ) (w : List Pair) →
    IsWalkFrom (by_bytes s) k x q end w → Reaches (ways places s.text s.hi) (IsGoal (Stops places) end) (k, x)
walk_reached s places is k x q end w h =
    let over = bytes_of s.places in
    let r = walk_reaches (ways over s.text s.hi) (Stops over) same_pair (last over s.text s.hi None) (near over s.text s.hi (places_by_bytes s.places))
    (last_of w) h.is_walk (ends_at_last h.is_walk) in
    subst (λ ps. Reaches (ways ps s.text s.hi) (IsGoal (Stops ps) end) (k, x)) (sym is)
    (⊎_elim (λ e. subst (λ n. Reaches (ways over s.text s.hi) (IsGoal (Stops over) end) n) (sym e)
    (subst (λ y. Reaches (ways over s.text s.hi) (IsGoal (Stops over) y) r.0) h.position r.2)) (λ never. absurd never) r.1)
