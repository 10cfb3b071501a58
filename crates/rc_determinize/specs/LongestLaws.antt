-- Laws of states and steps for leftmost-longest.
use Rattle.std.specs.Prelude.{◌≡◌, ℕ, ◌+◌, ◌*◌, ◌<◌, ◌≤◌, ◌⊎◌, Bool, true, false, List, [], ◌∷◌, ◌++◌, length, map, Option, Some, None}
use Rattle.rc_walks.specs.Walks.{Pair, HasNoWalk, EndsAt}
use Rattle.rc_program.specs.Text.{Text, before_at, after_at}
use Rattle.rc_program.specs.Program.{Place, ways}
use Rattle.rc_program.specs.Laws.{IsClosed}
use Rattle.rc_program.specs.Answer.{Search, IsStart, is_anchored}
use Rattle.rc_program.specs.Longest.{IsLongestWalk, IsLongestFrom, IsLongestAnswer, IsPassedOf, HasNoLongestAnswer}
use Rattle.rc_determinize.specs.Gives.{Gives}
use Rattle.rc_determinize.specs.Steps.{AreOnce, AreBelow, at}
use Rattle.rc_determinize.specs.Run.{IsGoal}
use Rattle.rc_determinize.specs.declared.sides.Seen.{Seen}
use Rattle.rc_determinize.specs.declared.sides.Sides.{Sides}
use Rattle.rc_determinize.specs.Sides.{AreAlike, told_side, sides_near, byte_of, IsReadable}
use Rattle.rc_determinize.specs.States.{Setting, IsSetting, State, IsFirst, IsFirstBeside, IsInside, Stops, later_starts, all_starts, best_at, sides_ahead}
use Rattle.rc_determinize.specs.Backward.{IsLeastSoFar}
use Rattle.rc_determinize.specs.Laws.{IsSettingOf, may_end_at}
use Rattle.rc_determinize.specs.Longest.{parted, flat, IsNextOfLongest, IsNextOfLongestOver}

-- The longest walk from the pair n ends at e.
abbrev pub ReachesLongest : (Pair → List Pair) → (Pair → Type 0) → Pair → Pair → Type 0
ReachesLongest ways Ends n e = (w : List Pair) × IsLongestWalk ways Ends [] (n ∷ []) w × EndsAt w e

-- Of the first of the pairs from which a walk leads, the longest walk ends at e.
abbrev pub FirstReaches : (Pair → List Pair) → (Pair → Type 0) → List Pair → Pair → Type 0
FirstReaches ways Ends [] e = ⊥
FirstReaches ways Ends (n ∷ from) e =
    ReachesLongest ways Ends n e ⊎ (HasNoWalk ways Ends [] (n ∷ []) × FirstReaches ways Ends from e)

-- The longest walk of the first of the pairs from which a walk leads ends at this pair; or there is
-- no walk.
abbrev pub GivesLongest : (Pair → List Pair) → (Pair → Type 0) → List Pair → Option Pair → Type 0
GivesLongest ways Ends from (Some e) = FirstReaches ways Ends from e
GivesLongest ways Ends from None = HasNoWalk ways Ends [] from

-- THE SEARCH UNDER WAY

-- A start, and the places that are listed for it.
abbrev pub Held : Type 0
Held = Pair × List ℕ

abbrev pub begun : List Held → List Pair
begun hs = map (λ (h : Held). h.0) hs

abbrev pub held : List Held → List (List ℕ)
held hs = map (λ (h : Held). h.1) hs

-- Each place that is listed is below n.
abbrev pub AreHeldBelow : ℕ → List Held → Type 0
AreHeldBelow n [] = Unit {0}
AreHeldBelow n (h ∷ hs) = AreBelow n h.1 × AreHeldBelow n hs

-- No walk leads to the position e.
abbrev pub IsQuiet : (Pair → List Pair) → (Pair → Type 0) → ℕ → List Pair → Type 0
IsQuiet ways Ends e from = HasNoWalk ways (IsGoal Ends e) [] from

-- The pairs give what the first pairs give, if walks may end at the position e alone.
abbrev pub CarriesTo : (Pair → List Pair) → (Pair → Type 0) → ℕ → List Pair → List Pair → Type 0
CarriesTo ways Ends e origin from = (r : Option Pair) → Gives ways (IsGoal Ends e) [] from r → Gives ways (IsGoal Ends e) [] origin r

-- At the position i, for each start with those before it: the places listed for them carry to each
-- end from here on.
abbrev pub AreCarried : (Pair → List Pair) → (Pair → Type 0) → ℕ → List Pair → List ℕ → List Held → Type 0
AreCarried ways Ends i origin places [] = Unit {0}
AreCarried ways Ends i origin places (h ∷ hs) =
    ((e : ℕ) → i ≤ e → CarriesTo ways Ends e (origin ++ h.0 ∷ []) (at i (places ++ h.1)))
    × AreCarried ways Ends i (origin ++ h.0 ∷ []) (places ++ h.1) hs

-- The facts about the ends before i, if these starts count. A match found last is of the last of
-- them, and no lesser start has a walk to an end before i. Its own start has none that is longer,
-- and its first walk to that end ends at the place that was found.
abbrev pub IsKnown : (Pair → List Pair) → (Pair → Type 0) → ℕ → List Pair → Option Pair → Type 0
IsKnown ways Ends i starts None = (e : ℕ) → e < i → IsQuiet ways Ends e starts
IsKnown ways Ends i starts (Some b) =
    (before : List Pair) × (n : Pair) × (starts ≡ before ++ n ∷ []) × (b.1 < i)
    × ((e : ℕ) → e < i → IsQuiet ways Ends e before)
    × ((e : ℕ) → b.1 < e → e < i → IsQuiet ways Ends e starts)
    × Gives ways (IsGoal Ends b.1) [] starts (Some b)

-- The starts for which no places are listed. Without a match, they are those after i, if walks may
-- still begin; with a match they no longer count.
abbrev pub IsRest : Bool → ℕ → ℕ → ℕ → List Pair → Option Pair → Type 0
IsRest goes_on root i hi rest None = rest ≡ later_starts goes_on root i hi
IsRest goes_on root i hi rest (Some b) = goes_on ≡ false

-- Before the byte at i, in the state s, if `best` is the last match found.
pub record IsRacing (g : Setting) (t : Text) (hi root : ℕ) (origin : List Pair) (i : ℕ) (s : State) (best : Option Pair) : Type 0 where
  pub starts : List Held
  pub rest : List Pair
  pub all : origin ≡ begun starts ++ rest
  pub is_rest : IsRest s.goes_on root i hi rest best
  pub list : s.list ≡ parted (length g.places) (held starts)
  pub below : AreHeldBelow (length g.places) starts
  pub carries : AreCarried (ways g.places t hi) (Stops g.places) i [] [] starts
  pub known : IsKnown (ways g.places t hi) (Stops g.places) i (begun starts) best
  pub beside : s.beside ≡ told_side g.needs t.terminator (before_at t i)

-- Forwards: the match found last is where the longest walk of the least start ends.
pub record LongestForwardLaw : Type 0 where
  -- Before the first byte.
  pub begins_beside : (g : Setting) (t : Text) (hi root lo : ℕ) (anchored : Bool) (s : State) → IsSetting g → root < length g.places →
      g.terminator ≡ t.terminator → IsFirstBeside root (told_side g.needs g.terminator (before_at t lo)) anchored s →
      IsRacing g t hi root (all_starts anchored root lo hi) lo s None
  -- Over one byte.
  pub goes_over : (g : Setting) (t : Text) (hi root : ℕ) (origin : List Pair) (i : ℕ) (s s2 : State) (best : Option Pair) → IsSetting g →
      IsClosed g.places → root < length g.places → g.terminator ≡ t.terminator → i < hi → IsInside t i hi → IsRacing g t hi root origin i s best →
      IsNextOfLongestOver g.places root s (sides_ahead g t i) s2 → IsRacing g t hi root origin (i + 1) s2 (best_at i s2.matched best)
  -- At the bound.
  pub ends_over : (g : Setting) (t : Text) (hi root : ℕ) (origin : List Pair) (s s2 : State) (best : Option Pair) (far : Seen) → IsSetting g →
      g.terminator ≡ t.terminator → IsRacing g t hi root origin hi s best →
      IsNextOfLongestOver g.places root s (sides_near g.needs g.terminator (after_at t hi) far) s2 →
      GivesLongest (ways g.places t hi) (Stops g.places) origin (best_at hi s2.matched best)
  -- The same by bytes alone, if they may be read.
  pub begins : (g : Setting) (t : Text) (hi root lo : ℕ) (anchored : Bool) (s : State) → IsSetting g → root < length g.places →
      g.terminator ≡ t.terminator → IsReadable g.needs (byte_of (before_at t lo)) → IsFirst g root (byte_of (before_at t lo)) anchored s →
      IsRacing g t hi root (all_starts anchored root lo hi) lo s None
  pub goes : (g : Setting) (t : Text) (hi root : ℕ) (origin : List Pair) (i : ℕ) (s s2 : State) (best : Option Pair) → IsSetting g →
      IsClosed g.places → root < length g.places → g.terminator ≡ t.terminator → i < hi → IsInside t i hi → IsRacing g t hi root origin i s best →
      IsReadable g.needs (byte_of (after_at t i)) → IsNextOfLongest g root s (byte_of (after_at t i)) s2 →
      IsRacing g t hi root origin (i + 1) s2 (best_at i s2.matched best)
  pub ends : (g : Setting) (t : Text) (hi root : ℕ) (origin : List Pair) (s s2 : State) (best : Option Pair) → IsSetting g →
      g.terminator ≡ t.terminator → IsRacing g t hi root origin hi s best →
      IsReadable g.needs (byte_of (after_at t hi)) → IsNextOfLongest g root s (byte_of (after_at t hi)) s2 →
      GivesLongest (ways g.places t hi) (Stops g.places) origin (best_at hi s2.matched best)
  -- Or earlier, if nothing goes on.
  pub dies : (g : Setting) (t : Text) (hi root : ℕ) (origin : List Pair) (i : ℕ) (s : State) (best : Option Pair) → IsSetting g →
      g.terminator ≡ t.terminator → IsRacing g t hi root origin i s best → s.list ≡ [] → s.goes_on ≡ false →
      GivesLongest (ways g.places t hi) (Stops g.places) origin best
  -- If nothing is under way but the place of the starts, the search may begin anew here.
  pub rests : (g : Setting) (t : Text) (hi root : ℕ) (origin : List Pair) (i : ℕ) (s : State) → IsSetting g → g.terminator ≡ t.terminator →
      IsRacing g t hi root origin i s None → s.list ≡ root ∷ [] → s.goes_on ≡ true → (r : Option Pair) →
      GivesLongest (ways g.places t hi) (Stops g.places) (all_starts false root i hi) r → GivesLongest (ways g.places t hi) (Stops g.places) origin r

-- Each entry is a place of the program, which is in the list once, or a mark between two places.
pub record IsMarkedList (mark : ℕ) (list : List ℕ) : Type 0 where
  pub groups : List (List ℕ)
  pub is_parted : list ≡ parted mark groups
  pub once : AreOnce (flat groups)
  pub below : AreBelow mark (flat groups)

-- The law of the steps for leftmost-longest, like `KindLaw` for the other kinds.
pub record LongestStepLaw : Type 0 where
  pub alike : (g : Setting) (root b c : ℕ) (s t : State) → AreAlike g.places g.needs g.terminator b c →
      IsNextOfLongest g root s (Some b) t → IsNextOfLongest g root s (Some c) t
  pub inside : (places : List Place) (root : ℕ) (s t : State) (sides : Sides) → IsClosed places → root < length places →
      IsNextOfLongestOver places root s sides t → IsMarkedList (length places) t.list
  -- There are fewer marks than places.
  pub short : (places : List Place) (root : ℕ) (s t : State) (sides : Sides) → IsClosed places → root < length places →
      IsNextOfLongestOver places root s sides t → length t.list ≤ 2 * length places
  pub within : (mark : ℕ) (list : List ℕ) → IsMarkedList mark list → AreBelow (mark + 1) list
  pub forgets : (places : List Place) (root : ℕ) (s t : State) (sides : Sides) (matched : Option ℕ) →
      IsNextOfLongestOver places root s sides t → IsNextOfLongestOver places root (record s { matched = matched }) sides t
  pub tells : (places : List Place) (root : ℕ) (s t : State) (sides : Sides) → IsNextOfLongestOver places root s sides t → t.beside ≡ sides.far

-- All starts before `from` were passed over.
pub record IsLongestRaised (s : Search) (from : ℕ) : Type 0 where
  pub start : IsStart s from
  pub passed : (y : ℕ) → IsStart s y → y < from → IsPassedOf s (IsLongestFrom s) y

-- The answer has the end that is found forwards, and the least start that is found backwards from
-- it. That start's longest walk ends there.
pub record LongestSpanLaw : Type 0 where
  pub answers : (s : Search) (g : Setting) (from x : ℕ) (e : Pair) → IsSettingOf s g → IsLongestRaised s from →
      GivesLongest (ways g.places s.text s.hi) (Stops g.places) (all_starts (is_anchored s.anchoring) 0 from s.hi) (Some e) →
      IsLeastSoFar g s.text s.hi e.1 (0 ∷ []) from (Some (x, 0)) → may_end_at s e.1 ≡ true →
      (w : List Pair) × IsLongestAnswer s (record { start = x; walk = w }) × EndsAt w e
  -- An end that is passed over raises the start by one.
  pub raises : (s : Search) (g : Setting) (from : ℕ) (e : Pair) → IsSettingOf s g → IsLongestRaised s from →
      GivesLongest (ways g.places s.text s.hi) (Stops g.places) (all_starts (is_anchored s.anchoring) 0 from s.hi) (Some e) →
      may_end_at s e.1 ≡ false →
      IsPassedOf s (IsLongestFrom s) from × (from < s.hi → is_anchored s.anchoring ≡ false → IsLongestRaised s (from + 1))
      × ((s.hi ≤ from) ⊎ (is_anchored s.anchoring ≡ true) → HasNoLongestAnswer s)
  pub none : (s : Search) (g : Setting) (from : ℕ) → IsSettingOf s g → IsLongestRaised s from →
      GivesLongest (ways g.places s.text s.hi) (Stops g.places) (all_starts (is_anchored s.anchoring) 0 from s.hi) None → HasNoLongestAnswer s
