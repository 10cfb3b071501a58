-- Laws of states and steps.
use Rattle.std.specs.Prelude.{◌≡◌, ℕ, ◌+◌, ◌<◌, ◌≤◌, Bool, true, false, not, ◌||◌, List, [], ◌∷◌, length, Option, Some, None, ◌⊎◌, ◌↔◌}
use Rattle.rc_text.specs.Text.{is_boundary}
use Rattle.rc_walks.specs.Walks.{Pair, EndsAt}
use Rattle.rc_program.specs.Text.{Text, before_at, after_at}
use Rattle.rc_program.specs.Program.{Place, ways}
use Rattle.rc_program.specs.Answer.{Search, IsAnswer, HasNoAnswer, IsStart, IsPassed, is_anchored, only}
use Rattle.rc_determinize.specs.Gives.{Gives}
use Rattle.rc_determinize.specs.Steps.{AreOnce, AreBelow}
use Rattle.rc_determinize.specs.declared.sides.Seen.{Seen}
use Rattle.rc_determinize.specs.declared.sides.Sides.{Sides}
use Rattle.rc_determinize.specs.Sides.{AreAlike, told_side, sides_near, byte_of, IsReadable}
use Rattle.rc_determinize.specs.States.{Setting, IsSetting, State, IsNext, IsNextOver, IsFirst, IsFirstBeside, IsInside, IsUnderWay, Stops, all_starts, best_at, sides_ahead, sides_behind}
use Rattle.rc_walks.specs.Walks.{IsIn}
use Rattle.rc_determinize.specs.Gives.{starts}
use Rattle.rc_determinize.specs.Sets.{Comes, ComesHere, ComesOver, IsNextOfAll, IsNextOfAllOver, IsLeastMatch, IsGathering}
use Rattle.rc_determinize.specs.Backward.{IsPrior, IsPriorOver, IsLast, IsLastBeside, IsComing, IsFirstRoot, ReachesEnd, IsLeastSoFar, least_at}

-- Forwards, by what is told of both sides of each byte, whatever bytes there are.
pub record ForwardLaw : Type 0 where
  -- Before the first byte.
  pub begins_beside : (g : Setting) (t : Text) (hi root lo : ℕ) (anchored : Bool) (s : State) → IsSetting g → g.terminator ≡ t.terminator →
      IsFirstBeside root (told_side g.needs g.terminator (before_at t lo)) anchored s → IsUnderWay g t hi root (all_starts anchored root lo hi) lo s None
  -- Over one byte.
  pub goes_over : (g : Setting) (t : Text) (hi root : ℕ) (origin : List Pair) (i : ℕ) (s s2 : State) (best : Option Pair) → IsSetting g →
      g.terminator ≡ t.terminator → i < hi → IsInside t i hi → IsUnderWay g t hi root origin i s best → IsNextOver g.places root s (sides_ahead g t i) s2 →
      IsUnderWay g t hi root origin (i + 1) s2 (best_at i s2.matched best)
  -- At the bound.
  pub ends_over : (g : Setting) (t : Text) (hi root : ℕ) (origin : List Pair) (s s2 : State) (best : Option Pair) (far : Seen) → IsSetting g →
      g.terminator ≡ t.terminator → IsUnderWay g t hi root origin hi s best →
      IsNextOver g.places root s (sides_near g.needs g.terminator (after_at t hi) far) s2 →
      Gives (ways g.places t hi) (Stops g.places) [] origin (best_at hi s2.matched best)
  -- The same by bytes alone, if they may be read.
  pub begins : (g : Setting) (t : Text) (hi root lo : ℕ) (anchored : Bool) (s : State) → IsSetting g → g.terminator ≡ t.terminator →
      IsReadable g.needs (byte_of (before_at t lo)) → IsFirst g root (byte_of (before_at t lo)) anchored s →
      IsUnderWay g t hi root (all_starts anchored root lo hi) lo s None
  pub goes : (g : Setting) (t : Text) (hi root : ℕ) (origin : List Pair) (i : ℕ) (s s2 : State) (best : Option Pair) → IsSetting g →
      g.terminator ≡ t.terminator → i < hi → IsInside t i hi → IsUnderWay g t hi root origin i s best →
      IsReadable g.needs (byte_of (after_at t i)) → IsNext g root s (byte_of (after_at t i)) s2 →
      IsUnderWay g t hi root origin (i + 1) s2 (best_at i s2.matched best)
  pub ends : (g : Setting) (t : Text) (hi root : ℕ) (origin : List Pair) (s s2 : State) (best : Option Pair) → IsSetting g →
      g.terminator ≡ t.terminator → IsUnderWay g t hi root origin hi s best →
      IsReadable g.needs (byte_of (after_at t hi)) → IsNext g root s (byte_of (after_at t hi)) s2 →
      Gives (ways g.places t hi) (Stops g.places) [] origin (best_at hi s2.matched best)
  -- Or earlier, if nothing goes on.
  pub dies : (g : Setting) (t : Text) (hi root : ℕ) (origin : List Pair) (i : ℕ) (s : State) (best : Option Pair) → IsSetting g →
      g.terminator ≡ t.terminator → IsUnderWay g t hi root origin i s best → s.list ≡ [] → s.goes_on ≡ false →
      Gives (ways g.places t hi) (Stops g.places) [] origin best

-- Backwards, in the same way.
pub record BackwardLaw : Type 0 where
  pub comes_beside : (g : Setting) (t : Text) (hi end : ℕ) (s : State) → IsSetting g → g.terminator ≡ t.terminator → end ≤ hi →
      IsLastBeside g.places (told_side g.needs g.terminator (after_at t end)) s → IsComing g t hi end end s
  -- Which root reaches the end from here.
  pub tells_over : (g : Setting) (t : Text) (hi end i : ℕ) (roots : List ℕ) (s s2 : State) (far : Seen) → IsSetting g → g.terminator ≡ t.terminator →
      end ≤ hi → i ≤ hi → IsInside t i hi → IsComing g t hi end i s →
      IsPriorOver g.places roots s (sides_near g.needs g.terminator (before_at t i) far) s2 → IsFirstRoot (ReachesEnd g t hi end i) roots s2.matched
  -- Over one byte.
  pub descends_over : (g : Setting) (t : Text) (hi end i : ℕ) (roots : List ℕ) (s s2 : State) → IsSetting g → g.terminator ≡ t.terminator → end ≤ hi →
      i < end → IsInside t i hi → IsComing g t hi end (i + 1) s → IsPriorOver g.places roots s (sides_behind g t i) s2 → IsComing g t hi end i s2
  -- The same by bytes alone, if they may be read.
  pub comes : (g : Setting) (t : Text) (hi end : ℕ) (s : State) → IsSetting g → g.terminator ≡ t.terminator → end ≤ hi →
      IsReadable g.needs (byte_of (after_at t end)) → IsLast g (byte_of (after_at t end)) s → IsComing g t hi end end s
  pub tells : (g : Setting) (t : Text) (hi end i : ℕ) (roots : List ℕ) (s s2 : State) → IsSetting g → g.terminator ≡ t.terminator → end ≤ hi → i ≤ hi →
      IsInside t i hi → IsComing g t hi end i s → IsReadable g.needs (byte_of (before_at t i)) → IsPrior g roots s (byte_of (before_at t i)) s2 →
      IsFirstRoot (ReachesEnd g t hi end i) roots s2.matched
  pub descends : (g : Setting) (t : Text) (hi end i : ℕ) (roots : List ℕ) (s s2 : State) → IsSetting g → g.terminator ≡ t.terminator → end ≤ hi → i < end →
      IsInside t i hi → IsComing g t hi end (i + 1) s → IsReadable g.needs (byte_of (before_at t (i + 1))) →
      IsPrior g roots s (byte_of (before_at t (i + 1))) s2 → IsComing g t hi end i s2
  -- If nothing reaches the end any more, no earlier root does.
  pub dies : (g : Setting) (t : Text) (hi end i y root : ℕ) (s : State) → IsSetting g → IsComing g t hi end i s → s.list ≡ [] → i ≤ end → y < i →
      ¬ ReachesEnd g t hi end y root
  -- A byte stands for all bytes that are alike.
  pub alike : (g : Setting) (roots : List ℕ) (b c : ℕ) (s s2 : State) → AreAlike g.places g.needs g.terminator b c → IsPrior g roots s (Some b) s2 →
      IsPrior g roots s (Some c) s2
  -- Whatever is told, a state has places of the program, each once, so it is no longer than the
  -- program.
  pub inside : (places : List Place) (roots : List ℕ) (s s2 : State) (sides : Sides) → IsPriorOver places roots s sides s2 →
      AreOnce s2.list × AreBelow (length places) s2.list
  pub short : (places : List Place) (roots : List ℕ) (s s2 : State) (sides : Sides) → IsPriorOver places roots s sides s2 → length s2.list ≤ length places
  -- The root found on the way down is the least so far.
  pub lowers : (g : Setting) (t : Text) (hi end i : ℕ) (roots : List ℕ) (matched : Option ℕ) (least : Option (ℕ × ℕ)) → i ≤ end →
      IsFirstRoot (ReachesEnd g t hi end i) roots matched → IsLeastSoFar g t hi end roots (i + 1) least →
      IsLeastSoFar g t hi end roots i (least_at i matched least)

-- All starts before `from` were passed over.
pub record IsRaised (s : Search) (from : ℕ) : Type 0 where
  pub start : IsStart s from
  pub passed : (y : ℕ) → IsStart s y → y < from → IsPassed s y

abbrev pub may_end_at : Search → ℕ → Bool
may_end_at s e = not s.passes_over || is_boundary s.text.content e

-- A setting of the search whose walks may end at each pattern's match place.
pub record IsSettingOf (s : Search) (g : Setting) : Type 0 where
  pub setting : IsSetting g
  pub places : g.places ≡ s.places
  pub terminator : g.terminator ≡ s.text.terminator
  pub all : only s.anchoring ≡ None

-- Forwards and backwards together.
pub record SpanLaw : Type 0 where
  pub answers : (s : Search) (g : Setting) (from x : ℕ) (e : Pair) → IsSettingOf s g → IsRaised s from →
      Gives (ways g.places s.text s.hi) (Stops g.places) [] (all_starts (is_anchored s.anchoring) 0 from s.hi) (Some e) →
      IsLeastSoFar g s.text s.hi e.1 (0 ∷ []) from (Some (x, 0)) → may_end_at s e.1 ≡ true →
      (w : List Pair) × IsAnswer s (record { start = x; walk = w }) × EndsAt w e
  -- An end that is passed over raises the start by one.
  pub raises : (s : Search) (g : Setting) (from : ℕ) (e : Pair) → IsSettingOf s g → IsRaised s from →
      Gives (ways g.places s.text s.hi) (Stops g.places) [] (all_starts (is_anchored s.anchoring) 0 from s.hi) (Some e) →
      may_end_at s e.1 ≡ false →
      IsPassed s from × (from < s.hi → is_anchored s.anchoring ≡ false → IsRaised s (from + 1))
      × ((s.hi ≤ from) ⊎ (is_anchored s.anchoring ≡ true) → HasNoAnswer s)
  pub none : (s : Search) (g : Setting) (from : ℕ) → IsSettingOf s g → IsRaised s from →
      Gives (ways g.places s.text s.hi) (Stops g.places) [] (all_starts (is_anchored s.anchoring) 0 from s.hi) None → HasNoAnswer s

-- Forwards, for `MatchKind::All`, in the same way.
pub record GatherLaw : Type 0 where
  -- Whether a walk from one of the first pairs ends here.
  pub tells_over : (g : Setting) (t : Text) (hi root : ℕ) (origin : List Pair) (i : ℕ) (s s2 : State) (far : Seen) → IsSetting g →
      g.terminator ≡ t.terminator → i ≤ hi → IsInside t i hi → IsGathering g t hi origin i s →
      IsNextOfAllOver g.places root s (sides_near g.needs g.terminator (after_at t i) far) s2 →
      IsLeastMatch g.places (λ q. Comes (ways g.places t hi) origin (q, i)) s2.matched
  -- To which places walks from the first pairs come here.
  pub comes_over : (g : Setting) (t : Text) (hi : ℕ) (origin : List Pair) (i : ℕ) (s : State) (far : Seen) → IsSetting g → g.terminator ≡ t.terminator →
      i ≤ hi → IsInside t i hi → IsGathering g t hi origin i s →
      (q : ℕ) → ComesOver g.places s (sides_near g.needs g.terminator (after_at t i) far) q ↔ Comes (ways g.places t hi) origin (q, i)
  -- Over one byte.
  pub goes_over : (g : Setting) (t : Text) (hi root : ℕ) (origin : List Pair) (i : ℕ) (s s2 : State) → IsSetting g → g.terminator ≡ t.terminator →
      i < hi → IsInside t i hi → ((q : ℕ) → IsIn (q, i + 1) origin ↔ ((s2.goes_on ≡ true) × (q ≡ root))) →
      IsGathering g t hi origin i s → IsNextOfAllOver g.places root s (sides_ahead g t i) s2 → IsGathering g t hi origin (i + 1) s2
  -- The same by bytes alone, if they may be read.
  pub tells : (g : Setting) (t : Text) (hi root : ℕ) (origin : List Pair) (i : ℕ) (s s2 : State) → IsSetting g → g.terminator ≡ t.terminator → i ≤ hi →
      IsInside t i hi → IsGathering g t hi origin i s → IsReadable g.needs (byte_of (after_at t i)) → IsNextOfAll g root s (byte_of (after_at t i)) s2 →
      IsLeastMatch g.places (λ q. Comes (ways g.places t hi) origin (q, i)) s2.matched
  pub comes : (g : Setting) (t : Text) (hi : ℕ) (origin : List Pair) (i : ℕ) (s : State) → IsSetting g → g.terminator ≡ t.terminator → i ≤ hi →
      IsInside t i hi → IsGathering g t hi origin i s → IsReadable g.needs (byte_of (after_at t i)) →
      (q : ℕ) → ComesHere g s (byte_of (after_at t i)) q ↔ Comes (ways g.places t hi) origin (q, i)
  -- A byte stands for all bytes that are alike.
  pub alike : (g : Setting) (b c : ℕ) (s : State) (q : ℕ) → AreAlike g.places g.needs g.terminator b c → ComesHere g s (Some b) q → ComesHere g s (Some c) q
  pub goes : (g : Setting) (t : Text) (hi root : ℕ) (origin : List Pair) (i : ℕ) (s s2 : State) → IsSetting g → g.terminator ≡ t.terminator → i < hi →
      IsInside t i hi → ((q : ℕ) → IsIn (q, i + 1) origin ↔ ((s2.goes_on ≡ true) × (q ≡ root))) →
      IsGathering g t hi origin i s → IsReadable g.needs (byte_of (after_at t i)) → IsNextOfAll g root s (byte_of (after_at t i)) s2 →
      IsGathering g t hi origin (i + 1) s2
  -- If nothing is under way and no start is left, no walk ends later.
  pub dies : (g : Setting) (t : Text) (hi : ℕ) (origin : List Pair) (i : ℕ) (s : State) → IsSetting g → IsGathering g t hi origin i s → s.list ≡ [] →
      ((q y : ℕ) → IsIn (q, y) origin → y ≤ i) → (q y : ℕ) → i ≤ y → ¬ Comes (ways g.places t hi) origin (q, y)
  -- Which starts there are.
  pub start : (root x count q y : ℕ) → IsIn (q, y) (starts root x count) ↔ ((q ≡ root) × (x ≤ y) × (y < x + count))
