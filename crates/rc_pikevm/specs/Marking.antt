-- Only proofs use this file.
-- Overlapping search: what a pass keeps to find which patterns have a match.
use Rattle.std.specs.Prelude.{◌≡◌, ◌↔◌, ℕ, zero, suc, ◌+◌, ◌-◌, ◌*◌, ◌<◌, ◌≤◌, ◌⊎◌, Bool, false, List, [], ◌∷◌, ◌++◌, length, map, IsTrue}
use Rattle.rc_pattern_set.specs.Sets.{Has}
use Rattle.rc_walks.specs.Walks.{Pair, IsWalk}
use Rattle.rc_program.specs.Program.{accept, place_at}
use Rattle.rc_program.specs.Answer.{last_of}
use Rattle.rc_pikevm.specs.Sights.{Sight, HasNoWalkFrom, ends, next_of}
use Rattle.rc_pikevm.specs.Sparse.{Members}
use Rattle.rc_pikevm.specs.Threads.{Thread, ThreadList}
use Rattle.rc_pikevm.specs.Passing.{pairs, IsGrown, IsLined}
use Rattle.rc_pikevm.specs.Steps.{HasGone}
use Rattle.rc_pikevm.specs.declared.growth.Frame.{Frame}
use Rattle.rc_pikevm.specs.declared.growth.Frame.TheVariants.{Explore, Restore}

-- The pair that a thread enters next.
abbrev pub going : Thread → Pair
going t = (t.place, t.at)

-- A walk that avoids the pairs passed leads from the pair to a match of the pattern.
pub record LeadsToPattern (s : Sight) (passed : List Pair) (n : Pair) (p : ℕ) : Type 0 where
  pub walk : List Pair
  pub is_walk : IsWalk (next_of s) (λ k. IsTrue (ends s k)) passed (n ∷ []) walk
  pub pattern : place_at s.places (last_of walk).0 ≡ accept p

-- One of the pairs leads to a match of the pattern.
abbrev pub SomeLeads : Sight → List Pair → List Pair → ℕ → Type 0
SomeLeads s passed [] p = ⊥
SomeLeads s passed (n ∷ ns) p = LeadsToPattern s passed n p ⊎ SomeLeads s passed ns p

-- The pairs on the stack, the top frame first.
abbrev pub explored : ℕ → List Frame → List Pair
explored at [] = []
explored at (Explore p ∷ rest) = (p, at) ∷ explored at rest
explored at (Restore k old ∷ rest) = explored at rest

-- At a position: the threads of later positions, or the pairs on the stack, lead to a match of the
-- pattern, or the pattern is a member already.
abbrev pub Owed : Sight → ℕ → List Thread → List ℕ → List Pair → List Bool → ℕ → Type 0
Owed s at resting entered waiting set p =
    SomeLeads s [] (map going resting) p ⊎ (SomeLeads s (pairs at entered) waiting p ⊎ Has set p)

-- A walk begins at the position only if it may.
abbrev pub MayBegin : Sight → ℕ → Bool → Type 0
MayBegin s at may = may ≡ false → HasNoWalkFrom s at

-- No walk begins at the first position or later, before the second.
abbrev pub HasNoneBefore : Sight → ℕ → ℕ → Type 0
HasNoneBefore s at start = (y : ℕ) → at ≤ y → y < start → HasNoWalkFrom s y

-- Both hold of the same patterns below n.
abbrev pub AreSame : ℕ → (ℕ → Type 0) → (ℕ → Type 0) → Type 0
AreSame n A B = (p : ℕ) → p < n → A p ↔ B p

-- The pairs of `count` starts from x on.
abbrev pub entries : ℕ → ℕ → List Pair
entries x zero = []
entries x (suc count) = (0, x) ∷ entries (x + 1) count

-- The pairs of the starts from `at` to `last`.
abbrev pub entering : ℕ → ℕ → List Pair
entering at last = entries at (last + 1 - at)

-- Each member of the first is a member of the second.
abbrev pub KeepsMarks : List Bool → List Bool → Type 0
KeepsMarks set0 set = (p : ℕ) → Has set0 p → Has set p

-- Walks set out at a position: those through the patterns in front of the place `front` have.
pub record IsSettingOut (s : Sight) (n hi at front : ℕ) (threads0 : ThreadList) (entered0 : Members) (set0 : List Bool)
    (threads : ThreadList) (entered : Members) (set : List Bool) : Type 0 where
  pub same : (below : List Pair) → AreSame (length set0) (Owed s at threads0.items entered0.items ((0, at) ∷ below) set0)
      (Owed s at threads.items entered.items ((front, at) ∷ below) set)
  pub long : length set ≡ length set0
  pub more : KeepsMarks set0 set
  pub grown : IsGrown s n hi at at threads0 entered0 threads entered

-- The threads of a position have gone on so far: `left` are those still to go on.
pub record IsMarkingOn (s : Sight) (n hi at : ℕ) (all left : List Thread) (threads0 : ThreadList) (set0 : List Bool)
    (threads : ThreadList) (entered : Members) (set : List Bool) : Type 0 where
  pub same : (below : List Pair) → AreSame (length set0) (Owed s at [] [] (map going all ++ below) set0)
      (Owed s at threads.items entered.items (map going left ++ below) set)
  pub long : length set ≡ length set0
  pub more : KeepsMarks set0 set
  pub gone : HasGone s n hi at all left threads0 threads entered

-- The pass from the start `from` has come to the position `at`.
pub record IsMarkingFrom (s : Sight) (n hi from last at insertions : ℕ) (curr : ThreadList) (set0 set : List Bool) : Type 0 where
  pub same : AreSame (length set0) (Owed s from [] [] (entering from last) set0) (Owed s at [] [] (map going curr.items ++ entering at last) set)
  pub long : length set ≡ length set0
  pub more : KeepsMarks set0 set
  pub lined : IsLined s n hi 0 at insertions curr
  pub few : insertions ≤ n * (at - from)
  pub reached : from ≤ at
  pub within : at ≤ hi + 1

-- Each pattern from `first` up to `last`, excluded, is a member.
abbrev pub HasAll : ℕ → ℕ → List Bool → Type 0
HasAll first last set = (p : ℕ) → first ≤ p → p < last → Has set p

-- A pass over the starts from `from` to `last` marks only patterns to which these lead. It marks
-- all of them, unless each pattern from `first` up to `end`, excluded, is marked.
pub record MarksFrom (s : Sight) (from last first end : ℕ) (set0 set : List Bool) : Type 0 where
  pub long : length set ≡ length set0
  pub more : KeepsMarks set0 set
  pub led : (p : ℕ) → p < length set0 → Has set p → SomeLeads s [] (entering from last) p ⊎ Has set0 p
  pub all : (p : ℕ) → p < length set0 → SomeLeads s [] (entering from last) p → Has set p ⊎ HasAll first end set
