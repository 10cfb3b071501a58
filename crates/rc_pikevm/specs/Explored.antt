-- Only proofs use this file.
-- Epsilon closure: the places that it enters, whatever is done with the walks that end.
use Rattle.std.specs.Prelude.{◌≡◌, ℕ, ◌+◌, ◌<◌, ◌≤◌, List, [], ◌∷◌, length, reverse, vec_len, Option, Some, None, slice_set}
use Rattle.rc_pikevm.specs.Sights.{Sight}
use Rattle.rc_pikevm.specs.Sparse.{Members}
use Rattle.rc_pikevm.specs.Threads.{ThreadList}
use Rattle.rc_pikevm.specs.Entered.{IsVisited}
use Rattle.rc_pikevm.specs.Entrances.{IsWayIn}
use Rattle.rc_text.specs.Text.{Searched}
use Rattle.rc_pikevm.specs.Near.{seen_from, size}
use Rattle.rc_pikevm.specs.Passing.{AllInside, HasRoom, IsGrown}
use Rattle.rc_pikevm.specs.declared.growth.Frame.{Frame}
use Rattle.rc_pikevm.specs.declared.growth.Frame.TheVariants.{Explore, Restore}
use Rattle.rc_pikevm.specs.declared.growth.Growth.{Growth}
use Rattle.rc_pikevm.specs.declared.spot.Spot.{Spot}

-- A closure under way: the threads of later positions, the places entered, the frames, the top one
-- first, and the slots.
pub record Closure : Type 0 where
  pub threads : ThreadList
  pub entered : Members
  pub frames : List Frame
  pub slots : List (Option ℕ)

abbrev pub closure_of : Growth → Closure
closure_of g = record { threads = g.threads; entered = g.entered; frames = reverse g.stack.items; slots = g.slots.items }

-- The closure begins at the place.
abbrev pub closure_at : ℕ → Growth → Closure
closure_at root g = record (closure_of g) { frames = Explore root ∷ [] }

-- The closure of a thread that began at `start` goes on, frame by frame. If a walk ends, it goes no
-- further: `told` is that walk's pattern.
pub data Explores (s : Sight) (at start : ℕ) (from : Closure) : Option ℕ → Closure → Type 0 where
  begins : Explores s at start from None from
  restores : (c : Closure) {k : ℕ} {old : Option ℕ} {frames : List Frame} →
      Explores s at start from None (record c { frames = Restore k old ∷ frames }) →
      Explores s at start from None (record c { frames = frames; slots = slice_set c.slots k old })
  enters : {told : Option ℕ} {p q : ℕ} {g0 g : Growth} →
      Explores s at start from None (record (closure_of g0) { frames = Explore p ∷ reverse g0.stack.items }) →
      IsWayIn s at g0.entered.items p q → IsVisited s at q start told g0 g → Explores s at start from told (closure_of g)

-- It goes on until a walk ends, or no frame is left.
pub record Closes (s : Sight) (at start : ℕ) (from : Closure) (told : Option ℕ) (c : Closure) : Type 0 where
  pub explores : Explores s at start from told c
  pub empty : told ≡ None → c.frames ≡ []

-- The threads and places that a closure adds at the spot.
abbrev pub Grows : Spot → Searched → ℕ → Growth → Growth → Type 0
Grows spot text start g0 g = IsGrown (seen_from spot text) (size spot.course) spot.course.hi start spot.at g0.threads g0.entered g.threads g.entered

-- There is room at the spot, and all frames are inside.
pub record IsExploring (spot : Spot) (text : Searched) (g : Growth) : Type 0 where
  pub sound : HasRoom (seen_from spot text) (size spot.course) spot.course.hi spot.at g.threads g.entered
  pub some : 0 < length g.entered.items
  pub frames : AllInside (size spot.course) g.threads.width (reverse g.stack.items)
  pub deep : vec_len g.stack ≤ length g.entered.items + 1

-- 1 if a walk has ended, else 0.
abbrev pub count_ended : Option ℕ → ℕ
count_ended None = 0
count_ended (Some p) = 1
