-- Only proofs use this file.
-- The Pike VM: how the threads of one position go on, whatever is done with the walks that end.
use Rattle.std.specs.Prelude.{◌≡◌, ℕ, ◌+◌, ◌<◌, ◌≤◌, ◌⊎◌, List, [], ◌++◌, length, map, min, Option}
use Rattle.rc_walks.specs.Walks.{Pair}
use Rattle.rc_text.specs.Text.{Searched}
use Rattle.rc_pikevm.specs.Near.{seen_from, size}
use Rattle.rc_pikevm.specs.Passing.{AllFrom, AllIn, CarriesTo, HasRoom, count_from, pending}
use Rattle.rc_pikevm.specs.Sights.{Sight, IsUpTo}
use Rattle.rc_pikevm.specs.Sparse.{Members}
use Rattle.rc_pikevm.specs.Waiting.{still}
use Rattle.rc_pikevm.specs.Threads.{Thread, ThreadList}
use Rattle.rc_pikevm.specs.Trace.{Trace}
use Rattle.rc_pikevm.specs.declared.growth.Growth.{Growth}
use Rattle.rc_pikevm.specs.declared.spot.Spot.{Spot}

-- The threads may go on at the spot: no other has, and there is room.
pub record MayStep (spot : Spot) (text : Searched) (all : List Thread) (g : Growth) : Type 0 where
  pub inside : AllIn (size spot.course) spot.at (min spot.course.hi (spot.at + 3)) all
  pub no_threads : g.threads.items ≡ []
  pub no_places : g.entered.items ≡ []
  pub capacity : g.entered.capacity ≡ size spot.course
  pub room : count_from (spot.at + 1) all + still (seen_from spot text) spot.at (spot.at + 1) [] < g.threads.room

-- All threads of the position but those of `left` have gone on, or were dropped. Each new one comes
-- from one of them, or from a place that was entered.
pub record HasGone (s : Sight) (n hi at : ℕ) (all left : List Thread) (threads0 threads : ThreadList) (entered : Members) : Type 0 where
  pub sound : HasRoom s n hi at threads entered
  pub same_room : threads.room ≡ threads0.room
  pub same_most : threads.most ≡ threads0.most
  pub same_width : threads.width ≡ threads0.width
  pub counts : (q : ℕ) → count_from q threads.items + count_from q left + still s at q entered.items ≤ count_from q all + still s at q []
  pub begun : (x : ℕ) → x ≤ at → AllFrom x all → AllFrom x threads.items

-- None is left at the spot.
abbrev pub HasStepped : Spot → Searched → List Thread → Growth → Growth → Type 0
HasStepped spot text all g0 g = HasGone (seen_from spot text) (size spot.course) spot.course.hi spot.at all [] g0.threads g.threads g.entered

-- In a pass for the first walk, what is under way before the others go on gives what all threads
-- give.
pub record IsStepping (s : Sight) (n hi at : ℕ) (all left : List Thread) (threads0 threads : ThreadList) (entered : Members) : Type 0 where
  pub carries : (limit : Option ℕ) → IsUpTo at limit → (below : List (Trace × Pair)) (best o : Option Trace) →
      CarriesTo limit s at threads.items entered.items (map pending left ++ below) best o → CarriesTo limit s at [] [] (map pending all ++ below) best o
  pub gone : HasGone s n hi at all left threads0 threads entered
  pub some : (length all ≤ length left) ⊎ (0 < length threads.items + length entered.items)
