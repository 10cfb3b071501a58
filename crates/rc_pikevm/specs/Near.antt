-- Only proofs use this file.
-- Look-around window: what a pass needs of a search at one position.
use Rattle.std.specs.Prelude.{◌≡◌, ℕ, ◌-◌, ◌≤◌, List, length, take, slice_get}
use Rattle.rc_program.specs.Text.{before_at, after_at, ahead}
use Rattle.rc_program.specs.Looks.{side_before, side_after}
use Rattle.rc_program.specs.Scalars.{scalar_at}
use Rattle.rc_program.specs.Answer.{Search}
use Rattle.rc_text.specs.Text.{Searched}
use Rattle.rc_pikevm.specs.Sights.{Sight}
use Rattle.rc_pikevm.specs.Moves.{IsSetting, seen, seen_by}
use Rattle.rc_pikevm.specs.declared.spot.Course.{Course}
use Rattle.rc_pikevm.specs.declared.spot.Spot.{Spot}

-- The bytes before and after `at` show what the search sees there.
pub record IsNear (s : Search) (at : ℕ) (before after : List ℕ) : Type 0 where
  pub within : at ≤ s.hi
  pub behind : side_before before ≡ before_at s.text at
  pub beyond : side_after after ≡ after_at s.text at
  pub next : slice_get (take (s.hi - at) after) 0 ≡ slice_get (ahead s.text s.hi at) 0
  pub scalar : scalar_at (take (s.hi - at) after) ≡ scalar_at (ahead s.text s.hi at)

-- How many places the program has.
abbrev pub size : Course → ℕ
size course = length course.program.now.places.items

-- The view that a pass has of an input at the spot.
abbrev pub seen_from : Spot → Searched → Sight
seen_from spot = seen_by spot.course

-- The spot is one of a pass over the input.
pub record IsHere (spot : Spot) (input : Searched) : Type 0 where
  pub setting : IsSetting spot.course input
  pub near : IsNear (seen spot.course.program.now input) spot.at spot.before.now spot.after.now
