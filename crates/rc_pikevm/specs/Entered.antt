-- Only proofs use this file.
-- Epsilon closure: what entering a place does.
use Rattle.std.specs.Prelude.{◌≡◌, ℕ, ◌⊎◌, [], ◌∷◌, ◌++◌, reverse, Option, None}
use Rattle.rc_walks.specs.Walks.{Pair}
use Rattle.rc_pikevm.specs.Sights.{Sight}
use Rattle.rc_pikevm.specs.Sparse.{Has}
use Rattle.rc_pikevm.specs.Entrances.{IsShut}
use Rattle.rc_pikevm.specs.Moves.{IsMove, ended_by}
use Rattle.rc_pikevm.specs.Passing.{frames_of, resting_of, slots_after}
use Rattle.rc_pikevm.specs.declared.moves.Move.{Move}
use Rattle.rc_pikevm.specs.declared.moves.Move.TheVariants.{DeadEnd}
use Rattle.rc_pikevm.specs.declared.growth.Growth.{Growth}

-- The place was entered before, and nothing changes.
pub record IsSkipped (place : ℕ) (g0 g : Growth) : Type 0 where
  pub before : Has g0.entered.items place
  pub threads : g.threads ≡ g0.threads
  pub entered : g.entered ≡ g0.entered
  pub frames : g.stack.items ≡ g0.stack.items
  pub slots : g.slots.items ≡ g0.slots.items

-- The move is the one that the pair has; or it is none, and no walk leads on from there.
abbrev pub Goes : Sight → Pair → Move → Type 0
Goes s n move = IsMove s n move ⊎ ((move ≡ DeadEnd) × IsShut s n)

-- A thread that began at `start` enters the place, and the move is made.
pub record IsEntered (s : Sight) (at place start : ℕ) (move : Move) (g0 g : Growth) : Type 0 where
  pub fresh : ¬ Has g0.entered.items place
  pub goes : Goes s (place, at) move
  pub threads : g.threads ≡ record g0.threads { items = g0.threads.items ++ resting_of start g0.slots.items move }
  pub entered : g.entered ≡ record g0.entered { items = g0.entered.items ++ place ∷ [] }
  pub frames : reverse g.stack.items ≡ frames_of g0.slots.items move ++ reverse g0.stack.items
  pub slots : g.slots.items ≡ slots_after at g0.slots.items move

-- The move is made of a thread that began at `start`.
pub record IsMade (at start : ℕ) (move : Move) (g0 g : Growth) : Type 0 where
  pub threads : g.threads ≡ record g0.threads { items = g0.threads.items ++ resting_of start g0.slots.items move }
  pub entered : g.entered ≡ g0.entered
  pub frames : reverse g.stack.items ≡ frames_of g0.slots.items move ++ reverse g0.stack.items
  pub slots : g.slots.items ≡ slots_after at g0.slots.items move

-- The move is made at the place; `told` is the pattern whose walk it ends, if it ends one.
pub record IsActed (s : Sight) (at place start : ℕ) (told : Option ℕ) (g0 g : Growth) : Type 0 where
  pub move : Move
  pub goes : Goes s (place, at) move
  pub made : IsMade at start move g0 g
  pub ended : told ≡ ended_by move

-- A place was entered before, or is entered; `told` is the pattern whose walk ends there, if one
-- does.
abbrev pub IsVisited : Sight → ℕ → ℕ → ℕ → Option ℕ → Growth → Growth → Type 0
IsVisited s at place start told g0 g =
    (IsSkipped place g0 g × (told ≡ None)) ⊎ ((move : Move) × IsEntered s at place start move g0 g × (told ≡ ended_by move))
