-- Only proofs use this file.
-- The walk that a stack of frames holds.
use Rattle.std.specs.Prelude.{◌≡◌, ℕ, ◌<◌, Vec, List, [], ◌∷◌, map, Option, Some, None, IsTrue, replicate, slice_index_or, slice_set}
use Rattle.std.specs.declared.alloc.Global.{Global}
use Rattle.rc_walks.specs.Walks.{Pair}
use Rattle.rc_program.specs.Program.{Place, slot, place_at, is_match_place}
use Rattle.oracle_walker.specs.declared.frames.Frame.{Frame}

abbrev pub pair_of : Frame → Pair
pair_of f = (f.place, f.position)

abbrev pub walk_of : Vec Frame Global → List Pair
walk_of frames = map pair_of frames.items

-- a walk may end at the match place of an allowed pattern
abbrev pub Ends : Option ℕ → List Place → Pair → Type 0
Ends only places n = IsTrue (is_match_place only (place_at places n.0))

-- a pair that is new on the stack
abbrev pub fresh_frame : ℕ → ℕ → Option ℕ → Frame
fresh_frame place position before = record { place = place; position = position; tried = 0; before = before }

-- Of n places, those of the frames, the uppermost first, are marked. A place is marked with the
-- position of its uppermost frame, and a frame keeps the mark that was there before.
abbrev pub IsMarked : ℕ → List (Option ℕ) → List Frame → Type 0
IsMarked n marks [] = marks ≡ replicate n None
IsMarked n marks (f ∷ fs) = (f.place < n) × (slice_index_or marks f.place None ≡ Some f.position)
    × IsMarked n (slice_set marks f.place f.before) fs

-- the slot that a place names
abbrev pub slot_name : Place → Option ℕ
slot_name (slot k n) = Some k
slot_name _ = None
