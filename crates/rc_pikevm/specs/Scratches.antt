-- Only proofs use this file.
-- Thread lists: the memory of passes.
use Rattle.std.specs.Prelude.{◌≡◌, ◌<◌, ℕ, List, [], ◌∷◌, length, vec_capacity}
use Rattle.rc_program.specs.Places.{places_of}
use Rattle.rc_program.specs.declared.program.Program.{Program}
use Rattle.rc_pikevm.specs.Readers.{reader_count}
use Rattle.rc_pikevm.specs.declared.scratch.Scratch.{Scratch}

-- How many elements each list has room for.
abbrev pub room_of : Scratch → List ℕ
room_of s =
    s.curr.room ∷ s.curr.cells ∷ s.next.threads.room ∷ s.next.threads.cells ∷ s.next.entered.room ∷ s.next.entered.indexes
    ∷ vec_capacity s.next.stack ∷ vec_capacity s.next.slots ∷ vec_capacity s.found ∷ []

-- Both are made for programs of as many places, and for threads of as many slots.
pub record IsSame (a b : Scratch) : Type 0 where
  pub capacity : b.next.entered.capacity ≡ a.next.entered.capacity
  pub room : b.next.threads.room ≡ a.next.threads.room
  pub most : b.next.threads.most ≡ a.next.threads.most
  pub width : b.next.threads.width ≡ a.next.threads.width

-- It is made for programs of as many places as this one has, of which no more read.
pub record IsScratchFor (p : Program) (s : Scratch) : Type 0 where
  pub capacity : s.next.entered.capacity ≡ length p.places.items
  pub room : reader_count (places_of p.places.items) < s.next.threads.room
