-- Lazy DFA searches: what the caches say.
use Rattle.std.specs.Prelude.{◌≡◌, ℕ, ◌≤◌, Bool, true, false}
use Rattle.rc_dfa.specs.Automata.{machine_of, alphabet_in}
use Rattle.rc_dfa.specs.declared.automaton.Direction.{Direction}
use Rattle.rc_dfa.specs.declared.automaton.Direction.TheVariants.{Forwards, Backwards}
use Rattle.rc_table_search.specs.Views.{View}
use Rattle.rc_lazy_dfa.specs.Stores.{Frame, IsRow, IsShort, Spends, frame_of}
use Rattle.rc_lazy_dfa.specs.Halves.{IsHalf, IsPlace}
use Rattle.rc_lazy_dfa.specs.declared.store.Store.{Store}
use Rattle.rc_lazy_dfa.specs.declared.half.Half.{Half}
use Rattle.rc_lazy_dfa.specs.declared.lazy.Lazy.{Lazy}

-- The direction in which the machine steps.
abbrev pub direction_of : Bool → Direction
direction_of false = Forwards
direction_of true = Backwards

-- Why the search gave up: memory was refused, or the cache was cleared three times and may have
-- been short.
abbrev pub MayGiveUp : Frame → Store → Store → ℕ → Bool → Type 0
MayGiveUp f old new n true = Unit {0}
MayGiveUp f old new n false = (3 ≤ new.clears) × IsShort f old n

-- The frame of the rows of a direction.
abbrev pub frame_in : Lazy → Bool → Frame
frame_in l backwards = frame_of l.automaton (direction_of backwards)

-- What a cache of a direction says. A note is the find itself, since rows may be dropped.
abbrev pub view_of : Lazy → Bool → View Half
view_of l backwards = record {
  IsOf = λ m. machine_of l.automaton (direction_of backwards) ≡ m;
  alphabet = alphabet_in l.automaton;
  IsCache = λ h. IsHalf (frame_in l backwards) h;
  IsRow = λ h row. IsPlace (frame_in l backwards) h.store row;
  HasState = λ h m row s. (machine_of l.automaton (direction_of backwards) ≡ m) × IsRow (frame_in l backwards).width h.store.states row s;
  IsNote = λ m note k. note ≡ k;
  leaps = false;
  Spends = λ a b n. Spends (frame_in l backwards) a.store b.store n;
  GivesUp = λ a b n memory. MayGiveUp (frame_in l backwards) a.store b.store n memory;
  era = λ h. h.store.clears;
}
