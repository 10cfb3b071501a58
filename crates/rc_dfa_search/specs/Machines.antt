-- Determinizers: the machines of some patterns.
use Rattle.std.specs.Prelude.{◌≡◌, ℕ, ◌+◌, ◌≤◌, List, [], ◌∷◌}
use Rattle.rc_text.specs.declared.types.MatchKind.{MatchKind}
use Rattle.rc_text.specs.declared.types.Anchored.{Anchored}
use Rattle.rc_pattern.specs.Re.{Re}
use Rattle.rc_program.specs.Program.{part, program}
use Rattle.rc_program.specs.Answer.{Search}
use Rattle.rc_program.specs.Sought.{anchoring_of}
use Rattle.rc_utf8.specs.Bytes.{bytes_of}
use Rattle.rc_determinize.specs.declared.sides.Asked.{Asked}
use Rattle.rc_determinize.specs.Sides.{AreAsked}
use Rattle.rc_determinize.specs.States.{IsInside}
use Rattle.rc_dfa.specs.Machine.{Alphabet, Direction, forwards, backwards, Machine, bytes, IsAsked}

-- The entries of the patterns of the choice at `start`, in their order.
abbrev pub entries_from : ℕ → List Re → List ℕ
entries_from start [] = []
entries_from start (h ∷ hs) = (start + 1) ∷ entries_from (start + 1 + ((part h).size + 1)) hs

abbrev pub entries_of : List Re → List ℕ
entries_of = entries_from 0

-- The machine of the byte program of some patterns, by what it reads.
abbrev pub machine_by : Alphabet → List Re → Asked → ℕ → Direction → Machine
machine_by alphabet hs needs terminator direction = record {
  setting = record { places = bytes_of (program hs); needs = needs; terminator = terminator };
  entries = entries_of hs;
  direction = direction;
  alphabet = alphabet;
}

-- The machines of some patterns, by what they read: their byte program forwards, for matches of the
-- kind, and backwards.
pub record AreMachinesOver (alphabet : Alphabet) (hs : List Re) (terminator : ℕ) (kind : MatchKind) (m n : Machine) : Type 0 where
  pub needs : Asked
  pub are_needs : AreAsked needs (bytes_of (program hs))
  pub ahead : m ≡ machine_by alphabet hs needs terminator (forwards kind)
  pub back : n ≡ machine_by alphabet hs needs terminator backwards

-- Those that read bytes.
abbrev pub AreMachines : List Re → ℕ → MatchKind → Machine → Machine → Type 0
AreMachines = AreMachinesOver bytes

-- The search s, anchored so, is one for these patterns that the machines may run: it has a
-- position, and the pattern asked for, if any, is one of them.
pub record IsCase (hs : List Re) (kind : MatchKind) (m n : Machine) (anchored : Anchored) (s : Search) : Type 0 where
  pub alphabet : Alphabet
  pub machines : AreMachinesOver alphabet hs s.text.terminator kind m n
  pub places : s.places ≡ program hs
  pub anchoring : s.anchoring ≡ anchoring_of anchored
  pub inside : IsInside s.text s.lo s.hi
  pub ordered : s.lo ≤ s.hi
  pub asked : IsAsked m anchored
