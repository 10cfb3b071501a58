-- Determinizers: what an automaton is.
use Rattle.std.specs.Prelude.{◌≡◌, ℕ, Bool, true, false, List}
use Rattle.rc_text.specs.declared.types.MatchKind.{MatchKind}
use Rattle.rc_text.specs.declared.types.MatchKind.TheVariants.{All as all_matches}
use Rattle.rc_program.specs.Program.{Place}
use Rattle.rc_determinize.specs.declared.sides.Asked.{Asked}
use Rattle.rc_determinize.specs.Places.{setting_of}
use Rattle.rc_determinize.specs.Sides.{AreAsked}
use Rattle.rc_dfa.specs.declared.automaton.Direction as code
use Rattle.rc_dfa.specs.declared.automaton.Direction.TheVariants as code_variants
use Rattle.rc_dfa.specs.declared.automaton.Automaton.{Automaton}
use Rattle.rc_dfa.specs.declared.symbols.Symbol.{Symbol}
use Rattle.rc_dfa.specs.Machine.{Alphabet, bytes, symbols, Direction, forwards, backwards, Machine}
use Rattle.rc_dfa.specs.Samples.{AreClassesBy}
use Rattle.rc_dfa.specs.Symbols.{alphabet_of, columns_for, column_by}

abbrev pub direction_of : MatchKind → code.Direction → Direction
direction_of kind code_variants.Forwards = forwards kind
direction_of kind code_variants.Overlapping = forwards all_matches
direction_of kind code_variants.Backwards = backwards

abbrev pub is_backwards : code.Direction → Bool
is_backwards code_variants.Forwards = false
is_backwards code_variants.Overlapping = false
is_backwards code_variants.Backwards = true

-- The machine that it is in this direction, if this is read.
abbrev pub machine_over : Alphabet → Automaton → code.Direction → Machine
machine_over alphabet a d =
    record { setting = setting_of a.places.items a.needs a.terminator; entries = a.entries.items; direction = direction_of a.kind d; alphabet = alphabet }

-- What its tables read.
abbrev pub alphabet_in : Automaton → Alphabet
alphabet_in a = alphabet_of a.alphabet

abbrev pub machine_of : Automaton → code.Direction → Machine
machine_of a = machine_over (alphabet_in a) a

-- The class of each byte, and a byte of each class.
abbrev pub classes_of : Automaton → List ℕ
classes_of a = a.classes.items

abbrev pub samples_of : Automaton → List ℕ
samples_of a = a.samples.items

-- How many columns a row of its tables has, besides that of the end, and the column of a symbol.
abbrev pub columns_of : Automaton → ℕ
columns_of a = columns_for (alphabet_in a) (classes_of a)

abbrev pub column_in : Automaton → Symbol → ℕ
column_in a = column_by (classes_of a)

-- It is made of these places.
pub record IsMadeOf (places : List Place) (entries : List ℕ) (terminator : ℕ) (kind : MatchKind) (byte_classes : Bool) (a : Automaton) : Type 0 where
  -- The facts for which the program's assertions ask.
  pub needs : Asked
  pub are_needs : AreAsked needs places
  pub machine : (d : code.Direction) → machine_of a d
      ≡ record { setting = record { places = places; needs = needs; terminator = terminator }; entries = entries; direction = direction_of kind d; alphabet = bytes }
  pub classes : AreClassesBy byte_classes places needs terminator (classes_of a)
  pub alphabet : alphabet_in a ≡ bytes

-- It differs from the first in that its tables read symbols.
pub record IsOverSymbols (a b : Automaton) : Type 0 where
  pub alphabet : alphabet_in b ≡ symbols
  pub machine : (alphabet : Alphabet) (d : code.Direction) → machine_over alphabet b d ≡ machine_over alphabet a d
  pub classes : classes_of b ≡ classes_of a
  pub samples : samples_of b ≡ samples_of a
