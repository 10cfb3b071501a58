-- Symbols past ASCII: those of a text that they stand for, and what a step over one is told.
use Rattle.std.specs.Prelude.{◌≡◌, ℕ, ◌+◌, ◌*◌, ◌-◌, ◌<◌, ◌≤◌, Bool, true, false, List, Some, None, slice_index}
use Rattle.rc_text.specs.declared.types.Anchored.{Anchored}
use Rattle.rc_symbols.specs.Symbols as text
use Rattle.rc_symbols.specs.Symbols.{Tag}
use Rattle.rc_determinize.specs.declared.sides.Asked.{Asked}
use Rattle.rc_determinize.specs.declared.sides.Seen.{Seen}
use Rattle.rc_determinize.specs.declared.sides.Sides.{Sides}
use Rattle.rc_determinize.specs.States.{State}
use Rattle.rc_dfa.specs.Columns.{sides_tagged, told_tagged}
use Rattle.rc_dfa.specs.Machine.{Alphabet, bytes, symbols, Machine, LeadsOver, BeginsBeside}
use Rattle.rc_dfa.specs.Samples.{class_count}
use Rattle.rc_dfa.specs.declared.symbols.Alphabet as code
use Rattle.rc_dfa.specs.declared.symbols.Alphabet.TheVariants as code_variants
use Rattle.rc_dfa.specs.declared.symbols.Tagged.{Tagged}
use Rattle.rc_dfa.specs.declared.symbols.Tagged.TheVariants.{Neither, First, Last}
use Rattle.rc_dfa.specs.declared.symbols.Symbol.{Symbol}

-- What is read.
abbrev pub alphabet_of : code.Alphabet → Alphabet
alphabet_of code_variants.Bytes = bytes
alphabet_of code_variants.Symbols = symbols

-- The tag of the scalar that begins with the byte, and that of the one that ends with it.
abbrev pub opens_of : Tagged → Tag
opens_of Neither = None
opens_of (First word) = Some word
opens_of (Last word) = None

abbrev pub shuts_of : Tagged → Tag
shuts_of Neither = None
shuts_of (First word) = None
shuts_of (Last word) = Some word

-- The symbol of a text for which it stands.
abbrev pub symbol_of : Symbol → text.Symbol
symbol_of y = record { byte = y.byte; opens = opens_of y.tagged; shuts = shuts_of y.tagged }

-- Its byte is past ASCII.
pub record IsPast (y : Symbol) : Type 0 where
  pub past : 128 ≤ y.byte
  pub small : y.byte < 256

-- What a step over it is told, forwards or backwards.
abbrev pub sides_given : Bool → Asked → ℕ → Symbol → Sides
sides_given false needs terminator y = sides_tagged needs terminator y.byte (opens_of y.tagged) (shuts_of y.tagged)
sides_given true needs terminator y = sides_tagged needs terminator y.byte (shuts_of y.tagged) (opens_of y.tagged)

-- What is told of the side on which it stands where a search begins: forwards it stands before that
-- position, and backwards after it.
abbrev pub told_given : Bool → Asked → ℕ → Symbol → Seen
told_given false needs terminator y = told_tagged needs terminator y.byte (shuts_of y.tagged)
told_given true needs terminator y = told_tagged needs terminator y.byte (opens_of y.tagged)

-- The state to which the symbol leads.
abbrev pub LeadsTagged : Bool → Machine → State → Symbol → State → Type 0
LeadsTagged backwards m s y next = LeadsOver m s (sides_given backwards m.setting.needs m.setting.terminator y) next

-- The state in which a search begins beside the symbol.
abbrev pub BeginsTagged : Bool → Machine → Anchored → Symbol → State → Type 0
BeginsTagged backwards m anchored y s = BeginsBeside m anchored (told_given backwards m.setting.needs m.setting.terminator y) s

-- COLUMNS

-- The number of a tag: a symbol has one of five.
abbrev pub number_of : Tagged → ℕ
number_of Neither = 0
number_of (First false) = 1
number_of (First true) = 2
number_of (Last false) = 3
number_of (Last true) = 4

-- How many columns a row has for what is read, by the classes of bytes: one for each class, and for
-- symbols, five more for each class past ASCII.
abbrev pub columns_for : Alphabet → List ℕ → ℕ
columns_for bytes classes = class_count classes
columns_for symbols classes = class_count classes + 5 * (class_count classes - slice_index classes 128)

-- The column of a symbol.
abbrev pub column_by : List ℕ → Symbol → ℕ
column_by classes y = class_count classes + 5 * (slice_index classes y.byte - slice_index classes 128) + number_of y.tagged

-- Symbols of one column lead to the same states, and each has a column.
pub record IsColumning (m : Machine) (classes : List ℕ) : Type 0 where
  pub inside : (y : Symbol) → IsPast y → column_by classes y < columns_for symbols classes
  pub lead : (backwards : Bool) (y z : Symbol) → IsPast y → IsPast z → column_by classes y ≡ column_by classes z → (s t : State) →
      LeadsTagged backwards m s y t → LeadsTagged backwards m s z t
  pub begin : (backwards : Bool) (y z : Symbol) → IsPast y → IsPast z → column_by classes y ≡ column_by classes z → (anchored : Anchored) (s : State) →
      BeginsTagged backwards m anchored y s → BeginsTagged backwards m anchored z s
