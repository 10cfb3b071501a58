-- Byte classes: one byte of each class.
use Rattle.std.specs.Prelude.{◌≡◌, ◌⊎◌, ℕ, ◌+◌, ◌<◌, ◌≤◌, Bool, true, false, List, length, slice_index}
use Rattle.rc_program.specs.Program.{Place}
use Rattle.rc_determinize.specs.declared.sides.Asked.{Asked}
use Rattle.rc_determinize.specs.Classes.{AreClasses, AreSingle}

-- The classes by what the program tells apart, or each byte as a class of its own.
abbrev pub AreClassesBy : Bool → List Place → Asked → ℕ → List ℕ → Type 0
AreClassesBy true places needs terminator classes = AreClasses places needs terminator classes
AreClassesBy false places needs terminator classes = AreSingle classes

-- The classes are numbered from 0 on, in the order of the bytes.
abbrev pub IsCounted : List ℕ → Type 0
IsCounted classes = (slice_index classes 0 ≡ 0)
    × ((b : ℕ) → b < 255 → (slice_index classes (b + 1) ≡ slice_index classes b) ⊎ (slice_index classes (b + 1) ≡ slice_index classes b + 1))

-- No byte has a class before that of an earlier byte.
abbrev pub AreRising : List ℕ → Type 0
AreRising classes = (b c : ℕ) → b ≤ c → c < 256 → slice_index classes b ≤ slice_index classes c

-- How many classes there are.
abbrev pub class_count : List ℕ → ℕ
class_count classes = slice_index classes 255 + 1

-- At the index of each class is a byte of it.
pub record AreSamples (classes samples : List ℕ) : Type 0 where
  pub all : (b : ℕ) → b < 256 → slice_index classes b < length samples
  pub own : (class : ℕ) → class < length samples → (slice_index samples class < 256) × (slice_index classes (slice_index samples class) ≡ class)
