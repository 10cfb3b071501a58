-- Only proofs use this file.
-- Words: literals between two assertions, if the pattern is a list of them.
use Rattle.std.specs.Prelude.{◌≡◌, ℕ, List, Option, Some}
use Rattle.rc_program.specs.Program.{Place}
use Rattle.rc_words.specs.Words.{SpellWords, between_in}
use Rattle.rc_words.specs.declared.words.Words.{Words}

-- If there are any, they are what searches of the places spell.
abbrev pub AreSpelled : Option Words → List Place → ℕ → Type 0
AreSpelled words places terminator = (w : Words) → words ≡ Some w → SpellWords places terminator (between_in w)
