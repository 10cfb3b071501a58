-- Only proofs and the contracts of private functions use this file.
-- What a word adds to what was given.
use Rattle.std.specs.Prelude.{◌≡◌, ◌++◌, Result, Ok, Err}
use Rattle.grep_options.specs.Given.{IsWordsError, chosen_of, operands_of, turn_of}
use Rattle.grep_options.specs.Words.{Said, Text, Turn}
use Rattle.grep_options.specs.Words.Outcome.{refused}
use Rattle.grep_options.specs.Words.Said.{says, wrong}
use Rattle.grep_options.specs.declared.read.Given.{Given}
use Rattle.grep_options.specs.declared.read.Next.{Next}
use Rattle.grep_options.specs.declared.read.WordsError.{WordsError}
use Rattle.grep_options.specs.declared.read.WordsError.TheVariants.{Memory}

-- what was given grew by what a word says
abbrev pub HasGrown : (old new : Given) → Turn → Said → Type 0
HasGrown old new turn (says os xs next) = (chosen_of new ≡ chosen_of old ++ os) × (operands_of new ≡ operands_of old ++ xs) × (turn ≡ next)
HasGrown old new turn (wrong fault) = ⊥

abbrev pub IsMemory : WordsError → Type 0
IsMemory Memory = Unit {0}
IsMemory e = ⊥

abbrev pub IsWrong : (word : Text) → WordsError → Said → Type 0
IsWrong word e (says os xs next) = IsMemory e
IsWrong word e (wrong fault) = IsWordsError e (refused fault word)

abbrev pub HasTaken : (old new : Given) → (word : Text) → Result Next WordsError → Said → Type 0
HasTaken old new word (Ok next) said = HasGrown old new (turn_of next) said
HasTaken old new word (Err e) said = IsWrong word e said
