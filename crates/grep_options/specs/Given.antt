-- What the values of the code say of a command line.
use Rattle.std.specs.Prelude.{◌≡◌, List, Option, map}
use Rattle.std.specs.Option.{option_map}
use Rattle.std.specs.Borrow.{Bor}
use Rattle.grep_options.specs.Words.{Chosen, Outcome, Text, Turn}
use Rattle.grep_options.specs.Words.Fault.{no_value, unknown, unneeded}
use Rattle.grep_options.specs.Words.Outcome.{refused}
use Rattle.grep_options.specs.Words.Turn.{any, operand, value}
use Rattle.grep_options.specs.declared.read.Given.{Given}
use Rattle.grep_options.specs.declared.read.Next.{Next}
use Rattle.grep_options.specs.declared.read.Next.TheVariants.{Any, Operand, Value}
use Rattle.grep_options.specs.declared.read.WordsError.{WordsError}
use Rattle.grep_options.specs.declared.read.WordsError.TheVariants.{Memory, NoValue, Unknown, Unneeded}
use Rattle.grep_options.specs.declared.table.Id.{Id}

-- an option and its value
abbrev pub chosen : Id × Option (Bor Text) → Chosen
chosen o = (o.0, option_map (λ v. v.now) o.1)

abbrev pub chosen_of : Given → List Chosen
chosen_of g = map chosen g.options.items

abbrev pub operands_of : Given → List Text
operands_of g = map (λ w. w.now) g.operands.items

-- the error tells this fault of the words, or that there is no memory
abbrev pub IsWordsError : WordsError → Outcome → Type 0
IsWordsError (Unknown word) o = o ≡ refused unknown word.now
IsWordsError (NoValue word) o = o ≡ refused no_value word.now
IsWordsError (Unneeded word) o = o ≡ refused unneeded word.now
IsWordsError Memory o = Unit {0}

abbrev pub turn_of : Next → Turn
turn_of Any = any
turn_of (Value id word) = value id word.now
turn_of Operand = operand
