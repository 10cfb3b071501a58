-- What a refusal says of the text.
use Rattle.std.specs.Prelude.{ℕ}
use Rattle.rc_pattern.specs.declared.syntax.Error.{Error}
use Rattle.rc_pattern.specs.declared.syntax.Error.TheVariants as error
use Rattle.rc_parser.specs.declared.reader.Fault.{Fault}
use Rattle.rc_parser.specs.declared.reader.Fault.TheVariants as fault

-- a syntax fault at `at` comes only where P holds
abbrev pub OnSyntax : Error → (ℕ → Type 0) → Type 0
OnSyntax (error.Syntax at) P = P at
OnSyntax error.Memory P = Unit {0}

abbrev pub OnFault : Fault → Type 0 → Type 0
OnFault (fault.Syntax left) P = P
OnFault fault.Memory P = Unit {0}
