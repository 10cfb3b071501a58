-- What marks say.
use Rattle.std.specs.Prelude.{ℕ, Bool, List}
use Rattle.rc_tokens.specs.declared.tokens.Perl.{Perl}
use Rattle.rc_tokens.specs.declared.tokens.Assertion.{Assertion}
use Rattle.rc_tokens.specs.declared.tokens.Member.{Member}
use Rattle.rc_tokens.specs.declared.tokens.Change.{Change}
use Rattle.rc_tokens.specs.declared.tokens.Bounds.{Bounds}

-- what a mark that stands alone says
pub data Sense : Type 0 where
  Character : ℕ → Sense
  -- the number of `\xHH`
  Byte : ℕ → Sense
  Dot : Sense
  PerlClass : Perl → Sense
  Asserts : Assertion → Sense
  -- negated or not, with a `]` that came first or without, and the members
  Members : Bool → Bool → List Member → Sense

-- how a group opens
pub data Start : Type 0 where
  Capturing : Start
  -- the bytes of the name
  Named : List ℕ → Start
  Flagged : Change → Start

pub data Said : Type 0 where
  Stands : Sense → Said
  Bar : Said
  Setting : Change → Said
  Opens : Start → Said
  Closes : Said
  Repeats : Bounds → Said
