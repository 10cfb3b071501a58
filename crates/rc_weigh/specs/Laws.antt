-- Law of the weight by what is laid out.
use Rattle.std.specs.Prelude.{ℕ, ◌+◌, ◌≤◌, Bool, List, [], ◌∷◌, length, All}
use Rattle.rc_pattern.specs.Re.{Re}
use Rattle.rc_pattern.specs.WellFormed.{HasBounds}
use Rattle.rc_pattern.specs.Weight.{list_weight}
use Rattle.rc_program.specs.Program.{Place, scalar, program, shown}
use Rattle.rc_utf8.specs.Bytes.{bytes_of}
use Rattle.rc_weigh.specs.Weight.{laid_out, laid_list_weight}

-- How many ranges the classes of characters of a program have.
abbrev pub range_count : List Place → ℕ
range_count [] = 0
range_count (scalar rs n ∷ qs) = length rs + range_count qs
range_count (q ∷ qs) = range_count qs

pub record LaidLaw : Type 0 where
  -- The weight bounds the places and the ways of the byte program, with the ranges of the program.
  pub bounds : (hs : List Re) → All HasBounds hs → laid_out (bytes_of (program hs)) + range_count (program hs) ≤ laid_list_weight hs
  -- So it bounds the places of the byte program, and those of the program.
  pub small : (hs : List Re) → All HasBounds hs → length (bytes_of (program hs)) ≤ laid_list_weight hs
  -- Patterns without their groups are no heavier.
  pub shown_lighter : (groups : Bool) (hs : List Re) → laid_list_weight (shown groups hs) ≤ laid_list_weight hs
  -- It is never above the weight by the stated grammar.
  pub lighter : (hs : List Re) → laid_list_weight hs ≤ list_weight hs
