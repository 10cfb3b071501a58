-- Byte classes: those by which patterns are searched for.
use Rattle.std.specs.Prelude.{ℕ, Bool, List}
use Rattle.rc_pattern.specs.Re.{Re}
use Rattle.rc_program.specs.Program.{program}
use Rattle.rc_utf8.specs.Bytes.{bytes_of}
use Rattle.rc_determinize.specs.declared.sides.Asked.{Asked}
use Rattle.rc_determinize.specs.Sides.{AreAsked}
use Rattle.rc_dfa.specs.Samples.{AreClassesBy}

-- They are those of the patterns' byte program and its assertions; or each byte is a class of its
-- own.
pub record AreClassesOf (byte_classes : Bool) (hs : List Re) (terminator : ℕ) (classes : List ℕ) : Type 0 where
  pub needs : Asked
  pub are_needs : AreAsked needs (bytes_of (program hs))
  pub told : AreClassesBy byte_classes (bytes_of (program hs)) needs terminator classes
