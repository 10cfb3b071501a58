use Rattle.std.proofs.Common.{◌≡◌, string_bytes}
use Rattle.std.specs.List.{flat_map}
use Rattle.grep_options.specs.Escaped.{escaped_letter}
use Rattle.grep_options.proofs.fixed.escaped.Given as goal

abbrev pub invariant-loop-letter : goal.invariant-loop-letter
invariant-loop-letter l = string_bytes l.pattern ≡ flat_map escaped_letter l.yielded
