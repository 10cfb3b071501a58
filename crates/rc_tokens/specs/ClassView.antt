-- What the values of the code for classes stand for.
use Rattle.std.specs.Prelude.{List, map}
use Rattle.rc_pattern.specs.Re.{Range}
use Rattle.rc_tokens.specs.declared.classes.CodeRange.{CodeRange}

abbrev pub pair : CodeRange → Range
pair r = (r.start, r.end)

abbrev pub pairs : List CodeRange → List Range
pairs = map pair
