-- Conversions: the program that places in code are.
use Rattle.std.specs.Prelude.{List, [], ◌∷◌, map}
use Rattle.rc_pattern.specs.Meaning.{byte_range, char_range}
use Rattle.rc_program.specs.Program.{Place, choice, byte, scalar, guard, slot, accept}
use Rattle.rc_program.specs.declared.place.Place as code
use Rattle.rc_program.specs.declared.place.Place.TheVariants as code_variants

abbrev pub place_of : code.Place → Place
place_of (code_variants.Choice first second) = choice (first ∷ second ∷ [])
place_of (code_variants.Pass next) = choice (next ∷ [])
place_of code_variants.Dead = choice []
place_of (code_variants.Byte b next) = byte ((b, b) ∷ []) next
place_of (code_variants.Bytes rs next) = byte (map byte_range rs.items) next
place_of (code_variants.Scalar rs next) = scalar (map char_range rs.items) next
place_of (code_variants.Guard l next) = guard l next
place_of (code_variants.Slot k next) = slot k next
place_of (code_variants.Accept p) = accept p

abbrev pub places_of : List code.Place → List Place
places_of = map place_of
