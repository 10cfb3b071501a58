-- Places of the code.
use Rattle.std.proofs.Common.{◌≡◌, ℕ, ◌<◌, List, [], ap, sym, ◌∙◌, length, get_or}
use Rattle.std.proofs.lemmas.List.{get_or-map}
use Rattle.rc_program.specs.Program.{choice, place_at}
use Rattle.rc_utf8.specs.Places.{place_of, places_of}
use Rattle.rc_utf8.specs.declared.place.BytePlace as code

-- the place that was read is that of the program
pub placed : (ps : List code.BytePlace) (p : ℕ) (q : code.BytePlace) → p < length ps → q ≡ get_or ps p q → place_at (places_of ps) p ≡ place_of q
placed ps p q h e = get_or-map place_of ps p q (choice []) h ∙ ap place_of (sym e)
