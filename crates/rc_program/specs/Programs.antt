-- Conversions: the search that a program in code makes.
use Rattle.rc_text.specs.Text.{Searched}
use Rattle.rc_program.specs.Answer.{Search}
use Rattle.rc_program.specs.Places.{places_of}
use Rattle.rc_program.specs.Sought.{search_over}
use Rattle.rc_program.specs.declared.program.Program.{Program}

-- The search of an input by a program.
abbrev pub search_of : Program → Searched → Search
search_of p = search_over (places_of p.places.items) p.terminator p.passes_over
