-- Half matches: those that a search may answer.
use Rattle.std.specs.Prelude.{◌≡◌, Bool, Option}
use Rattle.std.specs.Option.{option_map}
use Rattle.rc_text.specs.Found.{Found, HalfFound, half_of}
use Rattle.rc_text.specs.declared.types.MatchKind.{MatchKind}
use Rattle.rc_program.specs.Answer.{Search}
use Rattle.rc_program.specs.Kinds.{IsAnswerBy}

-- The pattern and the end of what the search may answer.
abbrev pub IsHalfBy : MatchKind → Bool → Search → Option HalfFound → Type 0
IsHalfBy kind earliest s half = (o : Option Found) × IsAnswerBy kind earliest s o × (half ≡ option_map half_of o)
