-- What a search is asked for.
use Rattle.std.specs.Prelude.{Bool, length}
use Rattle.rc_text.specs.declared.types.MatchKind.{MatchKind}
use Rattle.rc_program.specs.Sought.{Sought, passes_over}
use Rattle.rc_dfa_search.specs.declared.search.Aim.{Aim}

-- the match of the kind for what is sought, with the earliest flag on or off
abbrev pub aim_for : Sought → MatchKind → Bool → Aim
aim_for q kind earliest = record {
  kind = kind;
  patterns = length q.patterns;
  passes_over = passes_over q;
  earliest = earliest;
}
