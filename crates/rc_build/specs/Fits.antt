-- What is built from patterns under the settings of a program.
use Rattle.std.specs.Prelude.{◌≡◌, ◌≤◌, List, length}
use Rattle.rc_text.specs.declared.types.MatchKind.{MatchKind}
use Rattle.rc_pattern.specs.Re.{Re}
use Rattle.rc_pattern.specs.Weight.{list_weight}
use Rattle.rc_captures.specs.Groups.{names_of}
use Rattle.rc_captures.specs.declared.groups.GroupInfo.{GroupInfo}
use Rattle.rc_program.specs.Program.{program, shown}
use Rattle.rc_program.specs.Sought.{Sought, passes_over}
use Rattle.rc_program.specs.Places.{places_of}
use Rattle.rc_pikevm_search.specs.declared.engine.Engine.{Engine}
use Rattle.rc_settings.specs.Which.{is_grouped}
use Rattle.rc_settings.specs.Thompson.{Settings, utf8_of, which_captures_of, line_terminator_of}
use Rattle.rc_build.specs.Names.{names_shown}
use Rattle.rc_pattern.specs.Limits.{greatest_weight}

-- what is sought by patterns under settings
abbrev pub sought_by : Settings → List Re → Sought
sought_by s hs = record {
  patterns = hs;
  grouped = is_grouped (which_captures_of s);
  terminator = line_terminator_of s;
  utf8_empty = utf8_of s;
}

-- The engine and the groups are those of the patterns under the settings, for this kind of match. The patterns are light enough to be
-- built, and there are no more places than their weight.
pub record Fits (s : Settings) (kind : MatchKind) (hs : List Re) (e : Engine) (info : GroupInfo) : Type 0 where
  pub light : list_weight hs ≤ greatest_weight
  pub small : length e.program.places.items ≤ list_weight hs
  pub placed : places_of e.program.places.items ≡ program (shown (is_grouped (which_captures_of s)) hs)
  pub ended : e.program.terminator ≡ line_terminator_of s
  pub passing : e.program.passes_over ≡ passes_over (sought_by s hs)
  pub kinded : e.kind ≡ kind
  pub named : names_of info ≡ names_shown (is_grouped (which_captures_of s)) hs
