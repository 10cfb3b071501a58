-- The groups that a regex keeps.
use Rattle.std.specs.Prelude.{Bool, List, map}
use Rattle.rc_pattern.specs.Re.{Re}
use Rattle.rc_pattern.specs.WellFormed.{group_names}
use Rattle.rc_captures.specs.Names.{Names}
use Rattle.rc_program.specs.Program.{shown}

-- for each pattern the names of its groups that are kept, in order
abbrev pub names_shown : Bool → List Re → Names
names_shown grouped hs = map group_names (shown grouped hs)
