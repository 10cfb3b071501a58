use Rattle.std.proofs.Common.{◌≡◌, map, take, string_bytes}
use Rattle.std.specs.Option.{option_map}
use Rattle.rc_pattern.specs.Groups.{name_of}
use Rattle.rc_pattern.proofs.check.captures.groups.Given as goal

abbrev pub invariant-loop-capture : goal.invariant-loop-capture
invariant-loop-capture l = map (option_map string_bytes) l.names.items ≡ map name_of (take l.capture-index l.capture-items)
