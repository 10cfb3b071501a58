use Rattle.std.proofs.Common.{◌≡◌, ◌-◌, drop, length}
use Rattle.std.specs.List.{list_any}
use Rattle.live_matches.specs.Entries.{all_of, is_open}
use Rattle.live_matches.proofs.entries.Entries.is_open_ended.Given as goal

-- none of those before the index is open
abbrev pub invariant-each : goal.invariant-each
invariant-each l = list_any (is_open l.self.len) (all_of l.self) ≡ list_any (is_open l.self.len) (drop l.index (all_of l.self))

abbrev pub decreases-each : goal.decreases-each
decreases-each l = length (all_of l.self) - l.index
