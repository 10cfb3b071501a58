use Rattle.std.proofs.Common.{◌≡◌, ◌≤◌, ◌+◌, length}
use Rattle.rc_parser.specs.Settings.{settings_of}
use Rattle.rc_parser.specs.Machine.{fresh}
use Rattle.rc_parser.specs.View.{state}
use Rattle.rc_parser.proofs.ReadLemmas.{Same}
use Rattle.rc_parser.proofs.reader.read.Given as goal

abbrev pub invariant-loop-rest : goal.invariant-loop-rest
invariant-loop-rest l = (l.work.config ≡ l.fn.config) × (l.work.level.groups + length l.rest ≤ length l.fn.chars)
    × Same (settings_of l.fn.config) (fresh (settings_of l.fn.config)) l.fn.chars (state l.work) l.rest

abbrev pub decreases-loop-rest : goal.decreases-loop-rest
decreases-loop-rest l = length l.rest
