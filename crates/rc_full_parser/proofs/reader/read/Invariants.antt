use Rattle.std.proofs.Common.{◌≡◌, ◌≤◌, ◌+◌, length}
use Rattle.rc_parser.specs.Settings.{settings_of}
use Rattle.rc_full_lists.specs.Read.{passed}
use Rattle.rc_full_parser.specs.View.{settings_at, state_of}
use Rattle.rc_full_parser.proofs.ReadLemmas.{Same}
use Rattle.rc_full_parser.proofs.reader.read.Given as goal

abbrev pub invariant-loop-rest : goal.invariant-loop-rest
invariant-loop-rest l = (settings_at l.reader ≡ settings_of l.fn.config) × (l.reader.work.level.groups + length l.rest ≤ length l.fn.text)
    × (passed l.reader.verbose l.rest ≡ l.rest) × Same (settings_of l.fn.config) l.fn.text (state_of l.reader) l.rest

abbrev pub decreases-loop-rest : goal.decreases-loop-rest
decreases-loop-rest l = length l.rest
