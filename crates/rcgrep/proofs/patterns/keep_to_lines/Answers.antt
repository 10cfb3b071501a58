use Rattle.std.proofs.Common.{map}
use Rattle.rc_pattern.specs.Meaning.{meaning}
use Rattle.rcgrep.proofs.KeptLemmas.{none_spelled}
use Rattle.rcgrep.proofs.patterns.keep_to_lines.Goals as goal

pub returns : goal.returns
returns c = λ yes. none_spelled (map meaning c.args.hirs.now) c.stops_of.result.table c.stops_of.ensures.leaves yes
