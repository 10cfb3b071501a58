use Rattle.std.proofs.Common.{arith}
use Rattle.std.proofs.lemmas.List.{length-map}
use Rattle.rc_parser.proofs.builder.Level.depth_with.Goals as goal

pub returns-clause-value : goal.returns-clause-value
returns-clause-value c = simp length-map (omega arith)
