use Rattle.std.proofs.Common.{◌∙◌}
use Rattle.rc_program.specs.Programs.{search_of}
use Rattle.rc_pikevm.proofs.EarlyLemmas.{greatest_answer}
use Rattle.rc_pikevm.proofs.LongestLemmas.{greatest_longest}
use Rattle.rc_pikevm.proofs.kinds.is_match_by_kind.Goals as goal

pub returns-else-program-clause-found : goal.returns-else-program-clause-found
returns-else-program-clause-found g c =
    rw c.in-LeftmostFirst.is
    (c.meets_any-in-LeftmostFirst.ensures.found ∙ greatest_answer (search_of c.args.program.now c.args.input.now) c.if-program.false)

pub returns-else-program-2-clause-found : goal.returns-else-program-2-clause-found
returns-else-program-2-clause-found g c =
    rw c.in-LeftmostLongest.is
    (c.meets_any-in-LeftmostLongest.ensures.found ∙ greatest_longest (search_of c.args.program.now c.args.input.now) c.if-program-2.false)
