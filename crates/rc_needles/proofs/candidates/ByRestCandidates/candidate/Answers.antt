use Rattle.std.proofs.Common.{subst}
use Rattle.rc_needles.specs.Tables.{Agrees, needles_in}
use Rattle.rc_needles.proofs.ScanLemmas.{ruled_out_by_part}
use Rattle.rc_needles.proofs.candidates.ByRestCandidates.candidate.Goals as goal

pub returns-then-is_between-clause-passed : goal.returns-then-is_between-clause-passed
returns-then-is_between-clause-passed c k l =
    let by = c.args.self.now in
    ruled_out_by_part (needles_in by.searcher.now.table.needles.items) by.searcher.now.offset by.rest.now c.args.piece.now k by.is.one by.is.is
    (subst (λ rest. ¬ Agrees c.args.piece.now rest k) c.needle-rest.ensures (c.first_place.ensures.passed k l))

pub returns-clause-passed : goal.returns-clause-passed
returns-clause-passed c k l =
    let by = c.args.self.now in
    ruled_out_by_part (needles_in by.searcher.now.table.needles.items) by.searcher.now.offset by.rest.now c.args.piece.now k by.is.one by.is.is
    (c.rest_candidate.ensures.passed k l)
