use Rattle.std.proofs.Common.{rules}
use Rattle.std.proofs.lemmas.List.Sorted.{answers_always}
use Rattle.tests.proofs.searchers.empty_matches.Goals as goal

pub advance-requires-clause-lawful : goal.advance-requires-clause-lawful
advance-requires-clause-lawful c =
    answers_always _ _ _ (λ f a r t e. record { keeps = search rules; within = search rules })

pub try_advance_half-requires-clause-lawful : goal.try_advance_half-requires-clause-lawful
try_advance_half-requires-clause-lawful c =
    answers_always _ _ _ (λ f a r t e. record { keeps = search rules; within = search rules })

pub into_half_matches_iter-halves-requires-clause-lawful : goal.into_half_matches_iter-halves-requires-clause-lawful
into_half_matches_iter-halves-requires-clause-lawful c =
    answers_always _ _ _ (λ f a r t e. record { keeps = search rules; within = search rules })
