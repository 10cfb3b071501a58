use Rattle.rcsub.proofs.streamed.Streamed.put_due.Goals as goal

pub returns-then-new-again-clause-stands : goal.returns-then-new-again-clause-stands
returns-then-new-again-clause-stands g c = λ fed told old st. (told, st)
