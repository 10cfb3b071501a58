use Rattle.rcfind.proofs.Done.{done_kept}
use Rattle.rcfind.proofs.run_over.Goals as goal

pub returns-in-Ok-into_inner-clause-done : goal.returns-in-Ok-into_inner-clause-done
returns-in-Ok-into_inner-clause-done g c = λ other.
    let (text, words, put) = c.program-status.ensures.done other in
    (text, words, done_kept _ _ _ _ _ c.in-Ok.ensures.holds c.in-Ok-into_inner.ensures (g.R.Read.remaining c.args.input.now) text put)
