use Rattle.regex_cursor.proofs.Listed.{built, run_as}
use Rattle.regex_cursor.proofs.run.engine.run.Goals as goal

pub returns-clause-done : goal.returns-clause-done
returns-clause-done g c = run_as _ _ _ _ _ _ c.in_ok-regex.ensures.read c.run_lent-outcome.ensures.done

pub returns-clause-fault : goal.returns-clause-fault
returns-clause-fault g c = c.run_lent-outcome.ensures.fault _ (built _ _ c.in_ok-regex.ensures.read c.in_ok-regex.ensures.buildable)
