use Rattle.std.proofs.Common.{sym, subst}
use Rattle.rc_program.specs.Columns.{OwnSlots}
use Rattle.rc_program.specs.Sought.{IsRunnable}
use Rattle.rc_program.proofs.OwnLemmas.{own_slots}
use Rattle.rc_build.proofs.Runnable.{runnable}
use Rattle.rows.proofs.engines.program.Goals as goal

pub program_of-program-requires-clause-runnable : goal.program_of-program-requires-clause-runnable
program_of-program-requires-clause-runnable c = subst IsRunnable (sym c.in_ok-made.ensures.places) (runnable _ _ _ c.in_ok-made.ensures.buildable)

pub program_of-program-requires-clause-own : goal.program_of-program-requires-clause-own
program_of-program-requires-clause-own c = subst OwnSlots (sym c.in_ok-made.ensures.places) (own_slots _)
