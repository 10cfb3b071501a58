use Rattle.std.proofs.Common.{ap, ◌∙◌, rules}
use Rattle.rc_settings.specs.Settings.{match_kind_of}
use Rattle.regex_cursor.specs.declared.run.error.RunError.TheVariants.{Memory, TooLong}
use Rattle.regex_cursor.proofs.Listed.{err_is, listed_whole, long_fault, memory_fault, put_as, put_nothing, write_fault}
use Rattle.regex_cursor.proofs.run.engine.run_lent.Goals as goal

pub returns-clause-done : goal.returns-clause-done
returns-clause-done g c p patterns =
    let unset = c.requires.settings in
    put_as _ _ _ _ _
    (c.in_ok-matches.ensures.left (ap match_kind_of unset) ∙ listed_whole _ _ _ _ _ unset patterns c.in_ok-input.ensures.whole)
    c.in_ok-is_found.ensures.put

-- memory was refused for the searches' cache
pub returns-in_err-matches-clause-fault : goal.returns-in_err-matches-clause-fault
returns-in_err-matches-clause-fault g c text ok =
    memory_fault _ text c.args.chunks.now (err_is _ Memory c.from_residual-in_err-matches.ensures.1) ok c.in_ok-input.ensures.short

-- a line wasn't written
pub returns-in_err-is_found-clause-fault : goal.returns-in_err-is_found-clause-fault
returns-in_err-is_found-clause-fault g c text ok =
    write_fault _ c.in_err-is_found.field-0.0 text c.args.chunks.now c.from_residual-in_err-is_found.ensures.1 c.in_err-is_found.ensures.write_failed.0
    ok c.in_ok-input.ensures.short

-- nothing was put before the searches began
pub returns-in_err-matches-clause-nothing_put : goal.returns-in_err-matches-clause-nothing_put
returns-in_err-matches-clause-nothing_put g c = put_nothing _ _

pub returns-in_err-input-clause-nothing_put : goal.returns-in_err-input-clause-nothing_put
returns-in_err-input-clause-nothing_put g c = put_nothing _ _

-- the chunks are too long
pub returns-in_err-input-clause-fault : goal.returns-in_err-input-clause-fault
returns-in_err-input-clause-fault g c text ok =
    long_fault _ text c.args.chunks.now (err_is _ TooLong c.from_residual.ensures.1) ok c.in_err-input.ensures.whole
