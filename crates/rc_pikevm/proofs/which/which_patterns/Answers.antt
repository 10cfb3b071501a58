use Rattle.rc_pikevm.specs.Moves.{seen}
use Rattle.rc_pikevm.proofs.MarkStepLemmas.{adds_regardless}
use Rattle.rc_pikevm.proofs.which.which_patterns.Goals as goal

pub returns-clause-adds : goal.returns-clause-adds
returns-clause-adds g c =
    adds_regardless (seen c.args.program.now c.args.input.now) c.args.program.now.passes_over c.args.set.now c.choose.new.set c.choose.ensures.adds
