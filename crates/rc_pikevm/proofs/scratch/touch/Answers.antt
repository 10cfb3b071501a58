use Rattle.rc_pikevm.specs.Threads.{thread_of}
use Rattle.rc_pikevm.proofs.StepLemmas.{in_at}
use Rattle.rc_pikevm.proofs.scratch.touch.Goals as goal

pub insert-requires : goal.insert-requires
insert-requires c =
    (in_at c.args.entered.now.capacity c.requires.inside.0 c.requires.inside.1 c.args.threads.now.items 0 (thread_of c.get.result.0 c.get.result.1.now)
    c.requires.inside.2 c.get.ensures.item).0
