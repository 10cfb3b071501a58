use Rattle.std.proofs.Common.{refl}
use Rattle.rc_strategy.proofs.engines.Engines.settle.Goals as goal

pub settle_from_start-requires-clause-free : goal.settle_from_start-requires-clause-free
settle_from_start-requires-clause-free g c = (c.in-FromStart.ensures.from_start refl).0

pub settle_from_start-requires-clause-begins : goal.settle_from_start-requires-clause-begins
settle_from_start-requires-clause-begins g c = (c.in-FromStart.ensures.from_start refl).1
