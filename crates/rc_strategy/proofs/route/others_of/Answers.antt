use Rattle.std.proofs.Common.{refl}
use Rattle.rc_strategy.proofs.HeadLemmas.{none_set}
use Rattle.rc_strategy.proofs.route.others_of.Goals as goal

pub loop-byte-init : goal.loop-byte-init
loop-byte-init c = record { long = refl; told = λ b h. absurd (none_set 256 b h) }
