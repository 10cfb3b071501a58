use Rattle.rc_captures.proofs.SlotsLaws.{slots_pair, slots_apart, slots_all, slots_whole}
use Rattle.rc_captures.proofs.groups.slots_are_shared_out.Goals as goal

pub returns : goal.returns
returns c = record { pair = slots_pair; apart = slots_apart; all = slots_all; whole = slots_whole }
