use Rattle.std.proofs.Common.{◌/◌, ◌%◌, ◌^◌, ◌==◌, ap, slice_index}
use Rattle.rc_needles.specs.Openings.{opens}
use Rattle.rc_needles.proofs.openings.opens.Goals as goal

pub returns : goal.returns
unfolding opens
returns c = ap (λ at. slice_index c.args.words.now at / 2 ^ (c.args.third % 32) % 2 == 1) c.word_of.ensures.value
