use Rattle.std.proofs.Common.{◌∙◌, ap, slice_index_or}
use Rattle.rc_program.specs.Columns.{no_slots, range_of}
use Rattle.rc_program.proofs.program.Program.slots_of.Goals as goal

pub returns : goal.returns
unfolding range_of
returns c = c.range_at.ensures ∙ ap (λ rs. slice_index_or rs c.args.pattern no_slots) (c.deref.ensures.value ∙ c.args.self.now.lined_up.ranges)
