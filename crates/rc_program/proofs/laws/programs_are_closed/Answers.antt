use Rattle.rc_program.proofs.PlaceLemmas.{program_some, program_is_closed, ways_closed, entry_below, accept_below, slot_between}
use Rattle.rc_program.proofs.WeightLemmas.{program_weighs, program_small}
use Rattle.rc_program.specs.Program.{program}
use Rattle.rc_program.proofs.laws.programs_are_closed.Goals as goal

pub returns : goal.returns
returns c = record {
  rooted = program_some;
  closed = program_is_closed;
  leads_inside = λ hs. ways_closed (program hs) (program_is_closed hs);
  entered = entry_below;
  accepts = accept_below;
  names_slots = slot_between;
  light = program_weighs;
  small = program_small;
}
