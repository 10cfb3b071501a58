use Rattle.std.proofs.Common.{arith}
use Rattle.rc_program.specs.Program.{program}
use Rattle.rc_program.proofs.WeightLemmas.{program_weighs}
use Rattle.rc_utf8.proofs.AnswerLemmas.{same_answer, same_groups, same_from}
use Rattle.rc_utf8.proofs.SpanLemmas.{places_kept, match_places, same_walks, same_spans}
use Rattle.rc_utf8.proofs.GreatestLemmas.{same_greatest}
use Rattle.rc_utf8.proofs.SizeLemmas.{bytes_no_scalars, bytes_by_one, bytes_closed, bytes_runnable, bytes_longer, bytes_light}
use Rattle.rc_utf8.proofs.laws.bytes_have_the_same_walks.Goals as goal

pub returns : goal.returns
returns c = record {
  same_answer = same_answer;
  same_groups = λ s n closed. same_groups s closed n;
  same_greatest = same_greatest;
  same_spans = same_spans;
  same_walks = same_walks;
  same_from = λ s closed. same_from s closed;
  kept = places_kept;
  match_places = match_places;
  no_scalars = bytes_no_scalars;
  by_one = bytes_by_one;
  closed = bytes_closed;
  runnable = bytes_runnable;
  longer = bytes_longer;
  light = bytes_light;
  small = λ hs ok. let h = bytes_light (program hs) in let k = program_weighs hs ok in omega (arith, h, k);
}
