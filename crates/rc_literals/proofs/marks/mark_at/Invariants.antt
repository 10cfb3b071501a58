use Rattle.std.proofs.Common.{◌<◌, ◌≤◌, ◌-◌, length}
use Rattle.rc_text.specs.Text.{Keeps}
use Rattle.rc_needles.specs.Prefilters.{needles_of}
use Rattle.rc_needles.specs.Tables.{numbered, BeginsWithByte}
use Rattle.rc_literals.specs.Answers.{owned_of}
use Rattle.rc_literals.proofs.MarkLemmas.{AddsBelow}
use Rattle.rc_literals.proofs.marks.mark_at.Given as goal

abbrev pub invariant-loop-number : goal.invariant-loop-number
invariant-loop-number g l = record {
  keeps : Keeps l.fn.input l.input;
  high : l.number ≤ length (needles_of l.needles.prefilter);
  begins : l.number < length (needles_of l.needles.prefilter) → BeginsWithByte (numbered (needles_of l.needles.prefilter) l.number) l.byte;
  adds : AddsBelow (owned_of l.needles) l.fn.input.content l.end l.at l.number l.fn.set l.set;
}

abbrev pub decreases-loop-number : goal.decreases-loop-number
decreases-loop-number g l = length l.needles.prefilter.searcher.table.needles.items - l.number
