use Rattle.std.proofs.Common.{ℕ, ◌≡◌, ◌<◌, ◌≤◌, ◌-◌, length, slice_get, slice_index}
use Rattle.rc_pattern_set.specs.Sets.{Has}
use Rattle.rc_needles.specs.Prefilters.{needles_of}
use Rattle.rc_needles.specs.Tables.{numbered}
use Rattle.rc_literals.specs.Answers.{owned_of}
use Rattle.rc_literals.specs.Marks.{AreRelated}
use Rattle.rc_literals.proofs.marks.has_related.Given as goal

abbrev pub invariant-loop-other : goal.invariant-loop-other
invariant-loop-other l = record {
  high : l.other ≤ length (needles_of l.needles.prefilter);
  begins : l.other < length (needles_of l.needles.prefilter)
      → slice_get (numbered (needles_of l.needles.prefilter) l.other) 0 ≡ slice_get (numbered (needles_of l.needles.prefilter) l.number) 0;
  held : (k : ℕ) → k < l.other → AreRelated (numbered (needles_of l.needles.prefilter) l.number) (numbered (needles_of l.needles.prefilter) k)
      → Has l.set (slice_index (owned_of l.needles).owners k);
}

abbrev pub decreases-loop-other : goal.decreases-loop-other
decreases-loop-other l = length l.needles.prefilter.searcher.table.needles.items - l.other
