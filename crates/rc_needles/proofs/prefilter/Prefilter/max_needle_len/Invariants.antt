use Rattle.std.proofs.Common.{◌≡◌, take}
use Rattle.rc_needles.specs.Needles.{longest}
use Rattle.rc_needles.specs.Tables.{needles_in}
use Rattle.rc_needles.proofs.prefilter.Prefilter.max_needle_len.Given as goal

abbrev pub invariant-loop-needle : goal.invariant-loop-needle
invariant-loop-needle l = l.most ≡ longest (take l.needle-index (needles_in l.self.searcher.table.needles.items))
