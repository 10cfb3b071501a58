-- Prefilters: what contracts see of one.
use Rattle.std.specs.Prelude.{ℕ, List}
use Rattle.rc_needles.specs.Tables.{needles_in}
use Rattle.rc_needles.specs.declared.prefilter.Prefilter.{Prefilter}

-- Its needles, in order.
abbrev pub needles_of : Prefilter → List (List ℕ)
needles_of p = needles_in p.searcher.table.needles.items
