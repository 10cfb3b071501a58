use Rattle.stream_search.specs.Searching.{left}
use Rattle.bench_find.proofs.slices.count_told.Given as goal

abbrev pub decreases-told : goal.decreases-told
decreases-told l = left l.stream
