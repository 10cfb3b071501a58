use Rattle.std.proofs.Common.{◌≡◌, ◌++◌, length, map, take}
use Rattle.std.specs.Prelude.{filter}
use Rattle.live_matches.specs.Live.{listed}
use Rattle.live_matches.specs.Reading.{matches_left, touches}
use Rattle.searcher.specs.Places.{found_at}
use Rattle.searcher.proofs.searches.lives.fill_window.Given as goal

-- the first matches were written, and the others are left
abbrev pub invariant-loop-count : goal.invariant-loop-count
invariant-loop-count l = record {
  sized : length l.batch ≡ length l.initial.batch;
  listed : filter (touches l.fn.window) (listed l.fn.live) ≡ map found_at (take l.count l.batch) ++ matches_left l.matches;
}
