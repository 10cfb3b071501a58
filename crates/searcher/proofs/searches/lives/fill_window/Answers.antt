use Rattle.std.proofs.Common.{refl, sym}
use Rattle.searcher.proofs.searches.lives.fill_window.Goals as goal

pub loop-count-init : goal.loop-count-init
loop-count-init c = record { sized = refl; listed = sym (c.matches_in-matches.ensures 18446744073709551615 c.requires.order) }
