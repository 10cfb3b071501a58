use Rattle.std.proofs.Common.{◌∙◌, refl}
use Rattle.live_matches.specs.Live.{listed}
use Rattle.live_matches.proofs.Windows.{are_in}
use Rattle.live_matches.proofs.live.LiveMatches.matches_in.Goals as goal

pub returns : goal.returns
returns c hi o =
    c.new.ensures
    ∙ are_in hi c.args.window (listed c.args.self.now) _ _ _ o (c.count_above-first.ensures hi o) (c.count_down_to-end.ensures hi o) refl
