use Rattle.std.proofs.Common.{◌∙◌, sym, ap}
use Rattle.live_matches.specs.Live.{listed}
use Rattle.live_matches.specs.Reading.{ends_by}
use Rattle.live_matches.proofs.Windows.{all_above, last_touches}
use Rattle.live_matches.proofs.live.LiveMatches.count_above.Goals as goal
use Rattle.live_matches.proofs.live.LiveMatches.count_above.Goals.{then-index-eq0-via-then-index-eq0, then-index-eq0-via-else-index-eq0+then-ends_by}

pub returns-then-index-eq0 : goal.returns-then-index-eq0
returns-then-index-eq0 c hi o =
    let ms = listed c.args.self.now in
    let k = c.index_from-index.result in
    all_above hi c.args.place ms k o (c.index_from-index.ensures hi o)
    (λ some. elim c.then-index-eq0.branch [
      | then-index-eq0-via-then-index-eq0 w ↦ absurd (some w.if-index-eq0.true)
      | then-index-eq0-via-else-index-eq0+then-ends_by w ↦ sym (w.ends_by.ensures ∙ ap (ends_by c.args.place) w.get.ensures) ∙ w.if-ends_by.true
    ])

pub returns : goal.returns
returns c hi o =
    last_touches hi c.args.place (listed c.args.self.now) c.index_from-index.result o (c.index_from-index.ensures hi o) c.if-index-eq0.false
    (sym (c.ends_by.ensures ∙ ap (ends_by c.args.place) c.get.ensures) ∙ c.if-ends_by.false)
