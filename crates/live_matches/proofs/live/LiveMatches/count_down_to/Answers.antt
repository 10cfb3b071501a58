use Rattle.std.proofs.Common.{◌∙◌, sym, ap, arith}
use Rattle.live_matches.specs.Live.{listed}
use Rattle.live_matches.specs.Reading.{ends_by}
use Rattle.live_matches.proofs.Windows.{none_at, one_at}
use Rattle.live_matches.proofs.live.LiveMatches.count_down_to.Goals as goal
use Rattle.live_matches.proofs.live.LiveMatches.count_down_to.Goals.{else-index-len-via-then-index-len+else-ends_by, else-index-len-via-else-index-len}

pub returns-then-ends_by : goal.returns-then-ends_by
returns-then-ends_by c hi o =
    one_at hi c.args.place (listed c.args.self.now) c.index_from-index.result o (c.index_from-index.ensures hi o) (omega (arith, c.if-index-len.true, c.len.ensures))
    (sym (c.ends_by.ensures ∙ ap (ends_by c.args.place) c.get.ensures) ∙ c.if-ends_by.true)

pub returns : goal.returns
returns c hi o =
    none_at hi c.args.place (listed c.args.self.now) c.index_from-index.result o (c.index_from-index.ensures hi o)
    (λ some. elim c.else-index-len.branch [
      | else-index-len-via-then-index-len+else-ends_by w ↦ sym (w.ends_by.ensures ∙ ap (ends_by c.args.place) w.get.ensures) ∙ w.if-ends_by.false
      | else-index-len-via-else-index-len w ↦ absurd (omega (arith, some, w.if-index-len.false, c.len.ensures))
    ])
