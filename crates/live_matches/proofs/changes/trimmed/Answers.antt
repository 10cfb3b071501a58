use Rattle.std.proofs.Common.{refl, ◌≡◌, ◌∙◌, ◌+◌, ◌-◌, Some, sym, ap, arith}
use Rattle.std.specs.List.{slice_get}
use Rattle.live_matches.specs.Entries.{all_of}
use Rattle.live_matches.proofs.Drawns.{trimmed, went_fits}
use Rattle.live_matches.proofs.changes.trimmed.Goals as goal

pub returns-clause-split : goal.returns-clause-split
returns-clause-split c old was ahead split laid =
    let edit = c.args.edit in
    let g = c.args.entries.now in
    let raw = c.args.raw in
    let e = c.in-Some.went in
    let went : slice_get old (raw.first + (raw.dropped - 1)) ≡ Some e = c.in-Some.ensures old raw.first ahead in
    let same = c.if-not-is_same.ensures refl ∙ c.moved.ensures.entry (went_fits edit old (all_of g) raw split was g.len laid e (raw.first + (raw.dropped - 1)) went) in
    trimmed edit old (all_of g) raw split e (omega (arith, c.if-raw-eq0.false)) (omega (arith, c.if-raw-eq0-2.false)) went
    (sym c.get-2.ensures ∙ c.in-Some-get.is ∙ ap Some same)
    (omega (arith, c.if-start-edit.false, c.start.ensures.value)) c.moved.ensures.ordered
