use Rattle.std.proofs.Common.{◌≡◌, ◌∙◌, ◌+◌, ◌-◌, Some, sym, ap, subst, arith}
use Rattle.std.specs.List.{slice_get}
use Rattle.live_matches.specs.Entry.{Entry}
use Rattle.live_matches.specs.Drawn.{EndBy, place_before}
use Rattle.live_matches.specs.Entries.{all_of}
use Rattle.live_matches.proofs.Drawns.{end_later, none_went, went_before, went_by, went_fits, went_inside}
use Rattle.live_matches.proofs.changes.end_of_old.Goals as goal

pub returns-then-change-eq0 : goal.returns-then-change-eq0
returns-then-change-eq0 c old was ahead split laid =
    none_went c.args.edit old (all_of c.args.entries.now) c.args.change split was c.args.entries.now.len laid c.if-change-eq0.true (place_before c.args.edit 0)

pub returns-in-Some : goal.returns-in-Some
returns-in-Some c old was ahead split laid =
    let edit = c.args.edit in
    let g = c.args.entries.now in
    let change = c.args.change in
    let e = c.in-Some.last in
    let went : slice_get old (change.first + (change.dropped - 1)) ≡ Some e = c.in-Some.ensures old change.first ahead in
    let same = ap (λ (z : Entry). z.found.end)
    (c.moved.ensures.entry (went_fits edit old (all_of g) change split was g.len laid e (change.first + (change.dropped - 1)) went)) in
    end_later e.found.end (place_before edit c.end.result) split.changed.gone (omega (arith, c.end.ensures.value, same))
    (went_by edit old (all_of g) change split was g.len laid e (omega (arith, c.if-change-eq0.false)) went)

pub returns-in-Some-get : goal.returns-in-Some-get
returns-in-Some-get c old was ahead split laid =
    let g = c.args.entries.now in
    subst (λ k. EndBy (place_before c.args.edit k) split.changed.gone) (sym c.start.ensures.value)
    (went_before c.args.edit old (all_of g) c.args.change split was g.len laid c.in-Some-get.next (sym c.get-2.ensures ∙ c.in-Some-get.is))

pub returns-in-None : goal.returns-in-None
returns-in-None c old was ahead split laid =
    let g = c.args.entries.now in
    subst (λ k. EndBy (place_before c.args.edit k) split.changed.gone) (sym c.text_len.ensures)
    (went_inside c.args.edit old (all_of g) c.args.change split was g.len laid)
