use Rattle.std.proofs.Common.{◌∙◌, ℕ, ◌-◌, ◌≤◌, sym, ap, subst, arith}
use Rattle.std.specs.Prelude.{IfSome}
use Rattle.std.specs.List.{slice_get}
use Rattle.live_matches.specs.Entry.{Entry}
use Rattle.live_matches.specs.Drawn.{AreAhead, IsSplit, place_before}
use Rattle.live_matches.specs.Entries.{all_of}
use Rattle.live_matches.proofs.Drawns.{drawn, end_later}
use Rattle.live_matches.proofs.changes.change_of.Goals as goal

pub returns-clause-changed : goal.returns-clause-changed
returns-clause-changed c old was ahead split laid =
    let raw = subst (λ (n : ℕ). IsSplit c.args.edit old (all_of c.args.entries.now)
    (record { first = c.args.first; dropped = c.args.dropped; added = n - c.args.first; span = c.args.edit.replaced })) (sym c.count_before.ensures) split in
    let t = (c.trimmed-change.ensures.split old was ahead raw laid).changed in
    record {
      kept = t.kept;
      gone = t.gone;
      anew = t.anew;
      rest = t.rest;
      old_is = t.old_is;
      new_is = t.new_is;
      first = sym c.trimmed-change.ensures.first ∙ t.first;
      dropped = t.dropped;
      added = t.added;
    }

pub returns-clause-drawn : goal.returns-clause-drawn
returns-clause-drawn c old was ahead split laid =
    let raw = subst (λ (n : ℕ). IsSplit c.args.edit old (all_of c.args.entries.now)
    (record { first = c.args.first; dropped = c.args.dropped; added = n - c.args.first; span = c.args.edit.replaced })) (sym c.count_before.ensures) split in
    let edit = c.args.edit in
    let g = c.args.entries.now in
    let change = c.trimmed-change.result in
    let same = c.trimmed-change.ensures.first in
    let t = c.trimmed-change.ensures.split old was ahead raw laid in
    let there = subst (λ k. AreAhead old k c.args.ahead.now) (sym same) ahead in
    let end = c.max-2.result in
    let least = c.end_of_edit.ensures (omega (arith, laid.len, laid.inside, laid.order, laid.fits)) in
    let from = c.start_with.ensures.at in
    drawn edit old (all_of g) change t was g.len laid (record { start = c.start_with.result; end = end })
    (omega (arith, from, c.start_with-start.ensures.at))
    (omega (arith, c.max-2.ensures, c.max.ensures, least))
    (λ e is.
    let h : c.start_with-start.result ≤ e.found.start = subst (λ o. IfSome o (λ (x : Entry). c.start_with-start.result ≤ x.found.start))
    (ahead.first ∙ ap (slice_get old) (sym same) ∙ is) c.start_with-start.ensures.entry in
    omega (arith, h, from))
    (λ e is. subst (λ o. IfSome o (λ (x : Entry). c.start_with.result ≤ x.found.start))
    (c.get.ensures ∙ ap (slice_get (all_of g)) (sym same) ∙ is) c.start_with.ensures.entry)
    (end_later (place_before edit c.end_of_old-went.result) (place_before edit end) t.changed.gone (omega (arith, c.max-2.ensures))
    (c.end_of_old-went.ensures old was there t laid))
    (end_later c.end_of_new-came.result end t.changed.anew (omega (arith, c.max-2.ensures, c.max.ensures)) (c.end_of_new-came.ensures old was t laid))
