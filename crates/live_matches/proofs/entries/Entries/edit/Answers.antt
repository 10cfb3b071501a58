use Rattle.std.proofs.Common.{List, ◌+◌, ◌-◌, ◌∙◌, map, sym, ap, subst, arith}
use Rattle.live_matches.specs.Entry.{Entry}
use Rattle.live_matches.specs.Entries.{AreBehind, AreBelow, Gapped, entries_of, len_after, moved_with}
use Rattle.live_matches.proofs.Gaps.{edited, rise_on}
use Rattle.live_matches.proofs.entries.Entries.edit.Goals as goal

pub invariant_of-self : goal.invariant_of-self
invariant_of-self c =
    let e = c.args.edit in
    let l = c.self.inside in
    let fits = c.requires.edit in
    let len = ap (λ (g : Gapped). g.len) c.self.view_is in
    let below = subst (AreBelow e.replaced.start) (sym (ap (λ (g : Gapped). g.before) c.self.view_is)) c.requires.before in
    rise_on l.len (l.len - (e.replaced.end - e.replaced.start) + e.inserted) 0 e.replaced.start l.sides.before
    (omega (arith, fits.order, fits.inside, len)) c.self.invariant below

pub returns : goal.returns
returns c =
    let e = c.args.edit in
    let l = c.self.inside in
    let fits = c.requires.edit in
    let same = c.self.view_is in
    let behind = subst (AreBehind e.replaced.end) (sym (ap (λ (g : Gapped). g.after) same)) c.requires.after in
    let made : Gapped → Gapped = λ g. record { before = g.before; after = map (moved_with e) g.after; len = len_after e g.len } in
    ap (λ (es : List Entry). record { before = entries_of l.sides.before; after = es; len = len_after e l.len })
    (edited l.len (e.replaced.end - e.replaced.start) e.inserted e.replaced.end l.sides.after (omega arith) behind)
    ∙ ap made same
