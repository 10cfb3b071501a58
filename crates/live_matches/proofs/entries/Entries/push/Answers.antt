use Rattle.std.proofs.Common.{sym, ap, subst, arith}
use Rattle.live_matches.specs.Entries.{Gapped, Rise, TwoSides}
use Rattle.live_matches.proofs.Gaps.{rise_push}
use Rattle.live_matches.proofs.entries.Entries.push.Goals as goal

pub invariant_of-self-2 : goal.invariant_of-self-2
invariant_of-self-2 c =
    let len = c.self.inside.len in
    let whole = ap (λ (g : Gapped). g.len) c.self.view_is in
    let made = c.kept_after.ensures in
    subst (λ (s : TwoSides). Rise len 0 s.before) (sym c.in_ok-push.ensures.added)
    (rise_push len 0 c.self.inside.sides.before c.kept_after.result c.self.invariant (rw made.entry (omega (arith, c.requires, whole)))
    (omega (arith, made.most, c.most_of-most.ensures)) (rw made.entry made.reach))
