use Rattle.std.proofs.Common.{◌∙◌, ◌++◌, ap, arith}
use Rattle.live_matches.specs.Entries.{TwoSides}
use Rattle.live_matches.proofs.Rings.{taken}
use Rattle.live_matches.proofs.sides.Sides.take_after.Goals as goal

pub returns-clause-taken : goal.returns-clause-taken
returns-clause-taken c =
    let ring = c.next.inside.ring in
    taken c.next.inside.count_after c.self.inside.count_after ring.items c.self.inside.ring.items c.append.new.self.items c.args.self.now c.args.next
    (c.in_ok-append.ensures.items ∙ ap (λ ys. ys ++ c.self.inside.ring.items) (c.in_ok-reserve_exact.ensures.items ∙ c.truncate.ensures.items))
    (omega (arith, c.next.invariant, ring.ok.0)) (c.self.view_is ∙ c.drop_after.ensures) c.next.view_is

pub returns-clause-before : goal.returns-clause-before
returns-clause-before c =
    let ring = c.next.inside.ring in
    ap (λ (s : TwoSides). s.before)
    (taken c.next.inside.count_after c.self.inside.count_after ring.items c.self.inside.ring.items c.append.new.self.items c.args.self.now c.args.next
    (c.in_ok-append.ensures.items ∙ ap (λ ys. ys ++ c.self.inside.ring.items) (c.in_ok-reserve_exact.ensures.items ∙ c.truncate.ensures.items))
    (omega (arith, c.next.invariant, ring.ok.0)) (c.self.view_is ∙ c.drop_after.ensures) c.next.view_is)
