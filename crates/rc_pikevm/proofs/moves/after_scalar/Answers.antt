use Rattle.std.proofs.Common.{◌∙◌, ◌-◌, ap, arith, sym, map, take}
use Rattle.rc_pattern.specs.Meaning.{char_range}
use Rattle.rc_text.specs.Text.{high}
use Rattle.rc_program.specs.Scalars.{scalar_at}
use Rattle.rc_pikevm.specs.Near.{seen_from}
use Rattle.rc_pikevm.proofs.LookUpLemmas.{scalar_size, scalar_move}
use Rattle.rc_pikevm.proofs.moves.after_scalar.Goals as goal

pub overflow_add-result : goal.overflow_add-result
overflow_add-result g c =
    let here = sym c.requires.0.near.scalar ∙ ap (λ hi. scalar_at (take (hi - c.args.spot.now.at) c.args.spot.now.after.now)) (sym c.requires.0.setting.bound)
    ∙ sym c.in-Some.ensures in
    let r = scalar_size g.text.content c.args.spot.now.at (high g.text) c.in-Some.c c.in-Some.count here in
    omega (arith, r, c.args.spot.now.course.small, c.requires.0.setting.bound)

pub returns : goal.returns
returns g c n is =
    scalar_move (seen_from c.args.spot.now g.text) c.args.place c.args.spot.now.at c.in-Some.c c.in-Some.count n (map char_range c.args.ranges.now.items) is
    (sym c.requires.0.near.scalar ∙ ap (λ hi. scalar_at (take (hi - c.args.spot.now.at) c.args.spot.now.after.now)) (sym c.requires.0.setting.bound)
    ∙ sym c.in-Some.ensures)
    (sym (c.takes_scalar.ensures n is) ∙ c.if-not-takes_scalar.false)
