use Rattle.std.proofs.Common.{arith, drop, refl, rules, subst}
use Rattle.rc_tokens.specs.Marks.{written_atom}
use Rattle.rc_explain.specs.Reading.{IsMember}
use Rattle.rc_explain.proofs.Shapes.{is_shifted}
use Rattle.rc_explain.proofs.lists.member_at.Goals as goal

pub returns : goal.returns
returns c =
    let t = c.args.mark.now in
    let at = c.args.at in
    let n = c.in-Some.count in
    let read : IsMember c.from.result.now c.in-Some.member n = search rules in
    let here : IsMember (drop at t) c.in-Some.member n = subst (λ s. IsMember s c.in-Some.member n) c.from.ensures read in
    let fits = c.ranges.at.fits in
    let end = c.saturating_add.ensures in (
      record {
        atom = here.atom;
        says = here.says;
        here = is_shifted at t 0 n at c.saturating_add.result c.requires (omega (arith, fits)) (omega (arith, end)) (written_atom here.atom) here.here;
      },
      refl,
    )
