use Rattle.std.proofs.Common.{◌≡◌, ◌∙◌, sym, ap, inr, arith, Some, None, false}
use Rattle.rc_text.specs.Text.{high}
use Rattle.rc_needles.specs.Needles.{find_needle}
use Rattle.rc_needles.specs.Prefilters.{needles_of}
use Rattle.rc_needles.proofs.StartLemmas.{needle_law}
use Rattle.rc_pikevm.proofs.pass.next_position.Goals as goal

pub returns-in_default-find_from-clause-next : goal.returns-in_default-find_from-clause-next
returns-in_default-find_from-clause-next g c h =
    let needles = needles_of c.in-Some.needles.now in
    let content = c.args.input.now.content in
    let guarded = rw c.in-Some.is at h in
    let e : find_needle needles content c.args.at (high c.args.input.now) ≡ None =
    ap (find_needle needles content c.args.at) (sym c.requires.inside.1) ∙ sym c.find_from.ensures.value ∙ c.in_default-find_from.is in
    let none = (needle_law.not_found needles content c.args.at (high c.args.input.now)).0 e in (
      c.if-not-idle.false,
      λ y low most. guarded false c.args.input.now y (omega (arith, most, c.requires.inside.1)) (none y low),
    )

pub returns-clause-next : goal.returns-clause-next
returns-clause-next g c h =
    let needles = needles_of c.in-Some.needles.now in
    let content = c.args.input.now.content in
    let hit = c.in-Some-find_from.hit in
    let guarded = rw c.in-Some.is at h in
    let e : find_needle needles content c.args.at (high c.args.input.now) ≡ Some hit =
    ap (find_needle needles content c.args.at) (sym c.requires.inside.1) ∙ sym c.find_from.ensures.value ∙ c.in-Some-find_from.is in
    let first = (needle_law.found needles content c.args.at (high c.args.input.now) hit).0 e in
    let within = c.in-Some-find_from.ensures.within in (
      within.0,
      omega (arith, within.1, within.2),
      inr (
        c.if-not-idle.false,
        λ y low before.
            guarded false c.args.input.now y (omega (arith, before, within.1, within.2, c.requires.inside.1)) (first.none_before y low before),
      ),
    )
