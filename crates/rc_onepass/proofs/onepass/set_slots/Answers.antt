use Rattle.std.proofs.Common.{◌≡◌, ◌-◌, ◌∙◌, Some, ap, arith, length, refl, slice_get, sym}
use Rattle.std.proofs.lemmas.List.{set_past}
use Rattle.std.proofs.lemmas.Option.{same_Some, slice_get_read, slice_get_within}
use Rattle.rc_onepass.specs.declared.row.Link.{Link}
use Rattle.rc_onepass.proofs.LinkLemmas.{left_none, left_there, left_turn}
use Rattle.rc_onepass.proofs.onepass.set_slots.Goals as goal
use Rattle.rc_onepass.proofs.onepass.set_slots.Goals.{then-link-slots, else-link-slots}

pub returns-in-None-clause-marks : goal.returns-in-None-clause-marks
returns-in-None-clause-marks c ks names =
    let t = left_there c.args.links.now c.loop-number.number c.args.at ks c.args.slots.now c.loop-number.slots (omega (arith, c.loop-number-test.true))
    (c.loop-number.invariant.left ks names) in
    let l = slice_get_within c.args.links.now (c.loop-number.number - 1) t.0 t.1 in
    let past = c.in-None.ensures.lookup.3 in
    absurd (omega (arith, l, past))

pub returns-then-link-number-clause-marks : goal.returns-then-link-number-clause-marks
returns-then-link-number-clause-marks c ks names =
    let t = left_there c.args.links.now c.loop-number.number c.args.at ks c.args.slots.now c.loop-number.slots (omega (arith, c.loop-number-test.true))
    (c.loop-number.invariant.left ks names) in
    let link = c.in-Some.link.now in
    let there : slice_get c.args.links.now (c.loop-number.number - 1) ≡ Some link =
    slice_get_read c.args.links.now (length c.args.links.now) (c.loop-number.number - 1) link refl c.in-Some.ensures.lookup.3.0 c.in-Some.ensures.lookup.1 in
    let same : t.0.before ≡ link.before = ap (λ (k : Link). k.before) (same_Some t.0 link (sym t.1 ∙ there)) in
    let lower = t.2 in let high = c.if-link-number.true in
    absurd (omega (arith, same, lower, high))

pub loop-number-preserved : goal.loop-number-preserved
loop-number-preserved c = record {
  long = c.if-link-slots.auto.slots ∙ c.loop-number.invariant.long;
  left = λ ks names.
      left_turn c.args.links.now c.loop-number.number c.args.at ks c.args.slots.now c.loop-number.slots c.if-link-slots.slots c.in-Some.link.now
      (omega (arith, c.loop-number-test.true))
      (slice_get_read c.args.links.now (length c.args.links.now) (c.loop-number.number - 1) c.in-Some.link.now refl c.in-Some.ensures.lookup.3.0
      c.in-Some.ensures.lookup.1)
      (elim c.if-link-slots.branch [
        | then-link-slots w ↦ w.slots-is
        | else-link-slots w ↦ w.slots-is ∙ sym (set_past c.loop-number.slots c.in-Some.link.now.slot (Some c.args.at) (let l = w.if-link-slots.false in omega (arith, l)))
      ])
      (c.loop-number.invariant.left ks names);
}

pub returns-clause-marks : goal.returns-clause-marks
returns-clause-marks c ks names =
    left_none c.args.links.now c.loop-number.number c.args.at ks c.args.slots.now c.loop-number.slots (omega (arith, c.loop-number-test.false))
    (c.loop-number.invariant.left ks names)
