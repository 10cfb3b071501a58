use Rattle.std.proofs.Common.{◌∙◌, ◌+◌, nat_eq, take, drop, length, Some, add-one, ap, sym}
use Rattle.std.specs.List.{starts_with}
use Rattle.rc_class_names.specs.Properties.{parted_at}
use Rattle.rc_class_names.proofs.NameLemmas.{led, parted_step, parted_here, rest_whole}
use Rattle.rc_class_names.proofs.properties.parted_at.Goals as goal

pub returns-then-starts_with : goal.returns-then-starts_with
returns-then-starts_with c =
    c.loop-i.invariant
    ∙ parted_here c.args.sign.now c.args.text.now c.loop-i.i c.loop-i-test.true
    (ap (λ t. starts_with nat_eq t c.args.sign.now) (sym (rest_whole c.args.text.now c.loop-i.i)) ∙ sym c.starts_with.ensures.value ∙ c.if-starts_with.true)
    ∙ ap (λ t. Some (take c.loop-i.i c.args.text.now, t)) (sym (rest_whole c.args.text.now (c.loop-i.i + length c.args.sign.now)))

pub loop-i-preserved : goal.loop-i-preserved
loop-i-preserved c =
    c.loop-i.invariant
    ∙ parted_step c.args.sign.now c.args.text.now c.loop-i.i c.loop-i-test.true
    (ap (λ t. starts_with nat_eq t c.args.sign.now) (sym (rest_whole c.args.text.now c.loop-i.i)) ∙ sym c.starts_with.ensures.value ∙ c.if-starts_with.false)
    ∙ ap (λ n. led (take n c.args.text.now) (parted_at c.args.sign.now (drop n c.args.text.now))) (sym (add-one c.loop-i.i))
