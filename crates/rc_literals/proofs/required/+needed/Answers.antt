use Rattle.std.proofs.Common.{◌-◌, arith}
use Rattle.rc_needles.specs.Tables.{needles_in}
use Rattle.rc_literals.proofs.RequiredLemmas.{no_image, none_from}
use Rattle.rc_literals.proofs.required.+needed.Goals as goal

pub put_needed_by_each-returns-then-is_none : goal.put_needed_by_each-returns-then-is_none
put_needed_by_each-returns-then-is_none t c =
    none_from c.args.longer c.args.subs.now (c.loop-i.i - 1) c.loop-i.i c.index-subs-i.result _ _ _ _ (omega arith) (omega arith) c.index-subs-i.is
    c.in_ok-put_needed.ensures c.loop-i.invariant c.in_ok-join.ensures
    (no_image (λ v. needles_in v.items) _ c.is_none.result c.is_none.ensures c.if-is_none.true)
