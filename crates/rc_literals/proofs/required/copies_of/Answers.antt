use Rattle.std.proofs.Common.{◌++◌, ap, ◌∙◌, ◌+◌, ◌-◌}
use Rattle.rc_literals.specs.Required.{copies_of}
use Rattle.rc_literals.proofs.RequiredLemmas.{copy_added}
use Rattle.rc_literals.proofs.required.copies_of.Goals as goal

pub loop-preserved : goal.loop-preserved
loop-preserved c =
    let bytes = c.args.bytes.now in
    let more = c.in_ok-extend_from_slice.ensures.items in
    ap (λ xs. xs ++ copies_of (c.args.count - (c.loop.counter + 1)) bytes) more
    ∙ copy_added c.loop.copies.items bytes (copies_of c.args.count bytes) c.args.count c.loop.counter c.loop-test.true c.loop.invariant
