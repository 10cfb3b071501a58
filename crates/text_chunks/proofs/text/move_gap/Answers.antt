use Rattle.std.proofs.Common.{ap, arith, length}
use Rattle.std.proofs.lemmas.Result.{on_ok_weaker}
use Rattle.text_chunks.proofs.Turned.{length-turned, turn_over}
use Rattle.text_chunks.proofs.text.move_gap.Goals as goal

pub returns-then-index-front-clause-same : goal.returns-then-index-front-clause-same
returns-then-index-front-clause-same c = turn_over c.pour.new.to c.pour.new.from c.args.after.now c.args.before.now c.pour.ensures.moved

pub returns-else-index-front-clause-there : goal.returns-else-index-front-clause-there
returns-else-index-front-clause-there c =
    let poured = c.pour-else-index-front in
    let sizes = ap length poured.ensures.moved in
    let now = length-turned poured.new.to poured.new.from in
    let before = length-turned c.args.before.now c.args.after.now in
    on_ok_weaker poured.result
    (λ left. omega (arith, left, sizes, now, before, c.count.ensures.value, c.count-front.ensures.value, c.if-index-front.false, c.requires.index))
    poured.ensures.left
