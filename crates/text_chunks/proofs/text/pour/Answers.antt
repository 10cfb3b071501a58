use Rattle.std.proofs.Common.{◌≡◌, ◌+◌, ◌-◌, ap, arith, length, take}
use Rattle.text_chunks.proofs.Counts.{bytes, bytes-push}
use Rattle.text_chunks.proofs.Turned.{bytes-turned, top_is}
use Rattle.text_chunks.proofs.text.pour.Goals as goal

pub push-requires : goal.push-requires
push-requires c =
    let f = c.loop-from.from in
    let t = c.loop-from.to in
    let n = c.count-top.result - 1 in
    let top = c.get.result in
    let size : n + 1 ≡ length f = omega (arith, c.count-top.ensures.value, c.count.ensures.value, c.loop-from-test.true) in
    omega (
      arith,
      ap bytes (top_is f n top size c.get.ensures.same),
      bytes-push (take n f) top,
      bytes-turned t f,
      bytes-turned c.args.to.now c.args.from.now,
      ap bytes c.loop-from.invariant.moved,
      c.requires.fits,
    )
