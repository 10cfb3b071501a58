use Rattle.std.proofs.Common.{◌≡◌, ◌+◌, ◌-◌, ◌∙◌, Some, arith, ap, sym, subst, drop, slice_get}
use Rattle.rc_needles.specs.Tries.{number_at, step}
use Rattle.rc_needles.proofs.FindLemmas.{keeps_on}
use Rattle.rc_needles.proofs.TrieLemmas.{IsWalked, agrees_behind, died, ended_behind, read_behind, walked_more}
use Rattle.rc_needles.proofs.literal.least_number.Goals as goal

pub returns-then-node-eq0-clause-least : goal.returns-then-node-eq0-clause-least
returns-then-node-eq0-clause-least g c needle n carried some stands =
    let content = c.args.input.now.content in
    let at = c.args.at in
    let place = c.loop-place.place in
    let same : c.loop-place.input.content ≡ content = c.loop-place.invariant.keeps.content in
    let got : slice_get content place ≡ Some c.in-Some.byte = rw (← same) (sym c.in-Some.ensures.value) in
    let behind = read_behind content at place c.in-Some.byte c.loop-place.invariant.low got in
    died c.args.trie.now.nodes.items (drop at content) needle n (place - at) c.loop-place.node c.loop-place.best c.in-Some.byte c.loop-place.invariant.walked carried some
    (agrees_behind content needle c.args.end at stands) behind.0 behind.1 (sym c.step-node.ensures ∙ (omega (arith, c.if-node-eq0.true)))

pub loop-place-preserved : goal.loop-place-preserved
loop-place-preserved g c =
    let nodes = c.args.trie.now.nodes.items in
    let content = c.args.input.now.content in
    let at = c.args.at in
    let place = c.loop-place.place in
    let same : c.loop-place.input.content ≡ content = c.loop-place.invariant.keeps.content in
    let got : slice_get content place ≡ Some c.in-Some.byte = rw (← same) (sym c.in-Some.ensures.value) in
    let behind = read_behind content at place c.in-Some.byte c.loop-place.invariant.low got in
    let next : place - at + 1 ≡ place + 1 - at = omega (arith, c.loop-place.invariant.low) in
    let is = ap (number_at nodes) c.step-node.ensures in
    record {
      keeps = keeps_on c.args.input.now c.loop-place.input c.byte_at.new.input c.loop-place.invariant.keeps c.byte_at.ensures.keeps;
      low = omega (arith, c.loop-place.invariant.low);
      walked = rw c.step-node.ensures (subst (λ d. IsWalked nodes (drop at content) d (step nodes c.loop-place.node c.in-Some.byte) c.min-best.result) next
          (walked_more nodes (drop at content) (place - at) c.loop-place.node c.loop-place.best c.in-Some.byte c.min-best.result c.loop-place.invariant.walked
          behind.0 behind.1 (omega (arith, c.min-best.ensures)) (omega (arith, c.min-best.ensures, c.number.ensures, is))));
    }

pub returns-clause-least : goal.returns-clause-least
returns-clause-least g c needle n carried some stands =
    let content = c.args.input.now.content in
    let at = c.args.at in
    ended_behind c.args.trie.now.nodes.items content needle n at c.loop-place.place c.args.end c.loop-place.node c.loop-place.best
    c.loop-place.invariant.walked carried some stands (omega (arith, c.loop-place-test.false)) c.loop-place.invariant.low c.requires
