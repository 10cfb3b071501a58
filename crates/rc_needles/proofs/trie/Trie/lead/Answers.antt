use Rattle.std.proofs.Common.{◌≡◌, ◌+◌, ◌∙◌, Some, None, arith, ap, refl, slice_get, slice_index}
use Rattle.rc_needles.specs.Tries.{number_at, step}
use Rattle.rc_needles.proofs.NodeLemmas.{child_there, found_there, no_child, none_there, numbered_there, step_of}
use Rattle.rc_needles.proofs.TrieLemmas.{died, walked_more}
use Rattle.rc_needles.proofs.trie.Trie.lead.Goals as goal

pub returns-in_default : goal.returns-in_default
returns-in_default c needle n carried some agrees =
    let nodes = c.args.self.now.nodes.items in
    let loop = c.loop-byte in
    let byte = slice_index c.args.bytes.now loop.byte-index in
    let none = none_there nodes c.deref-in-loop-byte.result.now (loop.base + byte) c.deref-in-loop-byte.ensures.value c.in_default.ensures.lookup.3 in
    died nodes c.args.bytes.now needle n loop.byte-index loop.at loop.number byte loop.invariant.walked carried some agrees
    (omega (arith, c.loop-byte-test.true)) refl (step_of nodes loop.at loop.base byte None loop.invariant.here none)

pub returns-then-next-at : goal.returns-then-next-at
returns-then-next-at c needle n carried some agrees =
    let nodes = c.args.self.now.nodes.items in
    let loop = c.loop-byte in
    let byte = slice_index c.args.bytes.now loop.byte-index in
    let next = c.in-Some.next.now in
    let k = c.in-Some.ensures.lookup in
    let there = found_there nodes c.deref-in-loop-byte.result.now (loop.base + byte) next c.deref-in-loop-byte.ensures.value k.3.0 k.1 in
    died nodes c.args.bytes.now needle n loop.byte-index loop.at loop.number byte loop.invariant.walked carried some agrees
    (omega (arith, c.loop-byte-test.true)) refl
    (step_of nodes loop.at loop.base byte (Some next) loop.invariant.here there ∙ no_child loop.at (loop.base + byte) next c.if-next-at.true)

pub loop-byte-preserved : goal.loop-byte-preserved
loop-byte-preserved c =
    let nodes = c.args.self.now.nodes.items in
    let loop = c.loop-byte in
    let byte = slice_index c.args.bytes.now loop.byte-index in
    let to = loop.base + byte in
    let next = c.in-Some.next.now in
    let k = c.in-Some.ensures.lookup in
    let there : slice_get nodes to ≡ Some next = found_there nodes c.deref-in-loop-byte.result.now to next c.deref-in-loop-byte.ensures.value k.3.0 k.1 in
    let step_is : step nodes loop.at byte ≡ to =
    step_of nodes loop.at loop.base byte (Some next) loop.invariant.here there ∙ child_there loop.at to next (omega (arith, c.if-next-at.false)) in
    let number_is : number_at nodes (step nodes loop.at byte) ≡ next.number = ap (number_at nodes) step_is ∙ numbered_there nodes to next there in
    record {
      walked = rw (← step_is)
          (walked_more nodes c.args.bytes.now loop.byte-index loop.at loop.number byte c.min-number.result loop.invariant.walked
          (omega (arith, c.loop-byte-test.true)) refl (omega (arith, c.min-number.ensures)) (omega (arith, c.min-number.ensures, number_is)));
      here = record { node = next; is = there; base_is = refl };
    }
