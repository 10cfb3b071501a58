use Rattle.std.proofs.Common.{◌≡◌, ◌+◌, Some, None, slice_get, ap, sym, ◌∙◌}
use Rattle.rc_needles.specs.Tries.{step, step_by}
use Rattle.rc_needles.proofs.NodeLemmas.{found_there, none_there, stepped, child_there, no_child}
use Rattle.rc_needles.proofs.trie.Trie.step.Goals as goal

pub returns-in_default : goal.returns-in_default
unfolding step
returns-in_default c =
    let nodes = c.args.self.now.nodes.items in
    sym (ap (step_by nodes c.args.from c.args.byte) (none_there nodes c.deref.result.now c.args.from c.deref.ensures.value c.in_default.ensures.lookup.3))

pub returns-then-next-from : goal.returns-then-next-from
returns-then-next-from c =
    let nodes = c.args.self.now.nodes.items in
    let node = c.in-Some.node.now in
    let next = c.in-Some-get.next.now in
    let h = c.in-Some.ensures.lookup in
    let k = c.in-Some-get.ensures.lookup in
    let to = node.base + c.args.byte in
    let a : slice_get nodes c.args.from ≡ Some node = found_there nodes c.deref.result.now c.args.from node c.deref.ensures.value h.3.0 h.1 in
    let b : slice_get nodes to ≡ Some next = found_there nodes c.deref-2.result.now to next c.deref-2.ensures.value k.3.0 k.1 in
    sym (stepped nodes c.args.from c.args.byte node (Some next) a b ∙ child_there c.args.from to next c.if-next-from.true)

pub returns-else-next-from : goal.returns-else-next-from
returns-else-next-from c =
    let nodes = c.args.self.now.nodes.items in
    let node = c.in-Some.node.now in
    let next = c.in-Some-get.next.now in
    let h = c.in-Some.ensures.lookup in
    let k = c.in-Some-get.ensures.lookup in
    let to = node.base + c.args.byte in
    let a : slice_get nodes c.args.from ≡ Some node = found_there nodes c.deref.result.now c.args.from node c.deref.ensures.value h.3.0 h.1 in
    let b : slice_get nodes to ≡ Some next = found_there nodes c.deref-2.result.now to next c.deref-2.ensures.value k.3.0 k.1 in
    sym (stepped nodes c.args.from c.args.byte node (Some next) a b ∙ no_child c.args.from to next c.if-next-from.false)

pub returns-in-None : goal.returns-in-None
returns-in-None c =
    let nodes = c.args.self.now.nodes.items in
    let node = c.in-Some.node.now in
    let h = c.in-Some.ensures.lookup in
    let to = node.base + c.args.byte in
    let a : slice_get nodes c.args.from ≡ Some node = found_there nodes c.deref.result.now c.args.from node c.deref.ensures.value h.3.0 h.1 in
    sym (stepped nodes c.args.from c.args.byte node None a (none_there nodes c.deref-2.result.now to c.deref-2.ensures.value c.in-None.ensures.lookup.3))
