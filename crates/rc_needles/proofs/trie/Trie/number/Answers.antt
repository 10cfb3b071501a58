use Rattle.std.proofs.Common.{ap, sym}
use Rattle.rc_needles.specs.Tries.{number_at, number_by}
use Rattle.rc_needles.proofs.NodeLemmas.{found_there, none_there}
use Rattle.rc_needles.proofs.trie.Trie.number.Goals as goal

pub returns-in-Some : goal.returns-in-Some
unfolding number_at
returns-in-Some c =
    let h = c.in-Some.ensures.lookup in
    sym (ap number_by (found_there c.args.self.now.nodes.items c.deref.result.now c.args.at c.in-Some.node.now c.deref.ensures.value h.3.0 h.1))

pub returns-in-None : goal.returns-in-None
unfolding number_at
returns-in-None c = sym (ap number_by (none_there c.args.self.now.nodes.items c.deref.result.now c.args.at c.deref.ensures.value c.in-None.ensures.lookup.3))
