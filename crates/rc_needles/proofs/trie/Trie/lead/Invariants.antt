use Rattle.rc_needles.proofs.NodeLemmas.{HasBase}
use Rattle.rc_needles.proofs.TrieLemmas.{IsWalked}
use Rattle.rc_needles.proofs.trie.Trie.lead.Given as goal

abbrev pub invariant-loop-byte : goal.invariant-loop-byte
invariant-loop-byte l = record {
  walked : IsWalked l.self.nodes.items l.bytes l.byte-index l.at l.number;
  here : HasBase l.self.nodes.items l.at l.base;
}
