use Rattle.std.proofs.Common.{◌≡◌, ◌≢◌, ◌≤◌, ℕ, take}
use Rattle.rc_needles.specs.Tries.{walk}
use Rattle.rc_needles.proofs.trie.Trie.carries.Given as goal

abbrev pub invariant-loop-byte : goal.invariant-loop-byte
invariant-loop-byte l = record {
  node_is : l.at ≡ walk l.self.nodes.items 1 (take l.byte-index l.needle);
  lives : (d : ℕ) → d ≤ l.byte-index → walk l.self.nodes.items 1 (take d l.needle) ≢ 0;
}
