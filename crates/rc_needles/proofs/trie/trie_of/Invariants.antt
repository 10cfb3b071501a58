use Rattle.std.proofs.Common.{ℕ, ◌<◌}
use Rattle.rc_needles.specs.Tables.{needles_in, numbered}
use Rattle.rc_needles.specs.Tries.{IsCarried}
use Rattle.rc_needles.proofs.trie.trie_of.Given as goal

abbrev pub invariant-loop-number : goal.invariant-loop-number
invariant-loop-number l = (n : ℕ) → n < l.number → IsCarried l.trie.nodes.items (numbered (needles_in l.needles) n) n
