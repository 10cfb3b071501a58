-- Only proofs use this file.
-- Trie: needles as paths of nodes.
use Rattle.std.specs.Prelude.{◌≡◌, ◌≢◌, ℕ, ◌+◌, ◌<◌, ◌≤◌, ◌==◌, List, [], ◌∷◌, Option, Some, None, ⊤, length, slice_get, slice_range, take, if◌then◌else◌}
use denote.Struct.Props.{props}
use Rattle.rc_needles.specs.Openings.{AreOpened}
use Rattle.rc_needles.specs.Tables.{Agrees, numbered}
use Rattle.rc_needles.specs.declared.trie.Node.{Node}
use Rattle.rc_needles.specs.declared.trie.Trie.{Trie}

abbrev pub child_by : ℕ → ℕ → Option Node → ℕ
child_by from to None = 0
child_by from to (Some node) = if node.parent == from then to else 0

abbrev pub step_by : List Node → ℕ → ℕ → Option Node → ℕ
step_by nodes from byte None = 0
step_by nodes from byte (Some node) = child_by from (node.base + byte) (slice_get nodes (node.base + byte))

-- The node to which a byte leads from a node, or 0 for none.
unfoldable pub step : List Node → ℕ → ℕ → ℕ
step nodes from byte = step_by nodes from byte (slice_get nodes from)

abbrev pub number_by : Option Node → ℕ
number_by None = 0
number_by (Some node) = node.number

-- The number of the first needle that ends at a node.
unfoldable pub number_at : List Node → ℕ → ℕ
number_at nodes at = number_by (slice_get nodes at)

-- The node to which bytes lead, one after another.
abbrev pub walk : List Node → ℕ → List ℕ → ℕ
walk nodes at [] = at
walk nodes at (b ∷ bs) = walk nodes (step nodes at b) bs

-- The needle is a path from node 1 that ends at a node whose first needle has at most this number.
pub record IsCarried (nodes : List Node) (needle : List ℕ) (number : ℕ) : Type 0 where
  pub lives : (d : ℕ) → d ≤ length needle → walk nodes 1 (take d needle) ≢ 0
  pub ends : number_at nodes (walk nodes 1 needle) ≤ number

-- Each of the needles is one.
abbrev pub AreCarried : List Node → List (List ℕ) → Type 0
AreCarried nodes needles = (n : ℕ) → n < length needles → IsCarried nodes (numbered needles n) n

-- Each of the needles is one, and has its bits.
abbrev pub AreCarriedBy : Option Trie → List (List ℕ) → Type 0
AreCarriedBy None needles = ⊤
AreCarriedBy (Some trie) needles = AreCarried trie.nodes.items needles × AreOpened trie.openings.items needles

-- It is a fact: there is at most one proof of it.
pub AreCarriedBy-is_fact : (trie : Option Trie) (needles : List (List ℕ)) → IsProp (AreCarriedBy trie needles)
AreCarriedBy-is_fact None needles = hlevel props
AreCarriedBy-is_fact (Some trie) needles = hlevel props

-- The needle of the number occurs in the piece at an index, and none of a smaller number agrees
-- there.
pub record IsFirstIn (needles : List (List ℕ)) (piece : List ℕ) (at number : ℕ) : Type 0 where
  pub fits : at + length (numbered needles number) ≤ length piece
  pub stands : slice_range piece at (at + length (numbered needles number)) ≡ numbered needles number
  pub none_earlier : (k : ℕ) → k < number → k < length needles → ¬ Agrees piece (numbered needles k) at
