-- Nodes as they are read.
use Rattle.std.proofs.Common.{◌≡◌, ◌≢◌, ℕ, ◌+◌, ◌<◌, ◌≤◌, List, Option, Some, None, length, get_or, eqb, cond, true, false, slice_get, subst, ap, refl, ◌∙◌, arith}
use Rattle.std.proofs.lemmas.Bool.Decides.{nat_tests}
use Rattle.std.proofs.lemmas.Option.{slice_get_read, slice_get_past}
use Rattle.rc_needles.specs.declared.trie.Node.{Node}
use Rattle.rc_needles.specs.Tries.{child_by, number_at, number_by, step, step_by}

pub found_there : (nodes xs : List Node) (i : ℕ) (x : Node) → xs ≡ nodes → i < length xs → x ≡ get_or xs i x → slice_get nodes i ≡ Some x
found_there nodes xs i x same l e = subst (λ ys. slice_get ys i ≡ Some x) same (slice_get_read xs (length xs) i x refl l e)

pub none_there : (nodes xs : List Node) (i : ℕ) → xs ≡ nodes → length xs ≤ i → slice_get nodes i ≡ None
none_there nodes xs i same l = subst (λ ys. slice_get ys i ≡ None) same (slice_get_past xs i l)

-- the step to a node that is there
pub stepped : (nodes : List Node) (from byte : ℕ) (node : Node) (found : Option Node) → slice_get nodes from ≡ Some node →
    slice_get nodes (node.base + byte) ≡ found → step nodes from byte ≡ child_by from (node.base + byte) found
unfolding step
stepped nodes from byte node found a b = ap (step_by nodes from byte) a ∙ ap (child_by from (node.base + byte)) b

pub child_there : (from to : ℕ) (next : Node) → next.parent ≡ from → child_by from to (Some next) ≡ to
child_there from to next e = let t : eqb next.parent from ≡ true = grind (arith, nat_tests) in ap (λ b. cond b to 0) t

pub no_child : (from to : ℕ) (next : Node) → next.parent ≢ from → child_by from to (Some next) ≡ 0
no_child from to next e = let t : eqb next.parent from ≡ false = grind (arith, nat_tests) in ap (λ b. cond b to 0) t

-- a node that is there, with its base
pub record HasBase (nodes : List Node) (at base : ℕ) : Type 0 where
  pub node : Node
  pub is : slice_get nodes at ≡ Some node
  pub base_is : node.base ≡ base

-- its step to what is found behind the base
pub step_of : (nodes : List Node) (at base byte : ℕ) (found : Option Node) → HasBase nodes at base → slice_get nodes (base + byte) ≡ found →
    step nodes at byte ≡ child_by at (base + byte) found
step_of nodes at base byte found here there =
    let same : here.node.base + byte ≡ base + byte = ap (λ b. b + byte) here.base_is in
    stepped nodes at byte here.node found here.is (ap (slice_get nodes) same ∙ there) ∙ ap (λ to. child_by at to found) same

-- the number of a node that is there
pub numbered_there : (nodes : List Node) (at : ℕ) (node : Node) → slice_get nodes at ≡ Some node → number_at nodes at ≡ node.number
unfolding number_at
numbered_there nodes at node is = ap number_by is
