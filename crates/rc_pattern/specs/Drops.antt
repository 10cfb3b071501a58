-- Only proofs use this file.
-- A bound on the steps that the drop of a pattern takes.
use Rattle.std.specs.Prelude.{ℕ, ◌+◌, Vec, List, [], ◌∷◌, ◌++◌, map, Option, Some, None}
use Rattle.std.specs.Global.{Global}
use Rattle.rc_pattern.specs.declared.hir.Hir.{Hir, fold-Hir}
use Rattle.rc_pattern.specs.declared.hir.HirKind.TheOpen.{HirKind-F, Capture-F, Hir-F, Repetition-F}

-- The steps for a node with all that is below it: for the first node that waits, and for any other. Another node may become the first, which takes
-- a step.
abbrev pub Steps : Type 0
Steps = ℕ × ℕ

abbrev pub others : List Steps → ℕ
others [] = 0
others (s ∷ rest) = s.1 + others rest

-- the steps for nodes that wait
abbrev pub waiting : List Steps → ℕ
waiting [] = 0
waiting (s ∷ rest) = s.0 + others rest

-- a node with these children
abbrev pub parent : List Steps → Steps
parent subs = (1 + waiting subs, 2 + others subs)

abbrev pub step_node : HirKind-F Steps Steps Steps Steps → Steps
step_node HirKind-F.Empty = parent []
step_node (HirKind-F.Literal bs) = parent []
step_node (HirKind-F.Class c) = parent []
step_node (HirKind-F.Look l) = parent []
step_node (HirKind-F.Repetition r) = r
step_node (HirKind-F.Capture c) = c
step_node (HirKind-F.Concat subs) = parent subs.items
step_node (HirKind-F.Alternation subs) = parent subs.items

abbrev pub step_capture : Capture-F Steps Steps Steps Steps → Steps
step_capture c = parent (c.sub.value ∷ [])

abbrev pub step_repetition : Repetition-F Steps Steps Steps Steps → Steps
step_repetition r = parent (r.sub.value ∷ [])

abbrev pub step_hir : Hir-F Steps Steps Steps Steps → Steps
step_hir h = h.kind

abbrev pub steps : Hir → Steps
steps = fold-Hir Steps Steps Steps Steps step_node step_capture step_hir step_repetition

abbrev pub items_of : Option (Vec Hir Global) → List Hir
items_of None = []
items_of (Some nodes) = nodes.items

-- the steps that are left, with this node next
abbrev pub steps_left : Hir → Option (Vec Hir Global) → ℕ
steps_left next nodes = waiting (map steps (items_of nodes ++ next ∷ []))
