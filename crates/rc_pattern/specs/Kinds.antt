-- Which nodes a pattern has. Its meaning says all of a node but one thing: the node `Empty` and a concatenation of nothing mean the same.
use Rattle.std.specs.Prelude.{◌≡◌, Bool, true, false, ◌&&◌, IsTrue, List, [], ◌∷◌, map}
use Rattle.rc_pattern.specs.Re.{empty}
use Rattle.rc_pattern.specs.Meaning.{meaning}
use Rattle.rc_pattern.specs.declared.hir.Hir.{Hir, fold-Hir, out-Hir}
use Rattle.rc_pattern.specs.declared.hir.HirKind.{HirKind, fold-HirKind}
use Rattle.rc_pattern.specs.declared.hir.Repetition.{Repetition, fold-Repetition}
use Rattle.rc_pattern.specs.declared.hir.Capture.{Capture, fold-Capture}
use Rattle.rc_pattern.specs.declared.hir.HirKind.TheOpen.{HirKind-F, Capture-F, Hir-F, Repetition-F}

abbrev pub all_true : List Bool → Bool
all_true [] = true
all_true (b ∷ bs) = b && all_true bs

-- one at least, and all of them
abbrev pub some_and_all : List Bool → Bool
some_and_all [] = false
some_and_all (b ∷ bs) = b && all_true bs

-- one node, with what its children say in their place
abbrev pub plain_node : HirKind-F Bool Bool Bool Bool → Bool
plain_node HirKind-F.Empty = true
plain_node (HirKind-F.Literal bs) = true
plain_node (HirKind-F.Class c) = true
plain_node (HirKind-F.Look l) = true
plain_node (HirKind-F.Repetition r) = r
plain_node (HirKind-F.Capture c) = c
plain_node (HirKind-F.Concat subs) = some_and_all subs.items
plain_node (HirKind-F.Alternation subs) = all_true subs.items

abbrev pub plain_capture : Capture-F Bool Bool Bool Bool → Bool
plain_capture c = c.sub.value

abbrev pub plain_repetition : Repetition-F Bool Bool Bool Bool → Bool
plain_repetition r = r.sub.value

abbrev pub plain_hir : Hir-F Bool Bool Bool Bool → Bool
plain_hir h = h.kind

-- no node of the pattern is a concatenation of nothing
abbrev pub has_plain_nodes : Hir → Bool
has_plain_nodes = fold-Hir Bool Bool Bool Bool plain_node plain_capture plain_hir plain_repetition

abbrev pub kind_has_plain_nodes : HirKind → Bool
kind_has_plain_nodes = fold-HirKind Bool Bool Bool Bool plain_node plain_capture plain_hir plain_repetition

abbrev pub repetition_has_plain_nodes : Repetition → Bool
repetition_has_plain_nodes = fold-Repetition Bool Bool Bool Bool plain_node plain_capture plain_hir plain_repetition

abbrev pub capture_has_plain_nodes : Capture → Bool
capture_has_plain_nodes = fold-Capture Bool Bool Bool Bool plain_node plain_capture plain_hir plain_repetition

-- so it is with each of the patterns
abbrev pub all_have_plain_nodes : List Hir → Bool
all_have_plain_nodes hs = all_true (map has_plain_nodes hs)

-- Of such a pattern the uppermost node is `Empty` where the pattern is empty.
abbrev pub KindLaw : Type 0
KindLaw = (h : Hir) → IsTrue (has_plain_nodes h) → meaning h ≡ empty → (out-Hir h).kind ≡ HirKind.Empty
