-- Which nodes a pattern has, node by node.
use Rattle.std.proofs.Common.{◌≡◌, Bool, true, false, IsTrue, true≢false, List, [], ◌∷◌, ◌++◌, map, sym, ap, ◌∙◌, refl, Vec, Global}
use Rattle.std.proofs.lemmas.Bool.{and_parts, and_from}
use Rattle.std.proofs.lemmas.List.{map-append}
use Rattle.rc_pattern.specs.Re.{Re, empty}
use Rattle.rc_pattern.specs.Meaning.{meaning, kind_meaning, cat_all, alt_all, class_meaning}
use Rattle.rc_pattern.specs.Kinds.{all_true, some_and_all, plain_node, plain_capture, plain_repetition, plain_hir, has_plain_nodes, kind_has_plain_nodes, all_have_plain_nodes, KindLaw}
use Rattle.rc_pattern.specs.declared.hir.Class.{Class}
use Rattle.rc_pattern.specs.declared.hir.Class.TheVariants.{Unicode, Bytes}
use Rattle.rc_pattern.specs.declared.hir.Hir.{Hir, out-Hir, fold_out-Hir}
use Rattle.rc_pattern.specs.declared.hir.HirKind.{HirKind, fold-roll-HirKind}
use Rattle.rc_pattern.specs.declared.hir.HirKind.TheVariants as HirKind
use Rattle.rc_pattern.specs.declared.hir.HirKind.TheOpen.{HirKind-F}
use Rattle.rc_pattern.proofs.FoldLemmas.{meaning_of_hir, meaning_of_repetition, meaning_of_capture, kind_Literal, kind_Class, kind_Look, kind_Repetition, kind_Capture, kind_Concat, kind_Alternation, IsNode, is_Empty, is_Literal, is_Class, is_Look, is_Repetition, is_Capture, is_Concat, is_Alternation, is_node}

-- a pattern is its uppermost node
pub plain_of_hir : (h : Hir) → has_plain_nodes h ≡ kind_has_plain_nodes (out-Hir h).kind
plain_of_hir h = fold_out-Hir Bool Bool Bool Bool plain_node plain_capture plain_hir plain_repetition h

-- a concatenation has a member, and no member has a concatenation of nothing
pub plain_Concat : (subs : Vec Hir Global) → kind_has_plain_nodes (HirKind.Concat subs) ≡ some_and_all (map has_plain_nodes subs.items)
plain_Concat subs =
    ap kind_has_plain_nodes (sym (HirKind.rolls-Concat subs))
    ∙ fold-roll-HirKind Bool Bool Bool Bool plain_node plain_capture plain_hir plain_repetition (HirKind-F.Concat subs)

pub plain_Alternation : (subs : Vec Hir Global) → kind_has_plain_nodes (HirKind.Alternation subs) ≡ all_true (map has_plain_nodes subs.items)
plain_Alternation subs =
    ap kind_has_plain_nodes (sym (HirKind.rolls-Alternation subs))
    ∙ fold-roll-HirKind Bool Bool Bool Bool plain_node plain_capture plain_hir plain_repetition (HirKind-F.Alternation subs)

pub plain_Literal : (bytes : Vec _ Global) → IsTrue (kind_has_plain_nodes (HirKind.Literal bytes))
plain_Literal bytes =
    ap kind_has_plain_nodes (sym (HirKind.rolls-Literal bytes))
    ∙ fold-roll-HirKind Bool Bool Bool Bool plain_node plain_capture plain_hir plain_repetition (HirKind-F.Literal bytes)

all_appended : (xs ys : List Bool) → IsTrue (all_true xs) → IsTrue (all_true ys) → IsTrue (all_true (xs ++ ys))
all_appended [] ys h k = k
all_appended (true ∷ xs) ys h k = all_appended xs ys h k
all_appended (false ∷ xs) ys h k = h

all_parts : (xs ys : List Bool) → IsTrue (all_true (xs ++ ys)) → IsTrue (all_true xs) × IsTrue (all_true ys)
all_parts [] ys h = (refl, h)
all_parts (true ∷ xs) ys h = all_parts xs ys h
all_parts (false ∷ xs) ys h = absurd (true≢false (sym h))

-- patterns behind others
pub plain_append : (xs ys : List Hir) → IsTrue (all_have_plain_nodes xs) → IsTrue (all_have_plain_nodes ys) → IsTrue (all_have_plain_nodes (xs ++ ys))
plain_append xs ys h k = ap all_true (map-append has_plain_nodes xs ys) ∙ all_appended (map has_plain_nodes xs) (map has_plain_nodes ys) h k

pub plain_split : (xs ys : List Hir) → IsTrue (all_have_plain_nodes (xs ++ ys)) → IsTrue (all_have_plain_nodes xs) × IsTrue (all_have_plain_nodes ys)
plain_split xs ys h = all_parts (map has_plain_nodes xs) (map has_plain_nodes ys) (ap all_true (sym (map-append has_plain_nodes xs ys)) ∙ h)

some_are_all : (xs : List Bool) → IsTrue (some_and_all xs) → IsTrue (all_true xs)
some_are_all [] h = absurd (true≢false (sym h))
some_are_all (x ∷ xs) h = h

-- the members of a concatenation
pub plain_members : (subs : Vec Hir Global) → IsTrue (kind_has_plain_nodes (HirKind.Concat subs)) → IsTrue (all_have_plain_nodes subs.items)
plain_members subs h = some_are_all (map has_plain_nodes subs.items) (sym (plain_Concat subs) ∙ h)

class_not_empty : (c : Class) → class_meaning c ≡ empty → ⊥
class_not_empty (Unicode rs) = λ e. cc
class_not_empty (Bytes rs) = λ e. cc

cat_not_empty : (xs : List Hir) → IsTrue (some_and_all (map has_plain_nodes xs)) → cat_all (map meaning xs) ≡ empty → ⊥
cat_not_empty [] h = λ e. true≢false (sym h)
cat_not_empty (x ∷ xs) h = λ e. cc

alt_not_empty : (xs : List Re) → alt_all xs ≡ empty → ⊥
alt_not_empty [] = λ e. cc
alt_not_empty (x ∷ xs) = λ e. cc

only_empty : (k : HirKind) → IsNode k → IsTrue (kind_has_plain_nodes k) → kind_meaning k ≡ empty → k ≡ HirKind.Empty
only_empty k is_Empty h e = refl
only_empty k (is_Literal bytes) h e = let f = sym (kind_Literal bytes) ∙ e in cc
only_empty k (is_Class c) h e = absurd (class_not_empty c (sym (kind_Class c) ∙ e))
only_empty k (is_Look l) h e = let f = sym (kind_Look l) ∙ e in cc
only_empty k (is_Repetition r) h e = let f = sym (meaning_of_repetition r) ∙ sym (kind_Repetition r) ∙ e in cc
only_empty k (is_Capture c) h e = let f = sym (meaning_of_capture c) ∙ sym (kind_Capture c) ∙ e in cc
only_empty k (is_Concat subs) h e = absurd (cat_not_empty subs.items (sym (plain_Concat subs) ∙ h) (sym (kind_Concat subs) ∙ e))
only_empty k (is_Alternation subs) h e = absurd (alt_not_empty (map meaning subs.items) (sym (kind_Alternation subs) ∙ e))

pub kind_law : KindLaw
kind_law h plain e = only_empty (out-Hir h).kind (is_node (out-Hir h).kind) (sym (plain_of_hir h) ∙ plain) (sym (meaning_of_hir h) ∙ e)

-- one pattern
pub plain_one : (h : Hir) → IsTrue (all_have_plain_nodes (h ∷ [])) → IsTrue (has_plain_nodes h)
plain_one h p = (and_parts (has_plain_nodes h) true p).0

one_plain : (h : Hir) → IsTrue (has_plain_nodes h) → IsTrue (all_have_plain_nodes (h ∷ []))
one_plain h p = and_from (has_plain_nodes h) true p refl

-- one pattern behind others, by its node
pub plain_behind : (xs ys : List Hir) (h : Hir) → ys ≡ xs ++ h ∷ [] → IsTrue (all_have_plain_nodes xs) → IsTrue (kind_has_plain_nodes (out-Hir h).kind) →
    IsTrue (all_have_plain_nodes ys)
plain_behind xs ys h e p q = ap all_have_plain_nodes e ∙ plain_append xs (h ∷ []) p (one_plain h (plain_of_hir h ∙ q))

-- a pattern's node, where it is known
pub plain_node_of : (h : Hir) (k : HirKind) → (out-Hir h).kind ≡ k → IsTrue (has_plain_nodes h) → IsTrue (kind_has_plain_nodes k)
plain_node_of h k e p = ap kind_has_plain_nodes (sym e) ∙ sym (plain_of_hir h) ∙ p
