-- How many steps the drop of a pattern takes.
use Rattle.std.proofs.Common.{◌≡◌, ℕ, suc, ◌+◌, ◌<◌, ◌≤◌, List, [], ◌∷◌, ◌++◌, length, map, sym, ap, ◌∙◌, refl, subst, Vec, Global, Option, Some, None, IfSome, slice_index_or, slice_set, arith}
use Rattle.rc_pattern.specs.Drops.{Steps, others, waiting, parent, step_node, step_capture, step_hir, step_repetition, steps, items_of, steps_left}
use Rattle.rc_pattern.specs.declared.hir.Look.{Look}
use Rattle.rc_pattern.specs.declared.hir.Class.{Class}
use Rattle.rc_pattern.specs.declared.hir.Hir.{Hir, out-Hir, fold_out-Hir}
use Rattle.rc_pattern.specs.declared.hir.HirKind.{HirKind, fold-HirKind, fold-roll-HirKind}
use Rattle.rc_pattern.specs.declared.hir.HirKind.TheVariants as HirKind
use Rattle.rc_pattern.specs.declared.hir.HirKind.TheOpen.{HirKind-F}
use Rattle.rc_pattern.specs.declared.hir.Repetition.{Repetition, out-Repetition, fold_out-Repetition}
use Rattle.rc_pattern.specs.declared.hir.Capture.{Capture, out-Capture, fold_out-Capture}
use Rattle.rc_pattern.proofs.FoldLemmas.{IsNode, is_Empty, is_Literal, is_Class, is_Look, is_Repetition, is_Capture, is_Concat, is_Alternation, is_node}

abbrev kind_steps : HirKind → Steps
kind_steps = fold-HirKind Steps Steps Steps Steps step_node step_capture step_hir step_repetition

of_hir : (h : Hir) → steps h ≡ kind_steps (out-Hir h).kind
of_hir h = fold_out-Hir Steps Steps Steps Steps step_node step_capture step_hir step_repetition h

kind_Empty : kind_steps HirKind.Empty ≡ parent []
kind_Empty =
    ap kind_steps (sym HirKind.rolls-Empty)
    ∙ fold-roll-HirKind Steps Steps Steps Steps step_node step_capture step_hir step_repetition HirKind-F.Empty

kind_Literal : (bytes : Vec ℕ Global) → kind_steps (HirKind.Literal bytes) ≡ parent []
kind_Literal bytes =
    ap kind_steps (sym (HirKind.rolls-Literal bytes))
    ∙ fold-roll-HirKind Steps Steps Steps Steps step_node step_capture step_hir step_repetition (HirKind-F.Literal bytes)

kind_Class : (c : Class) → kind_steps (HirKind.Class c) ≡ parent []
kind_Class c =
    ap kind_steps (sym (HirKind.rolls-Class c))
    ∙ fold-roll-HirKind Steps Steps Steps Steps step_node step_capture step_hir step_repetition (HirKind-F.Class c)

kind_Look : (l : Look) → kind_steps (HirKind.Look l) ≡ parent []
kind_Look l =
    ap kind_steps (sym (HirKind.rolls-Look l))
    ∙ fold-roll-HirKind Steps Steps Steps Steps step_node step_capture step_hir step_repetition (HirKind-F.Look l)

kind_Repetition : (r : Repetition) → kind_steps (HirKind.Repetition r) ≡ parent (map steps ((out-Repetition r).sub.value ∷ []))
kind_Repetition r =
    ap kind_steps (sym (HirKind.rolls-Repetition r))
    ∙ fold-roll-HirKind Steps Steps Steps Steps step_node step_capture step_hir step_repetition (HirKind-F.Repetition r)
    ∙ fold_out-Repetition Steps Steps Steps Steps step_node step_capture step_hir step_repetition r

kind_Capture : (c : Capture) → kind_steps (HirKind.Capture c) ≡ parent (map steps ((out-Capture c).sub.value ∷ []))
kind_Capture c =
    ap kind_steps (sym (HirKind.rolls-Capture c))
    ∙ fold-roll-HirKind Steps Steps Steps Steps step_node step_capture step_hir step_repetition (HirKind-F.Capture c)
    ∙ fold_out-Capture Steps Steps Steps Steps step_node step_capture step_hir step_repetition c

kind_Concat : (subs : Vec Hir Global) → kind_steps (HirKind.Concat subs) ≡ parent (map steps subs.items)
kind_Concat subs =
    ap kind_steps (sym (HirKind.rolls-Concat subs))
    ∙ fold-roll-HirKind Steps Steps Steps Steps step_node step_capture step_hir step_repetition (HirKind-F.Concat subs)

kind_Alternation : (subs : Vec Hir Global) → kind_steps (HirKind.Alternation subs) ≡ parent (map steps subs.items)
kind_Alternation subs =
    ap kind_steps (sym (HirKind.rolls-Alternation subs))
    ∙ fold-roll-HirKind Steps Steps Steps Steps step_node step_capture step_hir step_repetition (HirKind-F.Alternation subs)

-- nodes with children, where they are known
pub steps_Repetition : (h : Hir) (r : Repetition) → (out-Hir h).kind ≡ HirKind.Repetition r
    → steps h ≡ parent (map steps ((out-Repetition r).sub.value ∷ []))
steps_Repetition h r is = of_hir h ∙ ap kind_steps is ∙ kind_Repetition r

pub steps_Capture : (h : Hir) (c : Capture) → (out-Hir h).kind ≡ HirKind.Capture c
    → steps h ≡ parent (map steps ((out-Capture c).sub.value ∷ []))
steps_Capture h c is = of_hir h ∙ ap kind_steps is ∙ kind_Capture c

pub steps_Concat : (h : Hir) (subs : Vec Hir Global) → (out-Hir h).kind ≡ HirKind.Concat subs → steps h ≡ parent (map steps subs.items)
steps_Concat h subs is = of_hir h ∙ ap kind_steps is ∙ kind_Concat subs

pub steps_Alternation : (h : Hir) (subs : Vec Hir Global) → (out-Hir h).kind ≡ HirKind.Alternation subs → steps h ≡ parent (map steps subs.items)
steps_Alternation h subs is = of_hir h ∙ ap kind_steps is ∙ kind_Alternation subs

-- each node takes a step
a_step : (s : Steps) (subs : List Steps) → s ≡ parent subs → 1 ≤ s.1
a_step s subs e = subst (λ (t : Steps). 1 ≤ t.1) (sym e) (omega arith)

kind_step : (k : HirKind) → IsNode k → 1 ≤ (kind_steps k).1
kind_step k is_Empty = a_step _ [] kind_Empty
kind_step k (is_Literal bytes) = a_step _ [] (kind_Literal bytes)
kind_step k (is_Class c) = a_step _ [] (kind_Class c)
kind_step k (is_Look l) = a_step _ [] (kind_Look l)
kind_step k (is_Repetition r) = a_step _ (map steps ((out-Repetition r).sub.value ∷ [])) (kind_Repetition r)
kind_step k (is_Capture c) = a_step _ (map steps ((out-Capture c).sub.value ∷ [])) (kind_Capture c)
kind_step k (is_Concat subs) = a_step _ (map steps subs.items) (kind_Concat subs)
kind_step k (is_Alternation subs) = a_step _ (map steps subs.items) (kind_Alternation subs)

hir_step : (h : Hir) → 1 ≤ (steps h).1
hir_step h = subst (λ (t : Steps). 1 ≤ t.1) (sym (of_hir h)) (kind_step (out-Hir h).kind (is_node (out-Hir h).kind))

-- the steps of nodes behind others
abbrev others_of : List Hir → ℕ
others_of [] = 0
others_of (h ∷ hs) = (steps h).1 + others_of hs

are_others : (hs : List Hir) → others (map steps hs) ≡ others_of hs
are_others [] = refl
are_others (h ∷ hs) = ap (λ n. (steps h).1 + n) (are_others hs)

others_append : (xs ys : List Hir) → others_of (xs ++ ys) ≡ others_of xs + others_of ys
others_append [] ys = omega arith
others_append (x ∷ xs) ys = let e = others_append xs ys in omega (arith, e)

-- the steps of nodes, of which the first is known
first_of : (x : Hir) (xs : List Hir) → waiting (map steps (x ∷ xs)) ≡ (steps x).0 + others_of xs
first_of x xs = ap (λ n. (steps x).0 + n) (are_others xs)

parent_first : (h : Hir) (x : Hir) (xs : List Hir) → steps h ≡ parent (map steps (x ∷ xs)) → (steps h).0 ≡ 1 + ((steps x).0 + others_of xs)
parent_first h x xs e = ap (λ (s : Steps). s.0) e ∙ ap (λ n. 1 + n) (first_of x xs)

parent_other : (h : Hir) (xs : List Hir) → steps h ≡ parent (map steps xs) → (steps h).1 ≡ 2 + others_of xs
parent_other h xs e = ap (λ (s : Steps). s.1) e ∙ ap (λ n. 2 + n) (are_others xs)

-- the node before a leaf comes next
before_leaf : (ys : List Hir) (next leaf : Hir) → waiting (map steps (ys ++ next ∷ [])) < waiting (map steps ((ys ++ next ∷ []) ++ leaf ∷ []))
before_leaf [] next leaf =
    let s = hir_step leaf in
    let a = first_of next [] in
    let b = first_of next (leaf ∷ []) in
    omega (arith, s, a, b)
before_leaf (y ∷ ys) next leaf =
    let a = first_of y (ys ++ next ∷ []) in
    let b = first_of y ((ys ++ next ∷ []) ++ leaf ∷ []) in
    let c = others_append (ys ++ next ∷ []) (leaf ∷ []) in
    let s = hir_step leaf in
    omega (arith, a, b, c, s)

-- below a node that was dropped there is nothing, and the last node that waits comes next
pub last_left : (w : Option (Vec Hir Global)) (leaf : Hir) (o : Option (Hir × Option (Vec Hir Global))) →
    IfSome o (λ left. items_of w ≡ items_of left.1 ++ left.0 ∷ []) → IfSome o (λ left. steps_left left.0 left.1 < steps_left leaf w)
last_left w leaf None e = tt
last_left w leaf (Some left) e =
    subst (λ (xs : List Hir). steps_left left.0 left.1 < waiting (map steps (xs ++ leaf ∷ []))) (sym e) (before_leaf (items_of left.1) left.0 leaf)

-- the only child of a node comes next
before_parent : (xs : List Hir) (sub h : Hir) → steps h ≡ parent (map steps (sub ∷ [])) → waiting (map steps (xs ++ sub ∷ [])) < waiting (map steps (xs ++ h ∷ []))
before_parent [] sub h e =
    let a = parent_first h sub [] e in
    let b = first_of sub [] in
    let c = first_of h [] in
    omega (arith, a, b, c)
before_parent (x ∷ xs) sub h e =
    let a = parent_other h (sub ∷ []) e in
    let b = first_of x (xs ++ sub ∷ []) in
    let c = first_of x (xs ++ h ∷ []) in
    let d = others_append xs (sub ∷ []) in
    let f = others_append xs (h ∷ []) in
    omega (arith, a, b, c, d, f)

-- a node's only child comes next
pub repetition_left : (h sub : Hir) (r : Repetition) (w : Option (Vec Hir Global)) → (out-Hir h).kind ≡ HirKind.Repetition r → sub ≡ (out-Repetition r).sub.value →
    steps_left sub w < steps_left h w
repetition_left h sub r w is e =
    before_parent (items_of w) sub h (steps_Repetition h r is ∙ ap (λ (s : Hir). parent (map steps (s ∷ []))) (sym e))

pub capture_left : (h sub : Hir) (c : Capture) (w : Option (Vec Hir Global)) → (out-Hir h).kind ≡ HirKind.Capture c → sub ≡ (out-Capture c).sub.value →
    steps_left sub w < steps_left h w
capture_left h sub c w is e =
    before_parent (items_of w) sub h (steps_Capture h c is ∙ ap (λ (s : Hir). parent (map steps (s ∷ []))) (sym e))

pub member_left : (h last : Hir) (w : Vec Hir Global) (o : Option (Vec Hir Global)) (subs rest : List Hir) → o ≡ Some w → subs ≡ rest ++ last ∷ [] →
    rest ≡ [] → steps h ≡ parent (map steps subs) → steps_left last (Some w) < steps_left h o
member_left h last w o subs rest is e none s =
    subst (λ (p : Option (Vec Hir Global)). steps_left last (Some w) < steps_left h p) (sym is)
    (before_parent w.items last h
    (s ∙ ap (λ (xs : List Hir). parent (map steps xs)) (e ∙ ap (λ (xs : List Hir). xs ++ last ∷ []) none)))

-- a child comes next, and those that waited are one node
before_all : (x : Hir) (xs rest : List Hir) (h earlier first last : Hir) → steps h ≡ parent (map steps ((first ∷ rest) ++ last ∷ [])) →
    steps earlier ≡ parent (map steps (x ∷ xs)) →
    waiting (map steps (((earlier ∷ rest) ++ first ∷ []) ++ last ∷ [])) < waiting (map steps ((x ∷ xs) ++ h ∷ []))
before_all x xs rest h earlier first last e f =
    let a = parent_other h ((first ∷ rest) ++ last ∷ []) e in
    let b = parent_first earlier x xs f in
    let c = first_of earlier ((rest ++ first ∷ []) ++ last ∷ []) in
    let d = first_of x (xs ++ h ∷ []) in
    let g = others_append (rest ++ first ∷ []) (last ∷ []) in
    let i = others_append rest (first ∷ []) in
    let j = others_append rest (last ∷ []) in
    let k = others_append xs (h ∷ []) in
    omega (arith, a, b, c, d, g, i, j, k)

-- the same by the lists that the code has
pub members_left : (h earlier first last : Hir) (o : Option (Vec Hir Global)) (w all : Vec Hir Global) (subs rest put : List Hir) → o ≡ Some w → 1 ≤ length w.items →
    1 ≤ length rest → subs ≡ rest ++ last ∷ [] → first ≡ slice_index_or rest 0 first → put ≡ slice_set rest 0 earlier → all.items ≡ put ++ first ∷ [] →
    steps earlier ≡ parent (map steps w.items) → steps h ≡ parent (map steps subs) → steps_left last (Some all) < steps_left h o
members_left h earlier first last o w all subs rest put is some more e f p q s t =
    subst (λ (n : Option (Vec Hir Global)). steps_left last (Some all) < steps_left h n) (sym is)
    (subst (λ (xs : List Hir). waiting (map steps (xs ++ last ∷ [])) < waiting (map steps (w.items ++ h ∷ []))) (sym q)
    (by_lists w.items rest put some more f p s (t ∙ ap (λ (xs : List Hir). parent (map steps xs)) e)))
  where
    by_lists : (ws xs ys : List Hir) → 1 ≤ length ws → 1 ≤ length xs → first ≡ slice_index_or xs 0 first → ys ≡ slice_set xs 0 earlier →
        steps earlier ≡ parent (map steps ws) → steps h ≡ parent (map steps (xs ++ last ∷ [])) →
        waiting (map steps ((ys ++ first ∷ []) ++ last ∷ [])) < waiting (map steps (ws ++ h ∷ []))
    by_lists [] xs ys a b f p s t = absurd (omega (arith, a))
    by_lists (v ∷ ws) [] ys a b f p s t = absurd (omega (arith, b))
    by_lists (v ∷ ws) (x ∷ xs) ys a b f p s t =
        subst (λ (zs : List Hir). waiting (map steps ((zs ++ first ∷ []) ++ last ∷ [])) < waiting (map steps ((v ∷ ws) ++ h ∷ []))) (sym p)
        (before_all v ws xs h earlier first last (t ∙ ap (λ (y : Hir). parent (map steps ((y ∷ xs) ++ last ∷ []))) (sym f)) s)

-- the steps that are left of a drop
abbrev pub all_left : Option (Hir × Option (Vec Hir Global)) → ℕ
all_left None = 0
all_left (Some left) = suc (steps_left left.0 left.1)

pub left_falls : (o l : Option (Hir × Option (Vec Hir Global))) (node : Hir) (w : Option (Vec Hir Global)) → l ≡ Some (node, w) →
    IfSome o (λ left. steps_left left.0 left.1 < steps_left node w) → all_left o < all_left l
left_falls None l node w is e = subst (λ (p : Option (Hir × Option (Vec Hir Global))). 0 < all_left p) (sym is) (omega arith)
left_falls (Some left) l node w is e =
    subst (λ (p : Option (Hir × Option (Vec Hir Global))). suc (steps_left left.0 left.1) < all_left p) (sym is) (omega (arith, e))
