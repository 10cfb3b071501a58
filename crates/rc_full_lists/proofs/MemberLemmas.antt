-- Which codes a list has.
use Rattle.std.proofs.Common.{◌≡◌, ℕ, Bool, true, false, not, ◌||◌, List, ◌∷◌, Option, Some, None, refl, ap, sym, subst, ◌∙◌}
use Rattle.std.specs.List.{list_any}
use Rattle.rc_tokens.specs.Text.{Characters}
use Rattle.rc_class_sets.specs.Sets.{CodeSet}
use Rattle.rc_class_sets.specs.Folding.{IsClosed, complement_if, folded}
use Rattle.rc_class_sets.proofs.FoldLemmas.{fold_order_law}
use Rattle.rc_full_lists.specs.declared.parts.Settings.{Settings}
use Rattle.rc_full_lists.specs.declared.parts.Part.TheVariants as part
use Rattle.rc_full_lists.specs.declared.parts.Operation.{Operation}
use Rattle.rc_full_lists.specs.declared.parts.Operation.TheVariants.{Intersection, Difference, SymmetricDifference}
use Rattle.rc_full_lists.specs.declared.items.Item.{Item}
use Rattle.rc_full_lists.specs.Items.{is_negated, named_set, item_set}
use Rattle.rc_full_lists.specs.Sides.{Side, no_codes, apply, so_far, so_far_by}
use Rattle.rc_full_lists.specs.Lists.{Progress, begun, lead_set, one, with_item, with_list, operated, Inside, closes, item, operator, nested, IsList, brackets}
use Rattle.rc_full_lists.specs.Laws as laws
use Rattle.rc_full_lists.specs.Laws.{Union, ListsHaveTheirItems, ListsStayFolded}
use Rattle.rc_full_lists.proofs.ListLemmas.{there, inside_next, list_parts, one_list}

-- ---- lists without operators

or_nothing : (a : Bool) → a ≡ (a || false)
or_nothing true = refl
or_nothing false = refl

or_one : (a b c : Bool) → ((a || b) || c) ≡ (a || (b || c))
or_one true b c = refl
or_one false b c = refl

-- behind items and lists the left side stays, and their codes are added
adds : (s : Settings) (fold : Bool) (t u v : Characters) (ps : List CodeSet) (r end : Progress) → Union s fold t ps u → Inside s fold r t end v →
    (end.side.left ≡ r.side.left) × ((c : ℕ) → end.side.items c ≡ (r.side.items c || list_any (λ q. q c) ps))
adds s fold _ _ v _ r end (laws.closes t a u p is) i =
    let (e, _) = inside_next s fold part.Closes t u v r end (there s t a u part.Closes p is) i in
    (ap (λ x. x.side.left) (sym e), λ c. ap (λ x. x.side.items c) (sym e) ∙ or_nothing (r.side.items c))
adds s fold _ _ v _ r end (laws.item t a b u i ps p is n) j =
    let q = item_set s.unicode fold i in
    let (left, items) = adds s fold b u v ps (with_item q r) end n (inside_next s fold (part.Has i) t b v r end (there s t a b (part.Has i) p is) j) in
    (left, λ c. items c ∙ or_one (r.side.items c) (q c) (list_any (λ q. q c) ps))
adds s fold _ _ v _ r end (laws.nested t a b c u q d ps p is l n) j =
    let (q', d', c', l', n') = inside_next s fold part.Opens t b v r end (there s t a b part.Opens p is) j in
    let (e, f, g) = one_list s fold b q q' d d' c c' l l' in
    let inside = subst (λ y. Inside s fold (with_list q d' r) y end v) (sym g) (subst (λ y. Inside s fold (with_list y d' r) c' end v) (sym e) n') in
    let (left, items) = adds s fold c u v ps (with_list q d' r) end n inside in
    (left, λ x. items x ∙ or_one (r.side.items x) (q x) (list_any (λ q. q x) ps))

complement_same : (negated : Bool) (p q : CodeSet) (c : ℕ) → p c ≡ q c → complement_if negated p c ≡ complement_if negated q c
complement_same true p q c e = ap not e
complement_same false p q c e = e

pub members_law : ListsHaveTheirItems
members_law s fold t a u v negated lead ps p d c o n l =
    let (end, i, e, _) = list_parts s fold t a v negated lead p d o l in
    let (left, items) = adds s fold a u v ps (begun (lead_set s.unicode fold lead)) end n i in
    ap (λ q. q c) (sym e)
    ∙ complement_same negated (so_far end.side) (λ c. list_any (λ q. q c) (lead_set s.unicode fold lead ∷ ps)) c
    (ap (λ x. so_far_by x end.side.items c) left ∙ items c)

-- ---- folded lists

closed_if : (negated : Bool) (p : CodeSet) → IsClosed p → IsClosed (complement_if negated p)
closed_if true p h = fold_order_law.of_complement p h
closed_if false p h = h

closed_item : (u : Bool) (i : Item) → u ≡ true → IsClosed (item_set u true i)
closed_item u i on = subst (λ u. IsClosed (item_set u true i)) (sym on) (closed_if (is_negated i) (folded true (named_set true i)) (fold_order_law.of_folded (named_set true i)))

closed_none : IsClosed no_codes
closed_none c d e = refl

closed_lead : (u : Bool) (l : Option ℕ) → u ≡ true → IsClosed (lead_set u true l)
closed_lead u None on = closed_none
closed_lead u (Some c) on = closed_item u (one c) on

closed_apply : (o : Operation) (p q : CodeSet) → IsClosed p → IsClosed q → IsClosed (apply o p q)
closed_apply Intersection p q = fold_order_law.of_intersection p q
closed_apply Difference p q = fold_order_law.of_difference p q
closed_apply SymmetricDifference p q = fold_order_law.of_symmetric_difference p q

abbrev ClosedLeft : Option (CodeSet × Operation) → Type 0
ClosedLeft None = Unit {0}
ClosedLeft (Some l) = IsClosed l.0

closed_far : (l : Option (CodeSet × Operation)) (p : CodeSet) → ClosedLeft l → IsClosed p → IsClosed (so_far_by l p)
closed_far None p h g = g
closed_far (Some l) p h g = closed_apply l.1 l.0 p h g

abbrev ClosedSide : Side → Type 0
ClosedSide s = ClosedLeft s.left × IsClosed s.items

mutual
  closed_inside : (s : Settings) (on : s.unicode ≡ true) (t u : Characters) (r end : Progress) → Inside s true r t end u → ClosedSide r.side → ClosedSide end.side
  closed_inside s on _ _ _ _ (closes r t a u p is) h = h
  closed_inside s on _ _ _ _ (item r end t a b u i p is n) h =
      closed_inside s on b u (with_item (item_set s.unicode true i) r) end n
      (h.0, fold_order_law.of_union r.side.items (item_set s.unicode true i) h.1 (closed_item s.unicode i on))
  closed_inside s on _ _ _ _ (operator r end t a b u o p is n) h =
      closed_inside s on b u (operated o r) end n (closed_far r.side.left r.side.items h.0 h.1, closed_none)
  closed_inside s on _ _ _ _ (nested r end t a b c u q d p is l n) h =
      closed_inside s on c u (with_list q d r) end n (h.0, fold_order_law.of_union r.side.items q h.1 (closed_list s on b q d c l))

  closed_list : (s : Settings) (on : s.unicode ≡ true) (t : Characters) (p : CodeSet) (d : ℕ) (u : Characters) → IsList s true t p d u → IsClosed p
  closed_list s on _ _ _ _ (brackets t a u negated lead end o i) =
      let h = closed_inside s on a u (begun (lead_set s.unicode true lead)) end i (tt, closed_lead s.unicode lead on) in
      closed_if negated (so_far end.side) (closed_far end.side.left end.side.items h.0 h.1)

pub folded_law : ListsStayFolded
folded_law s t p d u on l = closed_list s on t p d u l
