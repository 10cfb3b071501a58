-- How the reading of a list goes on, part by part.
use Rattle.std.proofs.Common.{◌≡◌, ◌↔◌, ℕ, ◌+◌, ◌≤◌, Bool, List, [], ◌∷◌, Option, Some, None, length, refl, ap, sym, subst, ◌∙◌, arith}
use Rattle.std.proofs.lemmas.Option.{none-some}
use Rattle.rc_tokens.specs.Text.{Characters}
use Rattle.rc_tokens.proofs.StepLemmas.{pair_parts}
use Rattle.rc_class_sets.specs.Sets.{CodeSet}
use Rattle.rc_full_lists.specs.declared.parts.Settings.{Settings}
use Rattle.rc_full_lists.specs.declared.parts.Part.{Part}
use Rattle.rc_full_lists.specs.declared.parts.Part.TheVariants as part
use Rattle.rc_full_lists.specs.Items.{item_set}
use Rattle.rc_full_lists.specs.Parts.{Passes, IsPart}
use Rattle.rc_full_lists.specs.Read.{passed, read_part}
use Rattle.rc_full_lists.specs.Openings.{IsOpening}
use Rattle.rc_full_lists.specs.Lists.{Progress, begun, lead_set, with_item, with_list, operated, list_set, Inside, closes, item, operator, nested, IsList, brackets}
use Rattle.rc_full_lists.specs.Levels as levels
use Rattle.rc_full_lists.specs.Levels.{Level, Levels, at, level_set, opened, around, Moves}
use Rattle.rc_full_lists.specs.Laws.{ListsInOneWay}
use Rattle.rc_full_lists.proofs.PartLemmas.{passes_there, passed_passes, part_sound, part_again}
use Rattle.rc_full_lists.proofs.OpeningLemmas.{one_opening}

-- ---- one part

-- behind the part k
abbrev pub Next : Settings → Bool → Part → Characters → Progress → Progress → Characters → Type 0
Next s fold part.Closes b r end u = (r ≡ end) × (b ≡ u)
Next s fold (part.Has i) b r end u = Inside s fold (with_item (item_set s.unicode fold i) r) b end u
Next s fold (part.Operates o) b r end u = Inside s fold (operated o r) b end u
Next s fold part.Opens b r end u =
    (p : CodeSet) × (depth : ℕ) × (c : Characters) × IsList s fold b p depth c × Inside s fold (with_list p depth r) c end u

abbrev pub Begins : Settings → Characters → Part → Characters → Type 0
Begins s t k b = read_part s (passed s.verbose t) ≡ Some (k, b)

is_there : (s : Settings) (t b : Characters) (k : Part) → Begins s t k b → IsPart s (passed s.verbose t) k b
is_there s t b k h = part_sound s (passed s.verbose t) k b h

pub there : (s : Settings) (t a b : Characters) (k : Part) → Passes s.verbose t a → IsPart s a k b → Begins s t k b
there s t a b k p is = subst (λ x. read_part s x ≡ Some (k, b)) (passes_there s.verbose t a p) (part_again s a k b is)

pub next_inside : (s : Settings) (fold : Bool) (k : Part) (t b u : Characters) (r end : Progress) → Begins s t k b → Next s fold k b r end u → Inside s fold r t end u
next_inside s fold part.Closes t b u r end h (e, f) =
    subst (λ x. Inside s fold r t x u) e (subst (λ x. Inside s fold r t r x) f
    (closes r t (passed s.verbose t) b (passed_passes s.verbose t) (is_there s t b part.Closes h)))
next_inside s fold (part.Has i) t b u r end h n = item r end t (passed s.verbose t) b u i (passed_passes s.verbose t) (is_there s t b (part.Has i) h) n
next_inside s fold (part.Operates o) t b u r end h n =
    operator r end t (passed s.verbose t) b u o (passed_passes s.verbose t) (is_there s t b (part.Operates o) h) n
next_inside s fold part.Opens t b u r end h (p, depth, c, l, n) =
    nested r end t (passed s.verbose t) b c u p depth (passed_passes s.verbose t) (is_there s t b part.Opens h) l n

abbrev pub Goes : Settings → Bool → Characters → Characters → Progress → Progress → Type 0
Goes s fold t u r end = (k : Part) × (b : Characters) × Begins s t k b × Next s fold k b r end u

pub goes : (s : Settings) (fold : Bool) (t u : Characters) (r end : Progress) → Inside s fold r t end u → Goes s fold t u r end
goes s fold _ _ _ _ (closes r t a u p is) = (part.Closes, u, there s t a u part.Closes p is, (refl, refl))
goes s fold _ _ _ _ (item r end t a b u i p is n) = (part.Has i, b, there s t a b (part.Has i) p is, n)
goes s fold _ _ _ _ (operator r end t a b u o p is n) = (part.Operates o, b, there s t a b (part.Operates o) p is, n)
goes s fold _ _ _ _ (nested r end t a b c u q depth p is l n) = (part.Opens, b, there s t a b part.Opens p is, (q, depth, c, l, n))

pub inside_next : (s : Settings) (fold : Bool) (k : Part) (t b u : Characters) (r end : Progress) → Begins s t k b → Inside s fold r t end u → Next s fold k b r end u
inside_next s fold k t b u r end h i =
    let (j, c, g, n) = goes s fold t u r end i in
    let (same, tail) = pair_parts j k c b (sym g ∙ h) in
    subst (λ x. Next s fold x b r end u) same (subst (λ y. Next s fold j y r end u) tail n)

-- ---- lists

pub list_parts : (s : Settings) (fold : Bool) (t a u : Characters) (negated : Bool) (lead : Option ℕ) (p : CodeSet) (d : ℕ) → IsOpening s.verbose t negated lead a →
    IsList s fold t p d u → (end : Progress) × Inside s fold (begun (lead_set s.unicode fold lead)) a end u × (list_set negated end ≡ p) × (end.deepest + 1 ≡ d)
list_parts s fold _ a u negated lead _ _ o (brackets t b _ m l end x i) =
    let (e, f, g) = one_opening s.verbose t b a m negated l lead x o in (
      end,
      subst (λ y. Inside s fold (begun (lead_set s.unicode fold y)) a end u) f (subst (λ y. Inside s fold (begun (lead_set s.unicode fold l)) y end u) g i),
      ap (λ y. list_set y end) (sym e),
      refl,
    )

-- ---- no text is read as two lists

mutual
  one_inside : (s : Settings) (fold : Bool) (t u w : Characters) (r v x : Progress) → Inside s fold r t v u → Inside s fold r t x w → (v ≡ x) × (u ≡ w)
  one_inside s fold _ _ w _ _ x (closes r t a u p is) j = inside_next s fold part.Closes t u w r x (there s t a u part.Closes p is) j
  one_inside s fold _ _ w _ _ x (item r v t a b u i p is n) j =
      one_inside s fold b u w _ v x n (inside_next s fold (part.Has i) t b w r x (there s t a b (part.Has i) p is) j)
  one_inside s fold _ _ w _ _ x (operator r v t a b u o p is n) j =
      one_inside s fold b u w _ v x n (inside_next s fold (part.Operates o) t b w r x (there s t a b (part.Operates o) p is) j)
  one_inside s fold _ _ w _ _ x (nested r v t a b c u q d p is l n) j =
      let (q', d', c', l', n') = inside_next s fold part.Opens t b w r x (there s t a b part.Opens p is) j in
      let (e, f, g) = one_list s fold b q q' d d' c c' l l' in
      one_inside s fold c u w (with_list q d r) v x n
      (subst (λ y. Inside s fold (with_list q d r) y x w) (sym g) (subst (λ y. Inside s fold (with_list q y r) c' x w) (sym f)
      (subst (λ y. Inside s fold (with_list y d' r) c' x w) (sym e) n')))

  pub one_list : (s : Settings) (fold : Bool) (t : Characters) (p q : CodeSet) (d e : ℕ) (u w : Characters) → IsList s fold t p d u → IsList s fold t q e w →
      (p ≡ q) × (d ≡ e) × (u ≡ w)
  one_list s fold _ _ q _ e _ w (brackets t a u negated lead end o i) l =
      let (other, j, f, g) = list_parts s fold t a w negated lead q e o l in
      let (same, tail) = one_inside s fold a u w _ end other i j in
      (ap (list_set negated) same ∙ f, ap (λ r. r.deepest + 1) same ∙ g, tail)

pub one_list_law : ListsInOneWay
one_list_law s fold t p q d e u w l m = one_list s fold t p q d e u w l m

-- ---- the lists that are open

-- where the innermost list ends, and those around it go on
abbrev Out : Settings → Bool → List Level → Bool → Progress → Characters → CodeSet → ℕ → Characters → Type 0
Out s fold [] negated end b p d u = (p ≡ list_set negated end) × (d ≡ end.deepest + 1) × (u ≡ b)
Out s fold (m ∷ ls) negated end b p d u = (next : Progress) × (c : Characters)
    × Inside s fold (with_list (list_set negated end) (end.deepest + 1) m.progress) b next c × Out s fold ls m.negated next c p d u

-- the rest of the outermost list
abbrev Rest : Settings → Bool → Levels → Characters → CodeSet → ℕ → Characters → Type 0
Rest s fold ls t p d u = (end : Progress) × (b : Characters) × Inside s fold ls.inner.progress t end b × Out s fold ls.outer ls.inner.negated end b p d u

-- the lists that are open in front of t are those of the text
abbrev pub Same : Settings → Bool → Characters → Levels → Characters → Type 0
Same s fold text ls t = (p : CodeSet) (d : ℕ) (u : Characters) → IsList s fold text p d u ↔ Rest s fold ls t p d u

pub same_start : (s : Settings) (fold : Bool) (text a : Characters) (negated : Bool) (lead : Option ℕ) → IsOpening s.verbose text negated lead a →
    Same s fold text (at (opened s.unicode fold negated lead) []) a
same_start s fold text a negated lead o p d u = (
  λ l. let (end, i, e, f) = list_parts s fold text a u negated lead p d o l in (end, u, i, (sym e, sym f, refl)),
  λ (end, b, i, (e, f, g)). subst (λ y. IsList s fold text y d u) (sym e) (subst (λ y. IsList s fold text (list_set negated end) y u) (sym f)
      (subst (λ y. IsList s fold text (list_set negated end) (end.deepest + 1) y) (sym g) (brackets text a b negated lead end o i))),
)

rest_moves : (s : Settings) (fold : Bool) (ls after : Levels) (k : Part) (t b c u : Characters) (p : CodeSet) (d : ℕ) → Begins s t k b → Moves s fold ls k b after c →
    Rest s fold ls t p d u ↔ Rest s fold after c p d u
rest_moves s fold _ _ _ t b _ u p d h (levels.item l ls i _) = (
  λ (end, x, n, o). (end, x, inside_next s fold (part.Has i) t b x l.progress end h n, o),
  λ (end, x, n, o). (end, x, next_inside s fold (part.Has i) t b x l.progress end h n, o),
)
rest_moves s fold _ _ _ t b _ u p d h (levels.operator l ls op _) = (
  λ (end, x, n, o). (end, x, inside_next s fold (part.Operates op) t b x l.progress end h n, o),
  λ (end, x, n, o). (end, x, next_inside s fold (part.Operates op) t b x l.progress end h n, o),
)
rest_moves s fold _ _ _ t _ _ u p d h (levels.opens l ls b c negated lead begins) = (
  λ (end, x, n, o).
      let (q, depth, y, list, m) = inside_next s fold part.Opens t b x l.progress end h n in
      let (last, i, e, f) = list_parts s fold b c y negated lead q depth begins list in (
        last,
        y,
        i,
        (
          end,
          x,
          subst (λ z. Inside s fold (with_list z (last.deepest + 1) l.progress) y end x) (sym e)
              (subst (λ z. Inside s fold (with_list q z l.progress) y end x) (sym f) m),
          o,
        ),
      ),
  λ (last, y, i, (end, x, m, o)).
      (end, x, next_inside s fold part.Opens t b x l.progress end h (list_set negated last, last.deepest + 1, y, brackets b c y negated lead last begins i, m), o),
)
rest_moves s fold _ _ _ t b _ u p d h (levels.closes l m ls _) = (
  λ (end, x, n, o). let (e, f) = inside_next s fold part.Closes t b x l.progress end h n in
      subst (λ z. Out s fold (m ∷ ls) l.negated l.progress z p d u) (sym f) (subst (λ z. Out s fold (m ∷ ls) l.negated z x p d u) (sym e) o),
  λ o. (l.progress, b, next_inside s fold part.Closes t b b l.progress l.progress h (refl, refl), o),
)

pub same_moves : (s : Settings) (fold : Bool) (text : Characters) (ls after : Levels) (k : Part) (t b c : Characters) → Same s fold text ls t → Begins s t k b →
    Moves s fold ls k b after c → Same s fold text after c
same_moves s fold text ls after k t b c same h m p d u =
    let first = same p d u in let then = rest_moves s fold ls after k t b c u p d h m in
    (λ l. then.0 (first.0 l), λ r. first.1 (then.1 r))

-- no part begins the rest
pub same_stuck : (s : Settings) (fold : Bool) (text : Characters) (ls : Levels) (t : Characters) → Same s fold text ls t → read_part s (passed s.verbose t) ≡ None →
    (p : CodeSet) (d : ℕ) (u : Characters) → IsList s fold text p d u → ⊥
same_stuck s fold text ls t same h p d u l =
    let (end, x, n, o) = (same p d u).0 l in let (k, b, g, _) = goes s fold t x ls.inner.progress end n in none-some (k, b) (sym h ∙ g)

-- the outermost list ends
pub same_ends : (s : Settings) (fold : Bool) (text : Characters) (ls : Levels) (t b : Characters) → Same s fold text ls t → ls.outer ≡ [] → Begins s t part.Closes b →
    IsList s fold text (level_set ls.inner) (ls.inner.progress.deepest + 1) b
same_ends s fold text ls t b same none h =
    (same (level_set ls.inner) (ls.inner.progress.deepest + 1) b).1 (
      ls.inner.progress,
      b,
      next_inside s fold part.Closes t b b ls.inner.progress ls.inner.progress h (refl, refl),
      subst (λ x. Out s fold x ls.inner.negated ls.inner.progress b (level_set ls.inner) (ls.inner.progress.deepest + 1) b) (sym none) (refl, refl, refl),
    )

-- ---- depth

inside_deeper : (s : Settings) (fold : Bool) (t u : Characters) (r end : Progress) → Inside s fold r t end u → r.deepest ≤ end.deepest
inside_deeper s fold _ _ _ _ (closes r t a u p is) = omega arith
inside_deeper s fold _ _ _ _ (item r end t a b u i p is n) = inside_deeper s fold b u _ end n
inside_deeper s fold _ _ _ _ (operator r end t a b u o p is n) = inside_deeper s fold b u _ end n
inside_deeper s fold _ _ _ _ (nested r end t a b c u q d p is l n) = let h = inside_deeper s fold c u (with_list q d r) end n in omega (arith, h)

out_deeper : (s : Settings) (fold : Bool) (ls : List Level) (negated : Bool) (end : Progress) (b : Characters) (p : CodeSet) (d : ℕ) (u : Characters) →
    Out s fold ls negated end b p d u → length ls + end.deepest + 1 ≤ d
out_deeper s fold [] negated end b p d u (e, f, g) = omega (arith, f)
out_deeper s fold (m ∷ ls) negated end b p d u (next, c, n, o) =
    let inner = inside_deeper s fold b c (with_list (list_set negated end) (end.deepest + 1) m.progress) next n in
    let outer = out_deeper s fold ls m.negated next c p d u o in
    omega (arith, inner, outer)

list_deep : (s : Settings) (fold : Bool) (t u : Characters) (p : CodeSet) (d : ℕ) → IsList s fold t p d u → 1 ≤ d
list_deep s fold _ _ _ _ (brackets t a u negated lead end o i) = omega arith

-- one list more is too deep
pub same_deep : (s : Settings) (fold : Bool) (text : Characters) (limit : ℕ) (ls : Levels) (t b : Characters) → Same s fold text ls t → Begins s t part.Opens b →
    limit ≤ length ls.outer + 1 → (p : CodeSet) (d : ℕ) (u : Characters) → IsList s fold text p d u → d ≤ limit → ⊥
same_deep s fold text limit ls t b same h few p d u l within =
    let (end, x, n, o) = (same p d u).0 l in
    let (q, depth, c, list, m) = inside_next s fold part.Opens t b x ls.inner.progress end h n in
    let some = list_deep s fold b c q depth list in
    let inner = inside_deeper s fold c x (with_list q depth ls.inner.progress) end m in
    let outer = out_deeper s fold ls.outer ls.inner.negated end x p d u o in
    omega (arith, some, inner, outer, few, within)

pub none_flat : (s : Settings) (fold : Bool) (text : Characters) (limit : ℕ) → limit ≡ 0 → (p : CodeSet) (d : ℕ) (u : Characters) → IsList s fold text p d u → d ≤ limit → ⊥
none_flat s fold text limit none p d u l within = let some = list_deep s fold text u p d l in omega (arith, none, some, within)
