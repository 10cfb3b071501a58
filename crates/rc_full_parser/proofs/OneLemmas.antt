-- A text is read as one pattern.
use Rattle.std.proofs.Common.{◌≡◌, ℕ, Bool, true, false, ◌⊎◌, inl, inr, ⊎_elim, [], Some, None, refl, ap, sym, subst, ◌∙◌}
use Rattle.std.proofs.lemmas.Option.{none-some, same_Some}
use Rattle.rc_tokens.specs.Text.{Characters}
use Rattle.rc_tokens.proofs.StepLemmas.{pair_parts}
use Rattle.rc_parser.specs.Settings.{Settings}
use Rattle.rc_parser.specs.Pieces.{Subpattern}
use Rattle.rc_parser.specs.Grammar.{Level, switched, end_branch, whole, repeated_once, inside, tie, closed}
use Rattle.rc_class_sets.specs.Sets.{CodeSet}
use Rattle.rc_full_lists.specs.Read.{passed}
use Rattle.rc_full_lists.specs.Lists.{IsList}
use Rattle.rc_full_lists.proofs.PartLemmas.{passes_there, passed_passes}
use Rattle.rc_full_lists.proofs.ListLemmas.{one_list_law}
use Rattle.rc_full_parser.specs.Marks as mark
use Rattle.rc_full_parser.specs.Marks.{Mark}
use Rattle.rc_full_parser.specs.Marked.{read_mark}
use Rattle.rc_full_parser.specs.Pieces.{IsPiece, IsListPart}
use Rattle.rc_full_parser.specs.Grammar.{Place, flags, here, at, behind, with_flags, behind_group, mark_settings, list_settings, Begins, Items, ends, closes, bars, sets, repeats, stands, list, group, fresh}
use Rattle.rc_full_parser.specs.Laws.{PatternsInOneWay}
use Rattle.rc_full_parser.proofs.MarkLemmas.{mark_sound, mark_again}
use Rattle.rc_full_parser.proofs.PieceLemmas.{one_piece, one_list_part}

-- ---- one mark

abbrev pub Front : Settings → Place → Characters → Mark → Characters → Type 0
Front s p t k u = read_mark (mark_settings s p) (passed p.verbose t) ≡ Some (k, u)

pub front_of : (s : Settings) (p : Place) (t : Characters) (k : Mark) (u : Characters) → Begins s p t k u → Front s p t k u
front_of s p t k u b = subst (λ x. read_mark (mark_settings s p) x ≡ Some (k, u)) (passes_there p.verbose t b.front b.gaps) (mark_again (mark_settings s p) b.front k u b.is_mark)

pub begins_with : (s : Settings) (p : Place) (t : Characters) (k : Mark) (u : Characters) → Front s p t k u → Begins s p t k u
begins_with s p t k u h = record {
  front = passed p.verbose t;
  gaps = passed_passes p.verbose t;
  is_mark = mark_sound (mark_settings s p) (passed p.verbose t) k u h;
}

-- behind the mark k
abbrev pub Next : Settings → Bool → Place → Mark → Characters → Place → Characters → Type 0
Next s g p mark.closes b end u = (g ≡ true) × (p ≡ end) × (b ≡ u)
Next s g p mark.bar b end u = (l : Level) × (end_branch s (here p) ≡ Some l) × Items s g (at l p.verbose None) b end u
Next s g p (mark.sets to) b end u = Items s g (with_flags to p) b end u
Next s g p (mark.repeats n) b end u = (q : Subpattern) × (r : Subpattern) × (p.last ≡ Some q) × (repeated_once s (flags p) n q ≡ Some r)
    × Items s g (at p.level p.verbose (Some r)) b end u
Next s g p (mark.stands k) b end u = (q : Subpattern) × IsPiece s (flags p) k q × Items s g (behind q p) b end u
Next s g p mark.brackets b end u = (c : CodeSet) × (d : ℕ) × (v : Characters) × (q : Subpattern)
    × IsList (list_settings s p) (flags p).case_insensitive b c d v × IsListPart s (flags p) c d q × Items s g (behind q p) v end u
Next s g p (mark.opens k x) b end u = (from : Level) × (e : Place) × (v : Characters) × (body : Subpattern) × (q : Subpattern)
    × (inside k (here p) ≡ Some from) × Items s true (at from (switched p.verbose x) None) b e v × (whole s (here e) ≡ Some body)
    × (closed s (tie k (here p)) body ≡ Some q) × Items s g (behind_group q e p) v end u

pub next_items : (s : Settings) (g : Bool) (p end : Place) (t b u : Characters) (k : Mark) → Front s p t k b → Next s g p k b end u → Items s g p t end u
next_items s g p end t b u mark.closes h (inner, same, tail) =
    subst (λ x. Items s x p t end u) (sym inner) (subst (λ x. Items s true p t x u) same (subst (λ x. Items s true p t p x) tail
    (closes p t b (begins_with s p t mark.closes b h))))
next_items s g p end t b u mark.bar h (l, done, i) = bars g p end t b u l (begins_with s p t mark.bar b h) done i
next_items s g p end t b u (mark.sets to) h i = sets g p end t b u to (begins_with s p t (mark.sets to) b h) i
next_items s g p end t b u (mark.repeats n) h (q, r, last, done, i) = repeats g p end t b u n q r (begins_with s p t (mark.repeats n) b h) last done i
next_items s g p end t b u (mark.stands k) h (q, is, i) = stands g p end t b u k q (begins_with s p t (mark.stands k) b h) is i
next_items s g p end t b u mark.brackets h (c, d, v, q, is, part, i) = list g p end t b v u c d q (begins_with s p t mark.brackets b h) is part i
next_items s g p end t b u (mark.opens k x) h (from, e, v, body, q, into, i, done, close, j) =
    group g p e end t b v u k x from body q (begins_with s p t (mark.opens k x) b h) into i done close j

abbrev pub Ended : Bool → Place → Characters → Place → Characters → Type 0
Ended g p t end u = (passed p.verbose t ≡ []) × (p ≡ end) × (u ≡ [])

abbrev pub Went : Settings → Bool → Place → Characters → Place → Characters → Type 0
Went s g p t end u = (k : Mark) × (b : Characters) × Front s p t k b × Next s g p k b end u

pub went : (s : Settings) (g : Bool) (p end : Place) (t u : Characters) → Items s g p t end u → Ended g p t end u ⊎ Went s g p t end u
went s _ _ _ _ _ (ends p t gaps) = inl (sym (passes_there p.verbose t [] gaps), refl, refl)
went s _ _ _ _ _ (closes p t u is) = inr (mark.closes, u, front_of s p t mark.closes u is, (refl, refl, refl))
went s _ _ _ _ _ (bars g p end t u v l is done i) = inr (mark.bar, u, front_of s p t mark.bar u is, (l, done, i))
went s _ _ _ _ _ (sets g p end t u v to is i) = inr (mark.sets to, u, front_of s p t (mark.sets to) u is, i)
went s _ _ _ _ _ (repeats g p end t u v n q r is last done i) = inr (mark.repeats n, u, front_of s p t (mark.repeats n) u is, (q, r, last, done, i))
went s _ _ _ _ _ (stands g p end t u v k q is piece i) = inr (mark.stands k, u, front_of s p t (mark.stands k) u is, (q, piece, i))
went s _ _ _ _ _ (list g p end t u v w c d q is l part i) = inr (mark.brackets, u, front_of s p t mark.brackets u is, (c, d, v, q, l, part, i))
went s _ _ _ _ _ (group g p e end t u v w k x from body q is into i done close j) =
    inr (mark.opens k x, u, front_of s p t (mark.opens k x) u is, (from, e, v, body, q, into, i, done, close, j))

none_front : (s : Settings) (p : Place) (t : Characters) (k : Mark) (b : Characters) → passed p.verbose t ≡ [] → Front s p t k b → ⊥
none_front s p t k b h f = none-some (k, b) (sym (ap (read_mark (mark_settings s p)) h) ∙ f)

pub items_next : (s : Settings) (g : Bool) (p end : Place) (t b u : Characters) (k : Mark) → Front s p t k b → Items s g p t end u → Next s g p k b end u
items_next s g p end t b u k h i = ⊎_elim
    (λ (none, same, tail). absurd (none_front s p t k b none h))
    (λ (j, c, f, n).
    let (same, tail) = pair_parts j k c b (sym f ∙ h) in
    subst (λ x. Next s g p x b end u) same (subst (λ y. Next s g p j y end u) tail n))
    (went s g p end t u i)

pub items_end : (s : Settings) (g : Bool) (p end : Place) (t u : Characters) → passed p.verbose t ≡ [] → Items s g p t end u → (p ≡ end) × (u ≡ [])
items_end s g p end t u h i = ⊎_elim (λ (none, same, tail). (same, tail)) (λ (j, c, f, n). absurd (none_front s p t j c h f)) (went s g p end t u i)

-- ---- in one way

one_items : (s : Settings) (g : Bool) (p e f : Place) (t u w : Characters) → Items s g p t e u → Items s g p t f w → (e ≡ f) × (u ≡ w)
one_items s _ _ _ f _ _ w (ends p t gaps) j =
    let (same, tail) = items_end s false p f t w (sym (passes_there p.verbose t [] gaps)) j in (same, sym tail)
one_items s _ _ _ f _ _ w (closes p t u is) j =
    let (_, same, tail) = items_next s true p f t u w mark.closes (front_of s p t mark.closes u is) j in (same, tail)
one_items s _ _ _ f _ _ w (bars g p e t b u l is done i) j =
    let (l', done', j') = items_next s g p f t b w mark.bar (front_of s p t mark.bar b is) j in
    one_items s g (at l p.verbose None) e f b u w i (subst (λ x. Items s g (at x p.verbose None) b f w) (same_Some l' l (sym done' ∙ done)) j')
one_items s _ _ _ f _ _ w (sets g p e t b u to is i) j =
    one_items s g (with_flags to p) e f b u w i (items_next s g p f t b w (mark.sets to) (front_of s p t (mark.sets to) b is) j)
one_items s _ _ _ f _ _ w (repeats g p e t b u n q r is last done i) j =
    let (q', r', last', done', j') = items_next s g p f t b w (mark.repeats n) (front_of s p t (mark.repeats n) b is) j in
    let same = same_Some q' q (sym last' ∙ last) in
    let same_r = same_Some r' r (sym done' ∙ ap (repeated_once s (flags p) n) same ∙ done) in
    one_items s g (at p.level p.verbose (Some r)) e f b u w i (subst (λ x. Items s g (at p.level p.verbose (Some x)) b f w) same_r j')
one_items s _ _ _ f _ _ w (stands g p e t b u k q is piece i) j =
    let (q', piece', j') = items_next s g p f t b w (mark.stands k) (front_of s p t (mark.stands k) b is) j in
    one_items s g (behind q p) e f b u w i (subst (λ x. Items s g (behind x p) b f w) (one_piece s (flags p) k q' q piece' piece) j')
one_items s _ _ _ f _ _ w (list g p e t b v u c d q is l part i) j =
    let (c', d', v', q', l', part', j') = items_next s g p f t b w mark.brackets (front_of s p t mark.brackets b is) j in
    let (x, y, z) = one_list_law (list_settings s p) (flags p).case_insensitive b c' c d' d v' v l' l in
    let part'' = subst (λ a. IsListPart s (flags p) a d q') x (subst (λ a. IsListPart s (flags p) c' a q') y part') in
    one_items s g (behind q p) e f v u w i
    (subst (λ a. Items s g (behind a p) v f w) (one_list_part s (flags p) c d q' q part'' part) (subst (λ a. Items s g (behind q' p) a f w) z j'))
one_items s _ _ _ f _ _ w (group g p m e t b v u k x from body q is into i done close n) j =
    let (from', m', v', body', q', into', i', done', close', j') = items_next s g p f t b w (mark.opens k x) (front_of s p t (mark.opens k x) b is) j in
    let y = switched p.verbose x in
    let same_from = same_Some from' from (sym into' ∙ into) in
    let (same_m, same_v) = one_items s true (at from y None) m m' b v v' i (subst (λ a. Items s true (at a y None) b m' v') same_from i') in
    let same_body = same_Some body' body (sym done' ∙ ap (λ a. whole s (here a)) (sym same_m) ∙ done) in
    let same_q = same_Some q' q (sym close' ∙ ap (closed s (tie k (here p))) same_body ∙ close) in
    one_items s g (behind_group q m p) e f v u w n
    (subst (λ a. Items s g (behind_group a m p) v f w) same_q (subst (λ a. Items s g (behind_group q' a p) v f w) (sym same_m)
    (subst (λ a. Items s g (behind_group q' m' p) a f w) (sym same_v) j')))

pub one_law : PatternsInOneWay
one_law s text a b x y =
    let (same, _) = one_items s false (fresh s) x.end y.end text [] [] x.is_read y.is_read in
    let e = same_Some _ _ (sym x.is_whole ∙ ap (λ p. whole s (here p)) same ∙ y.is_whole) in
    ap (λ p. p.re) e
