-- A template is read in one way.
use Rattle.std.proofs.Common.{◌≡◌, ◌≢◌, ◌∙◌, ℕ, suc, ◌<◌, ◌⊎◌, inl, inr, List, [], ◌∷◌, ◌++◌, length, get_or, Bool, true, false, ◌&&◌, IsTrue, ap, sym, subst, refl, arith, append_assoc, length-append}
use Rattle.std.specs.Int.{IsInRange}
use Rattle.std.proofs.lemmas.Bool.Decides.{nat_tests}
use Rattle.std.proofs.lemmas.Str.Parse.{digit_from_value}
use Rattle.rc_tokens.specs.Text.{each}
use Rattle.rc_tokens.specs.Marks.{begins_name, goes_on_name, is_name}
use Rattle.chunk_replace.specs.Laws.{TemplateLaw}
use Rattle.chunk_replace.specs.Template.{byte, group, named, Item, IsMarked, IsNumber, IsReadAs, IsReference, IsRefusedAt, IsWritten}
use Rattle.chunk_replace.proofs.Reading.{word_open}

heads : (a b : ℕ) (xs ys : List ℕ) → a ∷ xs ≡ b ∷ ys → a ≡ b
heads a b xs ys e = cc

tails : (a b : ℕ) (xs ys : List ℕ) → a ∷ xs ≡ b ∷ ys → xs ≡ ys
tails a b xs ys e = cc

-- two words that hold no closing brace, each before one
cut_same : (v w r s : List ℕ) → ((k : ℕ) → k < length v → get_or v k 0 ≢ 125) → ((k : ℕ) → k < length w → get_or w k 0 ≢ 125) → v ++ 125 ∷ r ≡ w ++ 125 ∷ s →
    (v ≡ w) × (r ≡ s)
cut_same [] [] r s f g e = (refl, tails 125 125 r s e)
cut_same [] (b ∷ w) r s f g e = absurd (g 0 (omega arith) (sym (heads 125 b r (w ++ 125 ∷ s) e)))
cut_same (a ∷ v) [] r s f g e = absurd (f 0 (omega arith) (heads a 125 (v ++ 125 ∷ r) s e))
cut_same (a ∷ v) (b ∷ w) r s f g e =
    let h = cut_same v w r s (λ k l. f (suc k) (omega (arith, l))) (λ k l. g (suc k) (omega (arith, l))) (tails a b (v ++ 125 ∷ r) (w ++ 125 ∷ s) e) in
    let i : a ≡ b = heads a b (v ++ 125 ∷ r) (w ++ 125 ∷ s) e in
    (ap (λ x. x ∷ v) i ∙ ap (λ x. b ∷ x) h.0, h.1)

-- no digit begins a name
no_digit : (c : ℕ) → IsInRange 48 57 c → begins_name c ≡ false
no_digit c r = grind (arith, nat_tests)

never : IsTrue false → ⊥
never h = cc

first_holds : (a b : Bool) → IsTrue (a && b) → IsTrue a
first_holds true b h = refl
first_holds false b h = absurd (never h)

no_name : (word : List ℕ) → IsNumber word → IsTrue (is_name word) → ⊥
no_name [] n t = never t
no_name (c ∷ cs) n t =
    never (subst IsTrue (no_digit c (digit_from_value c n.digits.1.0)) (first_holds (begins_name c) (each goes_on_name cs) t))

one_group : (i j : Item) (word : List ℕ) → IsReference i word → IsReference j word → i ≡ j
one_group (byte b) j word p q = absurd p
one_group (group n) (byte b) word p q = absurd q
one_group (group n) (group m) word p q = ap group (p.1 ∙ sym q.1)
one_group (group n) (named name) word p q = absurd (no_name word p.0 q.0)
one_group (named name) (byte b) word p q = absurd q
one_group (named name) (group m) word p q = absurd (no_name word q.0 p.0)
one_group (named name) (named other) word p q = ap named (sym p.1 ∙ q.1)

-- a mark is a `$`, or a word in braces
mark_is : (i : Item) (m : List ℕ) → IsMarked i m → ((i ≡ byte 36) × (m ≡ 36 ∷ [])) ⊎ ((word : List ℕ) × IsReference i word × (m ≡ 123 ∷ (word ++ 125 ∷ [])))
mark_is (byte b) m h = inl (ap byte h.0, h.1)
mark_is (group n) m h = inr h
mark_is (named name) m h = inr h

in_braces : (m r word : List ℕ) → m ≡ 123 ∷ (word ++ 125 ∷ []) → m ++ r ≡ 123 ∷ (word ++ 125 ∷ r)
in_braces m r word e = ap (λ l. l ++ r) e ∙ ap (λ l. 123 ∷ l) (append_assoc word (125 ∷ []) r)

braces_same : (i j : Item) (v w r s : List ℕ) → IsReference i v → IsReference j w → 123 ∷ (v ++ 125 ∷ r) ≡ 123 ∷ (w ++ 125 ∷ s) → (i ≡ j) × (r ≡ s)
braces_same i j v w r s p q e =
    let h = cut_same v w r s (word_open i v p) (word_open j w q) (tails 123 123 (v ++ 125 ∷ r) (w ++ 125 ∷ s) e) in
    (one_group i j w (subst (IsReference i) h.0 p) q, h.1)

mark_same : (i j : Item) (m n r s : List ℕ) → IsMarked i m → IsMarked j n → m ++ r ≡ n ++ s → (i ≡ j) × (r ≡ s)
mark_same i j m n r s p q e = by_marks (mark_is i m p) (mark_is j n q)
  where
    by_marks : ((i ≡ byte 36) × (m ≡ 36 ∷ [])) ⊎ ((word : List ℕ) × IsReference i word × (m ≡ 123 ∷ (word ++ 125 ∷ []))) →
        ((j ≡ byte 36) × (n ≡ 36 ∷ [])) ⊎ ((word : List ℕ) × IsReference j word × (n ≡ 123 ∷ (word ++ 125 ∷ []))) → (i ≡ j) × (r ≡ s)
    by_marks (inl a) (inl b) = (a.0 ∙ sym b.0, tails 36 36 r s (sym (ap (λ l. l ++ r) a.1) ∙ e ∙ ap (λ l. l ++ s) b.1))
    by_marks (inl a) (inr (w, b, f)) = absurd (apart (sym (ap (λ l. l ++ r) a.1) ∙ e ∙ in_braces n s w f))
      where
        apart : 36 ∷ r ≡ 123 ∷ (w ++ 125 ∷ s) → ⊥
        apart h = absurd (omega (arith, heads 36 123 r (w ++ 125 ∷ s) h))
    by_marks (inr (v, a, f)) (inl b) = absurd (apart (sym (in_braces m r v f) ∙ e ∙ ap (λ l. l ++ s) b.1))
      where
        apart : 123 ∷ (v ++ 125 ∷ r) ≡ 36 ∷ s → ⊥
        apart h = absurd (omega (arith, heads 123 36 (v ++ 125 ∷ r) s h))
    by_marks (inr (v, a, f)) (inr (w, b, g)) = braces_same i j v w r s a b (sym (in_braces m r v f) ∙ e ∙ in_braces n s w g)

-- what is written first, and what follows it
written_same : (i j : Item) (v w r s : List ℕ) → IsWritten i v → IsWritten j w → v ++ r ≡ w ++ s → (i ≡ j) × (r ≡ s)
written_same i j v w r s (inl (b, is, other, f)) (inl (c, it, another, g)) e =
    let h : b ∷ r ≡ c ∷ s = sym (ap (λ l. l ++ r) f) ∙ e ∙ ap (λ l. l ++ s) g in (is ∙ ap byte (heads b c r s h) ∙ sym it, tails b c r s h)
written_same i j v w r s (inl (b, is, other, f)) (inr (n, q, g)) e =
    absurd (other (heads b 36 r (n ++ s) (sym (ap (λ l. l ++ r) f) ∙ e ∙ ap (λ l. l ++ s) g)))
written_same i j v w r s (inr (m, p, f)) (inl (c, it, another, g)) e =
    absurd (another (sym (heads 36 c (m ++ r) s (sym (ap (λ l. l ++ r) f) ∙ e ∙ ap (λ l. l ++ s) g))))
written_same i j v w r s (inr (m, p, f)) (inr (n, q, g)) e =
    mark_same i j m n r s p q (tails 36 36 (m ++ r) (n ++ s) (sym (ap (λ l. l ++ r) f) ∙ e ∙ ap (λ l. l ++ s) g))

-- an item is written with a byte or more
written_some : (i : Item) (v r : List ℕ) → IsWritten i v → [] ≢ v ++ r
written_some i v r (inl (b, is, other, f)) e = let h : [] ≡ b ∷ r = e ∙ ap (λ l. l ++ r) f in cc
written_some i v r (inr (m, p, f)) e = let h : [] ≡ 36 ∷ (m ++ r) = e ∙ ap (λ l. l ++ r) f in cc

alone : (text : List ℕ) (xs ys : List Item) → IsReadAs xs text → IsReadAs ys text → xs ≡ ys
alone text [] [] p q = refl
alone text [] (j ∷ ys) p (w, s, wr, q, f) = absurd (written_some j w s wr (sym p ∙ f))
alone text (i ∷ xs) [] (v, r, vr, p, e) q = absurd (written_some i v r vr (sym q ∙ e))
alone text (i ∷ xs) (j ∷ ys) (v, r, vr, p, e) (w, s, wr, q, f) =
    let h = written_same i j v w r s vr wr (sym e ∙ f) in
    ap (λ x. x ∷ xs) h.0 ∙ ap (λ l. j ∷ l) (alone r xs ys p (subst (IsReadAs ys) (sym h.1) q))

-- items up to a place where none begins, and where the text doesn't end
module _ (after : List ℕ) (goes_on : 0 < length after) (unread : (i : Item) (written rest : List ℕ) → IsWritten i written → after ≢ written ++ rest) where
  unfinished : (before : List ℕ) (items xs : List Item) → IsReadAs items before → ¬ IsReadAs xs (before ++ after)
  unfinished before [] [] p q = let h : before ++ after ≡ [] = q in omega (arith, goes_on, ap length h, length-append before after)
  unfinished before [] (j ∷ xs) p (w, s, wr, q, f) = unread j w s wr (sym (ap (λ l. l ++ after) p) ∙ f)
  unfinished before (i ∷ items) [] (v, r, vr, p, e) q =
      written_some i v (r ++ after) vr (sym q ∙ ap (λ l. l ++ after) e ∙ append_assoc v r after)
  unfinished before (i ∷ items) (j ∷ xs) (v, r, vr, p, e) (w, s, wr, q, f) =
      let h = written_same i j v w (r ++ after) s vr wr (sym (append_assoc v r after) ∙ sym (ap (λ l. l ++ after) e) ∙ f) in
      unfinished r items xs p (subst (IsReadAs xs) (sym h.1) q)

  -- and other such items
  as_far : (other before prior : List ℕ) → 0 < length other → ((i : Item) (written rest : List ℕ) → IsWritten i written → other ≢ written ++ rest) →
      (items xs : List Item) → IsReadAs items before → IsReadAs xs prior → before ++ after ≡ prior ++ other → length before ≡ length prior
  as_far other before prior some u [] [] p q e = ap length (p ∙ sym q)
  as_far other before prior some u [] (j ∷ xs) p (w, s, wr, q, f) e =
      absurd (unread j w (s ++ other) wr (sym (ap (λ l. l ++ after) p) ∙ e ∙ ap (λ l. l ++ other) f ∙ append_assoc w s other))
  as_far other before prior some u (i ∷ items) [] (v, r, vr, p, e) q same =
      absurd (u i v (r ++ after) vr (sym (ap (λ l. l ++ other) q) ∙ sym same ∙ ap (λ l. l ++ after) e ∙ append_assoc v r after))
  as_far other before prior some u (i ∷ items) (j ∷ xs) (v, r, vr, p, e) (w, s, wr, q, f) same =
      let both : v ++ (r ++ after) ≡ w ++ (s ++ other) =
      sym (append_assoc v r after) ∙ sym (ap (λ l. l ++ after) e) ∙ same ∙ ap (λ l. l ++ other) f ∙ append_assoc w s other in
      let h = written_same i j v w (r ++ after) (s ++ other) vr wr both in
      let rest : length r ≡ length s = as_far other r s some u items xs p q h.1 in
      omega (arith, rest, ap length e, ap length f, ap length both, length-append v r, length-append w s, length-append v (r ++ after), length-append w (s ++ other), ap length h.1)

refused : (text : List ℕ) (at : ℕ) (xs : List Item) → IsRefusedAt text at → ¬ IsReadAs xs text
refused text at xs r q = unfinished r.after r.goes_on r.unread r.before r.items xs r.read (subst (IsReadAs xs) r.split q)

place : (text : List ℕ) (i j : ℕ) → IsRefusedAt text i → IsRefusedAt text j → i ≡ j
place text i j p q =
    p.place ∙ as_far p.after p.goes_on p.unread q.after p.before q.before q.goes_on q.unread p.items q.items p.read q.read (sym p.split ∙ q.split) ∙ sym q.place

pub template_law : TemplateLaw
template_law = record { alone = alone; refused = refused; place = place }
