-- Facts of which it can be told whether they hold: such a fact is had where it is only known to hold.
use Rattle.std.proofs.Common.{◌≡◌, ℕ, zero, suc, ◌+◌, ◌*◌, ◌<◌, ◌≤◌, ◌⊎◌, Bool, true, false, ◌&&◌, IsTrue, nat_eq, List, [], ◌∷◌, length, Option, Some, None, inl, inr, ⊎_elim, sym, subst, ap, ◌∙◌, refl, arith, eqb-true, eq-eqb, true≢false}
use Rattle.std.proofs.Math.Logic.{∥∥₁_elim}
use Rattle.std.proofs.lemmas.Bool.{cases_Bool, cases_lt, and_parts, and_from}
use Rattle.rc_pattern.specs.Re.{Re}
use Rattle.rc_pattern.specs.Properties.{has_look}
use Rattle.rc_pattern.specs.declared.hir.Look.{Look}
use Rattle.rc_pattern.specs.declared.hir.Look.TheVariants.{Start, End, StartLF, EndLF, StartCRLF, EndCRLF, WordAscii, WordAsciiNegate, WordUnicode, WordUnicodeNegate, WordStartAscii, WordEndAscii, WordStartUnicode, WordEndUnicode, WordStartHalfAscii, WordEndHalfAscii, WordStartHalfUnicode, WordEndHalfUnicode}
use Rattle.rc_text.specs.Found.{Found}
use Rattle.rc_walks.specs.Walks.{Pair}
use Rattle.rc_walks.specs.Tries.{walk_by}
use Rattle.rc_walks.proofs.TryLemmas.{Finds, IsBounded, walk_by_finds}
use Rattle.rc_program.specs.Program.{Place, accept, place_at, is_match_place}
use Rattle.rc_program.specs.Answer.{Search, ends, next_of, last_of, IsStart, is_anchored, pattern_at}
use Rattle.rc_program.specs.Greatest.{IsSpelledIn, ends_for}
use Rattle.rc_program.proofs.WayLemmas.{same_pair}
use Rattle.rc_program.proofs.AnswerLemmas.{last_pair, is_bounded, walk_ends, match_place_is}
use Rattle.rc_program.proofs.GreatestLemmas.{other_ends}
use Rattle.rc_determinize.specs.Sides.{is_unicode}
use Rattle.rc_determinize.specs.Spans.{IsSpelled}
use Rattle.rc_dfa_search.specs.Faults.{SpeaksOfUnicode}

-- it holds or not
abbrev pub Decided : Type 0 → Type 0
Decided P = P ⊎ (P → ⊥)

pub had : {P : Type 0} → Decided P → ∥ P ∥₁ → P
had (inl p) t = p
had (inr n) t = absurd (∥∥₁_elim t (λ x y. absurd x) n)

-- both of two
both_decided : {P Q : Type 0} → Decided P → (P → Decided Q) → Decided (P × Q)
both_decided (inl p) q = ⊎_elim (λ y. inl (p, y)) (λ n. inr (λ h. n h.1)) (q p)
both_decided (inr n) q = inr (λ h. n h.0)

-- WALKS

-- what a pair shows where a walk for p and e may end
record EndsSo (s : Search) (p e : ℕ) (n : Pair) : Type 0 where
  pub may : IsTrue (ends s n)
  pub place : place_at s.places n.0 ≡ accept p
  pub position : n.1 ≡ e

-- the match place of an allowed pattern is that pattern's
accepts_one : (p : ℕ) (q : Place) → IsTrue (is_match_place (Some p) q) → q ≡ accept p
accepts_one p q h =
    let e = match_place_is (Some p) q h in
    let t : IsTrue (is_match_place (Some p) (accept (pattern_at q))) = subst (λ r. IsTrue (is_match_place (Some p) r)) e h in
    e ∙ ap accept (eqb-true (pattern_at q) p t)

ends_so : (s : Search) (p e : ℕ) (n : Pair) → IsTrue (ends_for s p e n) → EndsSo s p e n
ends_so s p e n h =
    let a = and_parts (ends s n && is_match_place (Some p) (place_at s.places n.0)) (nat_eq n.1 e) h in
    let b = and_parts (ends s n) (is_match_place (Some p) (place_at s.places n.0)) a.0 in
    record { may = b.0; place = accepts_one p (place_at s.places n.0) b.1; position = eqb-true n.1 e a.1 }

ends_from : (s : Search) (p e : ℕ) (n : Pair) → EndsSo s p e n → IsTrue (ends_for s p e n)
ends_from s p e n h =
    and_from (ends s n && is_match_place (Some p) (place_at s.places n.0)) (nat_eq n.1 e)
    (and_from (ends s n) (is_match_place (Some p) (place_at s.places n.0)) h.may (ap (is_match_place (Some p)) h.place ∙ eq-eqb p p refl))
    (eq-eqb n.1 e h.position)

bounded_for : (s : Search) (p e : ℕ) → IsBounded (next_of s) (ends_for s p e) (length s.places) (s.hi + 1)
bounded_for s p e = record {
  place_of_end = λ n h. (is_bounded s).place_of_end n (ends_so s p e n h).may;
  place_of_way = (is_bounded s).place_of_way;
  position = (is_bounded s).position;
}

by_walk : (s : Search) (p x e : ℕ) (o : Option (List Pair)) → Finds (next_of s) (λ n. IsTrue (ends_for s p e n)) [] ((0, x) ∷ []) o →
    Decided (IsSpelled s p x e)
by_walk s p x e (Some w) first =
    let so = ends_so s p e (last_of w) (walk_ends (next_of s) (λ k. IsTrue (ends_for s p e k)) first.is_walk) in
    inl (w, other_ends (next_of s) (λ n. IsTrue (ends_for s p e n)) (λ k. IsTrue (ends s k)) first.is_walk so.may, so.place, so.position)
by_walk s p x e None none =
    inr (λ h.
    let so : EndsSo s p e (last_of h.0) = record { may = walk_ends (next_of s) (λ k. IsTrue (ends s k)) h.1; place = h.2; position = h.3 } in
    none h.0 (other_ends (next_of s) (λ k. IsTrue (ends s k)) (λ k. IsTrue (ends_for s p e k)) h.1 (ends_from s p e (last_of h.0) so)))

-- whether a walk of the pattern leads from x to e
pub spelled_decided : (s : Search) (p x e : ℕ) → x ≤ s.hi → Decided (IsSpelled s p x e)
spelled_decided s p x e h =
    by_walk s p x e (walk_by (next_of s) (ends_for s p e) (length s.places * (s.hi + 1)) [] (0, x))
    (walk_by_finds (next_of s) (ends_for s p e) same_pair (λ n m t. last_pair s n m (ends_so s p e n t).may) (length s.places) (s.hi + 1)
    (bounded_for s p e) (length s.places * (s.hi + 1)) [] (0, x) (omega arith) tt tt (omega arith))

le_decided : (a b : ℕ) → Decided (a ≤ b)
le_decided a b = ⊎_elim (λ l. inr (λ h. omega (arith, l, h))) (λ g. inl g) (cases_lt b a)

eq_decided : (a b : ℕ) → Decided (a ≡ b)
eq_decided a b = ⊎_elim (λ t. inl (eqb-true a b t)) (λ f. inr (λ e. true≢false (sym (eq-eqb a b e) ∙ f))) (cases_Bool (nat_eq a b))

if_decided : {P : Type 0} (b : Bool) → Decided P → Decided (IsTrue b → P)
if_decided true (inl p) = inl (λ t. p)
if_decided true (inr n) = inr (λ h. n (h refl))
if_decided false d = inl (λ t. absurd (true≢false (sym t)))

all_of_start : {A B C : Type 0} → Decided (A × (B × C)) → Decided (A × B × C)
all_of_start (inl h) = inl (h.0, h.1.0, h.1.1)
all_of_start (inr n) = inr (λ h. n (h.0, (h.1, h.2)))

start_decided : (s : Search) (x : ℕ) → Decided (IsStart s x)
start_decided s x =
    all_of_start (both_decided (le_decided s.lo x) (λ l. both_decided (le_decided x s.hi) (λ h. if_decided (is_anchored s.anchoring) (eq_decided x s.lo))))

-- whether the match is spelled
pub spelled_in_decided : (s : Search) (m : Found) → Decided (IsSpelledIn s m)
spelled_in_decided s m = ⊎_elim
    (λ (h : IsStart s m.start × IsSpelled s m.pattern m.start m.end).
    inl (record { is_start = h.0; walk = h.1.0; is_walk = h.1.1; pattern = h.1.2; position = h.1.3 }))
    (λ n. inr (λ h. n (h.is_start, (h.walk, h.is_walk, h.pattern, h.position))))
    (both_decided (start_decided s m.start) (λ st. spelled_decided s m.pattern m.start m.end st.1))

-- some number below n of which it holds
below_decided : (P : ℕ → Type 0) → ((x : ℕ) → Decided (P x)) → (n : ℕ) → Decided ((x : ℕ) × (x < n) × P x)
below_decided P decide zero = inr (λ h. let l = h.1 in omega (arith, l))
below_decided P decide (suc n) = ⊎_elim
    (λ p. inl (n, omega arith, p))
    (λ no. ⊎_elim
    (λ (r : (x : ℕ) × (x < n) × P x). inl (r.0, (let l = r.1 in omega (arith, l)), r.2))
    (λ none. inr (λ h. ⊎_elim
    (λ l. none (h.0, l, h.2))
    (λ g. no (subst P (let l = h.1 in omega (arith, l, g)) h.2))
    (cases_lt h.0 n)))
    (below_decided P decide n))
    (decide n)

-- from where the pattern is spelled to e
abbrev pub SpelledFrom : Search → ℕ → ℕ → Type 0
SpelledFrom s p e = (x : ℕ) × IsSpelledIn s (record { pattern = p; start = x; end = e })

pub spelled_from_decided : (s : Search) (p e : ℕ) → Decided (SpelledFrom s p e)
spelled_from_decided s p e = ⊎_elim
    (λ (r : (x : ℕ) × (x < s.hi + 1) × IsSpelledIn s (record { pattern = p; start = x; end = e })). inl (r.0, r.2))
    (λ n. inr (λ h. n (h.0, (let l = h.1.is_start.1 in omega (arith, l)), h.1)))
    (below_decided (λ x. IsSpelledIn s (record { pattern = p; start = x; end = e })) (λ x. spelled_in_decided s (record { pattern = p; start = x; end = e })) (s.hi + 1))

-- WORDS OF UNICODE

-- an assertion of the pattern speaks of Unicode's words
abbrev Speaks : Re → Type 0
Speaks h = (l : Look) × IsTrue (is_unicode l) × IsTrue (has_look h l)

none_of_six : (h : Re) → has_look h WordUnicode ≡ false → has_look h WordUnicodeNegate ≡ false → has_look h WordStartUnicode ≡ false →
    has_look h WordEndUnicode ≡ false → has_look h WordStartHalfUnicode ≡ false → has_look h WordEndHalfUnicode ≡ false →
    (l : Look) → IsTrue (is_unicode l) → IsTrue (has_look h l) → ⊥
none_of_six h a b c d e f Start u t = true≢false (sym u)
none_of_six h a b c d e f End u t = true≢false (sym u)
none_of_six h a b c d e f StartLF u t = true≢false (sym u)
none_of_six h a b c d e f EndLF u t = true≢false (sym u)
none_of_six h a b c d e f StartCRLF u t = true≢false (sym u)
none_of_six h a b c d e f EndCRLF u t = true≢false (sym u)
none_of_six h a b c d e f WordAscii u t = true≢false (sym u)
none_of_six h a b c d e f WordAsciiNegate u t = true≢false (sym u)
none_of_six h a b c d e f WordUnicode u t = true≢false (sym t ∙ a)
none_of_six h a b c d e f WordUnicodeNegate u t = true≢false (sym t ∙ b)
none_of_six h a b c d e f WordStartAscii u t = true≢false (sym u)
none_of_six h a b c d e f WordEndAscii u t = true≢false (sym u)
none_of_six h a b c d e f WordStartUnicode u t = true≢false (sym t ∙ c)
none_of_six h a b c d e f WordEndUnicode u t = true≢false (sym t ∙ d)
none_of_six h a b c d e f WordStartHalfAscii u t = true≢false (sym u)
none_of_six h a b c d e f WordEndHalfAscii u t = true≢false (sym u)
none_of_six h a b c d e f WordStartHalfUnicode u t = true≢false (sym t ∙ e)
none_of_six h a b c d e f WordEndHalfUnicode u t = true≢false (sym t ∙ f)

-- by an assertion that speaks of them, or else the others
by_look : (h : Re) (l : Look) → IsTrue (is_unicode l) → (has_look h l ≡ false → Decided (Speaks h)) → Decided (Speaks h)
by_look h l u others = ⊎_elim (λ t. inl (l, u, t)) others (cases_Bool (has_look h l))

look_decided : (h : Re) → Decided (Speaks h)
look_decided h =
    by_look h WordUnicode refl (λ a. by_look h WordUnicodeNegate refl (λ b. by_look h WordStartUnicode refl (λ c. by_look h WordEndUnicode refl (λ d.
    by_look h WordStartHalfUnicode refl (λ e. by_look h WordEndHalfUnicode refl (λ f. inr (λ x. none_of_six h a b c d e f x.0 x.1 x.2)))))))

-- whether an assertion of the patterns speaks of Unicode's words
pub speaks_decided : (hs : List Re) → Decided (SpeaksOfUnicode hs)
speaks_decided [] = inr (λ x. x)
speaks_decided (h ∷ hs) = ⊎_elim
    (λ x. inl (inl x))
    (λ n. ⊎_elim (λ y. inl (inr y)) (λ m. inr (⊎_elim n m)) (speaks_decided hs))
    (look_decided h)
