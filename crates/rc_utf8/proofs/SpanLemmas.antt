-- From each place of a program, the walks over its byte program spell what its own walks spell.
use Rattle.std.proofs.Common.{◌≡◌, ◌↔◌, ℕ, ◌+◌, ◌-◌, ◌*◌, ◌<◌, ◌≤◌, List, [], ◌∷◌, length, ⊎_elim, sym, subst, ap, ◌∙◌, refl, arith, Bool, true, true≢false, ◌&&◌, IsTrue, Option, Some, None, nat_eq, eq-eqb, eqb-true}
use Rattle.std.proofs.lemmas.Bool.{cases_lt, and_parts, and_from}
use Rattle.rc_text.specs.Found.{Found}
use Rattle.rc_walks.specs.Walks.{Pair, IsIn, IsWalk}
use Rattle.rc_walks.specs.Tries.{walk_by}
use Rattle.rc_walks.proofs.TryLemmas.{Finds, IsBounded, walk_by_finds}
use Rattle.rc_program.specs.Text.{holds, ahead}
use Rattle.rc_program.specs.Program.{Place, choice, byte, branch, scalar, guard, slot, accept, place_at, is_match_place}
use Rattle.rc_program.specs.Laws.{IsClosed}
use Rattle.rc_program.specs.Answer.{Search, only, next_of, last_of, ends, pattern_at, IsStart}
use Rattle.rc_program.specs.Greatest.{IsSpelledIn}
use Rattle.rc_program.proofs.WayLemmas.{same_pair, no_way_from, past_places}
use Rattle.rc_program.proofs.AnswerLemmas.{is_bounded, walk_ends, match_place_is}
use Rattle.rc_program.proofs.GreatestLemmas.{other_ends}
use Rattle.rc_utf8.specs.Bytes.{byte_place, byte_places, blocks, bytes_of}
use Rattle.rc_utf8.specs.Laws.{by_bytes, IsBytePlace, IsWalkFrom}
use Rattle.rc_utf8.proofs.SameLemmas.{Also, may_end, walk_also}
use Rattle.rc_utf8.proofs.LayoutLemmas.{stands_at, length-byte_places}
use Rattle.rc_utf8.proofs.SizeLemmas.{at_right, branching_none, blocks_branching}

-- PLACES KEEP THEIR NUMBERS

same_byte_place : (b : ℕ) (q : Place) → IsBytePlace q → byte_place b q ≡ q
same_byte_place b (choice ns) h = refl
same_byte_place b (byte rs n) h = refl
same_byte_place b (branch ts) h = refl
same_byte_place b (scalar rs n) h = absurd h
same_byte_place b (guard l n) h = refl
same_byte_place b (slot k n) h = refl
same_byte_place b (accept p) h = refl

pub places_kept : (places : List Place) (k : ℕ) → k < length places → IsBytePlace (place_at places k) → place_at (bytes_of places) k ≡ place_at places k
places_kept places k h b = let r = stands_at places k h in r.1 ∙ same_byte_place r.0 (place_at places k) b

-- a match place of the byte program is the program's
accepted : (b : ℕ) (q : Place) (p : ℕ) → byte_place b q ≡ accept p → q ≡ accept p
accepted b (choice ns) p e = e
accepted b (byte rs n) p e = e
accepted b (branch ts) p e = e
accepted b (scalar rs n) p e = absurd (cc)
accepted b (guard l n) p e = e
accepted b (slot k n) p e = e
accepted b (accept q) p e = e

pub match_places : (places : List Place) (k p : ℕ) → (place_at (bytes_of places) k ≡ accept p) ↔ (place_at places k ≡ accept p)
match_places places k p = (
  λ e. ⊎_elim (λ h. let r = stands_at places k h in accepted r.0 (place_at places k) p (sym r.1 ∙ e))
      (λ h. let n = length places in
      let l = length-byte_places n places in
      let past : length (byte_places n places) ≤ k = omega (arith, l, h) in
      absurd (branching_none (blocks n places) (blocks_branching n places) (k - length (byte_places n places)) p
      (sym (at_right (byte_places n places) (blocks n places) k past) ∙ e)))
      (cases_lt k (length places)),
  λ e. ⊎_elim (λ h. places_kept places k h (subst IsBytePlace (sym e) tt) ∙ e)
      (λ h. absurd (none_past p (sym (past_places places k h) ∙ e)))
      (cases_lt k (length places)),
)
  where
    none_past : (p : ℕ) → choice [] ≡ accept p → ⊥
    none_past p e = cc

-- WALKS

module _ (s : Search) (closed : IsClosed s.places) (test : Place → ℕ → Bool)
    (accepts : (q : Place) (y : ℕ) → test q y ≡ true → is_match_place None q ≡ true) where
  abbrev Ends : List Place → Pair → Type 0
  Ends places n = IsTrue (may_end s closed test accepts places n)

  last_of_own : (n m : Pair) → Ends s.places n → ¬ IsIn m (next_of s n)
  last_of_own n m e =
      no_way_from None (λ l. holds s.text l n.1) (ahead s.text s.hi n.1) (place_at s.places n.0) n.1 m (accepts (place_at s.places n.0) n.1 e)

  own_bounded : IsBounded (next_of s) (may_end s closed test accepts s.places) (length s.places) (s.hi + 1)
  own_bounded = record {
    place_of_end = λ n e. ⊎_elim (λ l. l)
        (λ ge. absurd (true≢false (sym (accepts (place_at s.places n.0) n.1 e) ∙ ap (is_match_place None) (past_places s.places n.0 ge))))
        (cases_lt n.0 (length s.places));
    place_of_way = (is_bounded s).place_of_way;
    position = (is_bounded s).position;
  }

  both_found : (f : List Pair) (o : Option (List Pair)) → Also s closed test accepts [] f o → Finds (next_of s) (Ends s.places) [] f o →
      ((w : List Pair) × IsWalk (next_of (by_bytes s)) (Ends (bytes_of s.places)) [] f w) ↔ ((w : List Pair) × IsWalk (next_of s) (Ends s.places) [] f w)
  both_found f None a b = (λ x. absurd (a x.0 x.1), λ x. absurd (b x.0 x.1))
  both_found f (Some v) a b = (λ x. (v, b.is_walk), λ x. (a.0, a.1.is_walk))

  pub same_walk : (k x : ℕ) → k < length s.places → x ≤ s.hi →
      ((w : List Pair) × IsWalk (next_of (by_bytes s)) (Ends (bytes_of s.places)) [] ((k, x) ∷ []) w)
      ↔ ((w : List Pair) × IsWalk (next_of s) (Ends s.places) [] ((k, x) ∷ []) w)
  same_walk k x some h =
      both_found ((k, x) ∷ []) (walk_by (next_of s) (may_end s closed test accepts s.places) (length s.places * (s.hi + 1)) [] (k, x))
      (walk_also s closed test accepts (length s.places * (s.hi + 1)) [] (k, x) (omega arith) tt tt (λ j i. absurd i) some (omega (arith, h)))
      (walk_by_finds (next_of s) (may_end s closed test accepts s.places) same_pair last_of_own (length s.places) (s.hi + 1) own_bounded
      (length s.places * (s.hi + 1)) [] (k, x) (omega arith) tt tt (omega (arith, h)))

-- a match place of pattern p, at j
abbrev ends_at : ℕ → ℕ → Place → ℕ → Bool
ends_at p j q y = is_match_place (Some p) q && nat_eq y j

of_pattern : (p : ℕ) (q : Place) → is_match_place (Some p) q ≡ true → q ≡ accept p
of_pattern p q h =
    let e = match_place_is (Some p) q h in
    e ∙ ap accept (eqb-true (pattern_at q) p (subst (λ r. is_match_place (Some p) r ≡ true) e h))

accepts_at : (p j : ℕ) (q : Place) (y : ℕ) → ends_at p j q y ≡ true → is_match_place None q ≡ true
accepts_at p j q y h = let e = of_pattern p q (and_parts _ _ h).0 in ap (is_match_place None) e

to_test : (q : Search) (k x p j : ℕ) (w : List Pair) → IsWalkFrom q k x p j w →
    IsWalk (next_of q) (λ n. IsTrue (ends_at p j (place_at q.places n.0) n.1)) [] ((k, x) ∷ []) w
to_test q k x p j w h =
    other_ends (next_of q) (λ n. IsTrue (is_match_place None (place_at q.places n.0))) (λ n. IsTrue (ends_at p j (place_at q.places n.0) n.1)) h.is_walk
    (and_from _ _ (ap (is_match_place (Some p)) h.pattern ∙ eq-eqb p p refl) (eq-eqb (last_of w).1 j h.position))

from_test : (q : Search) (k x p j : ℕ) (w : List Pair) → IsWalk (next_of q) (λ n. IsTrue (ends_at p j (place_at q.places n.0) n.1)) [] ((k, x) ∷ []) w →
    IsWalkFrom q k x p j w
from_test q k x p j w h =
    let e = walk_ends (next_of q) (λ n. IsTrue (ends_at p j (place_at q.places n.0) n.1)) h in
    let a = and_parts (is_match_place (Some p) (place_at q.places (last_of w).0)) (nat_eq (last_of w).1 j) e in
    record {
      is_walk = other_ends (next_of q) (λ n. IsTrue (ends_at p j (place_at q.places n.0) n.1)) (λ n. IsTrue (is_match_place None (place_at q.places n.0))) h
          (accepts_at p j (place_at q.places (last_of w).0) (last_of w).1 e);
      pattern = of_pattern p (place_at q.places (last_of w).0) a.0;
      position = eqb-true (last_of w).1 j a.1;
    }

pub same_walks : (s : Search) → IsClosed s.places → (k x p j : ℕ) → k < length s.places → x ≤ s.hi →
    ((w : List Pair) × IsWalkFrom (by_bytes s) k x p j w) ↔ ((w : List Pair) × IsWalkFrom s k x p j w)
same_walks s closed k x p j some h =
    let r = same_walk s closed (ends_at p j) (accepts_at p j) k x some h in (
      λ y. let z = r.0 (y.0, to_test (by_bytes s) k x p j y.0 y.1) in (z.0, from_test s k x p j z.0 z.1),
      λ y. let z = r.1 (y.0, to_test s k x p j y.0 y.1) in (z.0, from_test (by_bytes s) k x p j z.0 z.1),
    )

-- SPANS

to_walk : (q : Search) (m : Found) (h : IsSpelledIn q m) → IsWalkFrom q 0 m.start m.pattern m.end h.walk
to_walk q m h = record {
  is_walk = other_ends (next_of q) (λ n. IsTrue (ends q n)) (λ n. IsTrue (is_match_place None (place_at q.places n.0))) h.is_walk
      (ap (is_match_place None) h.pattern);
  pattern = h.pattern;
  position = h.position;
}

no_match_place : (places : List Place) (k p : ℕ) → length places ≡ 0 → place_at places k ≡ accept p → ⊥
no_match_place places k p none e = from (sym (past_places places k (omega (arith, none))) ∙ e)
  where
    from : choice [] ≡ accept p → ⊥
    from i = cc

-- a walk of an allowed pattern spells its span
spelled : (q : Search) (m : Found) → IsStart q m.start → (w : List Pair) → IsWalkFrom q 0 m.start m.pattern m.end w →
    is_match_place (only q.anchoring) (accept m.pattern) ≡ true → IsSpelledIn q m
spelled q m start w h may = record {
  is_start = start;
  walk = w;
  is_walk = other_ends (next_of q) (λ n. IsTrue (is_match_place None (place_at q.places n.0))) (λ n. IsTrue (ends q n)) h.is_walk
      (ap (is_match_place (only q.anchoring)) h.pattern ∙ may);
  pattern = h.pattern;
  position = h.position;
}

pub same_spans : (s : Search) (m : Found) → IsClosed s.places → IsSpelledIn (by_bytes s) m ↔ IsSpelledIn s m
same_spans s m closed =
    ⊎_elim
    (λ some. (
      λ h. let r = (same_walks s closed 0 m.start m.pattern m.end some h.is_start.1).0 (h.walk, to_walk (by_bytes s) m h) in
          let on = walk_ends (next_of (by_bytes s)) (λ n. IsTrue (ends (by_bytes s) n)) h.is_walk in
          spelled s m h.is_start r.0 r.1 (ap (is_match_place (only s.anchoring)) (sym h.pattern) ∙ on),
      λ h. let r = (same_walks s closed 0 m.start m.pattern m.end some h.is_start.1).1 (h.walk, to_walk s m h) in
          let on = walk_ends (next_of s) (λ n. IsTrue (ends s n)) h.is_walk in
          spelled (by_bytes s) m h.is_start r.0 r.1 (ap (is_match_place (only s.anchoring)) (sym h.pattern) ∙ on),
    ))
    (λ none. let z : length s.places ≡ 0 = omega (arith, none) in (
      λ h. absurd (no_match_place (bytes_of s.places) (last_of h.walk).0 m.pattern (empty s.places z) h.pattern),
      λ h. absurd (no_match_place s.places (last_of h.walk).0 m.pattern z h.pattern),
    ))
    (cases_lt 0 (length s.places))
  where
    empty : (qs : List Place) → length qs ≡ 0 → length (bytes_of qs) ≡ 0
    empty [] e = refl
    empty (q ∷ qs) e = absurd (omega (arith, e))
