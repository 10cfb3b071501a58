-- The longest walk over a byte program ends where that over the program does.
use Rattle.std.proofs.Common.{◌≡◌, ℕ, ◌+◌, ◌*◌, ◌<◌, ◌≤◌, Bool, true, ◌&&◌, List, [], ◌∷◌, length, Option, Some, None, IsTrue, nat_eq, ⊎_elim, inl, inr, sym, subst, ap, ◌∙◌, arith, eqb-true, eq-eqb, not, ◌||◌}
use Rattle.std.proofs.lemmas.Bool.{and_parts, and_from}
use Rattle.rc_text.specs.Text.{is_boundary}
use Rattle.rc_walks.specs.Walks.{Pair, IsFirstWalk, HasNoWalk}
use Rattle.rc_walks.proofs.CutLemmas.{first_is_one}
use Rattle.rc_walks.proofs.TryLemmas.{Finds, IsBounded, walk_by_finds}
use Rattle.rc_program.specs.Program.{Place, place_at, is_match_place}
use Rattle.rc_program.specs.Laws.{IsClosed}
use Rattle.rc_program.specs.Answer.{Search, only, ends, next_of, last_of, pattern_at, HasNoWalkFrom}
use Rattle.rc_program.specs.Longest.{IsLongestFrom, IsPassedOf, ends_at, walk_to}
use Rattle.rc_program.proofs.WayLemmas.{same_pair}
use Rattle.rc_program.proofs.AnswerLemmas.{last_pair, is_bounded}
use Rattle.rc_program.proofs.LongestLemmas.{EndsThere, longest_of, first_of_longest, none_longer, none_of_all, none_to}
use Rattle.rc_program.proofs.ReachLemmas.{change_ends}
use Rattle.rc_utf8.specs.Bytes.{bytes_of}
use Rattle.rc_utf8.specs.Laws.{by_bytes}
use Rattle.rc_utf8.proofs.SameLemmas.{Also, walk_also}
use Rattle.rc_utf8.proofs.AnswerLemmas.{any_match}

-- a walk may end here, at the position e
module _ (s : Search) (e : ℕ) where
  there : (n : Pair) → IsTrue (ends_at s e n) → EndsThere (λ m. IsTrue (ends s m)) e n
  there n h = let a = and_parts (ends s n) (nat_eq n.1 e) h in (a.0, eqb-true n.1 e a.1)

  back : (n : Pair) → EndsThere (λ m. IsTrue (ends s m)) e n → IsTrue (ends_at s e n)
  back n h = and_from (ends s n) (nat_eq n.1 e) h.0 (eq-eqb n.1 e h.1)

  bounded : IsBounded (next_of s) (ends_at s e) (length s.places) (s.hi + 1)
  bounded = record {
    place_of_end = λ n h. (is_bounded s).place_of_end n (there n h).0;
    place_of_way = (is_bounded s).place_of_way;
    position = (is_bounded s).position;
  }

  finds_to : (x : ℕ) → x ≤ s.hi → Finds (next_of s) (λ n. IsTrue (ends_at s e n)) [] ((0, x) ∷ []) (walk_to s x e)
  finds_to x h =
      walk_by_finds (next_of s) (ends_at s e) same_pair (λ n m t. last_pair s n m (there n t).0) (length s.places) (s.hi + 1)
      bounded (length s.places * (s.hi + 1)) [] (0, x) (omega arith) tt tt (omega (arith, h))

module _ (s : Search) (closed : IsClosed s.places) (some : 0 < length s.places) (x : ℕ) (le : x ≤ s.hi) where
  -- a match place of an allowed pattern, at e
  abbrev test : ℕ → Place → ℕ → Bool
  test e q y = is_match_place (only s.anchoring) q && nat_eq y e

  accepts : (e : ℕ) (q : Place) (y : ℕ) → test e q y ≡ true → is_match_place None q ≡ true
  accepts e q y h = any_match (only s.anchoring) q (and_parts (is_match_place (only s.anchoring) q) (nat_eq y e) h).0

  -- over the program and over the bytes they end alike
  abbrev pub Alike : List Pair → List Pair → Type 0
  Alike v w = (last_of w ≡ last_of v) × (pattern_at (place_at (bytes_of s.places) (last_of w).0) ≡ pattern_at (place_at s.places (last_of v).0))

  abbrev S : Pair → List Pair
  S = next_of s

  abbrev T : Pair → List Pair
  T = next_of (by_bytes s)

  abbrev E : Pair → Type 0
  E n = IsTrue (ends s n)

  abbrev F : Pair → Type 0
  F n = IsTrue (ends (by_bytes s) n)

  also : (e : ℕ) → Also s closed (test e) (accepts e) [] ((0, x) ∷ []) (walk_to s x e)
  also e =
      walk_also s closed (test e) (accepts e) (length s.places * (s.hi + 1)) [] (0, x) (omega arith) tt tt (λ k i. absurd i) some (omega (arith, le))

  first_to : (e : ℕ) (w : List Pair) → IsFirstWalk T (λ n. IsTrue (ends_at (by_bytes s) e n)) [] ((0, x) ∷ []) w → (o : Option (List Pair)) →
      Finds S (λ n. IsTrue (ends_at s e n)) [] ((0, x) ∷ []) o → Also s closed (test e) (accepts e) [] ((0, x) ∷ []) o →
      (v : List Pair) × IsFirstWalk S (λ n. IsTrue (ends_at s e n)) [] ((0, x) ∷ []) v × Alike v w
  first_to e w f None h a = absurd (a w f.is_walk)
  first_to e w f (Some v) h a =
      let same = first_is_one T (λ n. IsTrue (ends_at (by_bytes s) e n)) [] ((0, x) ∷ []) a.0 w a.1 f in
      let alike = a.2 in
      (v, h, subst (λ u. Alike v u) same (alike.last, alike.pattern))

  none_at : (e : ℕ) → HasNoWalk T (λ n. IsTrue (ends_at (by_bytes s) e n)) [] ((0, x) ∷ []) → (o : Option (List Pair)) →
      Finds S (λ n. IsTrue (ends_at s e n)) [] ((0, x) ∷ []) o → Also s closed (test e) (accepts e) [] ((0, x) ∷ []) o →
      HasNoWalk S (λ n. IsTrue (ends_at s e n)) [] ((0, x) ∷ [])
  none_at e none None h a = h
  none_at e none (Some v) h a = absurd (none a.0 (let f = a.1 in f.is_walk))

  -- no walk leads to e over the program where none does over the bytes
  quiet : (e : ℕ) → HasNoWalk T (EndsThere F e) [] ((0, x) ∷ []) → HasNoWalk S (EndsThere E e) [] ((0, x) ∷ [])
  quiet e none =
      change_ends S (λ n. IsTrue (ends_at s e n)) (EndsThere E e) [] ((0, x) ∷ []) (there s e) (back s e) None
      (none_at e
      (change_ends T (EndsThere F e) (λ n. IsTrue (ends_at (by_bytes s) e n)) [] ((0, x) ∷ []) (back (by_bytes s) e) (there (by_bytes s) e) None none)
      (walk_to s x e) (finds_to s e x le) (also e))

  pub longest_over : (w : List Pair) → IsLongestFrom (by_bytes s) x w → (v : List Pair) × IsLongestFrom s x v × Alike v w
  longest_over w long =
      let e : ℕ = (last_of w).1 in
      let r = first_to e w
      (change_ends T (EndsThere F e) (λ n. IsTrue (ends_at (by_bytes s) e n)) [] ((0, x) ∷ []) (back (by_bytes s) e) (there (by_bytes s) e) (Some w)
      (first_of_longest T F [] ((0, x) ∷ []) w long))
      (walk_to s x e) (finds_to s e x le) (also e) in (
        r.0,
        longest_of S E [] ((0, x) ∷ []) r.0 e
            (change_ends S (λ n. IsTrue (ends_at s e n)) (EndsThere E e) [] ((0, x) ∷ []) (there s e) (back s e) (Some r.0) r.1)
            (λ m lt. quiet m (none_longer T F [] ((0, x) ∷ []) w long m lt)),
        r.2,
      )

  none_over : HasNoWalkFrom (by_bytes s) x → HasNoWalkFrom s x
  none_over none = none_of_all S E [] ((0, x) ∷ []) (λ e. quiet e (none_to T F [] ((0, x) ∷ []) e none))

  -- a start that gives no answer over the bytes gives none
  pub passed_over : IsPassedOf (by_bytes s) (IsLongestFrom (by_bytes s)) x → IsPassedOf s (IsLongestFrom s) x
  passed_over p =
      ⊎_elim (λ none. inl (none_over none))
      (λ r. let v = longest_over r.0 r.1 in
      inr (v.0, v.1, ap (λ (n : Pair). not s.passes_over || is_boundary s.text.content n.1) (sym v.2.0) ∙ r.2)) p
