-- Where each span ends at the upper bound.
use Rattle.std.proofs.Common.{◌≡◌, ◌∙◌, ℕ, ◌+◌, ◌*◌, ◌≤◌, ◌⊎◌, inl, inr, ⊎_elim, true, false, true≢false, not, ◌||◌, List, [], ◌∷◌, length, Option, Some, None, IsTrue, ap, sym, subst, refl, arith}
use Rattle.rc_text.specs.Found.{Found, HalfFound}
use Rattle.rc_text.specs.Text.{is_boundary}
use Rattle.rc_pattern.specs.Re.{Re}
use Rattle.rc_walks.specs.Walks.{Pair, IsWalk, IsFirstWalk}
use Rattle.rc_walks.specs.Tries.{walk_by}
use Rattle.rc_walks.proofs.TryLemmas.{Finds, walk_by_finds}
use Rattle.rc_program.specs.Program.{accept, place_at, ways, is_match_place, program}
use Rattle.rc_program.specs.Answer.{Search, anywhere, only, next_of, ends, is_anchored, last_of, pattern_at, found, answer, Chosen, IsAnswer, IsStart, IsFirstFrom, IsPassed, HasNoWalkFrom}
use Rattle.rc_program.specs.Longest.{IsLongestFrom, IsPassedOf, longest}
use Rattle.rc_program.proofs.WayLemmas.{same_pair}
use Rattle.rc_program.proofs.AnswerLemmas.{answer_law, is_bounded, last_pair, match_place_is, walk_ends}
use Rattle.rc_program.proofs.GreatestLemmas.{no_span_no_answer}
use Rattle.rc_program.proofs.ReachLemmas.{longest_law}
use Rattle.rc_text.specs.declared.types.MatchKind.{MatchKind}
use Rattle.rc_text.specs.declared.types.MatchKind.TheVariants.{All as all_matches, LeftmostFirst as leftmost_first, LeftmostLongest as leftmost_longest}
use Rattle.rc_program.specs.Kinds.{answer_by}
use Rattle.rc_determinize.specs.Spans.{IsSpelled}
use Rattle.rc_dfa_search.specs.Laws.{ReverseEndLaw}
use Rattle.rc_dfa_search.specs.Leftmost.{IsLeftmost}
use Rattle.rc_dfa_search.specs.Reverse.{EndsAtBound, HasNoStart, IsLeastStart, IsMatchToEnd, start_of}
use Rattle.rc_dfa_search.proofs.RootLemmas.{least_pattern}

module _ (hs : List Re) (s : Search) (is : s.places ≡ program hs) (free : s.anchoring ≡ anywhere) (last : EndsAtBound s) where
  not_anchored : is_anchored s.anchoring ≡ false
  not_anchored = ap is_anchored free

  start_at : (x : ℕ) → s.lo ≤ x → x ≤ s.hi → IsStart s x
  start_at x low high = (low, high, λ t. absurd (true≢false (sym t ∙ not_anchored)))

  abbrev pattern_at_end : List Pair → ℕ
  pattern_at_end w = pattern_at (place_at s.places (last_of w).0)

  accepts : (x : ℕ) (w : List Pair) → IsWalk (next_of s) (λ n. IsTrue (ends s n)) [] ((0, x) ∷ []) w → place_at s.places (last_of w).0 ≡ accept (pattern_at_end w)
  accepts x w walk = match_place_is (only s.anchoring) (place_at s.places (last_of w).0) (walk_ends (next_of s) (λ n. IsTrue (ends s n)) walk)

  -- each walk from a start leads to the upper bound
  to_end : (x : ℕ) (w : List Pair) → IsStart s x → IsWalk (next_of s) (λ n. IsTrue (ends s n)) [] ((0, x) ∷ []) w → (last_of w).1 ≡ s.hi
  to_end x w start walk =
      last (record { pattern = pattern_at_end w; start = x; end = (last_of w).1 })
      (record { is_start = start; walk = w; is_walk = walk; pattern = accepts x w walk; position = refl })

  spelled_by : (x : ℕ) (w : List Pair) → IsStart s x → IsWalk (next_of s) (λ n. IsTrue (ends s n)) [] ((0, x) ∷ []) w → IsSpelled s (pattern_at_end w) x s.hi
  spelled_by x w start walk = (w, walk, accepts x w walk, to_end x w start walk)

  first_or_none : (x : ℕ) → x ≤ s.hi → HasNoWalkFrom s x ⊎ ((w : List Pair) × IsFirstFrom s x w)
  first_or_none x le =
      go (walk_by (next_of s) (ends s) (length s.places * (s.hi + 1)) [] (0, x))
      (walk_by_finds (next_of s) (ends s) same_pair (last_pair s) (length s.places) (s.hi + 1) (is_bounded s)
      (length s.places * (s.hi + 1)) [] (0, x) (omega arith) tt tt (omega (arith, le)))
    where
      go : (o : Option (List Pair)) → Finds (next_of s) (λ n. IsTrue (ends s n)) [] ((0, x) ∷ []) o → HasNoWalkFrom s x ⊎ ((w : List Pair) × IsFirstFrom s x w)
      go None h = inl h
      go (Some w) h = inr (w, h)

  nothing : HasNoStart s → answer s ≡ None
  nothing none =
      (answer_law.answer_none s).1
      (no_span_no_answer s (λ m h. let b = h.is_start in
      none m.start m.pattern b.0 (h.walk, h.is_walk, h.pattern, h.position ∙ last m h)))

  nothing_allowed : s.passes_over ≡ true → is_boundary s.text.content s.hi ≡ false → answer s ≡ None
  nothing_allowed over off =
      (answer_law.answer_none s).1
      (λ y start. ⊎_elim inl
      (λ f. let first = f.1 in inr (
        f.0,
        first,
        ap (λ b. not b || is_boundary s.text.content (last_of f.0).1) over
            ∙ ap (λ n. is_boundary s.text.content n) (to_end y f.0 start first.is_walk) ∙ off,
      ))
      (first_or_none y start.1))

  from_least : (h : HalfFound) → IsLeastStart s h → (not s.passes_over || is_boundary s.text.content s.hi) ≡ true →
      answer s ≡ Some (record { pattern = h.pattern; start = h.offset; end = s.hi })
  from_least h l allowed =
      let spelled = l.is_spelled in
      let x : ℕ = h.offset in
      let start : IsStart s x = start_at x spelled.within.0 spelled.within.1 in
      let v = spelled.is_spelled in
      let f : (w : List Pair) × IsFirstFrom s x w = ⊎_elim (λ none. absurd (none v.0 v.1)) (λ r. r) (first_or_none x spelled.within.1) in
      let w : List Pair = f.0 in
      let first : IsFirstFrom s x w = f.1 in
      let at : (last_of w).1 ≡ s.hi = to_end x w start first.is_walk in
      let no_less : h.pattern ≤ pattern_at_end w =
      ⊎_elim (λ lt. absurd (omega (arith, lt))) (λ r. r.1) (l.is_least x (pattern_at_end w) spelled.within.0 (spelled_by x w start first.is_walk)) in
      let no_more : pattern_at_end w ≤ h.pattern =
      least_pattern hs s.text s.hi (only s.anchoring) x w v.0
      (subst (λ ps. IsFirstWalk (ways ps s.text s.hi) (λ n. IsTrue (is_match_place (only s.anchoring) (place_at ps n.0))) [] ((0, x) ∷ []) w) is first)
      (subst (λ ps. IsWalk (ways ps s.text s.hi) (λ n. IsTrue (is_match_place (only s.anchoring) (place_at ps n.0))) [] ((0, x) ∷ []) v.0) is v.1)
      (pattern_at_end w) h.pattern
      (subst (λ ps. place_at ps (last_of w).0 ≡ accept (pattern_at_end w)) is (accepts x w first.is_walk))
      (subst (λ ps. place_at ps (last_of v.0).0 ≡ accept h.pattern) is v.2) in
      let same : pattern_at_end w ≡ h.pattern = omega (arith, no_less, no_more) in
      let c : Chosen = record { start = x; walk = w } in
      let a : IsAnswer s c = record {
        is_start = start;
        is_first = first;
        allowed = ap (λ n. not s.passes_over || is_boundary s.text.content n) at ∙ allowed;
        none_before = λ y begin less.
            inl (λ u walk. ⊎_elim (λ lt. omega (arith, lt, less)) (λ r. let e = r.0 in omega (arith, e, less))
            (l.is_least y (pattern_at_end u) begin.0 (spelled_by y u begin walk)));
      } in
      let m : Found = record { pattern = h.pattern; start = x; end = s.hi } in
      let found_is : found s c ≡ m =
      ap (λ (k : ℕ). let g : Found = record { pattern = k; start = x; end = (last_of w).1 } in g) same
      ∙ ap (λ (e : ℕ). let g : Found = record { pattern = h.pattern; start = x; end = e } in g) at in
      (answer_law.answer_some s m).1 (c, a, found_is)

  preferred : (o : Option Found) → IsMatchToEnd false s o → o ≡ answer s
  preferred None h =
      sym (⊎_elim nothing (λ r. nothing_allowed r.0 r.1) h.0)
  preferred (Some m) h =
      ap (λ (e : ℕ). let g : Found = record { pattern = m.pattern; start = m.start; end = e } in Some g) h.1 ∙ sym (from_least (start_of m) h.0.0 h.0.1)

-- where each span ends at the upper bound, the preferred walk of a start is the longest
module _ (s : Search) (last : EndsAtBound s) where
  is_longest : (x : ℕ) (w : List Pair) → IsStart s x → IsFirstFrom s x w → IsLongestFrom s x w
  is_longest x w start first = record {
    is_walk = first.is_walk;
    is_most = λ v walk. let a = end_of v walk in let b = end_of w first.is_walk in omega (arith, a, b);
    is_least = λ v walk same. first.is_least v walk;
  }
    where
      end_of : (v : List Pair) → IsWalk (next_of s) (λ n. IsTrue (ends s n)) [] ((0, x) ∷ []) v → (last_of v).1 ≡ s.hi
      end_of v walk =
          last (record { pattern = pattern_at (place_at s.places (last_of v).0); start = x; end = (last_of v).1 })
          (record {
            is_start = start;
            walk = v;
            is_walk = walk;
            pattern = match_place_is (only s.anchoring) (place_at s.places (last_of v).0) (walk_ends (next_of s) (λ n. IsTrue (ends s n)) walk);
            position = refl;
          })

  passed_too : (y : ℕ) → IsStart s y → IsPassed s y → IsPassedOf s (IsLongestFrom s) y
  passed_too y start p = ⊎_elim (λ none. inl none) (λ r. inr (r.0, is_longest y r.0 start r.1, r.2)) p

  same_answer : (o : Option Found) → answer s ≡ o → longest s ≡ o
  same_answer None e = (longest_law.answer_none s).1 (λ y start. passed_too y start ((answer_law.answer_none s).0 e y start))
  same_answer (Some m) e =
      let r = (answer_law.answer_some s m).0 e in
      let a = r.1 in
      (longest_law.answer_some s m).1 (
        r.0,
        record {
          is_start = a.is_start;
          counts = is_longest r.0.start r.0.walk a.is_start a.is_first;
          allowed = a.allowed;
          none_before = λ y start lt. passed_too y start (a.none_before y start lt);
        },
        r.2,
      )

leftmost : (hs : List Re) (kind : MatchKind) (s : Search) (o : Option Found) → IsLeftmost kind → s.places ≡ program hs → s.anchoring ≡ anywhere → EndsAtBound s →
    IsMatchToEnd false s o → o ≡ answer_by kind s
leftmost hs all_matches s o left is free last h = absurd left
leftmost hs leftmost_first s o left is free last h = preferred hs s is free last o h
leftmost hs leftmost_longest s o left is free last h = preferred hs s is free last o h ∙ sym (same_answer s last (answer s) refl)

pub reverse_end_law : ReverseEndLaw
reverse_end_law = record { leftmost = leftmost }
