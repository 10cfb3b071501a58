-- Where one pattern's walks alone count: the first walk from its entry over the byte program is that of the search.
use Rattle.std.proofs.Common.{◌≡◌, ℕ, ◌+◌, ◌*◌, ◌<◌, ◌≤◌, true, false, not, ◌||◌, List, [], ◌∷◌, ◌++◌, length, Option, Some, None, IsTrue, sym, subst, ap, ◌∙◌, refl, arith, eq-eqb, inl, inr}
use Rattle.std.specs.Option.{option_map}
use Rattle.rc_text.specs.Text.{is_boundary}
use Rattle.rc_pattern.specs.Re.{Re}
use Rattle.rc_walks.specs.Walks.{Pair, IsWalk, stops, goes, IsFirstWalk, HasNoWalk}
use Rattle.rc_walks.specs.Tries.{walk_by}
use Rattle.rc_walks.proofs.CutLemmas.{first_is_one}
use Rattle.rc_walks.proofs.TryLemmas.{Finds, walk_by_finds}
use Rattle.rc_program.specs.Text.{Text}
use Rattle.rc_program.specs.Program.{Place, place_at, ways, is_match_place, program, entry}
use Rattle.rc_program.specs.Answer.{Search, only, next_of, ends, last_of, pattern_at, IsFirstFrom, HasNoWalkFrom, is_anchored, IsStart, IsPassed, IsAnswer, Chosen, found, answer}
use Rattle.rc_program.specs.Laws.{IsClosed, EndsFor}
use Rattle.rc_program.proofs.WayLemmas.{same_pair}
use Rattle.rc_program.proofs.PlaceLemmas.{program_is_closed, entry_below}
use Rattle.rc_program.proofs.AnswerLemmas.{walk_ends, match_place_is, last_pair, is_bounded, answer_law}
use Rattle.rc_program.proofs.GreatestLemmas.{other_ends}
use Rattle.rc_program.proofs.EntryLemmas.{entry_law}
use Rattle.rc_text.specs.Found.{Found}
use Rattle.rc_utf8.specs.Bytes.{bytes_of}
use Rattle.rc_utf8.specs.Laws.{by_bytes}
use Rattle.rc_utf8.proofs.AnswerLemmas.{any_match, same_from}
use Rattle.rc_utf8.proofs.SpanLemmas.{match_places}
use Rattle.rc_determinize.specs.Gives.{Gives}
use Rattle.rc_determinize.specs.States.{Stops}
use Rattle.rc_determinize.specs.Laws.{may_end_at}
use Rattle.rc_determinize.proofs.AnswerLemmas.{last_at}
use Rattle.rc_dfa_search.proofs.CaseLemmas.{any_where, ends_at_last}

-- WHERE THE FIRST WALK ENDS

gives_end : (W : Pair → List Pair) (E : Pair → Type 0) (f : List Pair) (o : Option (List Pair)) (r : Option Pair) → Finds W E [] f o → Gives W E [] f r →
    option_map last_of o ≡ r
gives_end W E f None None h g = refl
gives_end W E f None (Some e) h g = absurd (h g.0 g.1.is_walk)
gives_end W E f (Some w) None h g = absurd (g w h.is_walk)
gives_end W E f (Some w) (Some e) h g = ap (λ v. Some (last_of v)) (first_is_one W E [] f w g.0 h g.1) ∙ ap Some (last_at g.0 e g.2)

found_gives : (W : Pair → List Pair) (E : Pair → Type 0) (f : List Pair) (o : Option (List Pair)) → Finds W E [] f o → Gives W E [] f (option_map last_of o)
found_gives W E f None h = h
found_gives W E f (Some w) h = (w, h, ends_at_last h.is_walk)

-- over the program as over the byte program, from each of its places
gives_over : (s : Search) → IsClosed s.places → (k x : ℕ) → k < length s.places → x ≤ s.hi → (r : Option Pair) →
    Gives (next_of (by_bytes s)) (λ n. IsTrue (ends (by_bytes s) n)) [] ((k, x) ∷ []) r → Gives (next_of s) (λ n. IsTrue (ends s n)) [] ((k, x) ∷ []) r
gives_over s closed k x lt le r g =
    let B = by_bytes s in
    let o = walk_by (next_of B) (ends B) (length (bytes_of s.places) * (s.hi + 1)) [] (k, x) in
    let q = walk_by (next_of s) (ends s) (length s.places * (s.hi + 1)) [] (k, x) in
    let over : Finds (next_of B) (λ n. IsTrue (ends B n)) [] ((k, x) ∷ []) o =
    walk_by_finds (next_of B) (ends B) same_pair (last_pair B) (length (bytes_of s.places)) (s.hi + 1) (is_bounded B)
    (length (bytes_of s.places) * (s.hi + 1)) [] (k, x) (omega arith) tt tt (omega (arith, le)) in
    let own : Finds (next_of s) (λ n. IsTrue (ends s n)) [] ((k, x) ∷ []) q =
    walk_by_finds (next_of s) (ends s) same_pair (last_pair s) (length s.places) (s.hi + 1) (is_bounded s)
    (length s.places * (s.hi + 1)) [] (k, x) (omega arith) tt tt (omega (arith, le)) in
    let at : option_map last_of o ≡ r = gives_end (next_of B) (λ n. IsTrue (ends B n)) ((k, x) ∷ []) o r over g in
    subst (λ z. Gives (next_of s) (λ n. IsTrue (ends s n)) [] ((k, x) ∷ []) z) (sym (same_from s closed k x lt le) ∙ at)
    (found_gives (next_of s) (λ n. IsTrue (ends s n)) ((k, x) ∷ []) q own)

-- ONE PATTERN ALONE

last_of_both : (u : List Pair) (n : Pair) (v : List Pair) → last_of (u ++ n ∷ v) ≡ last_of (n ∷ v)
last_of_both [] n v = refl
last_of_both (k ∷ []) n v = refl
last_of_both (k ∷ l ∷ u) n v = last_of_both (l ∷ u) n v

last_append : {W : Pair → List Pair} {E : Pair → Type 0} {p f v : List Pair} (u : List Pair) → IsWalk W E p f v → last_of (u ++ v) ≡ last_of v
last_append u (stops k here fresh stop) = last_of_both u k []
last_append u (goes {w = w} k here fresh rest) = last_of_both u k w

module _ (hs : List Re) (t : Text) (hi p x : ℕ) (lt : p < length hs) where
  abbrev W : Pair → List Pair
  W = ways (program hs) t hi

  abbrev Any : Pair → Type 0
  Any n = IsTrue (is_match_place None (place_at (program hs) n.0))

  -- a walk from the entry is one of the pattern
  to_own : (v : List Pair) → IsWalk W Any [] ((entry hs p, x) ∷ []) v → IsWalk W (EndsFor (program hs) p) [] ((entry hs p, x) ∷ []) v
  to_own v walk =
      other_ends W Any (EndsFor (program hs) p) walk (ap (is_match_place (Some p)) (entry_law.own hs t hi p x v lt walk) ∙ eq-eqb p p refl)

  from_own : (v : List Pair) → IsWalk W (EndsFor (program hs) p) [] ((entry hs p, x) ∷ []) v → IsWalk W Any [] ((entry hs p, x) ∷ []) v
  from_own v walk =
      other_ends W (EndsFor (program hs) p) Any walk (any_match (Some p) (place_at (program hs) (last_of v).0) (walk_ends W (EndsFor (program hs) p) walk))

  abbrev FromRoot : Option Pair → Type 0
  FromRoot None = HasNoWalk W (EndsFor (program hs) p) [] ((0, x) ∷ [])
  FromRoot (Some e) = (w : List Pair) × IsFirstWalk W (EndsFor (program hs) p) [] ((0, x) ∷ []) w × (last_of w ≡ e)

  -- what the entry gives the root gives to the pattern alone
  from_root_too : (r : Option Pair) → Gives W Any [] ((entry hs p, x) ∷ []) r → FromRoot r
  from_root_too None g = entry_law.none hs t hi p x lt (λ v walk. g v (from_own v walk))
  from_root_too (Some e) g =
      let f : IsFirstWalk W (EndsFor (program hs) p) [] ((entry hs p, x) ∷ []) g.0 = record {
        is_walk = to_own g.0 g.1.is_walk;
        is_least = λ v walk. let first = g.1 in first.is_least v (from_own v walk);
      } in
      let r = entry_law.first hs t hi p x g.0 lt f in
      (r.0 ++ g.0, r.2, last_append r.0 f.is_walk ∙ last_at g.0 e g.2)

-- where a search for one pattern alone begins, and what it gives there
abbrev pub GivenAt : Search → ℕ → Option Pair → Type 0
GivenAt s x None = HasNoWalkFrom s x
GivenAt s x (Some e) = (w : List Pair) × IsFirstFrom s x w × (last_of w ≡ e)

module _ (hs : List Re) (s : Search) (is : s.places ≡ program hs) (p : ℕ) (alone : only s.anchoring ≡ Some p) (lt : p < length hs) where
  abbrev Own : List Place → Option ℕ → Pair → Type 0
  Own ps o n = IsTrue (is_match_place o (place_at ps n.0))

  given_so : (x : ℕ) (r : Option Pair) → FromRoot hs s.text s.hi p x lt r → GivenAt s x r
  given_so x None h =
      subst (λ ps. HasNoWalk (ways ps s.text s.hi) (Own ps (only s.anchoring)) [] ((0, x) ∷ [])) (sym is)
      (subst (λ o. HasNoWalk (ways (program hs) s.text s.hi) (Own (program hs) o) [] ((0, x) ∷ [])) (sym alone) h)
  given_so x (Some e) h = (
    h.0,
    subst (λ ps. IsFirstWalk (ways ps s.text s.hi) (Own ps (only s.anchoring)) [] ((0, x) ∷ []) h.0) (sym is)
        (subst (λ o. IsFirstWalk (ways (program hs) s.text s.hi) (Own (program hs) o) [] ((0, x) ∷ []) h.0) (sym alone) h.1),
    h.2,
  )

  pub pattern_gives : (x : ℕ) → x ≤ s.hi → (r : Option Pair) →
      Gives (ways (bytes_of s.places) s.text s.hi) (Stops (bytes_of s.places)) [] ((entry hs p, x) ∷ []) r → GivenAt s x r
  pattern_gives x le r g =
      let below : entry hs p < length s.places = subst (λ ps. entry hs p < length ps) (sym is) (entry_below hs p) in
      let closed : IsClosed s.places = subst (λ ps. IsClosed ps) (sym is) (program_is_closed hs) in
      given_so x r (from_root_too hs s.text s.hi p x lt r
      (subst (λ ps. Gives (ways ps s.text s.hi) (Own ps None) [] ((entry hs p, x) ∷ []) r) is
      (gives_over (any_where s) closed (entry hs p) x below le r g)))

-- THE ANSWER

-- a search that begins at its lower bound alone
module _ (s : Search) (ordered : s.lo ≤ s.hi) (anchored : is_anchored s.anchoring ≡ true) where
  one_start : (y : ℕ) → IsStart s y → s.lo ≡ y
  one_start y st = sym (st.2 anchored)

  pub one_answer : (q e : ℕ) → GivenAt s s.lo (Some (q, e)) → may_end_at s e ≡ true →
      answer s ≡ Some (record { pattern = pattern_at (place_at (bytes_of s.places) q); start = s.lo; end = e })
  one_answer q e g may =
      let c : Chosen = record { start = s.lo; walk = g.0 } in
      let is : IsAnswer s c = record {
        is_start = (omega arith, ordered, λ t. refl);
        is_first = g.1;
        allowed = ap (λ (n : Pair). not s.passes_over || is_boundary s.text.content n.1) g.2 ∙ may;
        none_before = λ y st less. let same = one_start y st in absurd (omega (arith, same, less));
      } in
      let first = g.1 in
      let stop = match_place_is (only s.anchoring) (place_at s.places (last_of g.0).0) (walk_ends (next_of s) (λ n. IsTrue (ends s n)) first.is_walk) in
      let over = (match_places s.places (last_of g.0).0 (pattern_at (place_at s.places (last_of g.0).0))).1 stop in
      let found_is : found s c ≡ record { pattern = pattern_at (place_at (bytes_of s.places) q); start = s.lo; end = e } =
      ap (λ (k : ℕ). let f : Found = record { pattern = k; start = s.lo; end = (last_of g.0).1 } in f) (sym (ap pattern_at over))
      ∙ ap (λ (n : Pair). let f : Found = record { pattern = pattern_at (place_at (bytes_of s.places) n.0); start = s.lo; end = n.1 } in f) g.2 in
      (answer_law.answer_some s (record { pattern = pattern_at (place_at (bytes_of s.places) q); start = s.lo; end = e })).1 (c, is, found_is)

  pub one_passed : (q e : ℕ) → GivenAt s s.lo (Some (q, e)) → may_end_at s e ≡ false → answer s ≡ None
  one_passed q e g off =
      (answer_law.answer_none s).1
      (λ y st. subst (λ k. IsPassed s k) (one_start y st)
      (inr (g.0, g.1, ap (λ (n : Pair). not s.passes_over || is_boundary s.text.content n.1) g.2 ∙ off)))

  pub one_none : GivenAt s s.lo None → answer s ≡ None
  one_none none = (answer_law.answer_none s).1 (λ y st. subst (λ k. IsPassed s k) (one_start y st) (inl none))
