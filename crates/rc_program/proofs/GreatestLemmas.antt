-- The greatest span as a function is the greatest as a relation.
use Rattle.std.proofs.Common.{◌≡◌, ◌↔◌, ℕ, zero, suc, ◌+◌, ◌*◌, ◌<◌, ◌≤◌, List, [], ◌∷◌, Option, Some, None, Bool, true, false, ◌&&◌, IsTrue, nat_eq, length, All, inl, inr, ⊎_elim, sym, subst, ap, ap₂, ◌∙◌, refl, arith, eqb-true, eq-eqb, true≢false}
use Rattle.std.specs.Option.{option_or, option_map}
use Rattle.std.proofs.lemmas.Bool.{cases_lt, and_parts, and_from}
use Rattle.rc_text.specs.Found.{Found}
use Rattle.rc_pattern.specs.Re.{Re}
use Rattle.rc_pattern.specs.WellFormed.{HasBounds}
use Rattle.rc_walks.specs.Walks.{Pair, IsWalk, stops, goes}
use Rattle.rc_walks.specs.Tries.{walk_by}
use Rattle.rc_walks.proofs.TryLemmas.{Finds, IsBounded, walk_by_finds}
use Rattle.rc_program.specs.Program.{Place, choice, byte, branch, scalar, guard, slot, accept, place_at, is_match_place, ways, program}
use Rattle.rc_program.specs.Answer.{Search, only, ends, next_of, last_of, is_allowed, IsStart, HasNoAnswer, Chosen, IsAnswer, found, start_count, answer, pattern_at, first_given}
use Rattle.rc_program.specs.Spells.{SpelledBy}
use Rattle.rc_program.specs.Greatest.{IsSpelledIn, AllowsPattern, HasNoSpan, IsNoGreater, IsGreatest, ends_for, span_by, last_below, past_patterns, by_patterns, to_end, greatest, GreatestLaw}
use Rattle.rc_program.proofs.WholeLemmas.{program_law}
use Rattle.rc_program.proofs.WayLemmas.{same_pair}
use Rattle.rc_program.proofs.AnswerLemmas.{last_pair, is_bounded, last_of_more, walk_ends, walk_within, match_place_is, chosen_accepts, answer_law, start_from, start_below}

-- a walk that ends where other ends are met is a walk to them
pub other_ends : (ways : Pair → List Pair) (Ends Others : Pair → Type 0) {p f w : List Pair} → IsWalk ways Ends p f w → Others (last_of w) →
    IsWalk ways Others p f w
other_ends ways Ends Others (stops k here fresh stop) h = stops k here fresh h
other_ends ways Ends Others (goes k here fresh rest) h =
    goes k here fresh (other_ends ways Ends Others rest (subst Others (last_of_more ways Ends k rest) h))

-- what is spelled lies within the bounds
pub spelled_within : (s : Search) (m : Found) → IsSpelledIn s m → (s.lo ≤ m.start) × (m.start ≤ m.end) × (m.end ≤ s.hi)
spelled_within s m h =
    let r = walk_within s.places s.text s.hi (λ n. IsTrue (ends s n)) m.start h.is_walk
    (λ n i. ⊎_elim (λ q. let e : m.start ≡ n.1 = ap (λ (k : Pair). k.1) q in (omega (arith, e), omega (arith, e, h.is_start.1))) (λ never. absurd never) i) in
    (h.is_start.0, omega (arith, r.1, h.position), omega (arith, r.2, h.position))

-- the match place of an allowed pattern is that pattern's
accepts_one : (p : ℕ) (q : Place) → IsTrue (is_match_place (Some p) q) → q ≡ accept p
accepts_one p q h =
    let e = match_place_is (Some p) q h in
    let t : IsTrue (is_match_place (Some p) (accept (pattern_at q))) = subst (λ r. IsTrue (is_match_place (Some p) r)) e h in
    e ∙ ap accept (eqb-true (pattern_at q) p t)

accepts_itself : (p : ℕ) (q : Place) → q ≡ accept p → is_match_place (Some p) q ≡ true
accepts_itself p q e = ap (is_match_place (Some p)) e ∙ eq-eqb p p refl

-- what a pair shows where a walk for p and e may end
record EndsSo (s : Search) (p e : ℕ) (n : Pair) : Type 0 where
  pub may : IsTrue (ends s n)
  pub place : place_at s.places n.0 ≡ accept p
  pub position : n.1 ≡ e

ends_so : (s : Search) (p e : ℕ) (n : Pair) → IsTrue (ends_for s p e n) → EndsSo s p e n
ends_so s p e n h =
    let a = and_parts (ends s n && is_match_place (Some p) (place_at s.places n.0)) (nat_eq n.1 e) h in
    let b = and_parts (ends s n) (is_match_place (Some p) (place_at s.places n.0)) a.0 in
    record { may = b.0; place = accepts_one p (place_at s.places n.0) b.1; position = eqb-true n.1 e a.1 }

ends_from : (s : Search) (p e : ℕ) (n : Pair) → EndsSo s p e n → IsTrue (ends_for s p e n)
ends_from s p e n h =
    and_from (ends s n && is_match_place (Some p) (place_at s.places n.0)) (nat_eq n.1 e)
    (and_from (ends s n) (is_match_place (Some p) (place_at s.places n.0)) h.may (accepts_itself p (place_at s.places n.0) h.place))
    (eq-eqb n.1 e h.position)

bounded_for : (s : Search) (p e : ℕ) → IsBounded (next_of s) (ends_for s p e) (length s.places) (s.hi + 1)
bounded_for s p e = record {
  place_of_end = λ n h. (is_bounded s).place_of_end n (ends_so s p e n h).may;
  place_of_way = (is_bounded s).place_of_way;
  position = (is_bounded s).position;
}

tried_for : (s : Search) (e x p : ℕ) → x ≤ s.hi →
    Finds (next_of s) (λ n. IsTrue (ends_for s p e n)) [] ((0, x) ∷ []) (walk_by (next_of s) (ends_for s p e) (length s.places * (s.hi + 1)) [] (0, x))
tried_for s e x p h =
    walk_by_finds (next_of s) (ends_for s p e) same_pair (λ n m t. last_pair s n m (ends_so s p e n t).may) (length s.places) (s.hi + 1)
    (bounded_for s p e) (length s.places * (s.hi + 1)) [] (0, x) (omega arith) tt tt (omega arith)

-- what a walk for p from x to e shows
abbrev Spans : Search → ℕ → ℕ → ℕ → Option Found → Type 0
Spans s e x p None = (n : Found) → IsSpelledIn s n → n.end ≡ e → n.start ≡ x → n.pattern ≡ p → ⊥
Spans s e x p (Some m) = IsSpelledIn s m × (m.end ≡ e) × (m.start ≡ x) × (m.pattern ≡ p)

spans_of : (s : Search) (e x p : ℕ) → IsStart s x → (o : Option (List Pair)) →
    Finds (next_of s) (λ n. IsTrue (ends_for s p e n)) [] ((0, x) ∷ []) o →
    Spans s e x p (option_map (λ (w : List Pair). let m : Found = record { pattern = p; start = x; end = e } in m) o)
spans_of s e x p start None none = λ n h a b c.
    let so : EndsSo s p e (last_of h.walk) = record {
      may = walk_ends (next_of s) (λ k. IsTrue (ends s k)) h.is_walk;
      place = h.pattern ∙ ap accept c;
      position = h.position ∙ a;
    } in
    none h.walk
    (other_ends (next_of s) (λ k. IsTrue (ends s k)) (λ k. IsTrue (ends_for s p e k))
    (subst (λ y. IsWalk (next_of s) (λ k. IsTrue (ends s k)) [] ((0, y) ∷ []) h.walk) b h.is_walk)
    (ends_from s p e (last_of h.walk) so))
spans_of s e x p start (Some w) first =
    let so = ends_so s p e (last_of w) (walk_ends (next_of s) (λ k. IsTrue (ends_for s p e k)) first.is_walk) in (
      record {
        is_start = start;
        walk = w;
        is_walk = other_ends (next_of s) (λ k. IsTrue (ends_for s p e k)) (λ k. IsTrue (ends s k)) first.is_walk so.may;
        pattern = so.place;
        position = so.position;
      },
      refl,
      refl,
      refl,
    )

span_by_spans : (s : Search) (e x p : ℕ) → IsStart s x → Spans s e x p (span_by s e x p)
span_by_spans s e x p start =
    spans_of s e x p start (walk_by (next_of s) (ends_for s p e) (length s.places * (s.hi + 1)) [] (0, x)) (tried_for s e x p start.1)

-- what the first of so many numbers gives
abbrev IsFirst : (ℕ → Option Found) → ℕ → ℕ → Option Found → Type 0
IsFirst gives n x None = (y : ℕ) → x ≤ y → y < x + n → gives y ≡ None
IsFirst gives n x (Some m) = (k : ℕ) × (x ≤ k) × (k < x + n) × (gives k ≡ Some m) × ((y : ℕ) → x ≤ y → y < k → gives y ≡ None)

one_or_first : (gives : ℕ → Option Found) (n x : ℕ) (o rest : Option Found) → gives x ≡ o → IsFirst gives n (x + 1) rest →
    IsFirst gives (suc n) x (option_or o rest)
one_or_first gives n x (Some m) rest e r = (x, omega arith, omega arith, e, λ y a b. absurd (omega arith))
one_or_first gives n x None None e r =
    λ y a b. ⊎_elim (λ l. r y (omega arith) (omega arith)) (λ ge. let q : x ≡ y = omega arith in subst (λ z. gives z ≡ None) q e) (cases_lt x y)
one_or_first gives n x None (Some m) e r = (
  r.0,
  omega (arith, r.1),
  omega (arith, r.2),
  r.3,
  λ y a b. ⊎_elim (λ l. r.4 y (omega arith) b) (λ ge. let q : x ≡ y = omega arith in subst (λ z. gives z ≡ None) q e) (cases_lt x y),
)

is_first : (gives : ℕ → Option Found) (n x : ℕ) → IsFirst gives n x (first_given gives n x)
is_first gives zero x = λ y a b. absurd (omega arith)
is_first gives (suc n) x = one_or_first gives n x (gives x) (first_given gives n (x + 1)) refl (is_first gives n (x + 1))

-- what the last of the numbers below n gives
abbrev IsLast : (ℕ → Option Found) → ℕ → Option Found → Type 0
IsLast gives n None = (y : ℕ) → y < n → gives y ≡ None
IsLast gives n (Some m) = (k : ℕ) × (k < n) × (gives k ≡ Some m) × ((y : ℕ) → k < y → y < n → gives y ≡ None)

one_or_last : (gives : ℕ → Option Found) (n : ℕ) (o rest : Option Found) → gives n ≡ o → IsLast gives n rest →
    IsLast gives (suc n) (option_or o rest)
one_or_last gives n (Some m) rest e r = (n, omega arith, e, λ y a b. absurd (omega arith))
one_or_last gives n None None e r =
    λ y b. ⊎_elim (λ l. r y l) (λ ge. let q : n ≡ y = omega arith in subst (λ z. gives z ≡ None) q e) (cases_lt y n)
one_or_last gives n None (Some m) e r = (
  r.0,
  omega (arith, r.1),
  r.2,
  λ y a b. ⊎_elim (λ l. r.3 y a l) (λ ge. let q : n ≡ y = omega arith in subst (λ z. gives z ≡ None) q e) (cases_lt y n),
)

is_last : (gives : ℕ → Option Found) (n : ℕ) → IsLast gives n (last_below gives n)
is_last gives zero = λ y b. absurd (omega arith)
is_last gives (suc n) = one_or_last gives n (gives n) (last_below gives n) refl (is_last gives n)

past_more : (q : Place) (places : List Place) → past_patterns places ≤ past_patterns (q ∷ places)
past_more (choice ns) places = omega arith
past_more (byte rs n) places = omega arith
past_more (branch ts) places = omega arith
past_more (scalar rs n) places = omega arith
past_more (guard l n) places = omega arith
past_more (slot k n) places = omega arith
past_more (accept p) places = omega arith

-- the number of a pattern that has a match place
pattern_below : (places : List Place) (n p : ℕ) → place_at places n ≡ accept p → p < past_patterns places
pattern_below [] n p e = absurd (true≢false (sym (ap (is_match_place None) e)))
pattern_below (q ∷ places) zero p e = subst (λ r. p < past_patterns (r ∷ places)) (sym e) (omega arith)
pattern_below (q ∷ places) (suc n) p e = let h = pattern_below places n p e in let k = past_more q places in omega (arith, h, k)

-- what all patterns from x to e show
abbrev Reaches : Search → ℕ → ℕ → Option Found → Type 0
Reaches s e x None = (n : Found) → IsSpelledIn s n → n.end ≡ e → n.start ≡ x → ⊥
Reaches s e x (Some m) =
    IsSpelledIn s m × (m.end ≡ e) × (m.start ≡ x) × ((n : Found) → IsSpelledIn s n → n.end ≡ e → n.start ≡ x → m.pattern ≤ n.pattern)

-- a number that gives nothing is that of no pattern
no_span : (s : Search) (e x p : ℕ) → IsStart s x → span_by s e x p ≡ None → Spans s e x p None
no_span s e x p start h = subst (Spans s e x p) h (span_by_spans s e x p start)

reaches_of : (s : Search) (e x : ℕ) → IsStart s x → (o : Option Found) → IsFirst (span_by s e x) (past_patterns s.places) 0 o → Reaches s e x o
reaches_of s e x start None none = λ n h a b.
    no_span s e x n.pattern start (none n.pattern (omega arith) (let l = pattern_below s.places (last_of h.walk).0 n.pattern h.pattern in omega (arith, l)))
    n h a b refl
reaches_of s e x start (Some m) r =
    let t : Spans s e x r.0 (Some m) = subst (Spans s e x r.0) r.3 (span_by_spans s e x r.0 start) in (
      t.0,
      t.1,
      t.2,
      λ n h a b. ⊎_elim (λ l. absurd (no_span s e x n.pattern start (r.4 n.pattern (omega arith) (omega (arith, l, t.3))) n h a b refl))
          (λ ge. ge) (cases_lt n.pattern m.pattern),
    )

by_patterns_reaches : (s : Search) (e x : ℕ) → IsStart s x → Reaches s e x (by_patterns s e x)
by_patterns_reaches s e x start = reaches_of s e x start (by_patterns s e x) (is_first (span_by s e x) (past_patterns s.places) 0)

-- what all starts to e show
abbrev EndsThere : Search → ℕ → Option Found → Type 0
EndsThere s e None = (n : Found) → IsSpelledIn s n → n.end ≡ e → ⊥
EndsThere s e (Some m) = IsSpelledIn s m × (m.end ≡ e) × ((n : Found) → IsSpelledIn s n → n.end ≡ e → IsNoGreater n m)

no_reach : (s : Search) (e x : ℕ) → IsStart s x → by_patterns s e x ≡ None → Reaches s e x None
no_reach s e x start h = subst (Reaches s e x) h (by_patterns_reaches s e x start)

no_greater_there : (s : Search) (e : ℕ) (m n : Found) → n.end ≡ m.end → (n.start < m.start → ⊥) → (n.start ≡ m.start → m.pattern ≤ n.pattern) →
    IsNoGreater n m
no_greater_there s e m n same none least =
    inr (
      same,
      ⊎_elim (λ l. inl l)
          (λ ge. ⊎_elim (λ l. absurd (none l)) (λ le. let q : n.start ≡ m.start = omega (arith, ge, le) in inr (q, least q)) (cases_lt n.start m.start))
          (cases_lt m.start n.start),
    )

there_of : (s : Search) (e : ℕ) (o : Option Found) → IsFirst (by_patterns s e) (start_count s) s.lo o → EndsThere s e o
there_of s e None none = λ n h a.
    no_reach s e n.start h.is_start (none n.start h.is_start.0 (start_below s n.start h.is_start)) n h a refl
there_of s e (Some m) r =
    let t : Reaches s e r.0 (Some m) = subst (Reaches s e r.0) r.3 (by_patterns_reaches s e r.0 (start_from s r.0 r.1 r.2)) in (
      t.0,
      t.1,
      λ n h a. no_greater_there s e m n (a ∙ sym t.1)
          (λ l. no_reach s e n.start h.is_start (r.4 n.start h.is_start.0 (omega (arith, l, t.2))) n h a refl)
          (λ q. t.3 n h a (q ∙ t.2)),
    )

to_end_there : (s : Search) (e : ℕ) → EndsThere s e (to_end s e)
to_end_there s e = there_of s e (to_end s e) (is_first (by_patterns s e) (start_count s) s.lo)

no_end : (s : Search) (e : ℕ) → to_end s e ≡ None → EndsThere s e None
no_end s e h = subst (EndsThere s e) h (to_end_there s e)

-- what the greatest shows
abbrev Greatest : Search → Option Found → Type 0
Greatest s None = HasNoSpan s
Greatest s (Some m) = IsGreatest s m

greatest_of : (s : Search) (o : Option Found) → IsLast (to_end s) (s.hi + 1) o → Greatest s o
greatest_of s None none = λ n h. no_end s n.end (none n.end (let w = spelled_within s n h in omega (arith, w.2))) n h refl
greatest_of s (Some m) r =
    let t : EndsThere s r.0 (Some m) = subst (EndsThere s r.0) r.2 (to_end_there s r.0) in
    record {
      is_spelled = t.0;
      is_most = λ n h. let w = spelled_within s n h in
          ⊎_elim (λ l. inl l)
          (λ ge. ⊎_elim
          (λ l. absurd (no_end s n.end (r.3 n.end (omega (arith, l, t.1)) (omega (arith, w.2))) n h refl))
          (λ le. t.2 n h (omega (arith, ge, le, t.1))) (cases_lt m.end n.end))
          (cases_lt n.end m.end);
    }

pub greatest_is : (s : Search) → Greatest s (greatest s)
unfolding greatest
greatest_is s = greatest_of s (last_below (to_end s) (s.hi + 1)) (is_last (to_end s) (s.hi + 1))

same_found : (m n : Found) → m.pattern ≡ n.pattern → m.start ≡ n.start → m.end ≡ n.end → m ≡ n
same_found m n a b c = ap₂ (λ p (q : ℕ × ℕ). let r : Found = record { pattern = p; start = q.0; end = q.1 } in r) a (ap₂ (λ x y. (x, y)) b c)

-- each is no greater than the other
only_same : (m n : Found) → IsNoGreater m n → IsNoGreater n m → m ≡ n
only_same m n a b =
    ⊎_elim
    (λ l. absurd (⊎_elim (λ k. omega (arith, l, k)) (λ k. omega (arith, l, k.0)) b))
    (λ p. ⊎_elim
    (λ k. absurd (omega (arith, p.0, k)))
    (λ q. ⊎_elim
    (λ l. absurd (⊎_elim (λ k. omega (arith, l, k)) (λ k. omega (arith, l, k.0)) q.1))
    (λ u. ⊎_elim
    (λ k. absurd (omega (arith, u.0, k)))
    (λ v. same_found m n (omega (arith, u.1, v.1)) u.0 p.0) q.1) p.1) b) a

-- there is one greatest
pub greatest_is_one : (s : Search) (m n : Found) → IsGreatest s m → IsGreatest s n → m ≡ n
greatest_is_one s m n a b = only_same m n (b.is_most m a.is_spelled) (a.is_most n b.is_spelled)

one_greatest : (s : Search) (o : Option Found) (m : Found) → Greatest s o → IsGreatest s m → o ≡ Some m
one_greatest s None m none g = absurd (none m g.is_spelled)
one_greatest s (Some n) m h g = ap Some (greatest_is_one s n m h g)

no_greatest : (s : Search) (o : Option Found) → Greatest s o → HasNoSpan s → o ≡ None
no_greatest s None h none = refl
no_greatest s (Some n) h none = absurd (none n h.is_spelled)

pub greatest_some : (s : Search) (m : Found) → (greatest s ≡ Some m) ↔ IsGreatest s m
greatest_some s m = ((λ e. subst (Greatest s) e (greatest_is s)), (λ g. one_greatest s (greatest s) m (greatest_is s) g))

pub greatest_none : (s : Search) → (greatest s ≡ None) ↔ HasNoSpan s
greatest_none s = ((λ e. subst (Greatest s) e (greatest_is s)), (λ none. no_greatest s (greatest s) (greatest_is s) none))

-- what is chosen is spelled
chosen_spelled : (s : Search) (c : Chosen) → IsAnswer s c → IsSpelledIn s (found s c)
chosen_spelled s c a = record {
  is_start = a.is_start;
  walk = c.walk;
  is_walk = a.is_first.is_walk;
  pattern = chosen_accepts s c a;
  position = refl;
}

-- the answer is spelled
pub answer_spelled : (s : Search) (m : Found) → answer s ≡ Some m → IsSpelledIn s m
answer_spelled s m e =
    let r = (answer_law.answer_some s m).0 e in subst (IsSpelledIn s) r.2 (chosen_spelled s r.0 r.1)

-- where nothing is spelled, there is no answer
pub no_span_no_answer : (s : Search) → HasNoSpan s → HasNoAnswer s
no_span_no_answer s none = λ y start. inl (λ w h.
    none (found s (record { start = y; walk = w })) (record {
      is_start = start;
      walk = w;
      is_walk = h;
      pattern = match_place_is (only s.anchoring) (place_at s.places (last_of w).0) (walk_ends (next_of s) (λ n. IsTrue (ends s n)) h);
      position = refl;
    }))

all_allowed : (s : Search) → s.passes_over ≡ false → (w : List Pair) → is_allowed s w ≡ true
all_allowed s off w = rw off refl

-- where no answer is passed over and there is none, nothing is spelled
pub no_answer_no_span : (s : Search) → s.passes_over ≡ false → HasNoAnswer s → HasNoSpan s
no_answer_no_span s off none = λ m h.
    ⊎_elim (λ no. no h.walk h.is_walk) (λ q. true≢false (sym (all_allowed s off q.0) ∙ q.2)) (none m.start h.is_start)

-- what is spelled by the program of some patterns
spelled_program : (hs : List Re) (s : Search) (m : Found) → All HasBounds hs → s.places ≡ program hs → IsSpelledIn s m →
    IsStart s m.start × AllowsPattern s m.pattern × (m.end ≤ s.hi) × SpelledBy s.text 0 hs m.pattern m.start m.end
spelled_program hs s m bounds e h =
    let w = spelled_within s m h in
    let last = last_of h.walk in
    let Plain : List Place → Pair → Type 0 = λ places n. IsTrue (is_match_place None (place_at places n.0)) in
    let walk : IsWalk (next_of s) (Plain s.places) [] ((0, m.start) ∷ []) h.walk =
    other_ends (next_of s) (λ n. IsTrue (ends s n)) (Plain s.places) h.is_walk (ap (is_match_place None) h.pattern) in
    let allowed : is_match_place (only s.anchoring) (accept m.pattern) ≡ true =
    ap (is_match_place (only s.anchoring)) (sym h.pattern) ∙ walk_ends (next_of s) (λ n. IsTrue (ends s n)) h.is_walk in (
      h.is_start,
      allowed,
      w.2,
      (program_law hs s.text s.hi m.pattern m.start m.end bounds w.2).0 (
        h.walk,
        record {
          is_walk = subst (λ places. IsWalk (ways places s.text s.hi) (Plain places) [] ((0, m.start) ∷ []) h.walk) e walk;
          pattern = subst (λ places. place_at places last.0 ≡ accept m.pattern) e h.pattern;
          position = h.position;
        },
      ),
    )

program_spelled : (hs : List Re) (s : Search) (m : Found) → All HasBounds hs → s.places ≡ program hs →
    IsStart s m.start × AllowsPattern s m.pattern × (m.end ≤ s.hi) × SpelledBy s.text 0 hs m.pattern m.start m.end → IsSpelledIn s m
program_spelled hs s m bounds e h =
    let r = (program_law hs s.text s.hi m.pattern m.start m.end bounds h.2).1 h.3 in
    let Plain : List Place → Pair → Type 0 = λ places n. IsTrue (is_match_place None (place_at places n.0)) in
    let pattern : place_at s.places (last_of r.0).0 ≡ accept m.pattern =
    subst (λ places. place_at places (last_of r.0).0 ≡ accept m.pattern) (sym e) r.1.pattern in
    let walk : IsWalk (next_of s) (Plain s.places) [] ((0, m.start) ∷ []) r.0 =
    subst (λ places. IsWalk (ways places s.text s.hi) (Plain places) [] ((0, m.start) ∷ []) r.0) (sym e) r.1.is_walk in
    record {
      is_start = h.0;
      walk = r.0;
      is_walk = other_ends (next_of s) (Plain s.places) (λ n. IsTrue (ends s n)) walk (ap (is_match_place (only s.anchoring)) pattern ∙ h.1);
      pattern = pattern;
      position = r.1.position;
    }

pub greatest_regardless : (s : Search) (over : Bool) → greatest (record s { passes_over = over }) ≡ greatest s
unfolding greatest
greatest_regardless s over = refl

pub greatest_law : GreatestLaw
greatest_law = record {
  some = greatest_some;
  none = greatest_none;
  by_program = λ hs s m bounds e. (spelled_program hs s m bounds e, program_spelled hs s m bounds e);
  answer_spelled = answer_spelled;
  same_none = λ s off. (
    (λ e. (answer_law.answer_none s).1 (no_span_no_answer s ((greatest_none s).0 e))),
    (λ e. (greatest_none s).1 (no_answer_no_span s off ((answer_law.answer_none s).0 e))),
  );
  regardless = greatest_regardless;
  within = spelled_within;
}
