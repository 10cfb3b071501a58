-- The answer as a function is the answer as a relation.
use Rattle.std.proofs.Common.{◌≡◌, ◌↔◌, ℕ, zero, suc, ◌+◌, ◌-◌, ◌*◌, ◌<◌, ◌≤◌, ◌⊎◌, List, [], ◌∷◌, Option, Some, None, Bool, true, false, IsTrue, if◌then◌else◌, nat_eq, length, inl, inr, ⊎_elim, sym, subst, ap, ap₂, ◌∙◌, refl, arith, true≢false, min, map}
use Rattle.std.specs.Option.{option_or, option_map, option_and_then}
use Rattle.std.proofs.lemmas.Bool.{cases_Bool, cases_lt, cases_order}
use Rattle.std.proofs.lemmas.Option.{none-some, same_Some}
use Rattle.rc_text.specs.Found.{Found}
use Rattle.rc_pattern.specs.Re.{Re}
use Rattle.rc_walks.specs.Walks.{Pair, IsIn, IsWalk, stops, goes}
use Rattle.rc_walks.specs.Tries.{walk_by}
use Rattle.rc_walks.proofs.CutLemmas.{first_is_one}
use Rattle.rc_walks.proofs.TryLemmas.{Finds, IsBounded, walk_by_finds}
use Rattle.rc_program.specs.Text.{Text, holds, ahead}
use Rattle.rc_program.specs.Program.{Place, choice, byte, branch, scalar, guard, slot, accept, place_at, ways, ways_out, pair_at, is_match_place, program}
use Rattle.rc_program.specs.Answer.{Search, only, is_anchored, ends, next_of, IsFirstFrom, last_of, is_allowed, IsStart, IsPassed, Chosen, IsAnswer, HasNoAnswer, found, allowed_only, from_start, first_given, start_count, chosen, answer, groups, slots_of, slot_of, last_visit, names, pattern_at, pattern_of, AnswerLaw}
use Rattle.rc_program.proofs.WayLemmas.{same_pair, ways_within, ways_onward, no_match, no_way_from, past_places}
use Rattle.rc_program.proofs.PlaceLemmas.{accept_below}

pub last_pair : (s : Search) (n m : Pair) → IsTrue (ends s n) → ¬ IsIn m (next_of s n)
last_pair s n m e = no_way_from (only s.anchoring) (λ l. holds s.text l n.1) (ahead s.text s.hi n.1) (place_at s.places n.0) n.1 m e

pub is_bounded : (s : Search) → IsBounded (next_of s) (ends s) (length s.places) (s.hi + 1)
is_bounded s = record {
  place_of_end = λ n e. ⊎_elim (λ l. l)
      (λ ge. absurd (true≢false (sym e ∙ ap (is_match_place (only s.anchoring)) (past_places s.places n.0 ge) ∙ no_match (only s.anchoring) [])))
      (cases_lt n.0 (length s.places));
  place_of_way = λ n m i. ⊎_elim (λ l. l)
      (λ ge. absurd (subst (λ q. IsIn m (map (pair_at n.1) (ways_out (λ l. holds s.text l n.1) (ahead s.text s.hi n.1) q))) (past_places s.places n.0 ge) i))
      (cases_lt n.0 (length s.places));
  position = λ n m l i. let h : m.1 ≤ s.hi = ways_within s.places s.text s.hi n m (omega arith) i in omega (arith, h);
}

-- the walk that the search by one start looks at
abbrev tried : Search → ℕ → Option (List Pair)
tried s x = walk_by (next_of s) (ends s) (length s.places * (s.hi + 1)) [] (0, x)

tried_finds : (s : Search) (x : ℕ) → x ≤ s.hi → Finds (next_of s) (λ n. IsTrue (ends s n)) [] ((0, x) ∷ []) (tried s x)
tried_finds s x h =
    walk_by_finds (next_of s) (ends s) same_pair (last_pair s) (length s.places) (s.hi + 1) (is_bounded s)
    (length s.places * (s.hi + 1)) [] (0, x) (omega arith) tt tt (omega arith)

-- what a start gives
pub record Gave (s : Search) (x : ℕ) (c : Chosen) : Type 0 where
  pub here : c.start ≡ x
  pub is_first : IsFirstFrom s x c.walk
  pub allowed : IsTrue (is_allowed s c.walk)

abbrev Gives : Search → ℕ → Option Chosen → Type 0
Gives s x None = IsPassed s x
Gives s x (Some c) = Gave s x c

gives_of : (s : Search) (x : ℕ) (o : Option (List Pair)) → Finds (next_of s) (λ n. IsTrue (ends s n)) [] ((0, x) ∷ []) o →
    Gives s x (option_and_then (allowed_only s x) o)
gives_of s x None h = inl h
gives_of s x (Some w) h =
    ⊎_elim
    (λ ok. rw ok (record { here = refl; is_first = h; allowed = ok }))
    (λ off. rw off (inr (w, h, off)))
    (cases_Bool (is_allowed s w))

pub from_start_gives : (s : Search) (x : ℕ) → x ≤ s.hi → Gives s x (from_start s x)
from_start_gives s x h = gives_of s x (tried s x) (tried_finds s x h)

-- the least of n starts from x on that gives an answer
abbrev GivesFirst : Search → ℕ → ℕ → Option Chosen → Type 0
GivesFirst s n x None = (y : ℕ) → x ≤ y → y < x + n → IsPassed s y
GivesFirst s n x (Some c) = (x ≤ c.start) × (c.start < x + n) × Gave s c.start c × ((y : ℕ) → x ≤ y → y < c.start → IsPassed s y)

one_more : (s : Search) (n x : ℕ) (o rest : Option Chosen) → Gives s x o → GivesFirst s n (x + 1) rest → GivesFirst s (suc n) x (option_or o rest)
one_more s n x (Some c) rest g r = (
  omega (arith, g.here),
  omega (arith, g.here),
  record { here = refl; is_first = subst (λ y. IsFirstFrom s y c.walk) (sym g.here) g.is_first; allowed = g.allowed },
  λ y a b. absurd (omega (arith, g.here)),
)
one_more s n x None None g r =
    λ y a b. ⊎_elim (λ e. subst (IsPassed s) e g) (λ ne. r y (omega arith) (omega arith)) (⊎_elim (λ l. inr l) (λ ge. inl (omega arith)) (cases_lt x y))
one_more s n x None (Some c) g r = (
  omega (arith, r.0),
  omega (arith, r.1),
  r.2,
  λ y a b. ⊎_elim (λ e. subst (IsPassed s) e g) (λ ne. r.3 y (omega arith) b) (⊎_elim (λ l. inr l) (λ ge. inl (omega arith)) (cases_lt x y)),
)

by_starts_gives : (s : Search) (n x : ℕ) → x + n ≤ s.hi + 1 → GivesFirst s n x (first_given (from_start s) n x)
by_starts_gives s zero x h = λ y a b. absurd (omega arith)
by_starts_gives s (suc n) x h =
    one_more s n x (from_start s x) (first_given (from_start s) n (x + 1)) (from_start_gives s x (omega arith))
    (by_starts_gives s n (x + 1) (omega arith))

-- what a search gives
abbrev pub Answers : Search → Option Chosen → Type 0
Answers s None = HasNoAnswer s
Answers s (Some c) = IsAnswer s c

count_in : (s : Search) → s.lo + start_count s ≤ s.hi + 1 ⊎ start_count s ≡ 0
count_in s =
    ⊎_elim (λ t. rw t (⊎_elim (λ l. inr (omega arith)) (λ ge. inl (omega arith)) (cases_lt s.hi s.lo)))
    (λ f. rw f (⊎_elim (λ l. inr (omega arith)) (λ ge. inl (omega arith)) (cases_lt s.hi s.lo)))
    (cases_Bool (is_anchored s.anchoring))

-- the starts that are tried are those
pub start_below : (s : Search) (y : ℕ) → IsStart s y → y < s.lo + start_count s
start_below s y h =
    ⊎_elim (λ t. let e = h.2 t in rw t (omega (arith, h.0, h.1, e))) (λ f. rw f (omega (arith, h.0, h.1)))
    (cases_Bool (is_anchored s.anchoring))

pub start_from : (s : Search) (y : ℕ) → s.lo ≤ y → y < s.lo + start_count s → IsStart s y
start_from s y a b =
    ⊎_elim (λ t. let c : y < s.lo + min 1 (s.hi + 1 - s.lo) = rw t at b in (a, omega (arith, c), λ u. omega (arith, c)))
    (λ f. let c : y < s.lo + (s.hi + 1 - s.lo) = rw f at b in (a, omega (arith, c), λ u. absurd (true≢false (sym u ∙ f))))
    (cases_Bool (is_anchored s.anchoring))

whole : (s : Search) (o : Option Chosen) → GivesFirst s (start_count s) s.lo o → Answers s o
whole s None g = λ y h. g y h.0 (start_below s y h)
whole s (Some c) g = record {
  is_start = start_from s c.start g.0 g.1;
  is_first = g.2.is_first;
  allowed = g.2.allowed;
  none_before = λ y h l. g.3 y h.0 l;
}

pub chosen_answers : (s : Search) → Answers s (chosen s)
unfolding chosen
chosen_answers s =
    ⊎_elim (λ h. whole s _ (by_starts_gives s (start_count s) s.lo h))
    (λ e. subst (λ n. Answers s (first_given (from_start s) n s.lo)) (sym e)
    (λ y h. absurd (let l = start_below s y h in omega (arith, l, e, h.0))))
    (count_in s)

-- a start doesn't both give an answer and not
passed_or_not : (s : Search) (x : ℕ) (w : List Pair) → IsFirstFrom s x w → IsTrue (is_allowed s w) → IsPassed s x → ⊥
passed_or_not s x w f ok p =
    ⊎_elim (λ none. none w f.is_walk)
    (λ q. true≢false (sym ok ∙ ap (is_allowed s) (first_is_one (next_of s) (λ n. IsTrue (ends s n)) [] ((0, x) ∷ []) w q.0 f q.1) ∙ q.2)) p

same_chosen : (c d : Chosen) → c.start ≡ d.start → c.walk ≡ d.walk → c ≡ d
same_chosen c d e f = ap₂ (λ x w. let r : Chosen = record { start = x; walk = w } in r) e f

-- there is one answer
pub answer_is_one : (s : Search) (c d : Chosen) → IsAnswer s c → IsAnswer s d → c ≡ d
answer_is_one s c d a b =
    ⊎_elim
    (λ e. same_chosen c d e (first_is_one (next_of s) (λ n. IsTrue (ends s n)) [] ((0, d.start) ∷ []) c.walk d.walk
    (subst (λ x. IsFirstFrom s x c.walk) e a.is_first) b.is_first))
    (⊎_elim
    (λ l. absurd (passed_or_not s c.start c.walk a.is_first a.allowed (b.none_before c.start a.is_start l)))
    (λ l. absurd (passed_or_not s d.start d.walk b.is_first b.allowed (a.none_before d.start b.is_start l))))
    (cases_order c.start d.start)

one_answer : (s : Search) (o : Option Chosen) (c : Chosen) → Answers s o → IsAnswer s c → o ≡ Some c
one_answer s None c none a = absurd (passed_or_not s c.start c.walk a.is_first a.allowed (none c.start a.is_start))
one_answer s (Some d) c b a = ap Some (answer_is_one s d c b a)

no_answer : (s : Search) (o : Option Chosen) → Answers s o → HasNoAnswer s → o ≡ None
no_answer s None a none = refl
no_answer s (Some c) a none = absurd (passed_or_not s c.start c.walk a.is_first a.allowed (none c.start a.is_start))

some_of_map : {X : Type 0} (f : Chosen → X) (o : Option Chosen) (x : X) → option_map f o ≡ Some x → (c : Chosen) × (o ≡ Some c) × (f c ≡ x)
some_of_map f None x e = absurd (none-some x e)
some_of_map f (Some c) x e = (c, refl, same_Some _ _ e)

none_of_map : {X : Type 0} (f : Chosen → X) (o : Option Chosen) → option_map f o ≡ None → o ≡ None
none_of_map f None e = refl
none_of_map f (Some c) e = absurd (none-some _ (sym e))

pub chosen_law : (s : Search) (c : Chosen) → (chosen s ≡ Some c) ↔ IsAnswer s c
chosen_law s c =
    ((λ e. subst (Answers s) e (chosen_answers s)), (λ a. one_answer s (chosen s) c (chosen_answers s) a))

pub no_chosen_law : (s : Search) → (chosen s ≡ None) ↔ HasNoAnswer s
no_chosen_law s = ((λ e. subst (Answers s) e (chosen_answers s)), (λ none. no_answer s (chosen s) (chosen_answers s) none))

mapped_law : {X : Type 0} (f : Chosen → X) (s : Search) (x : X) → (option_map f (chosen s) ≡ Some x) ↔ ((c : Chosen) × IsAnswer s c × (f c ≡ x))
mapped_law f s x = (
  (λ e. let r = some_of_map f (chosen s) x e in (r.0, (chosen_law s r.0).0 r.1, r.2)),
  (λ r. ap (option_map f) ((chosen_law s r.0).1 r.1) ∙ ap Some r.2),
)

no_mapped_law : {X : Type 0} (f : Chosen → X) (s : Search) → (option_map f (chosen s) ≡ None) ↔ HasNoAnswer s
no_mapped_law f s =
    ((λ e. (no_chosen_law s).0 (none_of_map f (chosen s) e)), (λ none. ap (option_map f) ((no_chosen_law s).1 none)))

pub answer_law : AnswerLaw
unfolding answer groups
answer_law = record {
  chosen_some = chosen_law;
  chosen_none = no_chosen_law;
  answer_some = λ s f. mapped_law (found s) s f;
  answer_none = λ s. no_mapped_law (found s) s;
  groups_some = λ s n xs. mapped_law (slots_of s n) s xs;
  groups_none = λ s n. no_mapped_law (slots_of s n) s;
}

-- how a search by rising starts shows what it found
pub first_start_chosen : (s : Search) (x : ℕ) (w : List Pair) → IsStart s x → IsFirstFrom s x w → is_allowed s w ≡ true →
    ((y : ℕ) → s.lo ≤ y → y < x → IsPassed s y) → Some (record { start = x; walk = w }) ≡ chosen s
first_start_chosen s x w inside first allowed none =
    sym ((chosen_law s (record { start = x; walk = w })).1
    (record { is_start = inside; is_first = first; allowed = allowed; none_before = λ y h l. none y h.0 l }))

pub no_start_chosen : (s : Search) → ((y : ℕ) → IsStart s y → IsPassed s y) → None ≡ chosen s
no_start_chosen s none = sym ((no_chosen_law s).1 none)

abbrev pub last_start_of : Search → ℕ
last_start_of s = if is_anchored s.anchoring then min s.lo s.hi else s.hi

pub start_within_last : (s : Search) (x : ℕ) → s.lo ≤ x → x < last_start_of s + 1 → IsStart s x
start_within_last s x a b =
    ⊎_elim (λ t. let c : x < min s.lo s.hi + 1 = rw t at b in (a, omega (arith, c), λ u. omega (arith, c)))
    (λ f. let c : x < s.hi + 1 = rw f at b in (a, omega (arith, c), λ u. absurd (true≢false (sym u ∙ f))))
    (cases_Bool (is_anchored s.anchoring))

pub start_to_last : (s : Search) (x : ℕ) → IsStart s x → x < last_start_of s + 1
start_to_last s x h =
    ⊎_elim (λ t. let e = h.2 t in rw t (omega (arith, h.0, h.1, e))) (λ f. rw f (omega (arith, h.0, h.1)))
    (cases_Bool (is_anchored s.anchoring))

-- what holds of the starts below x, and of x, holds below x + 1
pub one_more_passed : (s : Search) (x : ℕ) → ((y : ℕ) → s.lo ≤ y → y < x → IsPassed s y) → IsPassed s x →
    (y : ℕ) → s.lo ≤ y → y < x + 1 → IsPassed s y
one_more_passed s x below here y a b =
    ⊎_elim (λ l. below y a l) (λ ge. let e : x ≡ y = omega arith in subst (IsPassed s) e here) (cases_lt y x)

-- where a way goes on, its last pair is the rest's
pub last_of_more : (ways : Pair → List Pair) (Ends : Pair → Type 0) (n : Pair) {p f w : List Pair} → IsWalk ways Ends p f w → last_of (n ∷ w) ≡ last_of w
last_of_more ways Ends n (stops k here fresh stop) = refl
last_of_more ways Ends n (goes k here fresh rest) = refl

-- a walk ends where a walk may end
pub walk_ends : (ways : Pair → List Pair) (Ends : Pair → Type 0) {p f w : List Pair} → IsWalk ways Ends p f w → Ends (last_of w)
walk_ends ways Ends (stops k here fresh stop) = stop
walk_ends ways Ends (goes k here fresh rest) = subst Ends (sym (last_of_more ways Ends k rest)) (walk_ends ways Ends rest)

-- each pair of a walk stands between where it begins and where it ends, and that is no later than hi
pub walk_within : (places : List Place) (t : Text) (hi : ℕ) (Ends : Pair → Type 0) (x : ℕ) {p f w : List Pair} → IsWalk (ways places t hi) Ends p f w →
    ((n : Pair) → IsIn n f → (x ≤ n.1) × (n.1 ≤ hi)) →
    ((k : Pair) → IsIn k w → (x ≤ k.1) × (k.1 ≤ (last_of w).1)) × (x ≤ (last_of w).1) × ((last_of w).1 ≤ hi)
walk_within places t hi Ends x (stops k here fresh stop) within =
    let a = within k here in
    ((λ n i. ⊎_elim (λ e. subst (λ (q : Pair). (x ≤ q.1) × (q.1 ≤ k.1)) e (a.0, omega arith)) (λ never. absurd never) i), a.0, a.1)
walk_within places t hi Ends x (goes {w = w} k here fresh rest) within =
    let a = within k here in
    let r = walk_within places t hi Ends k.1 rest
    (λ n i. (ways_onward places t hi k n i, ways_within places t hi k n a.1 i)) in
    subst (λ (q : Pair). ((n : Pair) → IsIn n (k ∷ w) → (x ≤ n.1) × (n.1 ≤ q.1)) × (x ≤ q.1) × (q.1 ≤ hi))
    (sym (last_of_more (ways places t hi) Ends k rest)) (
      (λ n i. ⊎_elim (λ e. subst (λ (q : Pair). (x ≤ q.1) × (q.1 ≤ (last_of w).1)) e (a.0, r.1))
          (λ q. let b = r.0 n q in (omega (arith, a.0, b.0), b.1)) i),
      omega (arith, a.0, r.1),
      r.2,
    )

answer_walk : (s : Search) (c : Chosen) → IsAnswer s c →
    ((k : Pair) → IsIn k c.walk → (c.start ≤ k.1) × (k.1 ≤ (last_of c.walk).1))
    × (c.start ≤ (last_of c.walk).1) × ((last_of c.walk).1 ≤ s.hi)
answer_walk s c a =
    walk_within s.places s.text s.hi (λ n. IsTrue (ends s n)) c.start a.is_first.is_walk
    (λ n i. ⊎_elim (λ q. let h : c.start ≡ n.1 = ap (λ (m : Pair). m.1) q in (omega (arith, h), omega (arith, h, a.is_start.1))) (λ never. absurd never) i)

-- an answer lies within the bounds
pub chosen_within : (s : Search) (c : Chosen) → IsAnswer s c → (s.lo ≤ c.start) × (c.start ≤ (last_of c.walk).1) × ((last_of c.walk).1 ≤ s.hi)
chosen_within s c a = let r = answer_walk s c a in (a.is_start.0, r.1, r.2)

-- a match lies within the bounds
pub answer_within : (s : Search) (m : Found) → answer s ≡ Some m → (s.lo ≤ m.start) × (m.start ≤ m.end) × (m.end ≤ s.hi)
answer_within s m e =
    let r = (answer_law.answer_some s m).0 e in
    subst (λ (f : Found). (s.lo ≤ f.start) × (f.start ≤ f.end) × (f.end ≤ s.hi)) r.2 (chosen_within s r.0 r.1)

-- a match place is that of its pattern
pub match_place_is : (only : Option ℕ) (q : Place) → IsTrue (is_match_place only q) → q ≡ accept (pattern_at q)
match_place_is only (choice ns) h = absurd (true≢false (sym h ∙ no_match only ns))
match_place_is None (byte rs n) h = absurd (true≢false (sym h))
match_place_is (Some p) (byte rs n) h = absurd (true≢false (sym h))
match_place_is None (branch ts) h = absurd (true≢false (sym h))
match_place_is (Some p) (branch ts) h = absurd (true≢false (sym h))
match_place_is None (scalar rs n) h = absurd (true≢false (sym h))
match_place_is (Some p) (scalar rs n) h = absurd (true≢false (sym h))
match_place_is None (guard l n) h = absurd (true≢false (sym h))
match_place_is (Some p) (guard l n) h = absurd (true≢false (sym h))
match_place_is None (slot k n) h = absurd (true≢false (sym h))
match_place_is (Some p) (slot k n) h = absurd (true≢false (sym h))
match_place_is only (accept p) h = refl

-- an answer ends at the match place of its pattern
pub chosen_accepts : (s : Search) (c : Chosen) → IsAnswer s c → place_at s.places (last_of c.walk).0 ≡ accept (pattern_of s c)
chosen_accepts s c a =
    match_place_is (only s.anchoring) (place_at s.places (last_of c.walk).0)
    (walk_ends (next_of s) (λ n. IsTrue (ends s n)) a.is_first.is_walk)

-- an answer's pattern is one of the patterns
pub chosen_pattern : (hs : List Re) (s : Search) (c : Chosen) → s.places ≡ program hs → IsAnswer s c → pattern_of s c < length hs
chosen_pattern hs s c e a =
    accept_below hs (last_of c.walk).0 (pattern_of s c)
    (subst (λ places. place_at places (last_of c.walk).0 ≡ accept (pattern_of s c)) e (chosen_accepts s c a))

-- a match's pattern is one of the patterns
pub answer_pattern : (hs : List Re) (s : Search) (m : Found) → s.places ≡ program hs → answer s ≡ Some m → m.pattern < length hs
answer_pattern hs s m e h =
    let r = (answer_law.answer_some s m).0 h in
    subst (λ (f : Found). f.pattern < length hs) r.2 (chosen_pattern hs s r.0 e r.1)

visit_from : (o : Option ℕ) (b : Bool) (j i : ℕ) → option_or o (if b then Some j else None) ≡ Some i → (o ≡ Some i) ⊎ (j ≡ i)
visit_from None true j i e = inr (same_Some j i e)
visit_from None false j i e = absurd (none-some i e)
visit_from (Some k) b j i e = inl e

visit_in : (places : List Place) (k : ℕ) (w : List Pair) (i : ℕ) → last_visit places k w ≡ Some i → (n : Pair) × IsIn n w × (n.1 ≡ i)
visit_in places k [] i e = absurd (none-some i e)
visit_in places k (n ∷ w) i e =
    ⊎_elim (λ h. let r = visit_in places k w i h in (r.0, inr r.1, r.2)) (λ h. (n, inl refl, h))
    (visit_from (last_visit places k w) (names (place_at places n.0) k) n.1 i e)

-- a slot's position lies within the match
pub slot_within : (s : Search) (c : Chosen) → IsAnswer s c → (k i : ℕ) → slot_of s c k ≡ Some i → (c.start ≤ i) × (i ≤ (last_of c.walk).1)
slot_within s c a k i e =
    let r = answer_walk s c a in
    ⊎_elim (λ t. let q : c.start ≡ i = same_Some c.start i (rw t at e) in (omega (arith, q), omega (arith, q, r.1)))
    (λ f. ⊎_elim
    (λ t. let q : (last_of c.walk).1 ≡ i = same_Some (last_of c.walk).1 i (rw t at (rw f at e)) in (omega (arith, q, r.1), omega (arith, q)))
    (λ g. let v = visit_in s.places k c.walk i (rw g at (rw f at e)) in let h = r.0 v.0 v.1 in (omega (arith, v.2, h.0), omega (arith, v.2, h.1)))
    (cases_Bool (nat_eq k (2 * pattern_of s c + 1))))
    (cases_Bool (nat_eq k (2 * pattern_of s c)))
