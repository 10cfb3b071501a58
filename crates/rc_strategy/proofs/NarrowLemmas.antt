-- The first walk of an answer is the first walk between its bounds too.
use Rattle.std.proofs.Common.{◌≡◌, ℕ, zero, suc, ◌+◌, ◌-◌, ◌<◌, ◌≤◌, ◌⊎◌, ◌++◌, List, [], ◌∷◌, length, map, take, drop, Bool, true, false, IsTrue, Option, Some, None, inl, inr, ⊎_elim, sym, subst, ap, ◌∙◌, refl, arith, if◌then◌else◌, append_assoc, eqb-true, eq-eqb}
use Rattle.std.specs.Prelude.{encode_utf8}
use Rattle.std.specs.List.{AllByRecursion}
use Rattle.std.specs.Option.{option_map}
use Rattle.std.proofs.lemmas.Bool.{cases_lt}
use Rattle.std.proofs.lemmas.List.{take-append-drop, take-take, length-take}
use Rattle.std.proofs.lemmas.Option.{none-some, same_Some}
use Rattle.rc_pattern.specs.Re.{Range}
use Rattle.rc_pattern.specs.declared.hir.Look.{Look}
use Rattle.rc_text.specs.Found.{Found}
use Rattle.rc_walks.specs.Walks.{Pair, IsIn, IsWalk, IsBefore, IsFirstWalk}
use Rattle.rc_walks.specs.Walks.IsWalk.{stops, goes}
use Rattle.rc_program.specs.Text.{Text, holds}
use Rattle.rc_program.specs.Scalars.{scalar_at}
use Rattle.rc_program.specs.Program.{Place, choice, byte, branch, scalar, guard, slot, accept, Way, stays, reads, in_ranges, over_byte, over_scalar, branch_ways, ways_out, pair_at, place_at, ways, is_match_place}
use Rattle.rc_program.specs.Answer.{Search, Chosen, IsAnswer, answer, groups, found, ends, next_of, last_of, only, pattern_at, pattern_of, slots_of}
use Rattle.rc_program.specs.Longest.{IsLongestWalk, IsLongestAnswer, longest, longest_groups}
use Rattle.rc_program.proofs.ReachLemmas.{longest_law}
use Rattle.rc_program.proofs.SideLemmas.{scalar_law}
use Rattle.rc_program.proofs.WayLemmas.{scalar_at_short, in_map}
use Rattle.rc_program.proofs.AnswerLemmas.{answer_law, chosen_law, chosen_accepts, last_of_more, match_place_is, walk_ends, walk_within}
use Rattle.rc_strategy.specs.Narrow.{narrowed, NarrowLaw}

-- Ways of which a lower bound leaves all or none; those that it takes away lead beyond it.
abbrev Leaves : ℕ → List Pair → List Pair → Type 0
Leaves low wide slim = (slim ≡ wide) ⊎ ((slim ≡ []) × ((m : Pair) → IsIn m wide → low < m.1))

pub first_in : (ways : Pair → List Pair) (Ends : Pair → Type 0) {p f w : List Pair} → IsWalk ways Ends p f w → (m : Pair) × IsIn m f × IsIn m w
first_in ways Ends (stops n here fresh stop) = (n, here, inl refl)
first_in ways Ends (goes n here fresh rest) = (n, here, inl refl)

-- Over any ways.
module _ (low : ℕ) (wide slim : Pair → List Pair) (leaves : (n : Pair) → Leaves low (wide n) (slim n)) where
  -- where a walk goes on within the bound, all ways are left
  left_within : (n m : Pair) → IsIn m (wide n) → m.1 ≤ low → slim n ≡ wide n
  left_within n m here le = ⊎_elim (λ e. e) (λ r. absurd (omega (arith, r.1 m here, le))) (leaves n)

  left_alive : (n m : Pair) → IsIn m (slim n) → slim n ≡ wide n
  left_alive n m here = ⊎_elim (λ e. e) (λ r. absurd (subst (λ ms. IsIn m ms) r.0 here)) (leaves n)

  -- a walk within the bound is one without it
  pub widens : (Ends Others : Pair → Type 0) → ((n : Pair) → Others n → Ends n) → {p f w : List Pair} → IsWalk slim Others p f w → IsWalk wide Ends p f w
  widens Ends Others weaker (stops n here fresh stop) = stops n here fresh (weaker n stop)
  widens Ends Others weaker (goes {passed = p} {w = w} n here fresh rest) =
      let m = first_in slim Others rest in
      goes n here fresh (subst (λ ms. IsWalk wide Ends (n ∷ p) ms w) (left_alive n m.0 m.1) (widens Ends Others weaker rest))

  -- a walk that stays within the bound is one under it
  pub narrows : (Ends Others : Pair → Type 0) → {p f w : List Pair} → IsWalk wide Ends p f w → ((k : Pair) → IsIn k w → k.1 ≤ low) → Others (last_of w) →
      IsWalk slim Others p f w
  narrows Ends Others (stops n here fresh stop) within end = stops n here fresh end
  narrows Ends Others (goes {passed = p} {w = w} n here fresh rest) within end =
      let m = first_in wide Ends rest in
      goes n here fresh
      (subst (λ ms. IsWalk slim Others (n ∷ p) ms w) (sym (left_within n m.0 m.1 (within m.0 (inr m.2))))
      (narrows Ends Others rest (λ k i. within k (inr i)) (subst Others (last_of_more wide Ends n rest) end)))

  -- what it comes before without the bound, it comes before under it
  before_too : (Others : Pair → Type 0) {p f w : List Pair} → IsWalk slim Others p f w → (v : List Pair) → IsBefore wide f w v → IsBefore slim f w v
  before_too Others (stops n here fresh stop) [] b = b
  before_too Others (stops n here fresh stop) (m ∷ v) b = ⊎_elim (λ e. inl e) (λ r. absurd r.1) b
  before_too Others (goes n here fresh rest) [] b = b
  before_too Others (goes {passed = p} {w = w} n here fresh rest) (m ∷ v) b =
      let k = first_in slim Others rest in
      ⊎_elim (λ e. inl e)
      (λ r. inr (r.0, before_too Others rest v (subst (λ ms. IsBefore wide ms w v) (sym (left_alive n k.0 k.1)) r.1))) b

  -- the first walk without the bound is the first under it
  first_too : (Ends Others : Pair → Type 0) → ((n : Pair) → Others n → Ends n) → (p f w : List Pair) → IsFirstWalk wide Ends p f w →
      ((k : Pair) → IsIn k w → k.1 ≤ low) → Others (last_of w) → IsFirstWalk slim Others p f w
  first_too Ends Others weaker p f w first within end =
      let walk = narrows Ends Others first.is_walk within end in
      record {
        is_walk = walk;
        is_least = λ v other. ⊎_elim (λ e. inl e) (λ b. inr (before_too Others walk v b)) (first.is_least v (widens Ends Others weaker other));
      }

  -- the longest walk without the bound, where it stays within, is the longest under it
  longest_too : (Ends Others : Pair → Type 0) → ((n : Pair) → Others n → Ends n) → (p f w : List Pair) → IsLongestWalk wide Ends p f w →
      ((k : Pair) → IsIn k w → k.1 ≤ low) → Others (last_of w) → IsLongestWalk slim Others p f w
  longest_too Ends Others weaker p f w long within end =
      let walk = narrows Ends Others long.is_walk within end in
      record {
        is_walk = walk;
        is_most = λ v other. long.is_most v (widens Ends Others weaker other);
        is_least = λ v other same.
            ⊎_elim (λ e. inl e) (λ b. inr (before_too Others walk v b)) (long.is_least v (widens Ends Others weaker other) same);
      }

-- the way reads something
abbrev Reads : Way → Type 0
Reads (stays n) = ⊥
Reads (reads count n) = 1 ≤ count

some_or_none : {A : Type 0} (o : Option A) → (o ≡ None) ⊎ ((x : A) × (o ≡ Some x))
some_or_none None = inl refl
some_or_none (Some x) = inr (x, refl)

-- what some of the bytes begin with, all of them begin with
scalar_grows : (bs : List ℕ) (a : ℕ) (s : ℕ × ℕ) → scalar_at (take a bs) ≡ Some s → scalar_at bs ≡ Some s
scalar_grows bs a s e =
    let r = (scalar_law.begins (take a bs) s.0 s.1).0 e in
    (scalar_law.begins bs s.0 s.1).1 (
      r.0,
      r.1,
      (r.2.0 ++ drop a bs, sym (take-append-drop a bs) ∙ ap (λ xs. xs ++ drop a bs) r.2.1 ∙ append_assoc (encode_utf8 s.0) r.2.0 (drop a bs)),
    )

take_past : (xs ys : List ℕ) (a : ℕ) → length xs ≤ a → (rest : List ℕ) × (take a (xs ++ ys) ≡ xs ++ rest)
take_past [] ys a le = (take a ys, refl)
take_past (x ∷ xs) ys zero le = absurd (omega (arith, le))
take_past (x ∷ xs) ys (suc a) le = let r = take_past xs ys a (omega (arith, le)) in (r.0, ap (λ zs. x ∷ zs) r.1)

-- a scalar that is not cut stays
scalar_stays : (bs : List ℕ) (a : ℕ) (s : ℕ × ℕ) → scalar_at bs ≡ Some s → s.1 ≤ a → scalar_at (take a bs) ≡ Some s
scalar_stays bs a s e le =
    let r = (scalar_law.begins bs s.0 s.1).0 e in
    let p = take_past (encode_utf8 s.0) r.2.0 a (omega (arith, le, r.1)) in
    (scalar_law.begins (take a bs) s.0 s.1).1 (r.0, r.1, (p.0, ap (λ xs. take a xs) r.2.1 ∙ p.1))

scalar_cut : (bs : List ℕ) (a : ℕ) →
    (scalar_at (take a bs) ≡ scalar_at bs) ⊎ ((scalar_at (take a bs) ≡ None) × ((s : ℕ × ℕ) → scalar_at bs ≡ Some s → a < s.1))
scalar_cut bs a =
    ⊎_elim
    (λ none. ⊎_elim (λ e. inl (e ∙ sym none)) (λ r. absurd (none-some r.0 (sym none ∙ scalar_grows bs a r.0 r.1))) (some_or_none (scalar_at (take a bs))))
    (λ some. ⊎_elim
    (λ l. ⊎_elim
    (λ e. inr (e, λ s h. subst (λ (q : ℕ × ℕ). a < q.1) (same_Some some.0 s (sym some.1 ∙ h)) l))
    (λ r. let same : some.0 ≡ r.0 = same_Some some.0 r.0 (sym some.1 ∙ scalar_grows bs a r.0 r.1) in
    let short = ((scalar_at_short (take a bs)).takes r.0 r.1).1 in
    let long : a < r.0.1 = subst (λ (q : ℕ × ℕ). a < q.1) same l in
    absurd (omega (arith, short, long, length-take a bs)))
    (some_or_none (scalar_at (take a bs))))
    (λ ge. inl (scalar_stays bs a some.0 some.1 ge ∙ sym some.1)) (cases_lt a some.0.1))
    (some_or_none (scalar_at bs))

scalar_beyond : (rs : List Range) (n i low : ℕ) (o : Option (ℕ × ℕ)) → ((s : ℕ × ℕ) → o ≡ Some s → low - i < s.1) → (m : Pair) →
    IsIn m (map (pair_at i) (over_scalar rs n o)) → low < m.1
scalar_beyond rs n i low None beyond m here = absurd here
scalar_beyond rs n i low (Some s) beyond m here = by_test (in_ranges rs s.0) here
  where
    by_test : (b : Bool) → IsIn m (map (pair_at i) (if b then reads s.1 n ∷ [] else [])) → low < m.1
    by_test true h = ⊎_elim (λ (e : (n, i + s.1) ≡ m). let at : i + s.1 ≡ m.1 = ap (λ (q : Pair). q.1) e in omega (arith, at, beyond s refl)) (λ never. absurd never) h
    by_test false h = absurd h

over_heads : (f : ℕ → List Way) (xs : List ℕ) (a b : ℕ) → a ≤ b → (over_byte f (take a xs) ≡ over_byte f (take b xs)) ⊎ ((over_byte f (take a xs) ≡ []) × (a ≡ 0))
over_heads f xs zero b le = inr (refl, refl)
over_heads f xs (suc a) zero le = absurd (omega (arith, le))
over_heads f [] (suc a) (suc b) le = inl refl
over_heads f (x ∷ xs) (suc a) (suc b) le = inl refl

over_reads : (f : ℕ → List Way) → ((b : ℕ) → AllByRecursion Reads (f b)) → (bytes : List ℕ) → AllByRecursion Reads (over_byte f bytes)
over_reads f each [] = tt
over_reads f each (b ∷ bs) = each b

test_reads : (b : Bool) (n : ℕ) (ws : List Way) → AllByRecursion Reads ws → AllByRecursion Reads (if b then reads 1 n ∷ ws else ws)
test_reads true n ws h = (omega arith, h)
test_reads false n ws h = h

branch_reads : (ts : List (Range × ℕ)) (b : ℕ) → AllByRecursion Reads (branch_ways b ts)
branch_reads [] b = tt
branch_reads (t ∷ ts) b = test_reads _ t.1 (branch_ways b ts) (branch_reads ts b)

reads_beyond : (ws : List Way) (i : ℕ) → AllByRecursion Reads ws → (m : Pair) → IsIn m (map (pair_at i) ws) → i < m.1
reads_beyond ws i all m here = let r = in_map Reads ws i m all here in past r.0 r.1 r.2
  where
    past : (w : Way) → Reads w → pair_at i w ≡ m → i < m.1
    past (stays n) h e = absurd h
    past (reads count n) h e = let at : i + count ≡ m.1 = ap (λ (q : Pair). q.1) e in omega (arith, at, h)

byte_leaves : (f : ℕ → List Way) → ((b : ℕ) → AllByRecursion Reads (f b)) → (xs : List ℕ) (i low hi : ℕ) → low ≤ hi →
    Leaves low (map (pair_at i) (over_byte f (take (hi - i) xs))) (map (pair_at i) (over_byte f (take (low - i) xs)))
byte_leaves f each xs i low hi le =
    ⊎_elim (λ e. inl (ap (λ ws. map (pair_at i) ws) e))
    (λ r. inr (
      ap (λ ws. map (pair_at i) ws) r.0,
      λ m here. let past = reads_beyond (over_byte f (take (hi - i) xs)) i (over_reads f each (take (hi - i) xs)) m here in omega (arith, past, r.1),
    ))
    (over_heads f xs (low - i) (hi - i) (omega (arith, le)))

place_leaves : (test : Look → Bool) (xs : List ℕ) (i low hi : ℕ) → low ≤ hi → (q : Place) →
    Leaves low (map (pair_at i) (ways_out test (take (hi - i) xs) q)) (map (pair_at i) (ways_out test (take (low - i) xs) q))
place_leaves test xs i low hi le (choice ns) = inl refl
place_leaves test xs i low hi le (byte rs n) =
    byte_leaves (λ b. if in_ranges rs b then reads 1 n ∷ [] else []) (λ b. test_reads (in_ranges rs b) n [] tt) xs i low hi le
place_leaves test xs i low hi le (branch ts) = byte_leaves (λ b. branch_ways b ts) (branch_reads ts) xs i low hi le
place_leaves test xs i low hi le (scalar rs n) =
    let same : take (low - i) (take (hi - i) xs) ≡ take (low - i) xs = take-take (low - i) (hi - i) xs (omega (arith, le)) in
    ⊎_elim (λ e. inl (ap (λ o. map (pair_at i) (over_scalar rs n o)) (ap scalar_at (sym same) ∙ e)))
    (λ r. inr (
      ap (λ o. map (pair_at i) (over_scalar rs n o)) (ap scalar_at (sym same) ∙ r.0),
      λ m here. scalar_beyond rs n i low (scalar_at (take (hi - i) xs)) r.1 m here,
    ))
    (scalar_cut (take (hi - i) xs) (low - i))
place_leaves test xs i low hi le (guard l n) = inl refl
place_leaves test xs i low hi le (slot k n) = inl refl
place_leaves test xs i low hi le (accept p) = inl refl

pub ways_leave : (places : List Place) (t : Text) (low hi : ℕ) → low ≤ hi → (n : Pair) → Leaves low (ways places t hi n) (ways places t low n)
ways_leave places t low hi le n = place_leaves (λ l. holds t l n.1) (drop n.1 t.content) n.1 low hi le (place_at places n.0)

-- a place at which only this pattern's walks may end is its match place
pub that_place : (p : ℕ) (q : Place) → IsTrue (is_match_place (Some p) q) → q ≡ accept p
that_place p q h = let e = match_place_is (Some p) q h in e ∙ ap accept (eqb-true (pattern_at q) p (subst (λ x. IsTrue (is_match_place (Some p) x)) e h))

-- the answer is that of the search over its span, for its pattern alone
pub narrow_answer : (s : Search) (c : Chosen) → IsAnswer s c → IsAnswer (narrowed s (found s c)) c
narrow_answer s c a =
    let within =
    walk_within s.places s.text s.hi (λ n. IsTrue (ends s n)) c.start a.is_first.is_walk
    (λ n i. ⊎_elim (λ (q : (0, c.start) ≡ n). let h : c.start ≡ n.1 = ap (λ (m : Pair). m.1) q in (omega (arith, h), omega (arith, h, a.is_start.1))) (λ never. absurd never) i) in
    let p : ℕ = pattern_of s c in
    let end = chosen_accepts s c a in
    let may : IsTrue (ends s (last_of c.walk)) = walk_ends (next_of s) (λ n. IsTrue (ends s n)) a.is_first.is_walk in
    let here : IsTrue (is_match_place (only s.anchoring) (accept p)) = subst (λ q. IsTrue (is_match_place (only s.anchoring) q)) end may in
    record {
      is_start = (omega arith, within.1, λ _. refl);
      is_first =
          first_too (last_of c.walk).1 (next_of s) (next_of (narrowed s (found s c))) (ways_leave s.places s.text (last_of c.walk).1 s.hi within.2)
          (λ n. IsTrue (ends s n)) (λ n. IsTrue (is_match_place (Some p) (place_at s.places n.0)))
          (λ n h. subst (λ q. IsTrue (is_match_place (only s.anchoring) q)) (sym (that_place p (place_at s.places n.0) h)) here)
          [] ((0, c.start) ∷ []) c.walk a.is_first (λ k i. (within.0 k i).1)
          (subst (λ q. IsTrue (is_match_place (Some p) q)) (sym end) (eq-eqb p p refl));
      allowed = a.allowed;
      none_before = λ y start l. absurd (omega (arith, start.0, l));
    }

-- so is the longest match of the least start
narrow_longest : (s : Search) (c : Chosen) → IsLongestAnswer s c → IsLongestAnswer (narrowed s (found s c)) c
narrow_longest s c a =
    let long = a.counts in
    let within =
    walk_within s.places s.text s.hi (λ n. IsTrue (ends s n)) c.start long.is_walk
    (λ n i. ⊎_elim (λ (q : (0, c.start) ≡ n). let h : c.start ≡ n.1 = ap (λ (m : Pair). m.1) q in (omega (arith, h), omega (arith, h, a.is_start.1))) (λ never. absurd never) i) in
    let p : ℕ = pattern_of s c in
    let may : IsTrue (ends s (last_of c.walk)) = walk_ends (next_of s) (λ n. IsTrue (ends s n)) long.is_walk in
    let end : place_at s.places (last_of c.walk).0 ≡ accept p = match_place_is (only s.anchoring) (place_at s.places (last_of c.walk).0) may in
    let here : IsTrue (is_match_place (only s.anchoring) (accept p)) = subst (λ q. IsTrue (is_match_place (only s.anchoring) q)) end may in
    record {
      is_start = (omega arith, within.1, λ _. refl);
      counts =
          longest_too (last_of c.walk).1 (next_of s) (next_of (narrowed s (found s c))) (ways_leave s.places s.text (last_of c.walk).1 s.hi within.2)
          (λ n. IsTrue (ends s n)) (λ n. IsTrue (is_match_place (Some p) (place_at s.places n.0)))
          (λ n h. subst (λ q. IsTrue (is_match_place (only s.anchoring) q)) (sym (that_place p (place_at s.places n.0) h)) here)
          [] ((0, c.start) ∷ []) c.walk long (λ k i. (within.0 k i).1)
          (subst (λ q. IsTrue (is_match_place (Some p) q)) (sym end) (eq-eqb p p refl));
      allowed = a.allowed;
      none_before = λ y start l. absurd (omega (arith, start.0, l));
    }

longest_of : (s : Search) (m : Found) → longest s ≡ Some m → (c : Chosen) × IsLongestAnswer s c × (found s c ≡ m)
longest_of s m = (longest_law.answer_some s m).0

chosen_of : (s : Search) (m : Found) → answer s ≡ Some m → (c : Chosen) × IsAnswer s c × (found s c ≡ m)
chosen_of s m = (answer_law.answer_some s m).0

pub narrow_law : NarrowLaw
unfolding answer groups longest longest_groups
narrow_law = record {
  walk = narrow_answer;
  match = λ s m e.
      let r = chosen_of s m e in
      subst (λ (f : Found). answer (narrowed s f) ≡ Some f) r.2
      (ap (λ o. option_map (found s) o) ((chosen_law (narrowed s (found s r.0)) r.0).1 (narrow_answer s r.0 r.1)));
  groups = λ s m n e.
      let r = chosen_of s m e in
      subst (λ (f : Found). groups (narrowed s f) n ≡ groups s n) r.2
      (ap (λ o. option_map (slots_of s n) o) ((chosen_law (narrowed s (found s r.0)) r.0).1 (narrow_answer s r.0 r.1) ∙ sym ((chosen_law s r.0).1 r.1)));
  longest_match = λ s m e.
      let r = longest_of s m e in
      subst (λ (f : Found). longest (narrowed s f) ≡ Some f) r.2
      (ap (λ o. option_map (found s) o) ((longest_law.chosen_some (narrowed s (found s r.0)) r.0).1 (narrow_longest s r.0 r.1)));
  longest_slots = λ s m n e.
      let r = longest_of s m e in
      subst (λ (f : Found). longest_groups (narrowed s f) n ≡ longest_groups s n) r.2
      (ap (λ o. option_map (slots_of s n) o) ((longest_law.chosen_some (narrowed s (found s r.0)) r.0).1 (narrow_longest s r.0 r.1) ∙ sym ((longest_law.chosen_some s r.0).1 r.1)));
}
