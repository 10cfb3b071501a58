-- Searches that see the same as far as trails lead have the same answer.
use Rattle.std.proofs.Common.{◌≡◌, ℕ, ◌+◌, ◌-◌, ◌<◌, ◌≤◌, ◌⊎◌, ◌||◌, not, List, [], ◌∷◌, map, false, IsTrue, Option, Some, None, inl, inr, ⊎_elim, sym, subst, ap, ap₂, ◌∙◌, refl, arith}
use Rattle.std.specs.List.{slice_get}
use Rattle.std.specs.Option.{option_map}
use Rattle.std.proofs.lemmas.Bool.{cases_Bool, cases_lt}
use Rattle.rc_text.specs.Found.{Found}
use Rattle.rc_text.specs.Text.{begins_scalar, is_boundary}
use Rattle.rc_pattern.specs.declared.hir.Look.{Look}
use Rattle.rc_walks.specs.Walks.{Pair, IsIn, IsWalk, stops, goes, EndsAt}
use Rattle.rc_walks.proofs.CutLemmas.{first_is_one}
use Rattle.rc_trails.specs.Trails.{AreSeen, AreSeenBy, Agree}
use Rattle.rc_trails.proofs.TrailLemmas.{first_over, none_over, seen_here, seen_by_here}
use Rattle.rc_program.specs.Text.{holds, ahead, beyond, before_at, after_at}
use Rattle.rc_program.specs.Looks.{holds_between}
use Rattle.rc_program.specs.Program.{Way, stays, reads, pair_at, place_at, ways, ways_out, is_match_place}
use Rattle.rc_program.specs.Answer.{Search, Chosen, only, ends, next_of, IsFirstFrom, HasNoWalkFrom, last_of, is_allowed, is_anchored, IsStart, IsPassed, IsAnswer, HasNoAnswer, found, chosen, answer, pattern_at}
use Rattle.rc_program.proofs.AnswerLemmas.{last_pair, answer_law, walk_within}
use Rattle.rc_reach.specs.Reads.{IsKnownBelow, IsKnownStart, AreKnownStarts, ReadsBelow, looks_ahead, sight}
use Rattle.rc_reach.specs.Alike.{AreAlike, further, chosen_further, IsSeen}
use Rattle.rc_reach.specs.Edits.{match_further}
use Rattle.rc_reach.proofs.SideLemmas.{same_look, same_ways_out}

pair_further : (d i : ℕ) (w : Way) → pair_at (i + d) w ≡ further d (pair_at i w)
pair_further d i (stays n) = refl
pair_further d i (reads count n) = ap (λ k. (n, k)) (omega arith)

pairs_further : (d i : ℕ) (ws : List Way) → map (pair_at (i + d)) ws ≡ map (further d) (map (pair_at i) ws)
pairs_further d i [] = refl
pairs_further d i (w ∷ ws) = ap₂ ◌∷◌ (pair_further d i w) (pairs_further d i ws)

further_one : (d : ℕ) (n m : Pair) → further d n ≡ further d m → n ≡ m
further_one d n m e =
    let at : n.1 + d ≡ m.1 + d = ap (λ (k : Pair). k.1) e in
    ap₂ (λ x y. (x, y)) (ap (λ (k : Pair). k.0) e) (omega (arith, at))

pub end_is_in : (v : List Pair) (e : Pair) → EndsAt v e → IsIn e v
end_is_in [] e h = h
end_is_in (n ∷ []) e h = inl h
end_is_in (n ∷ m ∷ w) e h = inr (end_is_in (m ∷ w) e h)

last_is_in : (n : Pair) (w : List Pair) → IsIn (last_of (n ∷ w)) (n ∷ w)
last_is_in n [] = inl refl
last_is_in n (m ∷ w) = inr (last_is_in m w)

last_further_of : (d : ℕ) (n : Pair) (w : List Pair) → last_of (map (further d) (n ∷ w)) ≡ further d (last_of (n ∷ w))
last_further_of d n [] = refl
last_further_of d n (m ∷ w) = last_further_of d m w

-- the last pair of a walk, so many bytes further on
pub last_further : (ways : Pair → List Pair) (Ends : Pair → Type 0) (d : ℕ) {p f w : List Pair} → IsWalk ways Ends p f w →
    last_of (map (further d) w) ≡ further d (last_of w)
last_further ways Ends d (stops n here fresh ends) = refl
last_further ways Ends d (goes {w = w} n here fresh rest) = last_further_of d n w

last_in_walk : (ways : Pair → List Pair) (Ends : Pair → Type 0) {p f w : List Pair} → IsWalk ways Ends p f w → IsIn (last_of w) w
last_in_walk ways Ends (stops n here fresh ends) = inl refl
last_in_walk ways Ends (goes {w = w} n here fresh rest) = last_is_in n w

module _ (s t : Search) (d low r : ℕ) (alike : AreAlike d low r s t) where
  abbrev Seen : Pair → Type 0
  Seen = IsSeen s low r

  abbrev EndsIn : Search → Pair → Type 0
  EndsIn u n = IsTrue (ends u n)

  same_holds : (i : ℕ) → low ≤ i → i ≤ r → i ≤ s.hi → (l : Look) → looks_ahead l ≤ r - i → holds t.text l (i + d) ≡ holds s.text l i
  same_holds i a b c l h =
      ap₂ (λ z x. holds_between z x (after_at t.text (i + d)) l) alike.terminator (alike.before i a b c)
      ∙ same_look (beyond t.text (i + d)) (beyond s.text i) (r - i) (alike.seen i a b c) s.text.terminator (before_at s.text i) l h

  same_next : (n : Pair) → Seen n → next_of t (further d n) ≡ map (further d) (next_of s n)
  same_next n h =
      let inside : n.1 ≤ r = omega (arith, h.2) in
      let near : sight (place_at s.places n.0) ≤ r - n.1 = omega (arith, h.2) in
      ap (λ ps. map (pair_at (n.1 + d)) (ways_out (λ l. holds t.text l (n.1 + d)) (ahead t.text t.hi (n.1 + d)) (place_at ps n.0))) alike.places
      ∙ ap (map (pair_at (n.1 + d)))
      (same_ways_out (ahead t.text t.hi (n.1 + d)) (ahead s.text s.hi n.1) (r - n.1) (alike.read n.1 h.0 inside h.1)
      (λ l. holds t.text l (n.1 + d)) (λ l. holds s.text l n.1) (place_at s.places n.0) near (λ l k. same_holds n.1 h.0 inside h.1 l k))
      ∙ pairs_further d n.1 (ways_out (λ l. holds s.text l n.1) (ahead s.text s.hi n.1) (place_at s.places n.0))

  same_ends : (n : Pair) → ends t (further d n) ≡ ends s n
  same_ends n = ap₂ (λ a ps. is_match_place (only a) (place_at ps n.0)) alike.anchoring alike.places

  pub agree : Agree (next_of s) (next_of t) (EndsIn s) (EndsIn t) (further d) Seen
  agree = record {
    same_ways = same_next;
    ends = λ n h e. subst IsTrue (sym (same_ends n)) e;
    ends_back = λ n h e. subst IsTrue (same_ends n) e;
    last = λ n m e. last_pair s n m e;
    one = further_one d;
  }

  -- a walk from x stays from `low` to the bound
  stays_in : (Ends : Pair → Type 0) (x : ℕ) {w : List Pair} → low ≤ x → x ≤ s.hi → IsWalk (next_of s) Ends [] ((0, x) ∷ []) w →
      (k : Pair) → IsIn k w → (low ≤ k.1) × (k.1 ≤ s.hi)
  stays_in Ends x h l b k i =
      let all = walk_within s.places s.text s.hi Ends x b
      (λ n j. ⊎_elim (λ e. let q : x ≡ n.1 = ap (λ (m : Pair). m.1) e in (omega (arith, q), omega (arith, q, l))) (λ never. absurd never) j) in
      let here = all.0 k i in
      let last = all.2 in (omega (arith, h, here.0), omega (arith, here.1, last))

  pub all_seen : (x : ℕ) → low ≤ x → x ≤ s.hi → AreSeen (next_of s) [] ((0, x) ∷ []) (IsKnownBelow s r) → AreSeen (next_of s) [] ((0, x) ∷ []) Seen
  all_seen x h l all = λ v e b at. let z = stays_in (λ n. Unit {0}) x h l b e (end_is_in v e at) in (z.0, z.1, all v e b at)

  some_seen : (x : ℕ) (w : List Pair) → low ≤ x → x ≤ s.hi → AreSeenBy (next_of s) [] ((0, x) ∷ []) w (IsKnownBelow s r) →
      AreSeenBy (next_of s) [] ((0, x) ∷ []) w Seen
  some_seen x w h l some = λ v e b no at. let z = stays_in (λ n. Unit {0}) x h l b e (end_is_in v e at) in (z.0, z.1, some v e b no at)

  pub none_further : (x : ℕ) → low ≤ x → x ≤ s.hi → IsKnownStart s r x None → HasNoWalkFrom t (x + d)
  none_further x h l k =
      none_over (next_of s) (next_of t) (EndsIn s) (EndsIn t) (further d) Seen agree [] ((0, x) ∷ []) (all_seen x h l k.1) k.0

  first_further : (x : ℕ) (w : List Pair) → low ≤ x → x ≤ s.hi → IsKnownStart s r x (Some w) → IsFirstFrom t (x + d) (map (further d) w)
  first_further x w h l k =
      first_over (next_of s) (next_of t) (EndsIn s) (EndsIn t) (further d) Seen agree [] ((0, x) ∷ []) w (some_seen x w h l k.1) k.0

  start_below : (x : ℕ) (o : Option (List Pair)) → IsKnownStart s r x o → x ≤ r
  start_below x None k = let h = seen_here (next_of s) (IsKnownBelow s r) (0, x) k.1 (inl refl) (λ z. z) in omega (arith, h)
  start_below x (Some w) k = from_walk k.0.is_walk k.1
    where
      from_walk : {v : List Pair} → IsWalk (next_of s) (EndsIn s) [] ((0, x) ∷ []) v → AreSeenBy (next_of s) [] ((0, x) ∷ []) v (IsKnownBelow s r) → x ≤ r
      from_walk (stops n here fresh e) some =
          let h = seen_by_here (next_of s) (IsKnownBelow s r) n some here fresh in
          ⊎_elim (λ q. let a : x ≡ n.1 = ap (λ (m : Pair). m.1) q in omega (arith, h, a)) (λ never. absurd never) here
      from_walk (goes n here fresh rest) some =
          let h = seen_by_here (next_of s) (IsKnownBelow s r) n some here fresh in
          ⊎_elim (λ q. let a : x ≡ n.1 = ap (λ (m : Pair). m.1) q in omega (arith, h, a)) (λ never. absurd never) here

  pub allowed_further : (x : ℕ) (w : List Pair) → low ≤ x → x ≤ s.hi → IsWalk (next_of s) (EndsIn s) [] ((0, x) ∷ []) w →
      (IsTrue s.passes_over → (last_of w).1 < r) → is_allowed t (map (further d) w) ≡ is_allowed s w
  allowed_further x w h l walk below =
      ⊎_elim
      (λ over. let at = below over in
      let here = stays_in (EndsIn s) x h l walk (last_of w) (last_in_walk (next_of s) (EndsIn s) walk) in
      ap₂ (λ b o. not b || begins_scalar o) alike.passes_over
      (ap (λ (n : Pair). slice_get t.text.content n.1) (last_further (next_of s) (EndsIn s) d walk) ∙ alike.content (last_of w).1 here.0 at here.1))
      (λ off. ap (λ b. not b || is_boundary t.text.content (last_of (map (further d) w)).1) (alike.passes_over ∙ off)
      ∙ sym (ap (λ b. not b || is_boundary s.text.content (last_of w).1) off))
      (cases_Bool s.passes_over)

  same_allowed : (x : ℕ) (w : List Pair) → low ≤ x → x ≤ s.hi → IsKnownStart s r x (Some w) → is_allowed t (map (further d) w) ≡ is_allowed s w
  same_allowed x w h l k = allowed_further x w h l k.0.is_walk k.2

  -- a start that gives nothing gives nothing there
  pub passed_further : (x : ℕ) (o : Option (List Pair)) → low ≤ x → x ≤ s.hi → IsKnownStart s r x o → IsPassed s x → IsPassed t (x + d)
  passed_further x None h l k p = inl (none_further x h l k)
  passed_further x (Some w) h l k p =
      ⊎_elim (λ none. absurd (none w k.0.is_walk))
      (λ (q : (v : List Pair) × IsFirstFrom s x v × (is_allowed s v ≡ false)).
      let is : q.0 ≡ w = first_is_one (next_of s) (EndsIn s) [] ((0, x) ∷ []) q.0 w q.1 k.0 in
      inr (map (further d) w, first_further x w h l k, same_allowed x w h l k ∙ sym (ap (is_allowed s) is) ∙ q.2))
      p

  pub start_further : (x : ℕ) → x ≤ r → IsStart s x → IsStart t (x + d)
  start_further x near h =
      let e = alike.lo in
      let l = alike.above in (
        omega (arith, e, h.0),
        (alike.bound x (omega (arith, l, h.0)) near).0 h.1,
        λ anchored. let a = h.2 (subst (λ a. IsTrue (is_anchored a)) alike.anchoring anchored) in omega (arith, e, a),
      )

  -- a start of the second search that isn't past what is known is one of the first
  pub start_back : (y : ℕ) → IsStart t y → y ≤ r + d → (x : ℕ) × (x + d ≡ y) × IsStart s x
  start_back y h near =
      let e = alike.lo in
      let l = alike.above in
      let same : (y - d) + d ≡ y = omega (arith, e, h.0) in
      let from : s.lo ≤ y - d = omega (arith, e, h.0) in (
        y - d,
        same,
        (
          from,
          (alike.bound (y - d) (omega (arith, l, from)) (omega (arith, near))).1 (omega (arith, same, h.1)),
          λ anchored. let a = h.2 (subst (λ a. IsTrue (is_anchored a)) (sym alike.anchoring) anchored) in omega (arith, e, a),
        ),
      )

  some_start : (x : ℕ) (w : List Pair) (o : Option (List Pair)) → IsFirstFrom s x w → IsKnownStart s r x o → IsKnownStart s r x (Some w)
  some_start x w None first k = absurd (k.0 w first.is_walk)
  some_start x w (Some v) first k =
      subst (λ z. IsKnownStart s r x (Some z)) (first_is_one (next_of s) (EndsIn s) [] ((0, x) ∷ []) v w k.0 first) k

  pub answer_further : (c : Chosen) → IsAnswer s c → AreKnownStarts s r c.start → IsAnswer t (chosen_further d c)
  answer_further c a known =
      let l = alike.above in
      let from : low ≤ c.start = omega (arith, l, a.is_start.0) in
      let o = known c.start a.is_start (omega arith) in
      let k = some_start c.start c.walk o.0 a.is_first o.1 in
      let near = start_below c.start (Some c.walk) k in
      record {
        is_start = start_further c.start near a.is_start;
        is_first = first_further c.start c.walk from a.is_start.1 k;
        allowed = subst IsTrue (sym (same_allowed c.start c.walk from a.is_start.1 k)) a.allowed;
        none_before = λ y h before.
            let b = start_back y h (omega (arith, before, near)) in
            let less : b.0 < c.start = omega (arith, b.1, before) in
            let p = known b.0 b.2 (omega (arith, less)) in
            subst (IsPassed t) b.1 (passed_further b.0 p.0 (omega (arith, l, b.2.0)) b.2.1 p.1 (a.none_before b.0 b.2 less));
      }

  -- no start of the second search is past what is known
  pub all_near : low ≤ r → (s.hi < r) ⊎ (IsTrue (is_anchored s.anchoring) × (s.lo ≤ r)) → (y : ℕ) → IsStart t y → y ≤ r + d
  all_near within (inl past) y h =
      let e = alike.lo in
      let l = alike.above in
      ⊎_elim (λ far. ⊎_elim
      (λ short. absurd (let z = (alike.bound low (omega arith) within).1 (omega (arith, e, l, h.0, h.1)) in omega (arith, z, short)))
      (λ long. absurd (let z = (alike.bound (s.hi + 1) (omega (arith, long)) (omega (arith, past))).1 (omega (arith, far, past, h.1)) in omega (arith, z)))
      (cases_lt (s.hi + 1) low))
      (λ near. near) (cases_lt (r + d) y)
  all_near within (inr one) y h =
      let e = alike.lo in
      let a = h.2 (subst (λ a. IsTrue (is_anchored a)) (sym alike.anchoring) one.0) in omega (arith, e, a, one.1)

  pub none_there : low ≤ r → HasNoAnswer s → ReadsBelow s r None → HasNoAnswer t
  none_there within none known =
      λ y h. let b = start_back y h (all_near within known.1 y h) in
      let l = alike.above in
      let p = known.0 b.0 b.2 b.2.1 in
      subst (IsPassed t) b.1 (passed_further b.0 p.0 (omega (arith, l, b.2.0)) b.2.1 p.1 (none b.0 b.2))

  chosen_of_none : (o : Option Chosen) → chosen s ≡ o → low ≤ r → ReadsBelow s r o → chosen t ≡ option_map (chosen_further d) o
  chosen_of_none None e within known = (answer_law.chosen_none t).1 (none_there within ((answer_law.chosen_none s).0 e) known)
  chosen_of_none (Some c) e within known =
      (answer_law.chosen_some t (chosen_further d c)).1 (answer_further c ((answer_law.chosen_some s c).0 e) known)

  -- the answer's walk is the same, so many bytes further on
  pub same_chosen : low ≤ r → ReadsBelow s r (chosen s) → chosen t ≡ option_map (chosen_further d) (chosen s)
  same_chosen within known = chosen_of_none (chosen s) refl within known

  pub found_further : (c : Chosen) → IsAnswer s c → found t (chosen_further d c) ≡ match_further d (found s c)
  found_further c a =
      let last = last_further (next_of s) (EndsIn s) d a.is_first.is_walk in
      ap₂ (λ ps (n : Pair). let m : Found = record { pattern = pattern_at (place_at ps n.0); start = c.start + d; end = n.1 } in m) alike.places last

  answer_by_chosen : (o : Option Chosen) → chosen s ≡ o → option_map (found t) (option_map (chosen_further d) o) ≡ option_map (match_further d) (option_map (found s) o)
  answer_by_chosen None e = refl
  answer_by_chosen (Some c) e = ap Some (found_further c ((answer_law.chosen_some s c).0 e))

  -- and so is the match
  pub same_answer : low ≤ r → ReadsBelow s r (chosen s) → answer t ≡ option_map (match_further d) (answer s)
  unfolding answer
  same_answer within known = ap (option_map (found t)) (same_chosen within known) ∙ answer_by_chosen (chosen s) refl
