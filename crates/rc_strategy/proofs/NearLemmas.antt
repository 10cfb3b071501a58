-- Matches of a greatest length, and their groups: how many bytes settle them, by how far assertions look.
use Rattle.std.proofs.Common.{◌≡◌, ◌≢◌, ◌∙◌, ℕ, ◌+◌, ◌<◌, ◌≤◌, ◌⊎◌, IsTrue, List, [], ◌∷◌, min, Some, None, inl, inr, ⊎_elim, ap, ap₂, sym, subst, refl, arith}
use Rattle.rc_text.specs.Found.{Found}
use Rattle.rc_text.specs.declared.types.MatchKind.{MatchKind}
use Rattle.rc_text.specs.declared.types.MatchKind.TheVariants.{LeftmostFirst as leftmost_first, LeftmostLongest as leftmost_longest, All as all_matches}
use Rattle.rc_walks.specs.Walks.{Pair, IsWalk, IsBefore}
use Rattle.rc_walks.proofs.CutLemmas.{not_before_both}
use Rattle.rc_program.specs.Program.{Place, place_at}
use Rattle.rc_program.specs.Answer.{Search, Chosen, IsStart, IsAnswer, IsFirstFrom, HasNoWalkFrom, answer, chosen, found, is_anchored, last_of, next_of, only, pattern_at}
use Rattle.rc_program.specs.Greatest.{IsSpelledIn}
use Rattle.rc_program.specs.Kinds.{answer_by}
use Rattle.rc_program.specs.Longest.{IsLongestFrom, IsAnswerOf, IsPassedOf, longest, longest_chosen}
use Rattle.rc_program.proofs.AnswerLemmas.{answer_law, match_place_is, walk_ends, walk_within}
use Rattle.rc_program.proofs.ReachLemmas.{longest_law}
use Rattle.rc_reach.specs.Settled.{AgreesBelow, IsInside, IsSettled, IsWalkSettled}
use Rattle.rc_reach.proofs.AgreeLemmas.{same_bound}
use Rattle.rc_strategy.specs.Lookahead.{LookAhead}
use Rattle.rc_strategy.proofs.LookaheadLemmas.{EndsIn, agrees_back, allowed_there, before_there, walk_there}

-- a walk from a start spells a span
spelled : (u : Search) (x : ℕ) (w : List Pair) → IsStart u x → IsWalk (next_of u) (EndsIn u) [] ((0, x) ∷ []) w →
    IsSpelledIn u (record { pattern = pattern_at (place_at u.places (last_of w).0); start = x; end = (last_of w).1 })
spelled u x w start walk = record {
  is_start = start;
  walk = w;
  is_walk = walk;
  pattern = match_place_is (only u.anchoring) (place_at u.places (last_of w).0) (walk_ends (next_of u) (EndsIn u) walk);
  position = refl;
}

module _ (s t : Search) (r a e : ℕ) (in1 : IsInside s) (in2 : IsInside t) (agrees : AgreesBelow r s t) (looks : LookAhead a s.places) (far : e + a ≤ r)
    (own : e ≤ s.hi) (other : e ≤ t.hi) where
  walk_back : (x : ℕ) (w : List Pair) → x ≤ e → IsWalk (next_of t) (EndsIn t) [] ((0, x) ∷ []) w → (last_of w).1 ≤ e →
      IsWalk (next_of s) (EndsIn s) [] ((0, x) ∷ []) w
  walk_back =
      walk_there t s r a e in2 in1 (agrees_back s t r agrees) (subst (LookAhead a) (sym agrees.places) looks) far other own

  before_back : (x : ℕ) (w v : List Pair) → x ≤ e → IsWalk (next_of t) (EndsIn t) [] ((0, x) ∷ []) w → (last_of w).1 ≤ e →
      IsBefore (next_of t) ((0, x) ∷ []) w v → IsBefore (next_of s) ((0, x) ∷ []) w v
  before_back =
      before_there t s r a e in2 in1 (agrees_back s t r agrees) (subst (LookAhead a) (sym agrees.places) looks) far other own

  -- two walks that each come first in one of the searches
  pub same_walk : (x : ℕ) (w v : List Pair) → x ≤ e → IsWalk (next_of s) (EndsIn s) [] ((0, x) ∷ []) w →
      IsWalk (next_of t) (EndsIn t) [] ((0, x) ∷ []) v → (last_of w).1 ≤ e → (last_of v).1 ≤ e →
      (IsWalk (next_of s) (EndsIn s) [] ((0, x) ∷ []) v → (v ≡ w) ⊎ IsBefore (next_of s) ((0, x) ∷ []) w v) →
      (IsWalk (next_of t) (EndsIn t) [] ((0, x) ∷ []) w → (w ≡ v) ⊎ IsBefore (next_of t) ((0, x) ∷ []) v w) → v ≡ w
  same_walk x w v start first second end1 end2 least1 least2 =
      ⊎_elim (λ q. q)
      (λ p. ⊎_elim (λ q. sym q)
      (λ q. absurd (not_before_both (next_of s) ((0, x) ∷ []) w v p (before_back x v w start second end2 q)))
      (least2 (walk_there s t r a e in1 in2 agrees looks far own other x w start first end1)))
      (least1 (walk_back x v start second end2))

  -- a start from which all walks of both end by e
  module _ (x : ℕ) (start : x ≤ e) (short1 : (w : List Pair) → IsWalk (next_of s) (EndsIn s) [] ((0, x) ∷ []) w → (last_of w).1 ≤ e)
      (short2 : (w : List Pair) → IsWalk (next_of t) (EndsIn t) [] ((0, x) ∷ []) w → (last_of w).1 ≤ e) where
    none_over : HasNoWalkFrom s x → HasNoWalkFrom t x
    none_over none v walk = none v (walk_back x v start walk (short2 v walk))

    first_over : (w : List Pair) → IsFirstFrom s x w → IsFirstFrom t x w
    first_over w first = record {
      is_walk = walk_there s t r a e in1 in2 agrees looks far own other x w start first.is_walk (short1 w first.is_walk);
      is_least = λ v walk.
          ⊎_elim (λ q. inl q)
          (λ q. inr (before_there s t r a e in1 in2 agrees looks far own other x w v start first.is_walk (short1 w first.is_walk) q))
          (first.is_least v (walk_back x v start walk (short2 v walk)));
    }

    longest_over : (w : List Pair) → IsLongestFrom s x w → IsLongestFrom t x w
    longest_over w long = record {
      is_walk = walk_there s t r a e in1 in2 agrees looks far own other x w start long.is_walk (short1 w long.is_walk);
      is_most = λ v walk. long.is_most v (walk_back x v start walk (short2 v walk));
      is_least = λ v walk same.
          ⊎_elim (λ q. inl q)
          (λ q. inr (before_there s t r a e in1 in2 agrees looks far own other x w v start long.is_walk (short1 w long.is_walk) q))
          (long.is_least v (walk_back x v start walk (short2 v walk)) same);
    }

  -- the walks that count of each start up to that of the answer are the same there
  module _ (past : IsTrue s.passes_over → e < r) (Counts1 Counts2 : ℕ → List Pair → Type 0)
      (walks : (x : ℕ) (w : List Pair) → Counts1 x w → IsWalk (next_of s) (EndsIn s) [] ((0, x) ∷ []) w)
      (c : Chosen) (start : c.start ≤ e)
      (short : (x : ℕ) → IsStart s x → x ≤ c.start → (w : List Pair) → IsWalk (next_of s) (EndsIn s) [] ((0, x) ∷ []) w → (last_of w).1 ≤ e)
      (none : (x : ℕ) → IsStart s x → x ≤ c.start → HasNoWalkFrom s x → HasNoWalkFrom t x)
      (over : (x : ℕ) → IsStart s x → x ≤ c.start → (w : List Pair) → Counts1 x w → Counts2 x w) where
    start_on : (x : ℕ) → x ≤ c.start → IsStart s x → IsStart t x
    start_on x before h = (
      let lo = agrees.lo in omega (arith, lo, h.0),
      omega (arith, before, start, other),
      λ anchored. h.2 (subst (λ k. IsTrue (is_anchored k)) agrees.anchoring anchored) ∙ sym agrees.lo,
    )

    start_off : (x : ℕ) → x ≤ c.start → IsStart t x → IsStart s x
    start_off x before h = (
      let lo = agrees.lo in omega (arith, lo, h.0),
      omega (arith, before, start, own),
      λ anchored. h.2 (subst (λ k. IsTrue (is_anchored k)) (sym agrees.anchoring) anchored) ∙ agrees.lo,
    )

    passed_over : (x : ℕ) → IsStart s x → x ≤ c.start → IsPassedOf s Counts1 x → IsPassedOf t Counts2 x
    passed_over x h before (inl empty) = inl (none x h before empty)
    passed_over x h before (inr p) =
        inr (
          p.0,
          over x h before p.0 p.1,
          allowed_there s t r a e in1 in2 agrees looks far own other p.0 (short x h before p.0 (walks x p.0 p.1)) past ∙ p.2,
        )

    pub answer_over : IsAnswerOf s Counts1 c → IsAnswerOf t Counts2 c
    answer_over h = record {
      is_start = start_on c.start (omega arith) h.is_start;
      counts = over c.start h.is_start (omega arith) c.walk h.counts;
      allowed =
          subst IsTrue
          (sym (allowed_there s t r a e in1 in2 agrees looks far own other c.walk
          (short c.start h.is_start (omega arith) c.walk (walks c.start c.walk h.counts)) past))
          h.allowed;
      none_before = λ y at before.
          let from = start_off y (omega (arith, before)) at in
          passed_over y from (omega (arith, before)) (h.none_before y from before);
    }

-- no walk of the places is longer than n bytes
abbrev pub AreNoLonger : ℕ → List Place → Type 0
AreNoLonger n places = (u : Search) (m : Found) → u.places ≡ places → IsSpelledIn u m → m.end ≤ m.start + n

-- MATCHES OF A GREATEST LENGTH

module _ (s : Search) (inside : IsInside s) (a n : ℕ) (looks : LookAhead a s.places) (short : AreNoLonger n s.places) (m : Found) (r : ℕ)
    (far : m.start + n + a ≤ r) (past : IsTrue s.passes_over → m.start + n < r) (t : Search) (in2 : IsInside t) (agrees : AgreesBelow r s t)
    (within : m.start ≤ s.hi) where
  abbrev e : ℕ
  e = min (m.start + n) s.hi

  bound : min r t.hi ≡ min r s.hi
  bound = same_bound s t r inside in2 agrees

  far_enough : e + a ≤ r
  far_enough = omega (arith, far)

  own : e ≤ s.hi
  own = omega arith

  other : e ≤ t.hi
  other = let b = bound in omega (arith, b, far)

  past_end : IsTrue s.passes_over → e < r
  past_end over = let p = past over in omega (arith, p)

  ends_here : (x : ℕ) → IsStart s x → x ≤ m.start → (w : List Pair) → IsWalk (next_of s) (EndsIn s) [] ((0, x) ∷ []) w → (last_of w).1 ≤ e
  ends_here x start before w walk =
      let l = short s (record { pattern = pattern_at (place_at s.places (last_of w).0); start = x; end = (last_of w).1 }) refl (spelled s x w start walk) in
      let h = (walk_within s.places s.text s.hi (EndsIn s) x walk
      (λ k j. ⊎_elim (λ q. let at : x ≡ k.1 = ap (λ (p : Pair). p.1) q in (omega (arith, at), let top = start.1 in omega (arith, at, top))) (λ never. absurd never) j)).2 in
      let high = h in omega (arith, l, high, before)

  ends_there : (x : ℕ) → IsStart t x → x ≤ m.start → (w : List Pair) → IsWalk (next_of t) (EndsIn t) [] ((0, x) ∷ []) w → (last_of w).1 ≤ e
  ends_there x start before w walk =
      let l =
      short t (record { pattern = pattern_at (place_at t.places (last_of w).0); start = x; end = (last_of w).1 }) agrees.places (spelled t x w start walk) in
      let h = (walk_within t.places t.text t.hi (EndsIn t) x walk
      (λ k j. ⊎_elim (λ q. let at : x ≡ k.1 = ap (λ (p : Pair). p.1) q in (omega (arith, at), let top = start.1 in omega (arith, at, top))) (λ never. absurd never) j)).2 in
      let b = bound in omega (arith, l, h, before, b, far)

  start_there : (x : ℕ) → x ≤ m.start → IsStart s x → IsStart t x
  start_there x before h = (
    let lo = agrees.lo in omega (arith, lo, h.0),
    let o = other in omega (arith, before, within, o),
    λ anchored. h.2 (subst (λ k. IsTrue (is_anchored k)) agrees.anchoring anchored) ∙ sym agrees.lo,
  )

  module _ (c : Chosen) (at : c.start ≡ m.start) where
    up_to : (x : ℕ) → x ≤ c.start → x ≤ m.start
    up_to x h = omega (arith, h, at)

    first_there : IsAnswer s c → IsAnswer t c
    first_there h =
        (longest_law.first_is t c).0
        (answer_over s t r a e inside in2 agrees looks far_enough own other past_end (IsFirstFrom s) (IsFirstFrom t) (λ x w f. f.is_walk) c
        (omega (arith, at, within))
        (λ x start before. ends_here x start (up_to x before))
        (λ x start before. none_over s t r a e inside in2 agrees looks far_enough own other x (omega (arith, at, before, within)) (ends_here x start (up_to x before))
        (ends_there x (start_there x (up_to x before) start) (up_to x before)))
        (λ x start before. first_over s t r a e inside in2 agrees looks far_enough own other x (omega (arith, at, before, within)) (ends_here x start (up_to x before))
        (ends_there x (start_there x (up_to x before) start) (up_to x before)))
        ((longest_law.first_is s c).1 h))

    longest_there : IsAnswerOf s (IsLongestFrom s) c → IsAnswerOf t (IsLongestFrom t) c
    longest_there h =
        answer_over s t r a e inside in2 agrees looks far_enough own other past_end (IsLongestFrom s) (IsLongestFrom t) (λ x w f. f.is_walk) c
        (omega (arith, at, within))
        (λ x start before. ends_here x start (up_to x before))
        (λ x start before. none_over s t r a e inside in2 agrees looks far_enough own other x (omega (arith, at, before, within)) (ends_here x start (up_to x before))
        (ends_there x (start_there x (up_to x before) start) (up_to x before)))
        (λ x start before. longest_over s t r a e inside in2 agrees looks far_enough own other x (omega (arith, at, before, within)) (ends_here x start (up_to x before))
        (ends_there x (start_there x (up_to x before) start) (up_to x before)))
        h

-- a match of a leftmost kind is settled by its greatest length and as many bytes as assertions look at after it
pub near_settled : (kind : MatchKind) (s : Search) (a n r : ℕ) (m : Found) → kind ≢ all_matches → IsInside s → LookAhead a s.places → AreNoLonger n s.places →
    m.start + n + a ≤ r → (IsTrue s.passes_over → m.start + n < r) → answer_by kind s ≡ Some m →
    (t : Search) → IsInside t → AgreesBelow r s t → answer_by kind t ≡ Some m
near_settled all_matches s a n r m other inside looks short far past is t in2 agrees = absurd (other refl)
near_settled leftmost_first s a n r m other inside looks short far past is t in2 agrees =
    let q = (answer_law.answer_some s m).0 is in
    let at : q.0.start ≡ m.start = ap (λ (f : Found). f.start) q.2 in
    let high = q.1.is_start.1 in
    (answer_law.answer_some t m).1 (
      q.0,
      first_there s inside a n looks short m r far past t in2 agrees (omega (arith, at, high)) q.0 at q.1,
      ap (λ ps. found (record s { places = ps }) q.0) agrees.places ∙ q.2,
    )
near_settled leftmost_longest s a n r m other inside looks short far past is t in2 agrees =
    let q = (longest_law.answer_some s m).0 is in
    let at : q.0.start ≡ m.start = ap (λ (f : Found). f.start) q.2 in
    let high = q.1.is_start.1 in
    (longest_law.answer_some t m).1 (
      q.0,
      longest_there s inside a n looks short m r far past t in2 agrees (omega (arith, at, high)) q.0 at q.1,
      ap (λ ps. found (record s { places = ps }) q.0) agrees.places ∙ q.2,
    )

-- GROUPS

module _ (s t : Search) (r a : ℕ) (in1 : IsInside s) (in2 : IsInside t) (agrees : AgreesBelow r s t) (looks : LookAhead a s.places) (m : Found)
    (far : m.end + a ≤ r) where
  -- what is known of walks that are the same match
  walks_same : (c d : Chosen) → c.start ≡ m.start → d.start ≡ m.start → (last_of c.walk).1 ≡ m.end → (last_of d.walk).1 ≡ m.end → IsStart s c.start →
      IsStart t d.start → IsWalk (next_of s) (EndsIn s) [] ((0, c.start) ∷ []) c.walk → IsWalk (next_of t) (EndsIn t) [] ((0, d.start) ∷ []) d.walk →
      (IsWalk (next_of s) (EndsIn s) [] ((0, c.start) ∷ []) d.walk → (d.walk ≡ c.walk) ⊎ IsBefore (next_of s) ((0, c.start) ∷ []) c.walk d.walk) →
      (IsWalk (next_of t) (EndsIn t) [] ((0, d.start) ∷ []) c.walk → (c.walk ≡ d.walk) ⊎ IsBefore (next_of t) ((0, d.start) ∷ []) d.walk c.walk) → d ≡ c
  walks_same c d from1 from2 to1 to2 start1 start2 walk1 walk2 least1 least2 =
      let at : d.start ≡ c.start = from2 ∙ sym from1 in
      let within1 = (walk_within s.places s.text s.hi (EndsIn s) c.start walk1
      (λ k j. ⊎_elim (λ q. let here : c.start ≡ k.1 = ap (λ (p : Pair). p.1) q in (omega (arith, here), let top = start1.1 in omega (arith, here, top))) (λ never. absurd never) j)) in
      let within2 = (walk_within t.places t.text t.hi (EndsIn t) d.start walk2
      (λ k j. ⊎_elim (λ q. let here : d.start ≡ k.1 = ap (λ (p : Pair). p.1) q in (omega (arith, here), let top = start2.1 in omega (arith, here, top))) (λ never. absurd never) j)) in
      let low = within1.1 in
      let high1 = within1.2 in
      let high2 = within2.2 in
      let same : d.walk ≡ c.walk =
      same_walk s t r a m.end in1 in2 agrees looks far (omega (arith, to1, high1)) (omega (arith, to2, high2)) c.start c.walk d.walk (omega (arith, low, to1)) walk1
      (subst (λ x. IsWalk (next_of t) (EndsIn t) [] ((0, x) ∷ []) d.walk) at walk2) (omega (arith, to1)) (omega (arith, to2)) least1
      (subst (λ x. IsWalk (next_of t) (EndsIn t) [] ((0, x) ∷ []) c.walk → (c.walk ≡ d.walk) ⊎ IsBefore (next_of t) ((0, x) ∷ []) d.walk c.walk) at least2) in
      ap₂ (λ x w. let k : Chosen = record { start = x; walk = w } in k) at same

  chosen_same : answer s ≡ Some m → answer t ≡ Some m → chosen t ≡ chosen s
  chosen_same is1 is2 =
      let c = (answer_law.answer_some s m).0 is1 in
      let d = (answer_law.answer_some t m).0 is2 in
      let same =
      walks_same c.0 d.0 (ap (λ (f : Found). f.start) c.2) (ap (λ (f : Found). f.start) d.2) (ap (λ (f : Found). f.end) c.2) (ap (λ (f : Found). f.end) d.2)
      c.1.is_start d.1.is_start c.1.is_first.is_walk d.1.is_first.is_walk (c.1.is_first.is_least d.0.walk) (d.1.is_first.is_least c.0.walk) in
      (answer_law.chosen_some t d.0).1 d.1 ∙ ap Some same ∙ sym ((answer_law.chosen_some s c.0).1 c.1)

  longest_same : longest s ≡ Some m → longest t ≡ Some m → longest_chosen t ≡ longest_chosen s
  longest_same is1 is2 =
      let c = (longest_law.answer_some s m).0 is1 in
      let d = (longest_law.answer_some t m).0 is2 in
      let end1 : (last_of c.0.walk).1 ≡ m.end = ap (λ (f : Found). f.end) c.2 in
      let end2 : (last_of d.0.walk).1 ≡ m.end = ap (λ (f : Found). f.end) d.2 in
      let same =
      walks_same c.0 d.0 (ap (λ (f : Found). f.start) c.2) (ap (λ (f : Found). f.start) d.2) end1 end2
      c.1.is_start d.1.is_start c.1.counts.is_walk d.1.counts.is_walk
      (λ w. c.1.counts.is_least d.0.walk w (end2 ∙ sym end1)) (λ w. d.1.counts.is_least c.0.walk w (end1 ∙ sym end2)) in
      (longest_law.chosen_some t d.0).1 d.1 ∙ ap Some same ∙ sym ((longest_law.chosen_some s c.0).1 c.1)

-- the bytes that settle a match settle its groups too, with as many as assertions look at after its end
pub groups_settled : (kind : MatchKind) (s : Search) (a r : ℕ) (m : Found) → IsInside s → LookAhead a s.places → m.end + a ≤ r →
    answer_by kind s ≡ Some m → IsSettled kind r s → IsWalkSettled kind r s
groups_settled all_matches s a r m inside looks far is settled = settled
groups_settled leftmost_first s a r m inside looks far is settled =
    λ t in2 agrees. chosen_same s t r a inside in2 agrees looks m far is (settled t in2 agrees ∙ is)
groups_settled leftmost_longest s a r m inside looks far is settled =
    λ t in2 agrees. longest_same s t r a inside in2 agrees looks m far is (settled t in2 agrees ∙ is)

-- where there is no match there are no groups
pub none_settled : (kind : MatchKind) (s : Search) (r : ℕ) → answer_by kind s ≡ None → IsSettled kind r s → IsWalkSettled kind r s
none_settled all_matches s r is settled = settled
none_settled leftmost_first s r is settled =
    λ t in2 agrees. (answer_law.chosen_none t).1 ((answer_law.answer_none t).0 (settled t in2 agrees ∙ is))
    ∙ sym ((answer_law.chosen_none s).1 ((answer_law.answer_none s).0 is))
none_settled leftmost_longest s r is settled =
    λ t in2 agrees. (longest_law.chosen_none t).1 ((longest_law.answer_none t).0 (settled t in2 agrees ∙ is))
    ∙ sym ((longest_law.chosen_none s).1 ((longest_law.answer_none s).0 is))
