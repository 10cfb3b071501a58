-- Searches that are the same below r have the same walks, as far as assertions look no further.
use Rattle.std.proofs.Common.{◌≡◌, ◌∙◌, ℕ, ◌+◌, ◌-◌, ◌<◌, ◌≤◌, Bool, not, ◌||◌, IsTrue, List, [], ◌∷◌, length, map, take, drop, take-take, inl, inr, ⊎_elim, ap, ap₂, sym, subst, refl, arith, if◌then◌else◌}
use Rattle.std.specs.List.{slice_get}
use Rattle.std.proofs.lemmas.Bool.{cases_Bool, cases_lt}
use Rattle.rc_text.specs.Text.{begins_scalar, is_boundary}
use Rattle.rc_pattern.specs.declared.hir.Look.{Look}
use Rattle.rc_walks.specs.Walks.{Pair, IsIn, IsWalk, IsBefore, stops, goes}
use Rattle.rc_program.specs.Text.{holds, ahead, beyond, before_at, after_at}
use Rattle.rc_program.specs.Looks.{holds_between}
use Rattle.rc_program.specs.Program.{Place, choice, byte, branch, scalar, guard, slot, accept, stays, pair_at, place_at, ways, ways_out, is_match_place}
use Rattle.rc_program.specs.Answer.{Search, is_allowed, only, ends, next_of, last_of}
use Rattle.rc_program.proofs.AnswerLemmas.{walk_within}
use Rattle.rc_program.proofs.WayLemmas.{past_places}
use Rattle.rc_reach.specs.Reads.{looks_ahead}
use Rattle.rc_reach.specs.Settled.{AgreesBelow, IsInside}
use Rattle.rc_reach.proofs.AgreeLemmas.{range_is_rest, get_below, before_same, seen_same}
use Rattle.rc_reach.proofs.SideLemmas.{same_look}
use Rattle.rc_strategy.specs.Lookahead.{LookAhead}
use Rattle.rc_strategy.proofs.NarrowLemmas.{first_in, ways_leave}

-- what one search is below r to another, that is to it
pub agrees_back : (s t : Search) (r : ℕ) → AgreesBelow r s t → AgreesBelow r t s
agrees_back s t r a = record {
  places = sym a.places;
  terminator = sym a.terminator;
  slice_start = sym a.slice_start;
  lo = sym a.lo;
  anchoring = sym a.anchoring;
  passes_over = sym a.passes_over;
  read = sym a.read;
  seen = sym a.seen;
  content = sym a.content;
}

-- the ways out of a place, by what its own assertion says
out_same : (test1 test2 : Look → Bool) (xs ys : List ℕ) → xs ≡ ys → (q : Place) → ((l : Look) (n : ℕ) → q ≡ guard l n → test1 l ≡ test2 l) →
    ways_out test1 xs q ≡ ways_out test2 ys q
out_same test1 test2 xs ys e (choice ns) looks = refl
out_same test1 test2 xs ys e (byte rs n) looks = ap (λ bs. ways_out test1 bs (byte rs n)) e
out_same test1 test2 xs ys e (branch ts) looks = ap (λ bs. ways_out test1 bs (branch ts)) e
out_same test1 test2 xs ys e (scalar rs n) looks = ap (λ bs. ways_out test1 bs (scalar rs n)) e
out_same test1 test2 xs ys e (guard l n) looks = ap (λ b. if b then stays n ∷ [] else []) (looks l n refl)
out_same test1 test2 xs ys e (slot j n) looks = refl
out_same test1 test2 xs ys e (accept p) looks = refl

abbrev pub EndsIn : Search → Pair → Type 0
EndsIn u n = IsTrue (ends u n)

module _ (s t : Search) (r a e : ℕ) (in1 : IsInside s) (in2 : IsInside t) (agrees : AgreesBelow r s t) (looks : LookAhead a s.places) (far : e + a ≤ r)
    (own : e ≤ s.hi) (other : e ≤ t.hi) where
  same_take : take e t.text.content ≡ take e s.text.content
  same_take =
      sym (take-take e r t.text.content (omega (arith, far))) ∙ ap (take e) agrees.content ∙ take-take e r s.text.content (omega (arith, far))

  same_ahead : (p : ℕ) → ahead t.text e p ≡ ahead s.text e p
  same_ahead p = range_is_rest t.text.content p e ∙ ap (drop p) same_take ∙ sym (range_is_rest s.text.content p e)

  same_test : (p : ℕ) → p ≤ e → (l : Look) → looks_ahead l ≤ a → holds t.text l p ≡ holds s.text l p
  same_test p low l near =
      ap₂ (λ z x. holds_between z x (after_at t.text p) l) agrees.terminator (before_same s t r in1 in2 agrees p (omega (arith, low, far)))
      ∙ same_look (beyond t.text p) (beyond s.text p) (r - p) (seen_same s t r in1 in2 agrees p (omega (arith, low, far))) s.text.terminator (before_at s.text p) l
      (omega (arith, low, far, near))

  -- no walk goes past e
  same_under : (n : Pair) → n.1 ≤ e → ways t.places t.text e n ≡ ways s.places s.text e n
  same_under n low =
      ap (λ ps. ways ps t.text e n) agrees.places
      ∙ ap (map (pair_at n.1))
      (out_same (λ l. holds t.text l n.1) (λ l. holds s.text l n.1) (ahead t.text e n.1) (ahead s.text e n.1) (same_ahead n.1) (place_at s.places n.0)
      (λ l m here. same_test n.1 low l (looks n.0 l m here)))

  -- where a way leads no further than e, all ways are the same
  alive : (n m : Pair) → n.1 ≤ e → m.1 ≤ e → IsIn m (next_of s n) → next_of t n ≡ next_of s n
  alive n m low near here =
      let under : ways s.places s.text e n ≡ next_of s n =
      ⊎_elim (λ q. q) (λ q. absurd (let past = q.1 m here in omega (arith, past, near))) (ways_leave s.places s.text e s.hi own n) in
      let same = same_under n low in
      let there : IsIn m (ways t.places t.text e n) = subst (λ ms. IsIn m ms) (sym (same ∙ under)) here in
      let over : ways t.places t.text e n ≡ next_of t n =
      ⊎_elim (λ q. q) (λ q. absurd (subst (λ ms. IsIn m ms) q.0 there)) (ways_leave t.places t.text e t.hi other n) in
      sym over ∙ same ∙ under

  walk_on : (Ends Others : Pair → Type 0) → ((n : Pair) → Ends n → Others n) → {p f w : List Pair} → IsWalk (next_of s) Ends p f w →
      ((k : Pair) → IsIn k w → k.1 ≤ e) → IsWalk (next_of t) Others p f w
  walk_on Ends Others weaker (stops n here fresh stop) low = stops n here fresh (weaker n stop)
  walk_on Ends Others weaker (goes {passed = p} {w = w} n here fresh rest) low =
      let m = first_in (next_of s) Ends rest in
      goes n here fresh
      (subst (λ ms. IsWalk (next_of t) Others (n ∷ p) ms w) (sym (alive n m.0 (low n (inl refl)) (low m.0 (inr m.2)) m.1))
      (walk_on Ends Others weaker rest (λ k i. low k (inr i))))

  -- what a walk comes before, it comes before there
  before_on : (Ends : Pair → Type 0) {p f w : List Pair} → IsWalk (next_of s) Ends p f w → ((k : Pair) → IsIn k w → k.1 ≤ e) → (v : List Pair) →
      IsBefore (next_of s) f w v → IsBefore (next_of t) f w v
  before_on Ends (stops n here fresh stop) low [] b = b
  before_on Ends (stops n here fresh stop) low (m ∷ v) b = ⊎_elim (λ q. inl q) (λ q. absurd q.1) b
  before_on Ends (goes n here fresh rest) low [] b = b
  before_on Ends (goes {w = w} n here fresh rest) low (m ∷ v) b =
      let k = first_in (next_of s) Ends rest in
      ⊎_elim (λ q. inl q)
      (λ q. inr (
        q.0,
        subst (λ ms. IsBefore (next_of t) ms w v) (sym (alive n k.0 (low n (inl refl)) (low k.0 (inr k.2)) k.1))
            (before_on Ends rest (λ i j. low i (inr j)) v q.1),
      ))
      b

  same_ends : (n : Pair) → ends t n ≡ ends s n
  same_ends n = ap₂ (λ x ps. is_match_place (only x) (place_at ps n.0)) agrees.anchoring agrees.places

  -- a walk that ends by e
  walk_low : (u : Search) (x : ℕ) (w : List Pair) → x ≤ u.hi → IsWalk (next_of u) (EndsIn u) [] ((0, x) ∷ []) w → (last_of w).1 ≤ e →
      (k : Pair) → IsIn k w → k.1 ≤ e
  walk_low u x w start walk end k i =
      let all = walk_within u.places u.text u.hi (EndsIn u) x walk
      (λ n j. ⊎_elim (λ q. let at : x ≡ n.1 = ap (λ (m : Pair). m.1) q in (omega (arith, at), omega (arith, at, start))) (λ never. absurd never) j) in
      let here = (all.0 k i).1 in omega (arith, here, end)

  pub walk_there : (x : ℕ) (w : List Pair) → x ≤ e → IsWalk (next_of s) (EndsIn s) [] ((0, x) ∷ []) w → (last_of w).1 ≤ e →
      IsWalk (next_of t) (EndsIn t) [] ((0, x) ∷ []) w
  walk_there x w start walk end =
      walk_on (EndsIn s) (EndsIn t) (λ n q. subst IsTrue (sym (same_ends n)) q) walk (walk_low s x w (omega (arith, start, own)) walk end)

  pub before_there : (x : ℕ) (w v : List Pair) → x ≤ e → IsWalk (next_of s) (EndsIn s) [] ((0, x) ∷ []) w → (last_of w).1 ≤ e →
      IsBefore (next_of s) ((0, x) ∷ []) w v → IsBefore (next_of t) ((0, x) ∷ []) w v
  before_there x w v start walk end b = before_on (EndsIn s) walk (walk_low s x w (omega (arith, start, own)) walk end) v b

  pub allowed_there : (w : List Pair) → (last_of w).1 ≤ e → (IsTrue s.passes_over → e < r) → is_allowed t w ≡ is_allowed s w
  allowed_there w end past =
      ⊎_elim
      (λ over. let at = past over in
      ap₂ (λ b o. not b || begins_scalar o) agrees.passes_over
      (sym (get_below t.text.content r (last_of w).1 (omega (arith, end, at))) ∙ ap (λ xs. slice_get xs (last_of w).1) agrees.content
      ∙ get_below s.text.content r (last_of w).1 (omega (arith, end, at))))
      (λ off. ap (λ b. not b || is_boundary t.text.content (last_of w).1) (agrees.passes_over ∙ off)
      ∙ sym (ap (λ b. not b || is_boundary s.text.content (last_of w).1) off))
      (cases_Bool s.passes_over)

-- past the last place there is no assertion
pub none_past : (places : List Place) (a i : ℕ) → length places ≤ i →
    ((q : ℕ) (l : Look) (n : ℕ) → q < i → place_at places q ≡ guard l n → looks_ahead l ≤ a) → LookAhead a places
none_past places a i all told q l n e =
    ⊎_elim (λ lt. told q l n (omega (arith, lt, all)) e) (λ ge. absurd (no_guard (sym (past_places places q ge) ∙ e))) (cases_lt q (length places))
  where
    no_guard : choice [] ≡ guard l n → ⊥
    no_guard f = cc
