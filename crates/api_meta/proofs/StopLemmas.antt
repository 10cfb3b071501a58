-- What a byte that no match contains tells of the matches before it.
use Rattle.std.proofs.Common.{◌≡◌, ◌≢◌, ℕ, ◌+◌, ◌<◌, ◌≤◌, All, List, [], ◌∷◌, length, map, Bool, false, not, ◌||◌, IsTrue, Option, Some, IfSome, inl, inr, ⊎_elim, sym, subst, ap, ap₂, ◌∙◌, refl, arith}
use Rattle.std.specs.List.{slice_get}
use Rattle.std.proofs.lemmas.Bool.{cases_lt, false≢true}
use Rattle.rc_text.specs.Found.{Found}
use Rattle.rc_text.specs.declared.types.MatchKind.{MatchKind}
use Rattle.rc_text.specs.declared.types.MatchKind.TheVariants.{LeftmostFirst as leftmost_first, LeftmostLongest as leftmost_longest, All as all_matches}
use Rattle.rc_text.specs.Text.{Searched, high, begins_scalar}
use Rattle.rc_pattern.specs.Re.{Re}
use Rattle.rc_pattern.specs.WellFormed.{HasBounds}
use Rattle.rc_walks.specs.Walks.{Pair, IsIn, IsWalk, stops as Stops, goes, IsBefore}
use Rattle.rc_program.specs.Text.{Text}
use Rattle.rc_program.specs.Program.{place_at, is_match_place, program, shown}
use Rattle.rc_program.specs.Answer.{Search, Chosen, only, ends, next_of, IsFirstFrom, HasNoWalkFrom, last_of, is_allowed, is_anchored, IsStart, found, pattern_at}
use Rattle.rc_program.specs.Longest.{IsLongestFrom, IsPassedOf, IsAnswerOf}
use Rattle.rc_program.specs.Greatest.{IsSpelledIn}
use Rattle.rc_program.specs.Kinds.{answer_by}
use Rattle.rc_program.specs.Matches.{from_on}
use Rattle.rc_program.specs.Sought.{Sought, search_for}
use Rattle.rc_program.proofs.AnswerLemmas.{answer_law, match_place_is, walk_ends, walk_within}
use Rattle.rc_program.proofs.GreatestLemmas.{greatest_law}
use Rattle.rc_program.proofs.GroupLemmas.{group_law, shown_all, without_groups_bounded}
use Rattle.rc_program.proofs.ReachLemmas.{longest_law}
use Rattle.rc_reach.specs.Partial.{GoesOnFrom, IsPartial, final, from_place}
use Rattle.rc_reach.specs.Settled.{IsInside}
use Rattle.rc_reach.specs.Alike.{AreAlike, further}
use Rattle.rc_reach.proofs.AgreeLemmas.{alike, chosen_stays}
use Rattle.rc_reach.proofs.AlikeLemmas.{agree}
use Rattle.rc_reach.proofs.KnownLemmas.{few_seen}
use Rattle.rc_literals.specs.Needs.{LeavesOut, is_stop}
use Rattle.api_meta.specs.Partials.{IsSettledBefore}

-- walks may end at the pair
abbrev EndsIn : Search → Pair → Type 0
EndsIn s n = IsTrue (ends s n)

-- the walks from the start x
abbrev IsWalkFrom : Search → ℕ → List Pair → Type 0
IsWalkFrom s x w = IsWalk (next_of s) (EndsIn s) [] ((0, x) ∷ []) w

-- no pair of the walk is past z
abbrev IsUpTo : ℕ → List Pair → Type 0
IsUpTo z w = (k : Pair) → IsIn k w → k.1 ≤ z

-- ---- two searches that see the same up to a position

-- up to z they see the same, and no walk of s from a start up to z goes past z
record AgreeUpTo (z : ℕ) (s t : Search) : Type 0 where
  start : (x : ℕ) → x ≤ z → IsStart s x → IsStart t x
  next : (n : Pair) → n.1 ≤ z → next_of t n ≡ next_of s n
  ends : (n : Pair) → ends t n ≡ ends s n
  byte : (p : ℕ) → p ≤ z → slice_get t.text.content p ≡ slice_get s.text.content p
  near : (x : ℕ) (w : List Pair) → x ≤ z → IsStart s x → IsWalkFrom s x w → IsUpTo z w × ((last_of w).1 ≤ z)
  passes_over : t.passes_over ≡ s.passes_over
  places : t.places ≡ s.places

-- so walks of s are walks of t, in the same order
module _ (z : ℕ) (s t : Search) (there : AgreeUpTo z s t) where
  walk_over : {passed from w : List Pair} → IsWalk (next_of s) (EndsIn s) passed from w → IsUpTo z w → IsWalk (next_of t) (EndsIn t) passed from w
  walk_over (Stops n here fresh e) near = Stops n here fresh (subst IsTrue (sym (there.ends n)) e)
  walk_over {passed} (goes {w = w} n here fresh rest) near =
      goes n here fresh (subst (λ f. IsWalk (next_of t) (EndsIn t) (n ∷ passed) f w) (sym (there.next n (near n (inl refl))))
      (walk_over rest (λ k i. near k (inr i))))

  before_over : (from v w : List Pair) → IsUpTo z v → IsBefore (next_of s) from v w → IsBefore (next_of t) from v w
  before_over from [] w near b = b
  before_over from (n ∷ v) [] near b = b
  before_over from (n ∷ v) (m ∷ w) near b =
      ⊎_elim (λ a. inl a)
      (λ q. inr (
        q.0,
        subst (λ f. IsBefore (next_of t) f v w) (sym (there.next n (near n (inl refl)))) (before_over (next_of s n) v w (λ k i. near k (inr i)) q.1),
      ))
      b

  walk_kept : (x : ℕ) (w : List Pair) → x ≤ z → IsStart s x → IsWalkFrom s x w → IsWalkFrom t x w
  walk_kept x w h start walk = walk_over walk (there.near x w h start walk).0

  order_kept : (x : ℕ) (v w : List Pair) → x ≤ z → IsStart s x → IsWalkFrom s x v → IsBefore (next_of s) ((0, x) ∷ []) v w →
      IsBefore (next_of t) ((0, x) ∷ []) v w
  order_kept x v w h start walk before = before_over ((0, x) ∷ []) v w (there.near x v h start walk).0 before

  allowed_kept : (x : ℕ) (w : List Pair) → x ≤ z → IsStart s x → IsWalkFrom s x w → is_allowed t w ≡ is_allowed s w
  allowed_kept x w h start walk =
      ap₂ (λ over o. not over || begins_scalar o) there.passes_over (there.byte (last_of w).1 (there.near x w h start walk).1)

  found_kept : (c : Chosen) → found t c ≡ found s c
  found_kept c =
      ap (λ ps. let m : Found = record { pattern = pattern_at (place_at ps (last_of c.walk).0); start = c.start; end = (last_of c.walk).1 } in m)
      there.places

-- if it holds both ways, a match that begins up to z is a match of both
module _ (z : ℕ) (s t : Search) (there : AgreeUpTo z s t) (back : AgreeUpTo z t s) where
  walk_back : (x : ℕ) (w : List Pair) → x ≤ z → IsStart s x → IsWalkFrom t x w → IsWalkFrom s x w
  walk_back x w h start walk = walk_kept z t s back x w h (there.start x h start) walk

  none_kept : (x : ℕ) → x ≤ z → IsStart s x → HasNoWalkFrom s x → HasNoWalkFrom t x
  none_kept x h start none = λ v b. none v (walk_back x v h start b)

  first_kept : (x : ℕ) (w : List Pair) → x ≤ z → IsStart s x → IsFirstFrom s x w → IsFirstFrom t x w
  first_kept x w h start first = record {
    is_walk = walk_kept z s t there x w h start first.is_walk;
    is_least = λ v b.
        ⊎_elim (λ same. inl same) (λ before. inr (order_kept z s t there x w v h start first.is_walk before)) (first.is_least v (walk_back x v h start b));
  }

  longest_kept : (x : ℕ) (w : List Pair) → x ≤ z → IsStart s x → IsLongestFrom s x w → IsLongestFrom t x w
  longest_kept x w h start longest = record {
    is_walk = walk_kept z s t there x w h start longest.is_walk;
    is_most = λ v b. longest.is_most v (walk_back x v h start b);
    is_least = λ v b e.
        ⊎_elim (λ same. inl same) (λ before. inr (order_kept z s t there x w v h start longest.is_walk before))
        (longest.is_least v (walk_back x v h start b) e);
  }

  -- by which walk of a start counts
  module _ (Counts : Search → ℕ → List Pair → Type 0) (counts : (x : ℕ) (w : List Pair) → x ≤ z → IsStart s x → Counts s x w → Counts t x w)
      (is_walk : (x : ℕ) (w : List Pair) → Counts s x w → IsWalkFrom s x w) where
    passed_kept : (x : ℕ) → x ≤ z → IsStart s x → IsPassedOf s (Counts s) x → IsPassedOf t (Counts t) x
    passed_kept x h start p =
        ⊎_elim (λ none. inl (none_kept x h start none))
        (λ (q : (w : List Pair) × Counts s x w × (is_allowed s w ≡ false)).
        inr (q.0, counts x q.0 h start q.1, allowed_kept z s t there x q.0 h start (is_walk x q.0 q.1) ∙ q.2)) p

    answer_kept : (c : Chosen) → c.start ≤ z → IsAnswerOf s (Counts s) c → IsAnswerOf t (Counts t) c
    answer_kept c h a = record {
      is_start = there.start c.start h a.is_start;
      counts = counts c.start c.walk h a.is_start a.counts;
      allowed = subst IsTrue (sym (allowed_kept z s t there c.start c.walk h a.is_start (is_walk c.start c.walk a.counts))) a.allowed;
      none_before = λ y start l.
          let near : y ≤ z = omega (arith, h, l) in
          let here = back.start y near start in passed_kept y near here (a.none_before y here l);
    }

  match_kept : (kind : MatchKind) (m : Found) → kind ≢ all_matches → m.start ≤ z → answer_by kind s ≡ Some m → answer_by kind t ≡ Some m
  match_kept all_matches m other h e = absurd (other refl)
  match_kept leftmost_first m other h e =
      let c = (answer_law.answer_some s m).0 e in
      let same_start : c.0.start ≡ m.start = ap (λ (f : Found). f.start) c.2 in
      let here = (longest_law.first_is s c.0).1 c.1 in
      let kept = answer_kept IsFirstFrom first_kept (λ x w first. first.is_walk) c.0 (omega (arith, same_start, h)) here in
      (answer_law.answer_some t m).1 (c.0, (longest_law.first_is t c.0).0 kept, found_kept z s t there c.0 ∙ c.2)
  match_kept leftmost_longest m other h e =
      let c = (longest_law.answer_some s m).0 e in
      let same_start : c.0.start ≡ m.start = ap (λ (f : Found). f.start) c.2 in
      let kept = answer_kept IsLongestFrom longest_kept (λ x w longest. longest.is_walk) c.0 (omega (arith, same_start, h)) c.1 in
      (longest_law.answer_some t m).1 (c.0, kept, found_kept z s t there c.0 ∙ c.2)

start_kept : (s t : Search) (x : ℕ) → t.lo ≡ s.lo → t.anchoring ≡ s.anchoring → x ≤ t.hi → IsStart s x → IsStart t x
start_kept s t x lo anchoring h a =
    (omega (arith, lo, a.0), h, λ anchored. let e = a.2 (subst (λ o. IsTrue (is_anchored o)) anchoring anchored) in omega (arith, lo, e))

-- no further on is where it was
walk_stays : (w : List Pair) → map (further 0) w ≡ w
walk_stays w = ap (λ (c : Chosen). c.walk) (chosen_stays (record { start = 0; walk = w }))

-- ---- a walk goes past no byte that no pattern's text has

module _ (hs : List Re) (grouped : Bool) (ok : All HasBounds hs) (stops : List Bool) (out : (t : Text) → LeavesOut t hs stops) (z b : ℕ)
    (stop : IsTrue (is_stop stops b)) where
  stays_before : (s : Search) (x : ℕ) (w : List Pair) → s.places ≡ program (shown grouped hs) → slice_get s.text.content z ≡ Some b →
      IsStart s x → x ≤ z → IsWalkFrom s x w → IsUpTo z w × ((last_of w).1 ≤ z)
  stays_before s x w runs at start near walk =
      let place = place_at s.places (last_of w).0 in
      let m : Found = record { pattern = pattern_at place; start = x; end = (last_of w).1 } in
      let in_s : IsSpelledIn s m = record {
        is_start = start;
        walk = w;
        is_walk = walk;
        pattern = match_place_is (only s.anchoring) place (walk_ends (next_of s) (EndsIn s) walk);
        position = refl;
      } in
      let shown_spelled = (greatest_law.by_program (shown grouped hs) s m (shown_all HasBounds without_groups_bounded grouped hs ok) runs).0 in_s in
      let spelled = (group_law.shown_spells s.text grouped 0 hs m.pattern x m.end).0 shown_spelled.3 in
      let last : (last_of w).1 ≤ z =
      ⊎_elim (λ past. absurd (false≢true (sym (out s.text m.pattern x m.end z b spelled near past at) ∙ stop))) (λ le. le) (cases_lt z m.end) in
      let within = walk_within s.places s.text s.hi (EndsIn s) x walk
      (λ n i. ⊎_elim (λ q. let e : x ≡ n.1 = ap (λ (k : Pair). k.1) q in (omega (arith, e), omega (arith, e, start.1))) (λ never. absurd never) i) in
      ((λ k i. let l = within.0 k i in omega (arith, l.1, last)), last)

  -- a search whose content is the beginning of another's, and has the byte
  module _ (s t : Search) (inside : IsInside s) (on : GoesOnFrom s t) (runs : s.places ≡ program (shown grouped hs))
      (at : slice_get s.text.content z ≡ Some b) (far : z + 4 ≤ s.hi) where
    abbrev r : ℕ
    r = length s.text.content

    same : AreAlike 0 0 r s t
    same = alike s t r inside on.0 on.1

    short : s.hi ≤ r
    short = let h = inside.hi in let l = inside.slice_end in omega (arith, h, l)

    same_byte : (p : ℕ) → p ≤ z → slice_get t.text.content p ≡ slice_get s.text.content p
    same_byte p h =
        let l = short in
        ap (slice_get t.text.content) (omega arith) ∙ same.content p (omega arith) (omega (arith, h, far, l)) (omega (arith, h, far))

    -- four bytes after a position tell the ways from there
    same_next : (n : Pair) → n.1 ≤ z → next_of t n ≡ next_of s n
    same_next n h =
        let l = short in
        let few = few_seen (place_at s.places n.0) in
        ap (λ i. next_of t (n.0, i)) (omega arith)
        ∙ (agree s t 0 0 r same).same_ways n (omega arith, omega (arith, h, far), omega (arith, h, far, l, few)) ∙ walk_stays (next_of s n)

    same_ends : (n : Pair) → ends t n ≡ ends s n
    same_ends n = ap₂ (λ a ps. is_match_place (only a) (place_at ps n.0)) on.1.anchoring on.1.places

    agrees_there : AgreeUpTo z s t
    agrees_there = record {
      start = λ x h start.
          let l = short in
          let above = (same.bound x (omega arith) (omega (arith, h, far, l))).0 start.1 in
          start_kept s t x on.1.lo on.1.anchoring (omega (arith, above)) start;
      next = same_next;
      ends = same_ends;
      byte = same_byte;
      near = λ x w h start walk. stays_before s x w runs at start h walk;
      passes_over = on.1.passes_over;
      places = on.1.places;
    }

    agrees_back : AgreeUpTo z t s
    agrees_back = record {
      start = λ x h start. start_kept t s x (sym on.1.lo) (sym on.1.anchoring) (omega (arith, h, far)) start;
      next = λ n h. sym (same_next n h);
      ends = λ n. sym (same_ends n);
      byte = λ p h. sym (same_byte p h);
      near = λ x w h start walk. stays_before t x w (on.1.places ∙ runs) (same_byte z (omega arith) ∙ at) start h walk;
      passes_over = sym on.1.passes_over;
      places = sym on.1.places;
    }

    pub match_there : (kind : MatchKind) (m : Found) → kind ≢ all_matches → m.start ≤ z → answer_by kind s ≡ Some m → answer_by kind t ≡ Some m
    match_there = match_kept z s t agrees_there agrees_back

    pub match_here : (kind : MatchKind) (m : Found) → kind ≢ all_matches → m.start ≤ z → answer_by kind t ≡ Some m → answer_by kind s ≡ Some m
    match_here = match_kept z t s agrees_back agrees_there

-- ---- a byte that no pattern's text has, with three bytes behind it, settles what is before

module _ (q : Sought) (kind : MatchKind) (i : Searched) (other : kind ≢ all_matches) (ok : All HasBounds q.patterns) (stops : List Bool)
    (out : (t : Text) → LeavesOut t q.patterns stops) (z b : ℕ) (is : slice_get i.content z ≡ Some b) (stop : IsTrue (is_stop stops b))
    (far : z + 4 ≤ high i) where
  -- a search from any position on
  abbrev S : ℕ → Search
  S at = from_on (search_for q i) at

  inside : (at : ℕ) → IsInside (S at)
  inside at = record { lo = omega arith; hi = omega arith; slice_end = omega arith }

  -- a match that begins up to the byte is final
  pub final_by_stop : (at : ℕ) (m : Found) → answer_by kind (S at) ≡ Some m → m.start < z + 1 → IsPartial kind (S at) (final m)
  final_by_stop at m e early t on =
      match_there q.patterns q.grouped ok stops out z b stop (S at) t (inside at) on refl is far kind m other (omega (arith, early)) e

  -- if none does, none will
  pub from_stop : (at : ℕ) (o : Option Found) → answer_by kind (S at) ≡ o → IfSome o (λ m. z + 1 ≤ m.start) →
      IsPartial kind (S at) (from_place (z + 1))
  from_stop at o answer before t on m e =
      ⊎_elim
      (λ early.
      let here = match_here q.patterns q.grouped ok stops out z b stop (S at) t (inside at) on refl is far kind m other (omega (arith, early)) e in
      subst (λ x. IfSome x (λ (f : Found). z + 1 ≤ f.start)) (sym answer ∙ here) before)
      (λ ge. ge)
      (cases_lt m.start (z + 1))

  pub settled_by_stop : IsSettledBefore kind (search_for q i) (z + 1)
  settled_by_stop = record { final = final_by_stop; onward = from_stop }
