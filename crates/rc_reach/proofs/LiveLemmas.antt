-- The list of the matches of an edited content.
use Rattle.std.proofs.Common.{◌≡◌, ℕ, ◌+◌, ◌-◌, ◌≤◌, List, ◌++◌, length, map, take, drop, max, Option, Some, None, ⊎_elim, sym, ap, ap₂, ◌∙◌, refl, arith, take-take, take-add, length-take, length-drop, length-append, slice_range}
use Rattle.std.specs.List.{slice_get}
use Rattle.std.proofs.Math.Seq.{drop-append-add, drop-append_seam, take-length}
use Rattle.std.proofs.lemmas.Bool.{cases_Bool}
use Rattle.std.proofs.lemmas.List.{take-append-le, take_rest, drop-drop, length-take-le}
use Rattle.rc_text.specs.Found.{Found}
use Rattle.rc_text.specs.declared.types.MatchKind.TheVariants.{LeftmostFirst as leftmost_first, LeftmostLongest as leftmost_longest, All as all_matches}
use Rattle.rc_text.specs.declared.types.MatchKind.{MatchKind}
use Rattle.rc_program.specs.Kinds.{answer_by_from}
use Rattle.rc_reach.proofs.LongestLemmas.{same_longest}
use Rattle.rc_reach.proofs.GreatestLemmas.{same_greatest}
use Rattle.rc_text.proofs.Ranges.{slice_get-slice_range}
use Rattle.rc_program.specs.Looks.{side_before}
use Rattle.rc_program.specs.Answer.{Search, found}
use Rattle.rc_program.specs.Matches.{AreMatches, begin_of, end_of, from_on, is_again, next_match, unless_again}
use Rattle.rc_program.proofs.KindLemmas.{kinds_law}
use Rattle.rc_program.proofs.SideLemmas.{side_before-append}
use Rattle.rc_reach.specs.Settled.{AgreesBelow, IsInside, IsSettled}
use Rattle.rc_reach.specs.Alike.{AreAlike}
use Rattle.rc_reach.specs.Edits.{match_further}
use Rattle.rc_reach.specs.Edits
use Rattle.rc_reach.specs.Edits.{IsMove, FindsOn, IsFurther, edited}
use Rattle.rc_reach.specs.Live
use Rattle.rc_reach.specs.Live.{over_content, found_by, found_in, list_by, IsNextSettled, AreSettled, on, LiveLaw}
use Rattle.rc_reach.proofs.AlikeLemmas.{same_answer}
use Rattle.rc_reach.proofs.KnownLemmas.{all_known, longest_known, whole_known}
use Rattle.rc_reach.proofs.EditLemmas as edits

-- ---- contents that are the same from a place on

module _ (s : Search) (c1 c2 : List ℕ) (p1 p2 d : ℕ) (same : drop p1 c1 ≡ drop p2 c2) (there : p2 ≡ p1 + d) (in1 : p1 ≤ length c1) (in2 : p2 ≤ length c2) where
  lengths : length c1 + d ≡ length c2
  lengths =
      let a = ap length same in
      let b = length-drop p1 c1 in
      let e = length-drop p2 c2 in omega (arith, a, b, e, there, in1, in2)

  rests : (p : ℕ) → p1 ≤ p → drop (p + d) c2 ≡ drop p c1
  rests p h =
      let n1 : p1 + (p - p1) ≡ p = omega (arith, h) in
      let n2 : p2 + (p - p1) ≡ p + d = omega (arith, h, there) in
      sym (drop-drop (p - p1) p2 c2 ∙ ap (λ n. drop n c2) n2) ∙ sym (ap (drop (p - p1)) same) ∙ drop-drop (p - p1) p1 c1 ∙ ap (λ n. drop n c1) n1

  -- what stands before, four bytes on
  front : (c : List ℕ) (q p : ℕ) → q + 4 ≤ p → p ≤ length c → side_before (slice_range c 0 p) ≡ side_before (take (p - q) (drop q c))
  front c q p h inside =
      let split : q + (p - q) ≡ p = omega (arith, h) in
      let l = length-take (p - q) (drop q c) in
      let m = length-drop q c in
      ap (λ n. side_before (take n c)) (let z : p - 0 ≡ q + (p - q) = omega (arith, split) in z) ∙ ap side_before (take-add q (p - q) c)
      ∙ side_before-append (take q c) (take (p - q) (drop q c)) (omega (arith, l, m, h, inside))

  befores : (p : ℕ) → p1 + 4 ≤ p → p ≤ length c1 → side_before (slice_range c2 0 (p + d)) ≡ side_before (slice_range c1 0 p)
  befores p h inside =
      let l = lengths in
      let as_far : (p + d) - p2 ≡ p - p1 = omega (arith, there, h) in
      front c2 p2 (p + d) (omega (arith, h, there)) (omega (arith, inside, l))
      ∙ ap₂ (λ n xs. side_before (take n xs)) as_far (sym same) ∙ sym (front c1 p1 p h inside)

  to_end : (p r : ℕ) → p1 ≤ p → take (r - p) (slice_range c2 (p + d) (length c2)) ≡ take (r - p) (slice_range c1 p (length c1))
  to_end p r h = ap (take (r - p)) (take_rest c2 (p + d) ∙ rests p h ∙ sym (take_rest c1 p))

  gets : (p : ℕ) → p1 ≤ p → slice_get c2 (p + d) ≡ slice_get c1 p
  gets p h =
      let n2 : (p + d) + 0 ≡ p + d = omega arith in
      let n1 : p + 0 ≡ p = omega arith in
      let k : (p + d) + 1 - (p + d) ≡ p + 1 - p = omega arith in
      sym (slice_get-slice_range c2 (p + d) ((p + d) + 1) 0 (omega arith) ∙ ap (slice_get c2) n2)
      ∙ ap₂ (λ n xs. slice_get (take n xs) 0) k (rests p h)
      ∙ slice_get-slice_range c1 p (p + 1) 0 (omega arith) ∙ ap (slice_get c1) n1

  alike_on : (k r : ℕ) → p1 + 4 ≤ k → AreAlike d (p1 + 4) r (from_on (over_content s c1) k) (from_on (over_content s c2) (k + d))
  alike_on k r h = record {
    places = refl;
    terminator = refl;
    anchoring = refl;
    passes_over = refl;
    lo = omega arith;
    above = omega (arith, h);
    bound = λ p a b. let l = lengths in ((λ z. omega (arith, z, l)), (λ z. omega (arith, z, l)));
    before = λ p a b z. befores p a z;
    read = λ p a b z. to_end p r (omega (arith, a));
    seen = λ p a b z. to_end p r (omega (arith, a));
    content = λ p a b z. gets p (omega (arith, a));
  }

  -- from there on the second finds what the first finds, so many bytes further on
  pub further_on : IsFurther begin_of end_of (found_in s c1) (found_in s c2) (match_further d) d (p1 + 4)
  further_on j h =
      let r = length c1 + 5 in
      let r2 = max (length c1 + 5) (p1 + 4) in
      same_answer (from_on (over_content s c1) j) (from_on (over_content s c2) (j + d)) d (p1 + 4) r2 (alike_on j r2 h) (omega arith)
      (all_known (from_on (over_content s c1) j) r2 (omega arith))

  -- whichever match is sought
  pub further_by : (kind : MatchKind) → IsFurther begin_of end_of (answer_by_from kind (over_content s c1)) (answer_by_from kind (over_content s c2)) (match_further d) d (p1 + 4)
  further_by leftmost_first j h = further_on j h
  further_by leftmost_longest j h =
      let r = max (length c1 + 5) (p1 + 4) in
      same_longest (from_on (over_content s c1) j) (from_on (over_content s c2) (j + d)) d (p1 + 4) r (alike_on j r h) (omega arith)
      (longest_known (from_on (over_content s c1) j) r (omega arith))
  further_by all_matches j h =
      let r = max (length c1 + 5) (p1 + 4) in
      same_greatest (from_on (over_content s c1) j) (from_on (over_content s c2) (j + d)) d (p1 + 4) r (alike_on j r h) (omega arith)
      (whole_known (from_on (over_content s c1) j) r (omega arith))

-- ---- what an edit leaves

module _ (content bytes : List ℕ) (a b : ℕ) (order : a ≤ b) (inside : b ≤ length content) where
  abbrev new : List ℕ
  new = edited content a b bytes

  length_front : length (take a content) ≡ a
  length_front = length-take-le a content (omega (arith, order, inside))

  same_front : take a new ≡ take a content
  same_front =
      let l = length_front in
      take-append-le a (take a content) (bytes ++ drop b content) (omega (arith, l)) ∙ take-take a a content (omega arith)

  pub same_rest : drop (a + length bytes) new ≡ drop b content
  same_rest =
      ap (λ n. drop (n + length bytes) new) (sym length_front) ∙ drop-append-add (take a content) (bytes ++ drop b content) (length bytes)
      ∙ drop-append_seam bytes (drop b content)

  pub length_new : length new ≡ a + length bytes + (length content - b)
  length_new =
      let l = length_front in
      let m = length-append (take a content) (bytes ++ drop b content) in
      let n = length-append bytes (drop b content) in
      let o = length-drop b content in omega (arith, l, m, n, o)

  module _ (s : Search) where
    pub whole_inside : (c : List ℕ) (k : ℕ) → IsInside (from_on (over_content s c) k)
    whole_inside c k = record { lo = omega arith; hi = omega arith; slice_end = omega arith }

    whole_front : take a (take (length new) new) ≡ take a (take (length content) content)
    whole_front = ap (take a) (take-length new) ∙ same_front ∙ sym (ap (take a) (take-length content))

    pub agree_front : (k : ℕ) → AgreesBelow a (from_on (over_content s content) k) (from_on (over_content s new) k)
    agree_front k = record {
      places = refl;
      terminator = refl;
      slice_start = refl;
      lo = refl;
      anchoring = refl;
      passes_over = refl;
      read = whole_front;
      seen = whole_front;
      content = same_front;
    }

pub moves : (d : ℕ) → IsMove begin_of end_of (match_further d) d
moves d = λ m. (refl, refl)

finds_by : (kind : MatchKind) (s : Search) (c : List ℕ) → FindsOn end_of (found_by kind s c)
finds_by kind s c = λ k m e. let h = kinds_law.within kind (over_content s c) k m e in omega (arith, h.0, h.2)

module _ (kind : MatchKind) (content bytes : List ℕ) (a b : ℕ) (order : a ≤ b) (inside : b ≤ length content) (s : Search) where
  abbrev edit : List ℕ
  edit = edited content a b bytes

  same_found : (k : ℕ) → IsSettled kind a (from_on (over_content s content) k) → found_by kind s edit k ≡ found_by kind s content k
  same_found k settled =
      settled (from_on (over_content s edit) k) (whole_inside content bytes a b order inside s edit k) (agree_front content bytes a b order inside s k)

  same_unless : (k : ℕ) (last : Option ℕ) (o : Option Found) → found_by kind s content k ≡ o → IsNextSettled kind s content a k last →
      unless_again begin_of end_of (found_by kind s edit) k last o ≡ unless_again begin_of end_of (found_by kind s content) k last o
  same_unless k last None e settled = refl
  same_unless k last (Some m) e settled =
      ⊎_elim (λ t. rw t (same_found (k + 1) (settled.later m e t))) (λ f. rw f refl) (cases_Bool (is_again begin_of end_of last m))

  same_next : (k : ℕ) (last : Option ℕ) → IsNextSettled kind s content a k last →
      next_match begin_of end_of (found_by kind s edit) k last ≡ next_match begin_of end_of (found_by kind s content) k last
  same_next k last settled =
      ap (unless_again begin_of end_of (found_by kind s edit) k last) (same_found k settled.here)
      ∙ same_unless k last (found_by kind s content k) refl settled

  kept_of : {k j : ℕ} {last after : Option ℕ} {ms : List Found} → AreSettled kind s content a k last ms j after →
      Edits.AreKept begin_of end_of (found_by kind s content) (found_by kind s edit) k last ms j after
  kept_of Live.here = Edits.here
  kept_of (Live.goes_on {k = k} {last = last} m e settled more) = Edits.goes_on m e (same_next k last settled) (kept_of more)

longer_by : (kind : MatchKind) (s : Search) (content bytes : List ℕ) (a b d i k : ℕ) (last after : Option ℕ) (kept anew rest : List Found) →
    a ≤ b → b ≤ length content → a + length bytes ≡ b + d → AreSettled kind s content a 0 None kept i last →
    Edits.Begins begin_of end_of (found_by kind s (edited content a b bytes)) i last anew (k + d) (on d after) → b + 4 ≤ k →
    AreMatches begin_of end_of (found_by kind s content) k after rest →
    kept ++ (anew ++ map (match_further d) rest) ≡ list_by kind s (edited content a b bytes)
longer_by kind s content bytes a b d i k last after kept anew rest order inside size settled found far old =
    let new = edited content a b bytes in
    let l = length_new content bytes a b order inside in
    let on_from = further_by s content new b (a + length bytes) d (sym (same_rest content bytes a b order inside)) size inside (omega (arith, l)) kind in
    kinds_law.alone kind (over_content s new) 0 (kept ++ (anew ++ map (match_further d) rest))
    (edits.longer begin_of end_of (found_by kind s content) (found_by kind s new) (match_further d) d (moves d) (finds_by kind s content)
    (kept_of kind content bytes a b order inside s settled) found (λ j h. on_from j (omega (arith, far, h))) old)

shorter_by : (kind : MatchKind) (s : Search) (content bytes : List ℕ) (a b d i k : ℕ) (last after : Option ℕ) (kept anew rest : List Found) →
    a ≤ b → b ≤ length content → a + length bytes + d ≡ b → AreSettled kind s content a 0 None kept i last →
    Edits.Begins begin_of end_of (found_by kind s (edited content a b bytes)) i last anew k after → a + length bytes + 4 ≤ k →
    AreMatches begin_of end_of (found_by kind s content) (k + d) (on d after) rest →
    (less : List Found) × (rest ≡ map (match_further d) less) × (kept ++ (anew ++ less) ≡ list_by kind s (edited content a b bytes))
shorter_by kind s content bytes a b d i k last after kept anew rest order inside size settled found far old =
    let new = edited content a b bytes in
    let l = length_new content bytes a b order inside in
    let on_from = further_by s new content (a + length bytes) b d (same_rest content bytes a b order inside) (sym size) (omega (arith, l)) inside kind in
    let r = edits.shorter begin_of end_of (found_by kind s content) (found_by kind s new) (match_further d) d (moves d) (finds_by kind s new)
    (kept_of kind content bytes a b order inside s settled) found (λ j h. on_from j (omega (arith, far, h))) old in
    (r.0, r.1, kinds_law.alone kind (over_content s new) 0 (kept ++ (anew ++ r.0)) r.2)

pub live_law : LiveLaw
live_law = record {
  longer = longer_by;
  shorter = shorter_by;
  moved = λ kind s content bytes a b d k order inside size far.
      further_by s content (edited content a b bytes) b (a + length bytes) d (sym (same_rest content bytes a b order inside)) size inside
      (let l = length_new content bytes a b order inside in omega (arith, l)) kind k far;
  moved_back = λ kind s content bytes a b d k order inside size far.
      further_by s (edited content a b bytes) content (a + length bytes) b d (same_rest content bytes a b order inside) (sym size)
      (let l = length_new content bytes a b order inside in omega (arith, l)) inside kind k far;
}
