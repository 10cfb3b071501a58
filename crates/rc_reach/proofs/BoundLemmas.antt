-- A match of patterns that are not longer than n bytes is settled by as many bytes and four.
use Rattle.std.proofs.Common.{◌≡◌, ◌≢◌, ℕ, ◌+◌, ◌*◌, ◌<◌, ◌≤◌, List, [], ◌∷◌, map, Bool, true, false, IsTrue, Option, Some, None, inr, ⊎_elim, sym, subst, ap, ap₂, ◌∙◌, refl, arith}
use Rattle.std.specs.Prelude.{All, option_and_then, max}
use Rattle.std.proofs.lemmas.List.Elements.{All-cons, All-nil, All-weaker}
use Rattle.std.proofs.lemmas.Bool.{cases_lt}
use Rattle.std.proofs.lemmas.Option.{same_Some}
use Rattle.rc_text.specs.Found.{Found}
use Rattle.rc_text.specs.declared.types.MatchKind.{MatchKind}
use Rattle.rc_text.specs.declared.types.MatchKind.TheVariants.{LeftmostFirst as leftmost_first, LeftmostLongest as leftmost_longest, All as all_matches}
use Rattle.rc_pattern.specs.Re.{Re, empty, literal, byte_in, char_in, look, repeat, capture, cat, alt, none}
use Rattle.rc_pattern.specs.Properties.{both, capped, maximum_len}
use Rattle.rc_pattern.specs.WellFormed.{HasBounds}
use Rattle.rc_walks.specs.Walks.{Pair, IsWalk, stops, goes, EndsAt}
use Rattle.rc_trails.specs.Trails.{IsTrail, AreSeen}
use Rattle.rc_program.specs.Program.{place_at, program, shown, ways, without_groups}
use Rattle.rc_program.proofs.GroupLemmas.{shown_all, without_groups_bounded}
use Rattle.rc_program.proofs.KindLemmas.{kinds_law}
use Rattle.rc_program.specs.Answer.{Search, Chosen, IsStart, IsPassed, IsFirstFrom, answer, chosen, ends, is_allowed, is_anchored, last_of, next_of}
use Rattle.rc_program.specs.Longest.{longest_chosen, longest}
use Rattle.rc_program.specs.Kinds.{answer_by}
use Rattle.rc_program.proofs.AnswerLemmas.{answer_law}
use Rattle.rc_program.proofs.ReachLemmas.{longest_law}
use Rattle.rc_reach.specs.Settled.{IsInside, IsWalkSettled}
use Rattle.rc_reach.specs.Reads.{IsKnownBelow, IsKnownStart, IsBoundKnown, ReadsBelow, IsKnownWholly, ReadsAllBelow, ReadsWholeBelow}
use Rattle.rc_reach.specs.Laws.{greatest_len, LengthLaw}
use Rattle.rc_reach.proofs.KnownLemmas.{few_seen}
use Rattle.rc_reach.proofs.LawLemmas.{reach_law}
use Rattle.rc_reach.proofs.LengthLemmas.{AreShort, both_are, trail_short}

-- ---- lengths without groups

same_len : (h : Re) → maximum_len (without_groups h) ≡ maximum_len h
same_len empty = refl
same_len (literal bs) = refl
same_len (byte_in rs) = refl
same_len (char_in rs) = refl
same_len (look l) = refl
same_len (repeat min None greedy a) = refl
same_len (repeat min (Some most) greedy a) = ap (option_and_then (λ k. capped (most * k))) (same_len a)
same_len (capture n name a) = same_len a
same_len (cat a rest) = ap₂ (both (λ m n. capped (m + n))) (same_len a) (same_len rest)
same_len (alt a rest) = ap₂ (both (λ m n. Some (max m n))) (same_len a) (same_len rest)
same_len none = refl

bare_len : (hs : List Re) → greatest_len (map without_groups hs) ≡ greatest_len hs
bare_len [] = refl
bare_len (h ∷ hs) = ap₂ (both (λ m n. Some (max m n))) (same_len h) (bare_len hs)

shown_len : (grouped : Bool) (hs : List Re) → greatest_len (shown grouped hs) ≡ greatest_len hs
shown_len true hs = refl
shown_len false hs = bare_len hs

are_short : (hs : List Re) (n : ℕ) → greatest_len hs ≡ Some n → AreShort n hs
are_short [] n e = All-nil (λ h. (k : ℕ) × (maximum_len h ≡ Some k) × (k ≤ n))
are_short (h ∷ hs) n e =
    let q = both_are (λ m n. Some (max m n)) (maximum_len h) (greatest_len hs) n e in
    let f = same_Some (max q.0 q.1) n q.4 in
    All-cons (λ h. (k : ℕ) × (maximum_len h ≡ Some k) × (k ≤ n)) h hs (q.0, q.2, omega (arith, f))
    (All-weaker (λ h. (k : ℕ) × (maximum_len h ≡ Some k) × (k ≤ q.1)) (λ h. (k : ℕ) × (maximum_len h ≡ Some k) × (k ≤ n))
    (λ h x. let le = x.2 in (x.0, x.1, omega (arith, f, le))) hs (are_short hs q.1 q.3))

-- a walk is a trail that ends at its last pair
trail_of : (ways : Pair → List Pair) (Ends : Pair → Type 0) {p f w : List Pair} → IsWalk ways Ends p f w → IsTrail ways p f w
trail_of ways Ends (stops n here fresh e) = stops n here fresh tt
trail_of ways Ends (goes n here fresh rest) = goes n here fresh (trail_of ways Ends rest)

ends_there : (n : Pair) (w : List Pair) → EndsAt (n ∷ w) (last_of (n ∷ w))
ends_there n [] = refl
ends_there n (m ∷ w) = ends_there m w

walk_ends_there : (ways : Pair → List Pair) (Ends : Pair → Type 0) {p f w : List Pair} → IsWalk ways Ends p f w → EndsAt w (last_of w)
walk_ends_there ways Ends (stops n here fresh e) = refl
walk_ends_there ways Ends (goes {w = w} n here fresh rest) = ends_there n w

module _ (s : Search) (hs : List Re) (n : ℕ) (runs : s.places ≡ program hs) (ok : All HasBounds hs) (short : AreShort n hs) where
  near : (x : ℕ) (v : List Pair) (e : Pair) → IsTrail (next_of s) [] ((0, x) ∷ []) v → EndsAt v e → e.1 ≤ x + n
  near x v e trail at =
      trail_short hs s.text s.hi n ok short x v e (subst (λ places. IsTrail (ways places s.text s.hi) [] ((0, x) ∷ []) v) runs trail) at

  trails_known : (x r : ℕ) → x + n + 4 ≤ r → AreSeen (next_of s) [] ((0, x) ∷ []) (IsKnownBelow s r)
  trails_known x r h v e trail at =
      let l = near x v e trail at in let few = few_seen (place_at s.places e.0) in omega (arith, h, l, few)

  ends_near : (x r : ℕ) (w : List Pair) → x + n + 4 ≤ r → IsWalk (next_of s) (λ k. IsTrue (ends s k)) [] ((0, x) ∷ []) w → (last_of w).1 < r
  ends_near x r w h walk =
      let l = near x w (last_of w) (trail_of (next_of s) (λ k. IsTrue (ends s k)) walk) (walk_ends_there (next_of s) (λ k. IsTrue (ends s k)) walk) in
      omega (arith, h, l)

  first_known : (x r : ℕ) (w : List Pair) → x + n + 4 ≤ r → IsFirstFrom s x w → IsKnownStart s r x (Some w)
  first_known x r w h first = (first, (λ v e b no at. trails_known x r h v e b at), (λ over. ends_near x r w h first.is_walk))

  passed_known : (x r : ℕ) → x + n + 4 ≤ r → IsPassed s x → (o : Option (List Pair)) × IsKnownStart s r x o
  passed_known x r h p =
      ⊎_elim (λ none. (None, (none, trails_known x r h)))
      (λ (q : (w : List Pair) × IsFirstFrom s x w × (is_allowed s w ≡ false)). (Some q.0, first_known x r q.0 h q.1)) p

  wholly_known : (x r : ℕ) → x + n + 4 ≤ r → IsKnownWholly s r x
  wholly_known x r h = (trails_known x r h, (λ w first over. ends_near x r w h first.is_walk))

  -- the walk of the match, and the starts before it
  reads_to : (c : Chosen) (r : ℕ) → chosen s ≡ Some c → c.start + n + 4 ≤ r → ReadsBelow s r (Some c)
  reads_to c r e h =
      let a = (answer_law.chosen_some s c).0 e in
      λ y start l. ⊎_elim (λ before. passed_known y r (omega (arith, h, l)) (a.none_before y start before))
      (λ here. let same : c.start ≡ y = omega (arith, l, here) in
      subst (λ x. (o : Option (List Pair)) × IsKnownStart s r x o) same (Some c.walk, first_known c.start r c.walk h a.is_first))
      (cases_lt y c.start)

  found_first : (m : Found) → IsInside s → answer s ≡ Some m → IsWalkSettled leftmost_first (m.start + n + 4) s
  found_first m inside e =
      let r = (answer_law.answer_some s m).0 e in
      let at : r.0.start ≡ m.start = ap (λ (f : Found). f.start) r.2 in
      let some = (answer_law.chosen_some s r.0).1 r.1 in
      reach_law.preferred s (m.start + n + 4) inside
      (subst (ReadsBelow s (m.start + n + 4)) (sym some) (reads_to r.0 (m.start + n + 4) some (omega (arith, at))))

  found_longest : (m : Found) → IsInside s → longest s ≡ Some m → IsWalkSettled leftmost_longest (m.start + n + 4) s
  found_longest m inside e =
      let r = (longest_law.answer_some s m).0 e in
      let at : r.0.start ≡ m.start = ap (λ (f : Found). f.start) r.2 in
      let some = (longest_law.chosen_some s r.0).1 r.1 in
      reach_law.longest s (m.start + n + 4) inside
      (subst (ReadsAllBelow s (m.start + n + 4)) (sym some) (λ y start l. wholly_known y (m.start + n + 4) (omega (arith, at, l))))

  -- where a match ends
  match_short : (kind : MatchKind) (m : Found) → answer_by kind s ≡ Some m → (m.end ≤ m.start + n) × IsStart s m.start
  match_short kind m e =
      let w = kinds_law.spelled kind false s m (sym e) in
      let at = w.position in
      let l = near m.start w.walk (last_of w.walk) (trail_of (next_of s) (λ k. IsTrue (ends s k)) w.is_walk)
      (walk_ends_there (next_of s) (λ k. IsTrue (ends s k)) w.is_walk) in (omega (arith, at, l), w.is_start)

  found_by_kind : (kind : MatchKind) (m : Found) → IsInside s → kind ≢ all_matches → answer_by kind s ≡ Some m → IsWalkSettled kind (m.start + n + 4) s
  found_by_kind leftmost_first m inside other e = found_first m inside e
  found_by_kind leftmost_longest m inside other e = found_longest m inside e
  found_by_kind all_matches m inside other e = absurd (other refl)

  -- the one start of an anchored search
  module _ (inside : IsInside s) (anchored : IsTrue (is_anchored s.anchoring)) where
    abbrev r : ℕ
    r = s.lo + n + 4

    bound : IsBoundKnown s r
    bound = inr (anchored, omega arith)

    one_start : (y : ℕ) → IsStart s y → y + n + 4 ≤ r
    one_start y start = let e = start.2 anchored in omega (arith, e)

    reads_of : (o : Option Chosen) → chosen s ≡ o → ReadsBelow s r o
    reads_of None e =
        let none = (answer_law.chosen_none s).0 e in
        ((λ y start l. passed_known y r (one_start y start) (none y start)), bound)
    reads_of (Some c) e = reads_to c r e (one_start c.start ((answer_law.chosen_some s c).0 e).is_start)

    reads_all_of : (o : Option Chosen) → ReadsAllBelow s r o
    reads_all_of None = ((λ y start l. wholly_known y r (one_start y start)), bound)
    reads_all_of (Some c) = λ y start l. wholly_known y r (one_start y start)

    reads_whole : ReadsWholeBelow s r
    reads_whole = record { starts = λ y start. trails_known y r (one_start y start); bound = bound }

    anchored_by_kind : (kind : MatchKind) → IsWalkSettled kind r s
    anchored_by_kind leftmost_first = reach_law.preferred s r inside (reads_of (chosen s) refl)
    anchored_by_kind leftmost_longest = reach_law.longest s r inside (reads_all_of (longest_chosen s))
    anchored_by_kind all_matches = reach_law.greatest s r inside reads_whole

pub length_law : LengthLaw
length_law = record {
  found = λ kind s grouped hs m n inside runs ok len other e.
      let bounded = shown_all HasBounds without_groups_bounded grouped hs ok in
      let short = are_short (shown grouped hs) n (shown_len grouped hs ∙ len) in (
        found_by_kind s (shown grouped hs) n runs bounded short kind m inside other e,
        (match_short s (shown grouped hs) n runs bounded short kind m e).0,
      );
  anchored = λ kind s grouped hs n inside runs ok len anchored.
      let bounded = shown_all HasBounds without_groups_bounded grouped hs ok in
      let short = are_short (shown grouped hs) n (shown_len grouped hs ∙ len) in (
        anchored_by_kind s (shown grouped hs) n runs bounded short inside anchored kind,
        λ m e. let z = match_short s (shown grouped hs) n runs bounded short kind m e in
            let same = z.1.2 anchored in let l = z.0 in omega (arith, same, l),
      );
}
