-- How many bytes settle what engines find.
use Rattle.std.proofs.Common.{◌≡◌, ◌∙◌, ℕ, zero, suc, ◌+◌, ◌-◌, ◌^◌, ◌<◌, ◌≤◌, ◌⊎◌, max, min, true, false, true≢false, List, [], ◌∷◌, take, Option, Some, None, IfSome, ⊎_elim, ap, sym, subst, refl, arith}
use Rattle.std.specs.Prelude.{MatchOption}
use Rattle.std.specs.Option.{option_map}
use Rattle.std.proofs.lemmas.Bool.{cases_lt}
use Rattle.std.proofs.lemmas.Option.{none-some, same_Some}
use Rattle.std.proofs.lemmas.List.{length-take, take-take}
use Rattle.rc_text.specs.declared.types.MatchKind.{MatchKind}
use Rattle.rc_text.specs.declared.types.MatchKind.TheVariants.{All as all_matches}
use Rattle.rc_program.specs.Answer.{Search}
use Rattle.rc_program.proofs.GreatestLemmas.{spelled_within}
use Rattle.rc_program.proofs.KindLemmas.{kinds_law}
use Rattle.rc_text.specs.Bounds.{IsWithinBounds}
use Rattle.rc_text.specs.Found.{Found}
use Rattle.rc_text.specs.Text.{Keeps, Searched, slice_end}
use Rattle.rc_program.specs.Kinds.{answer_by}
use Rattle.rc_pikevm_search.specs.Engine.{engine_search}
use Rattle.rc_pikevm_search.specs.declared.engine.Engine.{Engine}
use Rattle.rc_program.specs.Places.{places_of}
use Rattle.rc_reach.specs.Settled.{AgreesBelow, IsInside, IsSettled, IsWalkSettled}
use Rattle.rc_reach.proofs.LawLemmas.{reach_law}
use Rattle.rc_reach.proofs.SliceLemmas.{slice_law}
use Rattle.rc_dfa_search.specs.Reaches.{IsAnswerBelow}
use Rattle.rc_dfa_search.specs.declared.reach.Settled.{Settled}
use Rattle.rc_dfa_search.proofs.ReachLemmas.{answer_far, itself}
use Rattle.rc_dfa_search.proofs.SettledLemmas.{agrees_less}
use Rattle.rc_strategy.specs.Lengths.{BoundsWalks, is_leftmost}
use Rattle.rc_strategy.specs.Lookahead.{IsLookahead, IsNearBy}
use Rattle.rc_strategy.specs.declared.lengths.Lengths.{Lengths}
use Rattle.rc_strategy.proofs.NearLemmas.{groups_settled, near_settled, none_settled}

engine_inside : (e : Engine) (i : Searched) → IsInside (engine_search e i)
engine_inside e i = record { lo = omega arith; hi = omega arith; slice_end = omega arith }

same_end : (i j : Searched) → Keeps i j → slice_end j ≡ slice_end i
same_end i j k = rw (k.content, k.slice) refl

-- a search that may have looked at the end
pub at_end : (e : Engine) (i j : Searched) (o : Settled) (found : Option Found) → Keeps i j → o.found ≡ found → slice_end j + 1 ≤ o.reach →
    found ≡ answer_by e.kind (engine_search e i) → IsAnswerBelow e.kind (engine_search e i) o.reach o.found
at_end e i j o found keeps is far answers =
    let same = same_end i j keeps in
    answer_far e.kind (engine_search e i) o.reach o.found (engine_inside e i) (omega (arith, far, same)) (sym (is ∙ answers))

pub past_end : (i j : Searched) (o : Settled) (found : Option Found) → Keeps i j → o.found ≡ found → slice_end j + 1 ≤ o.reach → IfSome found (IsWithinBounds i) →
    IfSome o.found (λ m. m.end ≤ o.reach)
past_end i j o found keeps is far within = subst (λ f. IfSome f (λ m. m.end ≤ o.reach)) (sym is) (below found within)
  where
    below : (f : Option Found) → IfSome f (IsWithinBounds i) → IfSome f (λ m. m.end ≤ o.reach)
    below None w = tt
    below (Some m) w = let end = w.2 in let same = same_end i j keeps in omega (arith, end, far, same)

-- The search of what stands before r alone.
abbrev cut : ℕ → Search → Search
cut r s = record s {
  text = record s.text { content = take r s.text.content; slice_end = min r s.text.slice_end };
  hi = min r s.hi;
}

cut_take : (r n : ℕ) (xs : List ℕ) → take r (take (min r n) (take r xs)) ≡ take r (take n xs)
cut_take zero n xs = refl
cut_take (suc r) zero xs = let none : min (suc r) 0 ≡ 0 = omega arith in rw none refl
cut_take (suc r) (suc n) [] = let more : min (suc r) (suc n) ≡ suc (min r n) = omega arith in rw more refl
cut_take (suc r) (suc n) (x ∷ xs) =
    let more : min (suc r) (suc n) ≡ suc (min r n) = omega arith in rw more (ap (λ ys. x ∷ ys) (cut_take r n xs))

cut_agrees : (r : ℕ) (s : Search) → AgreesBelow r s (cut r s)
cut_agrees r s = record {
  places = refl;
  terminator = refl;
  slice_start = refl;
  lo = refl;
  anchoring = refl;
  passes_over = refl;
  read = cut_take r s.hi s.text.content;
  seen = cut_take r s.text.slice_end s.text.content;
  content = take-take r r s.text.content (omega arith);
}

cut_inside : (r : ℕ) (s : Search) → IsInside s → IsInside (cut r s)
cut_inside r s inside =
    let lo = inside.lo in
    let hi = inside.hi in
    let end = inside.slice_end in
    record {
      lo = lo;
      hi = omega (arith, hi);
      slice_end = omega (arith, end, length-take r s.text.content);
    }

-- Bytes that settle a match go as far as its end.
pub settled_past : (kind : MatchKind) (r : ℕ) (s : Search) (o : Option Found) → IsInside s → IsAnswerBelow kind s r o → IfSome o (λ m. m.end ≤ r)
settled_past kind r s None inside settled = tt
settled_past kind r s (Some m) inside settled =
    let at = (spelled_within (cut r s) m (kinds_law.spelled kind false (cut r s) m (sym (settled (cut r s) (cut_inside r s inside) (cut_agrees r s))))).2 in
    omega (arith, at)

-- A search that told its reach.
pub below : (e : Engine) (i : Searched) (o : Option Found) (r : ℕ) → o ≡ answer_by e.kind (engine_search e i) → IsSettled e.kind r (engine_search e i) →
    IsAnswerBelow e.kind (engine_search e i) r o
below e i o r is settled t inside agrees = settled t inside agrees ∙ sym is

pub past_reach : (e : Engine) (i : Searched) (o : Option Found) (r : ℕ) → IsAnswerBelow e.kind (engine_search e i) r o → IfSome o (λ m. m.end ≤ r)
past_reach e i o r = settled_past e.kind r (engine_search e i) o (engine_inside e i)

-- BY LENGTHS

pub by_length : (e : Engine) (i : Searched) (k : Lengths) (a n r : ℕ) (m : Found) → BoundsWalks k (places_of e.program.places.items) →
    IsLookahead e.program.passes_over (places_of e.program.places.items) a → Some m ≡ answer_by e.kind (engine_search e i) → is_leftmost e.kind ≡ true →
    k.greatest ≡ Some n → slice_end i + 1 < 2 ^ 64 → r ≡ min (min (m.start + n) (2 ^ 64 - 1) + a) (2 ^ 64 - 1) →
    IsAnswerBelow e.kind (engine_search e i) r (Some m)
by_length e i k a n r m bound looking is left most fits at =
    ⊎_elim
    (λ over. answer_far e.kind (engine_search e i) r (Some m) (engine_inside e i) (omega (arith, at, over, fits)) (sym is))
    (λ within.
    near_settled e.kind (engine_search e i) a n r m (λ all. true≢false (sym left ∙ ap is_leftmost all)) (engine_inside e i) looking.looks
    (λ u f same spells. (bound u f same spells).greatest n most) (omega (arith, at, within))
    (λ over. let one = looking.passing over in omega (arith, at, within, one)) (sym is))
    (cases_lt (2 ^ 64 - 1) (m.start + n + a))

-- where nothing was found, or lengths have no bound
pub none_near : (kind : MatchKind) (a r : ℕ) (o : Option Found) (greatest : Option ℕ) → (o ≡ None) ⊎ (greatest ≡ None) → IsNearBy kind greatest a o r
none_near kind a r None greatest none = tt
none_near kind a r (Some m) greatest none =
    λ n left most. absurd (⊎_elim (λ never. cc) (λ no. none-some n (sym no ∙ most)) none)

-- a match that is near, by a greatest length
pub some_near : (kind : MatchKind) (a r q : ℕ) (o : Option Found) (m : Found) (greatest : Option ℕ) (n : ℕ) → o ≡ Some m → greatest ≡ Some n →
    r ≤ m.start + n + a → q ≤ r → IsNearBy kind greatest a o q
some_near kind a r q o m greatest n some most near less =
    subst (λ x. IsNearBy kind greatest a x q) (sym some)
    (λ k left is. let same = same_Some n k (sym most ∙ is) in omega (arith, same, near, less))

-- the greatest match needn't be
pub whole_near : (kind : MatchKind) (a r : ℕ) (o : Option Found) (greatest : Option ℕ) → kind ≡ all_matches → IsNearBy kind greatest a o r
whole_near kind a r None greatest all = tt
whole_near kind a r (Some m) greatest all = λ n left most. absurd (true≢false (sym left ∙ ap is_leftmost all))

-- the lesser of two counts
pub lesser : (e : Engine) (i : Searched) (o : Option Found) (m n : ℕ) → IsAnswerBelow e.kind (engine_search e i) m o → IsAnswerBelow e.kind (engine_search e i) n o →
    IsAnswerBelow e.kind (engine_search e i) (min m n) o
lesser e i o m n x y =
    ⊎_elim (λ l. let same : m ≡ min m n = omega (arith, l) in subst (λ r. IsAnswerBelow e.kind (engine_search e i) r o) same x)
    (λ g. let same : n ≡ min m n = omega (arith, g) in subst (λ r. IsAnswerBelow e.kind (engine_search e i) r o) same y) (cases_lt m n)

-- what was found is the answer
pub answered : (e : Engine) (i : Searched) (r : ℕ) (o : Option Found) → IsAnswerBelow e.kind (engine_search e i) r o → o ≡ answer_by e.kind (engine_search e i)
answered e i r o h = sym (h (engine_search e i) (engine_inside e i) (itself (engine_search e i) r))

-- a symbol depends on bytes after its own
pub seen_far : (e : Engine) (i : Searched) (r q : ℕ) (o : Option Found) → slice_end i + 1 < 2 ^ 64 → q ≡ min (r + 3) (2 ^ 64 - 1) →
    IsAnswerBelow e.kind (engine_search e i) (r + 3) o → IsAnswerBelow e.kind (engine_search e i) q o
seen_far e i r q o fits is h =
    ⊎_elim
    (λ over. answer_far e.kind (engine_search e i) q o (engine_inside e i) (omega (arith, is, over, fits)) (sym (answered e i (r + 3) o h)))
    (λ within. let same : r + 3 ≡ q = omega (arith, is, within) in subst (λ n. IsAnswerBelow e.kind (engine_search e i) n o) same h)
    (cases_lt (2 ^ 64 - 1) (r + 3))

-- GROUPS

settled_more : (e : Engine) (i : Searched) (r q : ℕ) (o : Option Found) → r ≤ q → IsAnswerBelow e.kind (engine_search e i) r o →
    IsSettled e.kind q (engine_search e i)
settled_more e i r q o le h t in2 agrees =
    h t in2 (agrees_less (engine_search e i) t r q le agrees) ∙ answered e i r o h

-- without a match
pub groups_none : (e : Engine) (i : Searched) (r : ℕ) (o : Option Found) → o ≡ None → IsAnswerBelow e.kind (engine_search e i) r o →
    IsWalkSettled e.kind r (engine_search e i)
groups_none e i r o none h =
    none_settled e.kind (engine_search e i) r (sym (answered e i r o h) ∙ none) (settled_more e i r r o (omega arith) h)

pub groups_some : (e : Engine) (i : Searched) (a r q : ℕ) (o : Option Found) (m : Found) → IsLookahead e.program.passes_over (places_of e.program.places.items) a →
    o ≡ Some m → IsAnswerBelow e.kind (engine_search e i) r o → slice_end i + 1 < 2 ^ 64 → q ≡ max r (min (m.end + a) (2 ^ 64 - 1)) →
    IsWalkSettled e.kind q (engine_search e i)
groups_some e i a r q o m looking some h fits at =
    ⊎_elim
    (λ over. reach_law.more e.kind (engine_search e i) (slice_end i + 1) q (omega (arith, at, over, fits)) (slice_law e.kind (engine_search e i) (engine_inside e i)))
    (λ within.
    groups_settled e.kind (engine_search e i) a q m (engine_inside e i) looking.looks (omega (arith, at, within)) (sym (answered e i r o h) ∙ some)
    (settled_more e i r q o (omega (arith, at)) h))
    (cases_lt (2 ^ 64 - 1) (m.end + a))

-- groups are settled no farther from the start
pub groups_near : (e : Engine) (i : Searched) (k : Lengths) (a r q : ℕ) (o : Option Found) (m : Found) → BoundsWalks k (places_of e.program.places.items) → o ≡ Some m →
    IsAnswerBelow e.kind (engine_search e i) r o → IsNearBy e.kind k.greatest a o r → q ≡ max r (min (m.end + a) (2 ^ 64 - 1)) →
    IsNearBy e.kind k.greatest a o q
groups_near e i k a r q o m bound some h near at =
    subst (λ x. IsNearBy e.kind k.greatest a x q) (sym some)
    (λ n left most.
    let less = subst (λ x. IsNearBy e.kind k.greatest a x r) some near n left most in
    let spelled = kinds_law.spelled e.kind false (engine_search e i) m (sym some ∙ answered e i r o h) in
    let end = (bound (engine_search e i) m refl spelled).greatest n most in omega (arith, at, less, end))

-- what holds with a match holds with its pattern
pub slots_by_pattern : (o : Option Found) (A B : Type 0) → MatchOption o A (λ _. B) → MatchOption (option_map (λ (m : Found). m.pattern) o) A (λ _. B)
slots_by_pattern None A B h = h
slots_by_pattern (Some m) A B h = h
