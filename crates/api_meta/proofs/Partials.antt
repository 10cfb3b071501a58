-- What the beginning of a content tells.
use Rattle.std.proofs.Common.{◌≡◌, ◌≢◌, ℕ, ◌+◌, ◌-◌, ◌^◌, ◌<◌, ◌≤◌, false, All, List, length, max, min, Option, Some, None, IfSome, ap, sym, subst, ◌∙◌, refl, ⊎_elim, arith}
use Rattle.std.proofs.lemmas.Bool.{cases_lt}
use Rattle.std.proofs.lemmas.Option.{none-some, same_Some}
use Rattle.rc_text.specs.Found.{Found}
use Rattle.rc_text.specs.declared.types.MatchKind.{MatchKind}
use Rattle.rc_text.specs.declared.types.MatchKind.TheVariants.{All as all_matches}
use Rattle.rc_text.specs.Text.{Keeps, Searched, high, low}
use Rattle.rc_pattern.specs.Re.{Re}
use Rattle.rc_pattern.specs.WellFormed.{HasBounds}
use Rattle.rc_program.specs.Answer.{Search}
use Rattle.rc_program.specs.Kinds.{answer_by}
use Rattle.rc_program.specs.Matches.{from_on}
use Rattle.rc_program.specs.Sought.{Sought, search_for}
use Rattle.rc_program.proofs.KindLemmas.{kinds_law}
use Rattle.rc_reach.proofs.BoundLemmas.{length_law}
use Rattle.rc_reach.proofs.LawLemmas.{reach_law}
use Rattle.rc_reach.specs.Laws.{greatest_len}
use Rattle.rc_reach.specs.Partial.{IsPartial, final, from_place}
use Rattle.rc_reach.specs.Settled.{AgreesBelow, IsInside, IsSettled}
use Rattle.rc_literals.specs.Guard.{IsBehind}
use Rattle.rc_literals.specs.Needs.{IsBehindStop}
use Rattle.rc_dfa_search.proofs.SettledLemmas.{agrees_less}
use Rattle.rc_dfa_search.proofs.ToldLemmas.{kept_high}
use Rattle.api_meta.proofs.StopLemmas.{settled_by_stop}
use Rattle.api_meta.proofs.Reaching.{kept, longest_is, regex_bounded}
use Rattle.api_meta.specs.Partials.{IsFarOn, IsSettledBefore, far_on}
use Rattle.api_meta.specs.declared.partial.Partial.{Partial}
use Rattle.api_meta.specs.declared.partial.Partial.TheVariants.{Final, From}
use Rattle.api_meta.specs.Views.{regex_kind, regex_patterns, sought}
use Rattle.api_meta.specs.declared.regex.Regex.{Regex}

-- a match that is settled by bytes that are here
pub is_final : (kind : MatchKind) (s : Search) (o : Option Found) (m : Found) (r : ℕ) → o ≡ answer_by kind s → o ≡ Some m → IsSettled kind r s →
    r ≤ length s.text.content → IsPartial kind s (final m)
is_final kind s o m r found some settled le t on =
    settled t on.0 (agrees_less s t r (length s.text.content) le on.1) ∙ sym found ∙ some

-- if each of two positions is one before which no match begins, the later is
pub later_from : (kind : MatchKind) (s : Search) (a b : ℕ) → IsPartial kind s (from_place a) → IsPartial kind s (from_place b) →
    IsPartial kind s (from_place (max a b))
later_from kind s a b first second t on m found =
    let low = first t on m found in
    let other = second t on m found in
    omega (arith, low, other)

-- what one search is below r to another, that is to it
agrees_back : (s t : Search) (r : ℕ) → AgreesBelow r s t → AgreesBelow r t s
agrees_back s t r a = record {
  places = sym a.places;
  terminator = sym a.terminator;
  slice_start = sym a.slice_start;
  lo = sym a.lo;
  anchoring = sym a.anchoring;
  passes_over = sym a.passes_over;
  read = sym a.read;
  seen = sym a.seen;
  content = sym a.content;
}

-- ---- n + 3 bytes before the end of the bounds all is told, if no pattern matches more than n bytes

module _ (q : Sought) (kind : MatchKind) (i : Searched) (other : kind ≢ all_matches) (ok : All HasBounds q.patterns) (n : ℕ)
    (len : greatest_len q.patterns ≡ Some n) (k : ℕ) (far : k + n + 4 ≤ high i + 1) where
  -- a search from any position on
  abbrev T : ℕ → Search
  T at = from_on (search_for q i) at

  inside : (at : ℕ) → IsInside (T at)
  inside at = record { lo = omega arith; hi = omega arith; slice_end = omega arith }

  -- a match that begins so early is final
  pub final_by_length : (at : ℕ) (m : Found) → answer_by kind (T at) ≡ Some m → m.start < k → IsPartial kind (T at) (final m)
  final_by_length at m e early t on =
      let r = m.start + n + 4 in
      let le : r ≤ length i.content = omega (arith, early, far) in
      let walk = (length_law.found kind (T at) q.grouped q.patterns m n (inside at) refl ok len other e).0 in
      reach_law.match kind (T at) r walk t on.0 (agrees_less (T at) t r (length i.content) le on.1) ∙ e

  -- one that is to come would be here
  pub from_length : (at : ℕ) (o : Option Found) → answer_by kind (T at) ≡ o → IfSome o (λ m. k ≤ m.start) → IsPartial kind (T at) (from_place k)
  from_length at o answer before t on m e =
      ⊎_elim
      (λ early.
      let r = m.start + n + 4 in
      let le : r ≤ length i.content = omega (arith, early, far) in
      let walk = (length_law.found kind t q.grouped q.patterns m n on.0 (on.1.places ∙ refl) ok len other e).0 in
      let same = reach_law.match kind t r walk (T at) (inside at) (agrees_back (T at) t r (agrees_less (T at) t r (length i.content) le on.1)) in
      subst (λ x. IfSome x (λ (f : Found). k ≤ f.start)) (sym answer ∙ same ∙ e) before)
      (λ ge. ge)
      (cases_lt m.start k)

  pub settled_by_length : IsSettledBefore kind (search_for q i) k
  settled_by_length = record { final = final_by_length; onward = from_length }

-- nor before the start of a search
from_start : (q : Sought) (kind : MatchKind) (i : Searched) → IsPartial kind (search_for q i) (from_place (low i))
from_start q kind i t on m found =
    let spelled = kinds_law.spelled kind false t m (sym found) in
    let above = spelled.is_start.0 in
    let same = on.1.lo in
    omega (arith, above, same)

-- in code
module _ (r : Regex) (i : Searched) where
  abbrev pub S : Search
  S = search_for (sought r) i

  pub from_there : (from : ℕ) → from ≡ low i → IsPartial (regex_kind r) S (from_place from)
  from_there from is = subst (λ k. IsPartial (regex_kind r) S (from_place k)) (sym is) (from_start (sought r) (regex_kind r) i)

  pub from_far : regex_kind r ≢ all_matches → (n : ℕ) → r.longest ≡ Some n → (o : Option Found) → o ≡ answer_by (regex_kind r) S → (from far k : ℕ) → from ≡ low i →
      high i < 2 ^ 64 → far ≡ high i - min (n + 3) (2 ^ 64 - 1) → k ≤ far → IfSome o (λ m. k ≤ m.start) → (place : ℕ) → place ≡ max from k →
      IsPartial (regex_kind r) S (from_place place)
  from_far other n len o is from far k at fits fars below before place is_place =
      subst (λ p. IsPartial (regex_kind r) S (from_place p)) (sym is_place)
      (later_from (regex_kind r) S from k (from_there from at)
      (⊎_elim
      (λ some. from_length (sought r) (regex_kind r) i other (regex_bounded r) n (sym (longest_is (regex_patterns r)) ∙ sym r.measured ∙ len) k (omega (arith, some, fits, fars, below)) i.span.start o (sym is) before)
      (λ none t on m found. omega (arith, none))
      (cases_lt 0 k)))

  -- a stop byte with three bytes behind it
  pub settled_behind : regex_kind r ≢ all_matches → (known first behind : ℕ) → known ≡ high i - 3 → first < known → behind ≤ known →
      first ≤ behind → behind ≢ first → IsBehind r.stops.table i.content first known behind → IsSettledBefore (regex_kind r) S behind
  settled_behind other known first behind is_known some within order moved stop =
      ⊎_elim (λ same. absurd (moved same))
      (λ (q : IsBehindStop r.stops.table i.content behind).
      subst (IsSettledBefore (regex_kind r) S) (omega (arith, order, moved))
      (settled_by_stop (sought r) (regex_kind r) i other (regex_bounded r) r.stops.table r.stopped (behind - 1) q.0 q.1 q.2
      (omega (arith, is_known, some, within, order))))
      stop.least

-- before the content's first byte all is told
pub settled_at_0 : (kind : MatchKind) (s : Search) → IsSettledBefore kind s 0
settled_at_0 kind s = record { final = λ at m e early. absurd (omega (arith, early)); onward = λ at o e before t on m found. omega arith }

-- n + 3 bytes before the end of the bounds, in code
pub settled_far : (r : Regex) (i : Searched) → regex_kind r ≢ all_matches → (n : ℕ) → r.longest ≡ Some n → (k : ℕ) → high i < 2 ^ 64 →
    k ≡ high i - min (n + 3) (2 ^ 64 - 1) → IsSettledBefore (regex_kind r) (search_for (sought r) i) k
settled_far r i other n len k fits place =
    ⊎_elim
    (λ some.
    settled_by_length (sought r) (regex_kind r) i other (regex_bounded r) n (sym (longest_is (regex_patterns r)) ∙ sym r.measured ∙ len) k
    (omega (arith, some, fits, place)))
    (λ none. subst (IsSettledBefore (regex_kind r) (search_for (sought r) i)) (omega (arith, none)) (settled_at_0 (regex_kind r) (search_for (sought r) i)))
    (cases_lt 0 k)

-- a place up to a settled one, if the match that was found doesn't begin before it
pub from_settled : (q : Sought) (kind : MatchKind) (i : Searched) (k : ℕ) → IsSettledBefore kind (search_for q i) k →
    (o : Option Found) → o ≡ answer_by kind (search_for q i) → (p : ℕ) → p ≤ k → IfSome o (λ m. p ≤ m.start) →
    IsPartial kind (search_for q i) (from_place p)
from_settled q kind i k settled None is p near before t on m e =
    let later = settled.onward i.span.start None (sym is) tt t on m e in omega (arith, near, later)
from_settled q kind i k settled (Some f) is p near before t on m e =
    ⊎_elim
    (λ early.
    let same = same_Some f m (sym (settled.final i.span.start f (sym is) early t on) ∙ e) in
    subst (λ (g : Found). p ≤ g.start) same before)
    (λ late. let later = settled.onward i.span.start (Some f) (sym is) late t on m e in omega (arith, near, later))
    (cases_lt f.start k)

-- a place that the lengths tell
pub is_far_on : (r : Regex) (i : Searched) (o : Option Found) (n : ℕ) → r.longest ≡ Some n → (k : ℕ) → far_on n i o ≤ k →
    IsFarOn (regex_kind r) (regex_patterns r) i o (From k)
is_far_on r i o n len k far other m greatest =
    let same : m ≡ n = same_Some m n (sym greatest ∙ sym (longest_is (regex_patterns r)) ∙ sym r.measured ∙ len) in
    subst (λ x. far_on x i o ≤ k) (sym same) far

-- where they tell none
pub no_length : (r : Regex) (i : Searched) (o : Option Found) → r.longest ≡ None → (k : ℕ) → IsFarOn (regex_kind r) (regex_patterns r) i o (From k)
no_length r i o none k other n greatest =
    absurd (none-some n (sym none ∙ r.measured ∙ longest_is (regex_patterns r) ∙ greatest))

-- a later one is as far on, of an input that is kept
pub later_on : (kind : MatchKind) (hs : List Re) (i j : Searched) (o p : Option Found) (k m : ℕ) → Keeps i j → o ≡ p → k ≤ m →
    IsFarOn kind hs j o (From k) → IsFarOn kind hs i p (From m)
later_on kind hs i j o p k m keeps same le far other n greatest =
    let high_is : high j ≡ high i = kept_high i j keeps in
    let is : far_on n j o ≡ far_on n i p = at high_is o ∙ ap (far_on n i) same in
    let there = far other n greatest in
    omega (arith, is, there, le)
  where
    at : high j ≡ high i → (x : Option Found) → far_on n j x ≡ far_on n i x
    at e None = ap (λ h. h - (n + 3)) e
    at e (Some f) = ap (λ h. min (h - (n + 3)) f.start) e

pub far_kept : (r : Regex) (i j : Searched) → Keeps i j → (p : Partial) →
    IsFarOn (regex_kind r) (regex_patterns r) j (answer_by (regex_kind r) (search_for (sought r) j)) p →
    IsFarOn (regex_kind r) (regex_patterns r) i (answer_by (regex_kind r) (search_for (sought r) i)) p
far_kept r i j keeps (Final m) far = tt
far_kept r i j keeps (From k) far =
    later_on (regex_kind r) (regex_patterns r) i j (answer_by (regex_kind r) (search_for (sought r) j)) (answer_by (regex_kind r) (search_for (sought r) i)) k k keeps
    (ap (answer_by (regex_kind r)) (kept (sought r) i j keeps)) (omega arith) far
