-- The pattern that is told is one of those that are sought, and it has a number.
use Rattle.std.proofs.Common.{◌≡◌, ℕ, ◌+◌, ◌*◌, ◌<◌, ◌≤◌, Bool, true, false, List, [], ◌∷◌, length, Option, Some, None, IfSome, sym, subst, arith}
use Rattle.rc_text.specs.Found.{Found, HalfFound}
use Rattle.rc_text.specs.Text.{high, low}
use Rattle.rc_text.specs.declared.types.Anchored.{Anchored}
use Rattle.rc_text.specs.declared.types.MatchKind.{MatchKind}
use Rattle.rc_text.specs.declared.types.MatchKind.TheVariants.{All as all_matches, LeftmostFirst as leftmost_first, LeftmostLongest as leftmost_longest}
use Rattle.rc_pattern.specs.Re.{Re}
use Rattle.rc_pattern.specs.WellFormed.{group_count}
use Rattle.rc_program.specs.Program.{accept, choice_of_patterns, place_at, program}
use Rattle.rc_program.specs.Answer.{Search, last_of}
use Rattle.rc_program.specs.Greatest.{IsSpelledIn}
use Rattle.rc_program.specs.Kinds.{IsAnswerWhere}
use Rattle.rc_program.specs.Laws.{heaviness}
use Rattle.rc_program.proofs.AnswerLemmas.{answer_pattern}
use Rattle.rc_program.proofs.GreatestLemmas.{greatest_some}
use Rattle.rc_program.proofs.PlaceLemmas.{accept_below, length-program}
use Rattle.rc_program.proofs.ReachLemmas.{longest_law}
use Rattle.rc_program.proofs.WeightLemmas.{length-le-heaviness}
use Rattle.rc_determinize.specs.Spans.{IsSpelled}
use Rattle.rc_dfa.specs.Machine.{Machine}
use Rattle.rc_dfa.specs.Runs.{met_last, SearchEnds}
use Rattle.rc_dfa.specs.declared.ended.Met.{Met}
use Rattle.rc_dfa_search.specs.declared.search.End.{End}
use Rattle.rc_dfa_search.specs.Ends.{HasMet, IsEnd}
use Rattle.rc_dfa_search.specs.Laws.{met_from, pattern_met}
use Rattle.rc_dfa_search.specs.Machines.{IsCase}
use Rattle.rc_dfa_search.specs.Reverse.{IsStartWhere}
use Rattle.rc_dfa_search.proofs.MetLemmas.{met_law}

-- AS MANY NUMBERS

count_le_size : (p s : ℕ) (hs : List Re) → length hs ≤ (choice_of_patterns p s hs).size
count_le_size p s [] = omega arith
count_le_size p s (h ∷ hs) = let k = count_le_size (p + 1) (s + 2 * group_count h) hs in omega (arith, k)

-- there are no more patterns than their program weighs
pub few_by_weight : (hs : List Re) → heaviness (program hs) ≤ 2147483646 → length hs ≤ 2147483647
few_by_weight hs light =
    let k = count_le_size 0 (2 * length hs) hs in
    let e = length-program hs in
    let w = length-le-heaviness (program hs) in
    omega (arith, k, e, w, light)

-- WHAT IS TOLD

spelled_below : (hs : List Re) (s : Search) (p x e : ℕ) → s.places ≡ program hs → IsSpelled s p x e → p < length hs
spelled_below hs s p x e places h = accept_below hs (last_of h.0).0 p (subst (λ ps. place_at ps (last_of h.0).0 ≡ accept p) places h.2)

spelled_in_below : (hs : List Re) (s : Search) (m : Found) → s.places ≡ program hs → IsSpelledIn s m → m.pattern < length hs
spelled_in_below hs s m places h =
    accept_below hs (last_of h.walk).0 m.pattern (subst (λ ps. place_at ps (last_of h.walk).0 ≡ accept m.pattern) places h.pattern)

pub answer_below : (hs : List Re) (early : Bool) (kind : MatchKind) (s : Search) (m : Found) → s.places ≡ program hs → IsAnswerWhere early kind s (Some m) →
    m.pattern < length hs
answer_below hs true kind s m places h = spelled_in_below hs s m places h
answer_below hs false leftmost_first s m places h = answer_pattern hs s m places (sym h)
answer_below hs false leftmost_longest s m places h = spelled_in_below hs s m places (longest_law.spelled s m (sym h))
answer_below hs false all_matches s m places h = spelled_in_below hs s m places (let g = (greatest_some s m).0 (sym h) in g.is_spelled)

pub start_below : (hs : List Re) (early : Bool) (s : Search) (h : HalfFound) → s.places ≡ program hs → IsStartWhere early s h → h.pattern < length hs
start_below hs true s h places w = spelled_below hs s h.pattern h.offset s.hi places w.is_spelled
start_below hs false s h places w = let t = w.is_spelled in spelled_below hs s h.pattern h.offset s.hi places t.is_spelled

-- whatever is met from one position on
met_below : (hs : List Re) (kind : MatchKind) (m n : Machine) (anchored : Anchored) (s : Search) (from : ℕ) (earliest : Bool) (q e : ℕ) → IsCase hs kind m n anchored s →
    s.lo ≤ from → from ≤ s.hi → SearchEnds m s.text s.hi from anchored earliest (met_last (Some (q, e))) → pattern_met m q < length hs
met_below hs kind m n anchored s from earliest q e c low high h =
    let later : Search = record s { lo = from } in
    let i = c.inside in
    let case : IsCase hs kind m n anchored later = record {
      alphabet = c.alphabet;
      machines = c.machines;
      places = c.places;
      anchoring = c.anchoring;
      inside = record { low = let l = i.low in omega (arith, l, low); high = i.high; bounded = i.bounded };
      ordered = high;
      asked = c.asked;
    } in
    let w = met_law.ends hs kind m n anchored later earliest q e case h in
    spelled_in_below hs later (met_from m q w.0 e) c.places w.1

pub end_below : (hs : List Re) (kind : MatchKind) (early : Bool) (m n : Machine) (anchored : Anchored) (s : Search) (end : End) →
    IsEnd hs kind early m n anchored s end → end.pattern < length hs
end_below hs kind early m n anchored s end h =
    let st = h.stands in
    let b = st.bounded in
    subst (λ p. p < length hs) h.pattern (met_below hs kind m n anchored s end.from early h.place end.at st.case b.0 b.1 h.ends)

-- what is met is a pattern of those sought
abbrev pub IsNumbered : List Re → Option Met → Type 0
IsNumbered hs o = IfSome o (λ (met : Met). met.pattern < length hs)

pub numbered_met : (hs : List Re) (kind : MatchKind) (m n : Machine) (anchored : Anchored) (s : Search) (from : ℕ) (early : Bool) (o : Option Met) →
    IsCase hs kind m n anchored s → s.lo ≤ from → from ≤ s.hi → HasMet m s.text s.hi from anchored early o → IsNumbered hs o
numbered_met hs kind m n anchored s from early None c low high h = tt
numbered_met hs kind m n anchored s from early (Some met) c low high h =
    subst (λ p. p < length hs) h.1 (met_below hs kind m n anchored s from early h.0 met.at c low high h.2)

-- NO ERROR COMES OF A PATTERN'S NUMBER

-- each pattern that is told has a number
pub has_number : (hs : List Re) (p : ℕ) → length hs ≤ 2147483647 → 2147483646 < p → p < length hs → ⊥
has_number hs p few big below = omega (arith, few, big, below)
