-- From needle to needle.
use Rattle.std.proofs.Common.{◌≡◌, ℕ, ◌<◌, ◌≤◌, true, false, not, ◌||◌, ◌⊎◌, List, Option, Some, None, Result, Ok, Err, IfOk, max, min, sym, subst, ap, ap₂, ◌∙◌, refl, arith}
use Rattle.std.specs.Option.{option_map}
use Rattle.rc_text.specs.Found.{Found, HalfFound, half_of}
use Rattle.rc_text.specs.Text.{Searched, Keeps, low, high, is_boundary}
use Rattle.rc_text.specs.declared.types.Anchored.{Anchored}
use Rattle.rc_text.specs.declared.types.Anchored.TheVariants.{No}
use Rattle.rc_text.specs.declared.types.MatchError.{MatchError}
use Rattle.rc_text.specs.declared.types.MatchKind.{MatchKind}
use Rattle.rc_text.specs.declared.types.MatchKind.TheVariants.{All as all_matches, LeftmostFirst as leftmost_first, LeftmostLongest as leftmost_longest}
use Rattle.rc_pattern.specs.Re.{Re}
use Rattle.rc_program.specs.Answer.{Search, HasNoWalkFrom}
use Rattle.rc_program.specs.Kinds.{answer_by, IsAnswerBy}
use Rattle.rc_utf8.specs.Laws.{by_bytes}
use Rattle.rc_determinize.specs.Laws.{may_end_at}
use Rattle.rc_dfa.specs.Machine.{Machine}
use Rattle.rc_dfa.specs.declared.ended.Met.{Met}
use Rattle.rc_dfa_search.specs.declared.search.Aim.{Aim}
use Rattle.rc_dfa_search.specs.declared.needles.Leg.{Leg}
use Rattle.rc_dfa_search.specs.declared.needles.Leg.TheVariants.{Rested}
use Rattle.rc_dfa_search.specs.Leftmost.{IsLeftmost, IsRaisedBy}
use Rattle.rc_dfa_search.specs.Machines.{IsCase}
use Rattle.rc_dfa_search.specs.Aims.{AreHalvesOf, search_for}
use Rattle.rc_dfa_search.specs.Ends.{Asks}
use Rattle.rc_dfa_search.specs.Halves.{IsForwardHalf}
use Rattle.rc_dfa_search.specs.Rests.{GivesToo, StartsGive}
use Rattle.rc_dfa_search.specs.Legs.{ComesOn, GoesByNeedles, IsGiven}
use Rattle.rc_dfa_search.proofs.RestLemmas.{rest_law, given_law}
use Rattle.rc_dfa_search.proofs.LeftmostLemmas.{leftmost_law}
use Rattle.rc_dfa_search.proofs.SeekLemmas.{void_answer}
use Rattle.rc_dfa_search.proofs.ToldLemmas.{kept_search, kept_high}
use Rattle.rc_dfa_search.proofs.LegLemmas.{free_case, within_both}

-- WHAT IS GIVEN

-- where a run rested it came on
pub came_on : (s : Searched) (hi : ℕ) → hi ≡ high s → (cur : Searched) → Keeps s cur → (from : ℕ) (leg : Leg) (i : ℕ) → ComesOn from (high cur) leg → leg ≡ Rested i →
    (from ≤ i) × (i ≤ hi)
came_on s hi is_hi cur keeps from leg i h is =
    let on = subst (λ l. ComesOn from (high cur) l) is h in
    let low = on.0 in let most = on.1 in let same = kept_high s cur keeps in (omega (arith, low), omega (arith, most, same, is_hi))

module _ (AreOf : Machine → Machine → Type 0) (aim : Aim) (hs : List Re) (terminator : ℕ) (of : AreHalvesOf AreOf aim hs terminator) (s : Searched)
    (goes : GoesByNeedles aim s.anchored) (lo hi : ℕ) (is_lo : lo ≡ low s) (is_hi : hi ≡ high s) (ordered : lo ≤ hi) where
  abbrev S : Search
  S = search_for aim hs terminator s

  case : IsCase hs aim.kind of.ahead of.back No S
  case = free_case AreOf aim hs terminator s of (omega (arith, ordered, is_lo, is_hi)) goes.free

  -- what the starts from here on give, all give
  abbrev Carried : ℕ → Type 0
  Carried at = GivesToo aim.kind of.ahead S at lo

  at_low : (r : Option (ℕ × ℕ)) → StartsGive aim.kind of.ahead S lo r → StartsGive aim.kind of.ahead S (low s) r
  at_low r g = subst (λ x. StartsGive aim.kind of.ahead S x r) is_lo g

  module _ (cur : Searched) (keeps : Keeps s cur) where
    here : (x : ℕ) → HasNoWalkFrom (search_for aim hs terminator cur) x → HasNoWalkFrom S x
    here x none = subst (λ (q : Search). HasNoWalkFrom q x) (kept_search aim hs terminator s cur keeps) none

    -- no walk begins from here on
    pub none_left : (at : ℕ) → at ≤ hi → Carried at → ((x : ℕ) → at ≤ x → x ≤ hi → HasNoWalkFrom (search_for aim hs terminator cur) x) →
        IsGiven aim.kind of.ahead S None
    none_left at le carried none =
        at_low None (carried None (rest_law.nowhere hs aim.kind of.ahead of.back S at goes.kind case (omega (arith, le, is_hi))
        (λ z a b. here z (none z a (omega (arith, b, is_hi))))))

  -- THE MATCH

  begins : IsRaisedBy aim.kind (by_bytes S) (low s)
  begins = leftmost_law.begins hs aim.kind of.ahead of.back No S case

  -- a search without a position
  pub none_given : IsGiven aim.kind of.ahead S None → None ≡ answer_by aim.kind S
  none_given given = sym (given_law.none hs aim.kind of.ahead of.back S (low s) goes.kind case begins given)

  may : (at : ℕ) → may_end_at S at ≡ true
  may at = ap (λ b. not b || is_boundary s.content at) goes.all

  module _ (met : Met) (given : IsGiven aim.kind of.ahead S (Some met)) (end : ℕ) (is_end : end ≡ min (max met.at lo) hi) where
    same_end : end ≡ met.at
    same_end =
        let r = given_law.ends hs aim.kind of.ahead of.back S (low s) given.0 met.at goes.kind case begins given.2 (may met.at) in
        let a = r.1 in let b = r.2 in let d = r.3 in
        is_end ∙ within_both met.at lo hi (omega (arith, a, b, is_lo)) (omega (arith, d, is_hi))

    pub end_so : (pattern : ℕ) → pattern ≡ met.pattern →
        (let h : HalfFound = record { pattern = pattern; offset = end } in Some h) ≡ option_map half_of (answer_by aim.kind S)
    end_so pattern is_pattern =
        let r = given_law.ends hs aim.kind of.ahead of.back S (low s) given.0 met.at goes.kind case begins given.2 (may met.at) in
        ap₂ (λ (p e : ℕ). let h : HalfFound = record { pattern = p; offset = e } in Some h) (is_pattern ∙ sym given.1) same_end
        ∙ ap (option_map half_of) (sym r.4)

-- a search that has no position
pub none_void : (AreOf : Machine → Machine → Type 0) (aim : Aim) (hs : List Re) (terminator : ℕ) (of : AreHalvesOf AreOf aim hs terminator) (s : Searched) →
    (high s < low s) ⊎ (¬ Asks aim.patterns s.anchored) → None ≡ answer_by aim.kind (search_for aim hs terminator s)
none_void AreOf aim hs terminator of s void =
    void_answer hs aim.patterns aim.kind false s.anchored (search_for aim hs terminator s) refl refl of.counted void

-- with the flag off
pub late_goes : (aim : Aim) (anchored : Anchored) → GoesByNeedles (record aim { earliest = false }) anchored → aim.earliest ≡ false → GoesByNeedles aim anchored
late_goes aim anchored goes late = record { kind = goes.kind; late = late; all = goes.all; free = goes.free }

-- for this kind of match
pub is_told : (aim : Aim) (s : Search) (o : Option Found) → aim.earliest ≡ false → o ≡ answer_by aim.kind s → IsAnswerBy aim.kind aim.earliest s o
is_told aim s o late h = subst (λ e. IsAnswerBy aim.kind e s o) (sym late) h

pub is_answer : (aim : Aim) (anchored : Anchored) (s : Search) (r : Result (Option Found) MatchError) → GoesByNeedles aim anchored →
    IfOk r (λ o. o ≡ answer_by aim.kind s) → IfOk r (IsAnswerBy aim.kind aim.earliest s)
is_answer aim anchored s (Ok o) goes h = is_told aim s o goes.late h
is_answer aim anchored s (Err e) goes h = tt

-- its end
half_is : (kind : MatchKind) → IsLeftmost kind → (s : Search) (a : Option Found) → a ≡ answer_by kind s → IsForwardHalf kind false s (option_map half_of a)
half_is kind left s None e = e
half_is all_matches left s (Some m) e = absurd left
half_is leftmost_first left s (Some m) e = (m, e, refl, refl)
half_is leftmost_longest left s (Some m) e = (m, e, refl, refl)

pub is_half : (aim : Aim) (anchored : Anchored) (s : Search) (r : Result (Option HalfFound) MatchError) → GoesByNeedles aim anchored →
    IfOk r (λ o. o ≡ option_map half_of (answer_by aim.kind s)) → IfOk r (IsForwardHalf aim.kind aim.earliest s)
is_half aim anchored s (Ok o) goes h =
    subst (λ e. IsForwardHalf aim.kind e s o) (sym goes.late)
    (subst (λ x. IsForwardHalf aim.kind false s x) (sym h) (half_is aim.kind goes.kind s (answer_by aim.kind s) refl))
is_half aim anchored s (Err e) goes h = tt
