-- Backwards from the upper bound.
use Rattle.std.proofs.Common.{◌≡◌, ℕ, ◌+◌, ◌-◌, ◌≤◌, Bool, true, false, Option, Some, None, List, max, min, sym, subst, arith}
use Rattle.std.proofs.Math.Nat.{mul-le-mul_right}
use Rattle.rc_text.specs.Found.{HalfFound}
use Rattle.rc_text.specs.Text.{Searched, Keeps, high, low}
use Rattle.rc_text.specs.declared.types.MatchKind.{MatchKind}
use Rattle.rc_text.specs.declared.types.Anchored.{Anchored}
use Rattle.rc_pattern.specs.Re.{Re}
use Rattle.rc_program.specs.Answer.{Search}
use Rattle.rc_program.specs.Sought.{text_of}
use Rattle.rc_dfa.specs.Machine.{Machine}
use Rattle.rc_dfa.specs.declared.ended.Met.{Met}
use Rattle.rc_dfa_search.specs.declared.search.Aim.{Aim}
use Rattle.rc_dfa_search.specs.Machines.{IsCase}
use Rattle.rc_dfa_search.specs.Reverse.{HasNoStart, IsSpelledToEnd, IsLeastStart, IsStartWhere}
use Rattle.rc_dfa_search.specs.Aims.{AreHalvesOf, is_early, search_for, cost}
use Rattle.rc_dfa_search.specs.Ends.{Asks, HasMetDown}
use Rattle.rc_dfa_search.proofs.ToldLemmas.{case_of, kept_text, kept_high}
use Rattle.rc_dfa_search.proofs.ReverseLemmas.{reverse_law}

clamped : (lo hi x : ℕ) → lo ≤ x → x ≤ hi → x ≡ min (max x lo) hi
clamped lo hi x low high = omega arith

start_met : (hs : List Re) (kind : MatchKind) (early : Bool) (m n : Machine) (anchored : Anchored) (s : Search) (met : Met) → IsCase hs kind m n anchored s →
    HasMetDown n s.text s.lo s.hi anchored early (Some met) → IsStartWhere early s (record { pattern = met.pattern; offset = min (max met.at s.lo) s.hi })
start_met hs kind true m n anchored s met c h =
    let e = reverse_law.met hs kind m n anchored s true met.at met.pattern c h in
    let w = e.within in
    subst (λ x. let f : HalfFound = record { pattern = met.pattern; offset = x } in IsSpelledToEnd s f) (clamped s.lo s.hi met.at w.0 w.1) e
start_met hs kind false m n anchored s met c h =
    let e = reverse_law.least hs kind m n anchored s met.at met.pattern c h in
    let t = e.is_spelled in
    let w = t.within in
    subst (λ x. let f : HalfFound = record { pattern = met.pattern; offset = x } in IsLeastStart s f) (clamped s.lo s.hi met.at w.0 w.1) e

module _ (AreOf : Machine → Machine → Type 0) (aim : Aim) (hs : List Re) (terminator : ℕ) (of : AreHalvesOf AreOf aim hs terminator) (s b : Searched)
    (kept : Keeps s b) (ordered : low s ≤ high s) (asks : Asks aim.patterns s.anchored) (from end : ℕ) (is_low : from ≡ low s) (is_high : end ≡ high s)
    (o : Option Met) (met_there : HasMetDown of.back (text_of terminator b) from end b.anchored (is_early aim) o) where
  met_so : (p : Option Met) → o ≡ p → HasMetDown of.back (text_of terminator s) (low s) (high s) s.anchored (is_early aim) p
  met_so p is =
      subst (λ q. HasMetDown of.back (text_of terminator s) (low s) (high s) s.anchored (is_early aim) q) is
      (subst (λ x. HasMetDown of.back (text_of terminator s) x (high s) s.anchored (is_early aim) o) is_low
      (subst (λ x. HasMetDown of.back (text_of terminator s) from x s.anchored (is_early aim) o) is_high
      (subst (λ t. HasMetDown of.back t from end s.anchored (is_early aim) o) (kept_text terminator s b kept)
      (subst (λ a. HasMetDown of.back (text_of terminator b) from end a (is_early aim) o) kept.anchored met_there))))

  pub run_no_start : o ≡ None → HasNoStart (search_for aim hs terminator s)
  run_no_start is =
      reverse_law.none hs aim.kind of.ahead of.back s.anchored (search_for aim hs terminator s) (is_early aim)
      (case_of AreOf aim hs terminator s of ordered asks) (met_so None is)

  pub run_start : (met : Met) (at : ℕ) → o ≡ Some met → at ≡ min (max met.at (low s)) (high s) →
      IsStartWhere (is_early aim) (search_for aim hs terminator s) (record { pattern = met.pattern; offset = at })
  run_start met at is e =
      subst (λ x. let f : HalfFound = record { pattern = met.pattern; offset = x } in IsStartWhere (is_early aim) (search_for aim hs terminator s) f) (sym e)
      (start_met hs aim.kind (is_early aim) of.ahead of.back s.anchored (search_for aim hs terminator s) met
      (case_of AreOf aim hs terminator s of ordered asks) (met_so (Some met) is))

-- backwards alone
pub cost_of_start : (s b : Searched) (from : ℕ) → Keeps s b → from ≡ low s → high b - from + 2 ≤ cost s
cost_of_start s b from k e =
    let top = kept_high s b k in
    let n : ℕ = high s - low s in
    let one : 1 ≤ n + 4 = omega arith in
    let more = mul-le-mul_right (n + 4) one in
    let le : high b - from + 2 ≤ n + 4 = omega (arith, top, e) in
    omega (arith, more, le)
