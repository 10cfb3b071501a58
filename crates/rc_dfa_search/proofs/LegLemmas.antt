-- The case of a search that isn't anchored.
use Rattle.std.proofs.Common.{◌≡◌, ℕ, ◌≤◌, List, max, min, sym, subst, arith}
use Rattle.rc_text.specs.Text.{Searched, low, high}
use Rattle.rc_text.specs.declared.types.Anchored.TheVariants.{No}
use Rattle.rc_pattern.specs.Re.{Re}
use Rattle.rc_dfa.specs.Machine.{Machine}
use Rattle.rc_dfa_search.specs.declared.search.Aim.{Aim}
use Rattle.rc_dfa_search.specs.Machines.{IsCase}
use Rattle.rc_dfa_search.specs.Aims.{AreHalvesOf, search_for}
use Rattle.rc_dfa_search.specs.Ends.{Asks}
use Rattle.rc_dfa_search.proofs.ToldLemmas.{case_of}

-- the case of a search that isn't anchored
pub free_case : (AreOf : Machine → Machine → Type 0) (aim : Aim) (hs : List Re) (terminator : ℕ) (s : Searched) (of : AreHalvesOf AreOf aim hs terminator) →
    low s ≤ high s → s.anchored ≡ No → IsCase hs aim.kind of.ahead of.back No (search_for aim hs terminator s)
free_case AreOf aim hs terminator s of le free =
    subst (λ a. IsCase hs aim.kind of.ahead of.back a (search_for aim hs terminator s)) free
    (case_of AreOf aim hs terminator s of le (subst (λ a. Asks aim.patterns a) (sym free) tt))

pub within_both : (i from hi : ℕ) → from ≤ i → i ≤ hi → min (max i from) hi ≡ i
within_both i from hi low high = omega (arith, low, high)
