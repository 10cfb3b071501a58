-- What is told of an input whose text and bounds are those of another.
use Rattle.std.proofs.Common.{◌≡◌, ◌≤◌, ℕ, List, Result, IfOk, Option, Some, None, IfSome, subst}
use Rattle.rc_text.specs.Bounds.{IsWithinBounds}
use Rattle.rc_text.specs.Found.{Found}
use Rattle.rc_text.specs.Text.{Searched, Keeps, low}
use Rattle.rc_text.specs.declared.types.MatchError.{MatchError}
use Rattle.rc_pattern.specs.Re.{Re}
use Rattle.rc_program.specs.Kinds.{IsAnswerBy}
use Rattle.rc_dfa_search.specs.Aims.{search_for, search_from}
use Rattle.rc_dfa_search.specs.declared.search.Aim.{Aim}
use Rattle.rc_dfa_search.proofs.ToldLemmas.{kept_high, kept_low}

-- what is found from the lower bound on is found by the whole search
pub whole_found : (aim : Aim) (hs : List Re) (terminator : ℕ) (s : Searched) (lo : ℕ) → lo ≡ low s → (r : Result (Option Found) MatchError) →
    IfOk r (IsAnswerBy aim.kind aim.earliest (search_from aim hs terminator s lo)) → IfOk r (IsAnswerBy aim.kind aim.earliest (search_for aim hs terminator s))
whole_found aim hs terminator s lo is r h =
    subst (λ x. IfOk r (IsAnswerBy aim.kind aim.earliest (search_from aim hs terminator s x))) is h

abbrev Lies : Searched → Option Found → Type 0
Lies s o = IfSome o (IsWithinBounds s)

-- the match lies between the bounds of both
pub within_kept : (a b : Searched) (o : Option Found) → Keeps a b → Lies b o → Lies a o
within_kept a b None k h = tt
within_kept a b (Some m) k h = (subst (λ x. x ≤ m.start) (kept_low a b k) h.0, h.1, subst (λ x. m.end ≤ x) (kept_high a b k) h.2)
