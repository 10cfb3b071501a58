-- An error that is handed on is one that the rule met.
use Rattle.std.proofs.Common.{◌≡◌, ℕ, ◌+◌, true, Option, Some, Result, Ok, Err, IfErr, subst}
use Rattle.rc_text.specs.Text.{Searched}
use Rattle.rc_text.specs.declared.types.MatchError.{MatchError}
use Rattle.rc_program.specs.Matches.{is_again}
use Rattle.rc_iter.specs.Finders.{Answers, Calls, with_start}
use Rattle.rc_iter.specs.Searchers
use Rattle.rc_iter.specs.Searchers.{Meets, Searching}

module _ {X : Type 0} (begin end : X → ℕ) where
  module _ {F I : Type 0} (searched : I → Searched) (g : Calls F I X) (s : Searching) (r : Result (Option X) MatchError) (e : MatchError) where
    -- the first call failed
    pub at_once : (a : Result (Option X) MatchError) (f then : F) → Answers searched g f s.input a then → a ≡ Err e → r ≡ Err e →
        IfErr r (Meets begin end searched g f s)
    at_once a f then met is same = rw same (Searchers.at_once (subst (λ x. Answers searched g f s.input x then) is met))

    -- the call from a byte later failed
    pub later : (a b : Result (Option X) MatchError) (m : X) (f between then : F) → Answers searched g f s.input a between → a ≡ Ok (Some m) →
        is_again begin end s.last m ≡ true → Answers searched g between (with_start s.input (s.input.span.start + 1)) b then →
        b ≡ Err e → r ≡ Err e → IfErr r (Meets begin end searched g f s)
    later a b m f between then met gave again again_met is same =
        rw same (Searchers.later m (subst (λ x. Answers searched g f s.input x between) gave met) again
        (subst (λ x. Answers searched g between (with_start s.input (s.input.span.start + 1)) x then) is again_met))
