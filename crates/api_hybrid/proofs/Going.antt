-- What runs of an iterator give.
use Rattle.std.proofs.Common.{◌≡◌, ◌∙◌, true, List, [], ◌∷◌, ◌++◌, map, Option, Some, None, ap, subst, sym, refl}
use Rattle.std.specs.Prelude.{Result}
use Rattle.std.specs.declared.result.Result.TheVariants.{Ok, Err}
use Rattle.std.specs.Iterator.{Yields}
use Rattle.std.proofs.lemmas.List.{append-nil}
use Rattle.rc_text.specs.Found.{Found}
use Rattle.rc_text.specs.Text.{Searched}
use Rattle.rc_text.specs.declared.types.MatchError.{MatchError}
use Rattle.rc_pikevm_search.specs.Moved.{IsMoved}
use Rattle.api_hybrid.specs.Left.{FindKeeps, FindRuns, FindSteps, find_left}
use Rattle.api_hybrid.specs.declared.iterators.FindMatches.{FindMatches}

still : (i : Searched) → IsMoved i i
still i = record {
  content = refl;
  end = refl;
  slice = refl;
  anchored = refl;
  earliest = refl;
}

moved_on : {i j k : Searched} → IsMoved i j → IsMoved j k → IsMoved i k
moved_on m n = record {
  content = n.content ∙ m.content;
  end = n.end ∙ m.end;
  slice = n.slice ∙ m.slice;
  anchored = n.anchored ∙ m.anchored;
  earliest = n.earliest ∙ m.earliest;
}

module _ {C : Type 0} where
  begins : (first : FindMatches C) (items : List Found) (later : FindMatches C) → Yields (FindSteps {C = C}) first (map Ok items) later →
      find_left first ≡ items ++ find_left later
  begins first [] later run = ap find_left run
  begins first (m ∷ items) later run = run.1.0 ∙ ap (λ ms. m ∷ ms) (begins run.0 items later run.2)

  keeps : (first : FindMatches C) (items : List (Result Found MatchError)) (later : FindMatches C) →
      Yields (FindSteps {C = C}) first items later → FindKeeps first later
  keeps first [] later run = subst (FindKeeps first) run (refl, refl, λ made. made, still first.input)
  keeps first (item ∷ items) later run =
      let step = run.1.1 in
      let rest = keeps run.0 items later run.2 in
      (rest.0 ∙ step.0, rest.1 ∙ step.1, λ made. rest.2 (step.2 made), moved_on step.3 rest.3)

  -- nothing is left once it is over
  left_over : (s : FindMatches C) → s.is_done ≡ true → find_left s ≡ []
  left_over s done = rw done refl

  nothing_over : (s : FindMatches C) (item : Option (Result Found MatchError)) (t : FindMatches C) → s.is_done ≡ true →
      FindSteps {C = C} s item t → item ≡ None
  nothing_over s None t done step = refl
  nothing_over s (Some (Ok m)) t done step = let never : [] ≡ m ∷ find_left t = sym (left_over s done) ∙ step.0 in cc
  nothing_over s (Some (Err e)) t done step = absurd (step.0.0 done)

  pub find_runs : (first : FindMatches C) → FindRuns first
  find_runs first = record {
    begin = begins first;
    all = λ items later run. begins first items run.0 run.1 ∙ ap (λ ms. items ++ ms) run.2.0.0 ∙ append-nil items;
    keeps = keeps first;
    ends = λ items e later last item run step. nothing_over later item last run.2.0.2 step;
  }
