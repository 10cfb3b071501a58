-- The next of the matches that are left, and what runs of an iterator give.
use Rattle.std.proofs.Common.{◌≡◌, ◌∙◌, ℕ, true, List, [], ◌∷◌, ◌++◌, map, Option, Some, None, ap, subst, sym, refl}
use Rattle.std.specs.Prelude.{Result}
use Rattle.std.specs.declared.result.Result.TheVariants.{Ok, Err}
use Rattle.std.specs.Iterator.{Yields}
use Rattle.std.proofs.lemmas.List.{append-nil}
use Rattle.rc_text.specs.Found.{Found}
use Rattle.rc_text.specs.Text.{Searched}
use Rattle.rc_text.specs.declared.types.MatchKind.{MatchKind}
use Rattle.rc_text.specs.declared.types.MatchError.{MatchError}
use Rattle.rc_program.specs.Kinds.{answer_by_from, matches_by_kind}
use Rattle.rc_program.specs.Matches.{begin_of, end_of, next_match}
use Rattle.rc_program.specs.Sought.{Sought, search_for}
use Rattle.rc_pikevm_search.specs.Moved.{IsMoved}
use Rattle.rc_pikevm_search.proofs.Steps.{left_from, step_none, step_some}
use Rattle.rc_build.proofs.Fitted.{sought_moved}
use Rattle.api_dfa.specs.Left.{FindKeeps, FindRuns, FindSteps, find_left}
use Rattle.api_dfa.specs.declared.iterators.FindMatches.{FindMatches}

-- the next match of the list, where the one before ended at `last`
abbrev pub next_in : MatchKind → Sought → Searched → Option ℕ → Option Found
next_in kind q i last = next_match begin_of end_of (answer_by_from kind (search_for q i)) i.span.start last

-- the first of the matches that are left, and the others
pub going_some : (kind : MatchKind) (q : Sought) (i j : Searched) (last : Option ℕ) (m : Found) {o : Option Found} → IsMoved i j → j.span.start ≡ m.end →
    o ≡ Some m → o ≡ next_in kind q i last →
    matches_by_kind kind (search_for q i) i.span.start last ≡ m ∷ matches_by_kind kind (search_for q j) j.span.start (Some m.end)
going_some kind q i j last m moved at found is =
    step_some kind (search_for q i) i.span.start last m (sym found ∙ is)
    ∙ ap (λ ms. m ∷ ms)
    (sym (left_from kind (search_for q i) j.span.start m.end (Some m.end))
    ∙ ap (λ u. matches_by_kind kind u m.end (Some m.end)) (sym (sought_moved q i j moved))
    ∙ ap (λ k. matches_by_kind kind (search_for q j) k (Some m.end)) (sym at))

pub going_none : (kind : MatchKind) (q : Sought) (i : Searched) (last : Option ℕ) {o : Option Found} → o ≡ None → o ≡ next_in kind q i last →
    matches_by_kind kind (search_for q i) i.span.start last ≡ []
going_none kind q i last none is = step_none kind (search_for q i) i.span.start last (sym none ∙ is)

still : (i : Searched) → IsMoved i i
still i = record {
  content = refl;
  end = refl;
  slice = refl;
  anchored = refl;
  earliest = refl;
}

moved_on : {i j k : Searched} → IsMoved i j → IsMoved j k → IsMoved i k
moved_on m n = record {
  content = n.content ∙ m.content;
  end = n.end ∙ m.end;
  slice = n.slice ∙ m.slice;
  anchored = n.anchored ∙ m.anchored;
  earliest = n.earliest ∙ m.earliest;
}

module _ {C : Type 0} where
  begins : (first : FindMatches C) (items : List Found) (later : FindMatches C) → Yields (FindSteps {C = C}) first (map Ok items) later →
      find_left first ≡ items ++ find_left later
  begins first [] later run = ap find_left run
  begins first (m ∷ items) later run = run.1.0 ∙ ap (λ ms. m ∷ ms) (begins run.0 items later run.2)

  keeps : (first : FindMatches C) (items : List (Result Found MatchError)) (later : FindMatches C) →
      Yields (FindSteps {C = C}) first items later → FindKeeps first later
  keeps first [] later run = subst (FindKeeps first) run (refl, still first.input)
  keeps first (item ∷ items) later run =
      let step = run.1.1 in
      let rest = keeps run.0 items later run.2 in
      (rest.0 ∙ step.0, moved_on step.1 rest.1)

  -- nothing is left once it is over
  left_over : (s : FindMatches C) → s.is_done ≡ true → find_left s ≡ []
  left_over s done = rw done refl

  nothing_over : (s : FindMatches C) (item : Option (Result Found MatchError)) (t : FindMatches C) → s.is_done ≡ true →
      FindSteps {C = C} s item t → item ≡ None
  nothing_over s None t done step = refl
  nothing_over s (Some (Ok m)) t done step = let never : [] ≡ m ∷ find_left t = sym (left_over s done) ∙ step.0 in cc
  nothing_over s (Some (Err e)) t done step = absurd (step.0.0 done)

  pub find_runs : (first : FindMatches C) → FindRuns first
  find_runs first = record {
    begin = begins first;
    all = λ items later run. begins first items run.0 run.1 ∙ ap (λ ms. items ++ ms) run.2.0.0 ∙ append-nil items;
    keeps = keeps first;
    ends = λ items e later last item run step. nothing_over later item last run.2.0.2 step;
  }
