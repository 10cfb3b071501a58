-- An engine that fits patterns under settings searches for what they seek, and finds the matches of that.
use Rattle.std.proofs.Common.{◌≡◌, ◌∙◌, ℕ, List, [], ◌∷◌, Option, Some, None, ap, subst, sym}
use Rattle.rc_text.specs.Found.{Found}
use Rattle.rc_text.specs.Text.{Searched}
use Rattle.rc_text.specs.declared.types.MatchKind.{MatchKind}
use Rattle.rc_pattern.specs.Re.{Re}
use Rattle.rc_captures.specs.declared.captures.Captures.{Captures}
use Rattle.rc_captures.specs.declared.groups.GroupInfo.{GroupInfo}
use Rattle.rc_program.specs.Program.{program, shown}
use Rattle.rc_program.specs.Kinds.{answer_by, answer_by_from, matches_by_kind}
use Rattle.rc_program.specs.Matches.{begin_of, end_of, from_on, next_match}
use Rattle.rc_program.specs.Sought.{Sought, passes_over, search_over, search_for}
use Rattle.rc_pikevm_search.specs.Engine.{engine_search}
use Rattle.rc_pikevm_search.specs.Moved.{IsMoved}
use Rattle.rc_pikevm_search.specs.Tells.{TellsBy}
use Rattle.rc_pikevm_search.specs.declared.engine.Engine.{Engine}
use Rattle.rc_pikevm_search.proofs.Steps.{left_from, search_moved, step_none, step_some}
use Rattle.rc_settings.specs.Which.{is_grouped}
use Rattle.rc_settings.specs.Thompson.{Settings, which_captures_of, line_terminator_of}
use Rattle.rc_build.specs.Fits.{Fits, sought_by}

-- the engine finds this as the next match
abbrev pub Finds : Engine → Searched → Option ℕ → Option Found → Type 0
Finds e i last o = o ≡ next_match begin_of end_of (answer_by_from e.kind (engine_search e i)) i.span.start last

-- the search of an input whose span starts elsewhere
pub sought_moved : (q : Sought) (i j : Searched) → IsMoved i j → search_for q j ≡ from_on (search_for q i) j.span.start
sought_moved q = search_moved (program (shown q.grouped q.patterns)) q.terminator (passes_over q)

module _ {s : Settings} {kind : MatchKind} {hs : List Re} {e : Engine} {info : GroupInfo} (fits : Fits s kind hs e info) where
  pub fits_search : (i : Searched) → engine_search e i ≡ search_for (sought_by s hs) i
  fits_search i =
      ap (λ x. search_over x e.program.terminator e.program.passes_over i) fits.placed
      ∙ ap (λ x. search_over (program (shown (is_grouped (which_captures_of s)) hs)) x e.program.passes_over i) fits.ended
      ∙ ap (λ x. search_over (program (shown (is_grouped (which_captures_of s)) hs)) (line_terminator_of s) x i) fits.passing

  -- the engine's answer is that of what is sought
  pub answer_same : (i : Searched) → answer_by e.kind (engine_search e i) ≡ answer_by kind (search_for (sought_by s hs) i)
  answer_same i = ap (answer_by e.kind) (fits_search i) ∙ ap (λ k. answer_by k (search_for (sought_by s hs) i)) fits.kinded

  -- captures that tell what the engine finds tell what is sought
  pub told_same : (i : Searched) (caps : Captures) → TellsBy e.kind (engine_search e i) caps → TellsBy kind (search_for (sought_by s hs) i) caps
  told_same i caps told =
      subst (λ k. TellsBy k (search_for (sought_by s hs) i) caps) fits.kinded (subst (λ x. TellsBy e.kind x caps) (fits_search i) told)

  -- so is the next match
  pub finds_same : (i : Searched) (last : Option ℕ) (o : Option Found) → Finds e i last o →
      o ≡ next_match begin_of end_of (answer_by_from kind (search_for (sought_by s hs) i)) i.span.start last
  finds_same i last o is =
      is ∙ ap (λ x. next_match begin_of end_of (answer_by_from e.kind x) i.span.start last) (fits_search i)
      ∙ ap (λ k. next_match begin_of end_of (answer_by_from k (search_for (sought_by s hs) i)) i.span.start last) fits.kinded

  -- the engine finds the first of the matches that are left of what is sought, and leaves the others
  pub engine_some : (i j : Searched) (last : Option ℕ) (m : Found) → IsMoved i j → j.span.start ≡ m.end → Finds e i last (Some m) →
      matches_by_kind kind (search_for (sought_by s hs) i) i.span.start last
      ≡ m ∷ matches_by_kind kind (search_for (sought_by s hs) j) j.span.start (Some m.end)
  engine_some i j last m moved at is =
      let q = sought_by s hs in
      step_some kind (search_for q i) i.span.start last m (finds_same i last (Some m) is)
      ∙ ap (λ ms. m ∷ ms)
      (sym (left_from kind (search_for q i) j.span.start m.end (Some m.end))
      ∙ ap (λ u. matches_by_kind kind u m.end (Some m.end)) (sym (sought_moved q i j moved))
      ∙ ap (λ k. matches_by_kind kind (search_for q j) k (Some m.end)) (sym at))

  pub engine_none : (i : Searched) (last : Option ℕ) → Finds e i last None → matches_by_kind kind (search_for (sought_by s hs) i) i.span.start last ≡ []
  engine_none i last is = step_none kind (search_for (sought_by s hs) i) i.span.start last (finds_same i last None is)
