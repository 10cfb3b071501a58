-- The first of the matches that are left, wherever the one before ended, and what runs of an iterator give.
use Rattle.std.proofs.Common.{◌≡◌, ◌∙◌, ℕ, ◌+◌, ◌-◌, ◌*◌, ◌<◌, ◌≤◌, Bool, true, false, List, [], ◌∷◌, Option, Some, None, IfSome, MatchOption, if◌then◌else◌, length, ap, subst, refl, arith}
use Rattle.std.specs.Iterator.Runs.{YieldsInOrder}
use Rattle.std.proofs.iter.runs.Sources.{from_front, as_is}
use Rattle.rc_text.specs.Found.{Found}
use Rattle.rc_text.specs.Text.{Searched, high, low}
use Rattle.std.proofs.Math.Nat.{mul-le-mul_left}
use Rattle.std.proofs.lemmas.List.{length-map}
use Rattle.rc_text.specs.declared.types.MatchKind.TheVariants.{All as all_matches, LeftmostFirst as leftmost_first, LeftmostLongest as leftmost_longest}
use Rattle.rc_text.specs.declared.types.MatchKind.{MatchKind}
use Rattle.rc_text.specs.declared.cursor.Cursor.{Ghosts}
use Rattle.rc_program.specs.Kinds.{answer_by_from}
use Rattle.rc_pikevm_search.specs.Engine.{Counts, engine_search}
use Rattle.rc_pikevm_search.specs.Moved.{IsMoved}
use Rattle.rc_pikevm_search.specs.declared.engine.Engine.{Engine}
use Rattle.rc_captures.specs.declared.groups.GroupInfo.{GroupInfo}
use Rattle.rc_pattern.specs.Re.{Re}
use Rattle.rc_pikevm.specs.Caches.{Made}
use Rattle.rc_program.specs.Places.{place_of, places_of}
use Rattle.rc_program.specs.Program.{Place, program, shown}
use Rattle.rc_program.specs.declared.place.Place as code
use Rattle.rc_pikevm_search.specs.Choices.{answering, answering_for}
use Rattle.rc_pikevm_search.specs.Walks.{again, next_start}
use Rattle.rc_pikevm_search.specs.declared.literals.Literals.{Literals}
use Rattle.rc_build.specs.Fits.{Fits, sought_by}
use Rattle.rc_settings.specs.Thompson.{Settings}
use Rattle.api_pikevm.specs.Left.{FindKeeps, FindKeepsAlong, FindSteps, find_left}
use Rattle.api_pikevm.specs.declared.iterators.FindMatches.{FindMatches}

same_places : {ps : List Place} (places : List code.Place) → places_of places ≡ ps → length places ≡ length ps
same_places places e = let many = length-map places place_of in let same = ap length e in omega (arith, many, same)

-- no needles alone tell the matches of an engine that fits
no_needles : (kind : MatchKind) (s : Literals) → answering s ≡ None → answering_for kind s ≡ None
no_needles leftmost_first s e = e
no_needles all_matches s e = refl
no_needles leftmost_longest s e = refl

from_start : (b : Bool) (k : ℕ) → k ≤ (if b then k + 1 else k)
from_start true k = omega arith
from_start false k = omega arith

by_pass : {X : Type 0} (o : Option X) (P : Type 0) (Q : X → Type 0) → o ≡ None → MatchOption o P Q → P
by_pass o P Q e h = subst (λ x. MatchOption x P Q) e h

-- fewer positions, fewer places
few_places : (places many n a b : ℕ) → places ≡ many → a ≤ b → n ≤ places * (a + 2) → n ≤ many * (b + 2)
few_places places many n a b same less few =
    let more : a + 2 ≤ b + 2 = omega (arith, less) in
    let grown = mul-le-mul_left many more in
    let from : n ≤ many * (a + 2) = subst (λ p. n ≤ p * (a + 2)) same few in
    omega (arith, from, grown)

-- what the pass for the next match counted, by the bounds before the search
pub counted : {q : Settings} {kind : MatchKind} {hs : List Re} {e : Engine} {info : GroupInfo} → Fits q kind hs e info → (i j : Searched) (last : Option ℕ)
    (item : Option Found) (c d : Made) → {o : Option Found} → answering e.literals ≡ None → IsMoved i j → j.span.start ≡ next_start e.kind (engine_search e i) i.span.start last → o ≡ item →
    Counts e j o c d →
    (high i < low i → d.insertions ≡ 0) × (d.insertions ≤ length (program (shown (sought_by q hs).grouped hs)) * (high i - low i + 2))
    × IfSome item (λ m. m.end - m.start + 1 ≤ d.insertions)
counted {hs = hs} {e = e} f i j last item c d {o = o} unanswered moved at is counts =
    let s = subst (λ x. Counts e j x c d) is counts in
    let count = by_pass (answering_for e.kind e.literals) _ _ (no_needles e.kind e.literals unanswered) s in
    let ahead = from_start (again last (answer_by_from e.kind (engine_search e i) i.span.start)) i.span.start in
    let lower : low i ≤ low j = rw moved.slice (omega (arith, ahead, at)) in
    let top : high j ≡ high i = rw (moved.content, moved.end, moved.slice) refl in
    let less : high j - low j ≤ high i - low i = omega (arith, lower, top) in (
      λ cross. count.none (omega (arith, lower, top, cross)),
      few_places (length e.program.places.items) _ d.insertions (high j - low j) (high i - low i) (same_places e.program.places.items f.placed) less count.few,
      count.counted,
    )

still : (i : Searched) → IsMoved i i
still i = record {
  content = refl;
  end = refl;
  slice = refl;
  anchored = refl;
  earliest = refl;
}

moved_on : {i j k : Searched} → IsMoved i j → IsMoved j k → IsMoved i k
moved_on m n = record {
  content = n.content ∙ m.content;
  end = n.end ∙ m.end;
  slice = n.slice ∙ m.slice;
  anchored = n.anchored ∙ m.anchored;
  earliest = n.earliest ∙ m.earliest;
}

module _ {C : Type 0} {cursor : Ghosts C} where
  pub find_runs : YieldsInOrder (FindSteps {C = C} {cursor = cursor}) find_left
  find_runs p s = as_is p (find_left p.from) (from_front (FindSteps {C = C} {cursor = cursor}) (λ x. x) find_left (λ s t h. ap length h.0.0) (λ s x t h. h.0) p s)

  pub find_keeps_along : (first : FindMatches C cursor) → FindKeepsAlong first
  find_keeps_along first [] later run = subst (FindKeeps first) run (refl, refl, refl, still first.input)
  find_keeps_along first (item ∷ items) later run =
      let step = run.1.1.0 in
      let rest = find_keeps_along run.0 items later run.2 in
      (rest.0 ∙ step.0, rest.1 ∙ step.1, rest.2 ∙ step.2, moved_on step.3 rest.3)
