use Rattle.std.proofs.Common.{rules, ◌≡◌, ◌+◌, ◌<◌, ◌≤◌, ◌∙◌, ap, inl, inr, arith, true, false, List, not, length, reverse, subst, sym}
use Rattle.std.proofs.lemmas.List.{take_at}
use Rattle.rc_walks.specs.Walks.{Pair}
use Rattle.rc_program.specs.Answer.{IsFirstFrom}
use Rattle.rc_program.specs.Programs.{search_of}
use Rattle.rc_program.specs.Places.{places_of}
use Rattle.oracle_walker.specs.Frames.{IsMarked, walk_of}
use Rattle.rc_program.proofs.AnswerLemmas.{first_start_chosen, no_start_chosen, start_to_last, start_within_last, one_more_passed, last_start_of}
use Rattle.oracle_walker.proofs.SearchLemmas.{tells, told_allowed}
use Rattle.oracle_walker.proofs.MarkLemmas.{marked_length}
use Rattle.oracle_walker.proofs.walker.find_walk.Goals as goal
use Rattle.oracle_walker.proofs.walker.find_walk.Goals.{then-branch+else-allows, else-branch}

pub returns-then-allows-clause-found : goal.returns-then-allows-clause-found
returns-then-allows-clause-found g c =
    let P = places_of c.args.program.now.places.items in
    let t = c.args.program.now.terminator in
    let over = c.args.program.now.passes_over in
    let input = c.args.input.now in
    let s = search_of c.args.program.now input in
    let start = c.loop-start.start in
    let walk : List Pair = walk_of c.first_walk.new.stack in
    let keeps = c.loop-start.invariant.keeps in
    let only_is = rw c.get_anchored.ensures at c.only_of-only.ensures in
    let told = tells P t over input c.loop-start.input c.high-hi.result start c.only_of-only.result walk c.in_ok-first_walk.field-0 keeps c.high-hi.ensures.value only_is
    (record { first = c.in_ok-first_walk.ensures.first; none = c.in_ok-first_walk.ensures.none }) in
    let first : IsFirstFrom s start walk = told.first c.if-branch.true in
    let last : c.last_start-start-end.result ≡ last_start_of s =
    rw (c.is_anchored-is_anchored.ensures, c.get_anchored-2.ensures, c.low-lo.ensures, c.high-hi.ensures.value) at c.last_start-start-end.ensures in
    let low : s.lo ≤ start = rw c.low-lo.ensures at c.loop-start.auto.start in
    first_start_chosen s start walk (start_within_last s start low (rw last at c.loop-start-test.true)) first
    (told_allowed P t over input c.first_walk.new.input.content walk true c.allows.result (c.in_ok-first_walk.ensures.keeps.content ∙ keeps.content)
    c.allows.ensures.value c.if-allows.true)
    c.loop-start.invariant.passed

pub loop-start-preserved : goal.loop-start-preserved
loop-start-preserved g c =
    let P = places_of c.args.program.now.places.items in
    let t = c.args.program.now.terminator in
    let over = c.args.program.now.passes_over in
    let input = c.args.input.now in
    let s = search_of c.args.program.now input in
    let start = c.loop-start.start in
    let walk : List Pair = walk_of c.first_walk.new.stack in
    let keeps = c.loop-start.invariant.keeps in
    let only_is = rw c.get_anchored.ensures at c.only_of-only.ensures in
    let told = tells P t over input c.loop-start.input c.high-hi.result start c.only_of-only.result walk c.in_ok-first_walk.field-0 keeps c.high-hi.ensures.value only_is
    (record { first = c.in_ok-first_walk.ensures.first; none = c.in_ok-first_walk.ensures.none }) in
    let n = length c.args.program.now.places.items in
    let marks = c.first_walk.new.marks in
    let long = marked_length n marks (reverse c.first_walk.new.stack.items) c.in_ok-first_walk.ensures.marked in
    let was = marked_length n c.loop-start.marks.items (reverse c.loop-start.frames.items) c.loop-start.invariant.marked in
    let same : length marks ≡ c.loop-start.marks.len = omega (arith, long, was, c.loop-start.marks.ok.0) in
    record {
      keeps = search rules;
      passed = one_more_passed s start c.loop-start.invariant.passed (elim c.if-branch.branch [
        | then-branch+else-allows w ↦ inr (
          walk,
          told.first w.if-branch.true,
          told_allowed P t over input c.first_walk.new.input.content walk false w.allows.result
              (c.in_ok-first_walk.ensures.keeps.content ∙ keeps.content) w.allows.ensures.value w.if-allows.false,
        )
        | else-branch w ↦ inl (told.none (ap not w.if-branch.false))
      ]);
      marked = subst (λ xs. IsMarked n xs (reverse c.first_walk.new.stack.items)) (sym (take_at marks _ c.loop-start.marks.len same)) c.in_ok-first_walk.ensures.marked;
    }

pub returns-clause-found : goal.returns-clause-found
returns-clause-found g c =
    let s = search_of c.args.program.now c.args.input.now in
    let last : c.last_start-start-end.result ≡ last_start_of s =
    rw (c.is_anchored-is_anchored.ensures, c.get_anchored-2.ensures, c.low-lo.ensures, c.high-hi.ensures.value) at c.last_start-start-end.ensures in
    no_start_chosen s (λ y h. c.loop-start.invariant.passed y h.0
    (let l : y < last_start_of s + 1 = start_to_last s y h in omega (arith, l, last, c.loop-start-test.false)))
