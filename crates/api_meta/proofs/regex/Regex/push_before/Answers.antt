use Rattle.std.proofs.Common.{rules, ◌≡◌, ◌∙◌, ◌≤◌, ◌<◌, ℕ, List, [], Some, ap, sym, subst, refl, arith}
use Rattle.rc_text.specs.Found.{Found}
use Rattle.rc_text.specs.Text.{high}
use Rattle.rc_program.specs.Matches.{begin_of, end_of, next_match}
use Rattle.rc_pikevm_search.specs.Moved.{IsMoved}
use Rattle.rc_strategy.proofs.ListLemmas.{list_moved, none_kept}
use Rattle.api_meta.specs.Ahead.{AddsNext}
use Rattle.api_meta.proofs.Cached.{keeps_room, stays_for}
use Rattle.api_meta.proofs.NextLemmas.{adds_one, adds_same, fewer_left, find_by, found_on, left_at_most, moved_near, none_behind, some_behind}
use Rattle.api_meta.proofs.regex.Regex.push_before.Given.{Over}
use Rattle.api_meta.proofs.regex.Regex.push_before.Goals as goal
use Rattle.api_meta.proofs.regex.Regex.push_before.Goals.{After-set_start, in_default, in-Some+then-start-before, in-Some+else-start-before+then-is_err}

pub loop-found-init : goal.loop-found-init
loop-found-init g c = record {
  made = c.requires.made;
  room = refl;
  moves = search rules;
  start = sym c.start-from.ensures;
  kept = none_kept c.args.self.now.engines c.args.input.now c.clear.new.self c.clear.ensures;
  adds = record { more = []; added = search rules; next = (c.start-from.ensures, refl) };
}

-- what was found is the next match
found_next : (g : Over) (c : After-set_start g) →
    next_match begin_of end_of (find_by c.args.self.now c.args.input.now) c.loop-found.from c.loop-found.last ≡ Some c.in-Some.found
found_next g c =
    let held = c.loop-found in
    sym (found_on c.args.self.now c.args.input.now held.input held.from held.last c.next_along.result held.invariant.moves held.invariant.start
    c.next_along.ensures.found) ∙ c.in-Some.is

pub loop-found-smaller : goal.loop-found-smaller
loop-found-smaller g c =
    let i = c.args.input.now in
    let held = c.loop-found in
    subst (λ (e : ℕ). left_at_most (high i) e (Some e) < left_at_most (high i) held.from held.last) (sym c.end-from.ensures.value)
    (fewer_left c.args.self.now i held.from held.last c.in-Some.found (found_next g c))

pub loop-found-preserved : goal.loop-found-preserved
loop-found-preserved g c =
    let r = c.args.self.now in
    let i = c.args.input.now in
    let held = c.loop-found in
    let at = c.next_along.new.input in
    let m = c.in-Some.found in
    let moves : IsMoved at c.set_start.new.self = search rules in
    let adds = adds_one (find_by r i) c.args.before i.span.start c.args.last.now c.args.matches.now.items held.from held.last held.matches.items m
    held.invariant.adds (found_next g c) (omega arith) in
    record {
      made = stays_for r held.cache.inner c.next_along.new.cache held.invariant.made c.next_along.ensures.cache;
      room = keeps_room r held.cache.inner c.next_along.new.cache c.next_along.ensures.cache ∙ held.invariant.room;
      moves = search rules;
      start = c.set_start.ensures.start;
      kept = list_moved r.engines at c.set_start.new.self c.next_along.new.memo moves c.next_along.ensures.memo;
      adds =
          subst (λ (e : ℕ). AddsNext (find_by r i) c.args.before i.span.start c.args.last.now c.args.matches.now.items e (Some e) c.push.new.self.items) (sym c.end-from.ensures.value)
          (subst (λ (ms : List Found). AddsNext (find_by r i) c.args.before i.span.start c.args.last.now c.args.matches.now.items m.end (Some m.end) ms) (search rules) adds);
    }

pub set_back-requires : goal.set_back-requires
set_back-requires g c other =
    let held = c.loop-found in
    let at = c.next_along.new.input in
    let near : held.input.span.start ≤ high held.input =
    moved_near c.args.self.now held.input held.last at.span.start c.next_along.ensures.start (λ e. other (e ∙ held.invariant.start)) in
    omega arith

pub returns-clause-cache : goal.returns-clause-cache
returns-clause-cache g c =
    stays_for c.args.self.now c.loop-found.cache.inner c.next_along.new.cache c.loop-found.invariant.made c.next_along.ensures.cache

pub returns-clause-room : goal.returns-clause-room
returns-clause-room g c =
    keeps_room c.args.self.now c.loop-found.cache.inner c.next_along.new.cache c.next_along.ensures.cache ∙ c.loop-found.invariant.room

pub returns-clause-adds : goal.returns-clause-adds
returns-clause-adds g c =
    let held = c.loop-found in
    let same : c.match-next_along.matches.items ≡ held.matches.items = elim c.match-next_along.branch [
      | in_default w ↦ ap (λ (v : _). v.items) w.matches-is
      | in-Some+then-start-before w ↦ ap (λ (v : _). v.items) w.matches-is
      | in-Some+else-start-before+then-is_err w ↦
          let left : w.push.new.self.items ≡ held.matches.items = search rules in ap (λ (v : _). v.items) w.matches-is ∙ left
    ] in
    adds_same (find_by c.args.self.now c.args.input.now) c.args.before c.args.input.now.span.start c.args.last.now c.args.matches.now.items held.from
    c.set_back.new.input.span.start held.last held.matches.items c.match-next_along.matches.items c.set_back.ensures.start same held.invariant.adds

pub returns-clause-behind : goal.returns-clause-behind
returns-clause-behind g c =
    let r = c.args.self.now in
    let i = c.args.input.now in
    let held = c.loop-found in
    let next : next_match begin_of end_of (find_by r i) c.set_back.new.input.span.start held.last ≡ c.next_along.result =
    ap (λ k. next_match begin_of end_of (find_by r i) k held.last) c.set_back.ensures.start
    ∙ sym (found_on r i held.input held.from held.last c.next_along.result held.invariant.moves held.invariant.start c.next_along.ensures.found) in
    elim c.match-next_along.branch [
      | in_default w ↦ rw w.outcome-is (none_behind c.args.before _ (next ∙ w.in_default.is))
      | in-Some+then-start-before w ↦ let after : c.args.before ≤ w.in-Some.found.start = omega arith in
          rw w.outcome-is (some_behind c.args.before _ w.in-Some.found (next ∙ w.in-Some.is) after)
      | in-Some+else-start-before+then-is_err w ↦ rw w.outcome-is tt
    ]
