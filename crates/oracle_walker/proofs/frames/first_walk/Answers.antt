use Rattle.std.proofs.Common.{rules, ◌≡◌, ◌<◌, [], ◌∷◌, true≢false, length, not, reverse, sym, ap, ◌∙◌, subst, arith, Some, None}
use Rattle.std.proofs.lemmas.List.{length-map}
use Rattle.std.proofs.lemmas.Option.{slice_get_within}
use Rattle.rc_walks.specs.Walks.{Pair}
use Rattle.rc_walks.proofs.WalkLemmas.{first_stops}
use Rattle.rc_program.specs.Sought.{text_of}
use Rattle.rc_program.specs.Program.{ways}
use Rattle.rc_program.proofs.WayLemmas.{same_pair, ways_onward, ways_within}
use Rattle.rc_program.proofs.PlaceLemmas.{ways_closed}
use Rattle.rc_program.specs.Places.{place_of, places_of}
use Rattle.oracle_walker.specs.Frames.{pair_of, Ends, IsMarked, fresh_frame}
use Rattle.oracle_walker.proofs.StepLemmas.{IsWalking, steps_back, steps_over, steps_on, arrives_on, gives_up, back_falls, over_falls, on_falls, few_ways, in_from_get, on_top, begins, empty_of_length, ends_last, walk_of_frames, again, same_way, top_walking}
use Rattle.oracle_walker.proofs.MarkLemmas.{mark_at, marked_length, on_stack, new_on_stack, top_marked, own_marked, still_marked}
use Rattle.oracle_walker.proofs.frames.first_walk.Goals as goal

pub unwind-requires : goal.unwind-requires
unwind-requires g c =
    let n = length c.args.program.now.places.items in
    record { marked = own_marked n c.args.marks.now (reverse c.args.stack.now.items) c.requires.marked }

pub enter-requires-clause-inside : goal.enter-requires-clause-inside
enter-requires-clause-inside g c =
    let n = length c.args.program.now.places.items in
    let long = marked_length n c.args.marks.now (reverse c.args.stack.now.items) c.requires.marked in
    let same = marked_length (length c.args.marks.now) c.unwind.new.marks [] c.unwind.ensures.marked in
    omega (arith, long, same, length-map c.args.program.now.places.items place_of, c.args.program.now.runnable.rooted)

pub returns-then-is_match-clause-marked : goal.returns-then-is_match-clause-marked
returns-then-is_match-clause-marked g c =
    let n = length c.args.program.now.places.items in
    let long = marked_length n c.args.marks.now (reverse c.args.stack.now.items) c.requires.marked in
    let same = marked_length (length c.args.marks.now) c.unwind.new.marks [] c.unwind.ensures.marked in
    subst (λ k. IsMarked k c.enter.new.marks (reverse c.enter.new.stack.items)) (same ∙ long) c.in_ok-enter.ensures.marked

pub returns-then-is_match-clause-first : goal.returns-then-is_match-clause-first
returns-then-is_match-clause-first g c =
    let P = places_of c.args.program.now.places.items in
    let T = text_of c.args.program.now.terminator c.args.input.now in
    let hi = c.args.hi in
    let start = c.args.start in
    let only = c.args.only in
    λ yes. rw (c.in_ok-enter.ensures.pushed, c.unwind.ensures.none)
    (first_stops (ways P T hi) (Ends only P) same_pair (ends_last P T hi start only) (0, start) [] [] (λ h. h) (sym c.is_match.ensures ∙ c.if-is_match.true))

pub steps-init : goal.steps-init
steps-init g c =
    let P = places_of c.args.program.now.places.items in
    let T = text_of c.args.program.now.terminator c.args.input.now in
    let hi = c.args.hi in
    let start = c.args.start in
    let only = c.args.only in
    let n = length c.args.program.now.places.items in
    let long = marked_length n c.args.marks.now (reverse c.args.stack.now.items) c.requires.marked in
    let same = marked_length (length c.args.marks.now) c.unwind.new.marks [] c.unwind.ensures.marked in
    let before = mark_at c.unwind.new.marks 0 in
    let stack = on_top c.enter.new.stack.items c.unwind.new.stack.items (fresh_frame 0 start before) c.in_ok-enter.ensures.pushed
    ∙ ap (λ xs. fresh_frame 0 start before ∷ reverse xs) c.unwind.ensures.none in
    let many : length P ≡ n = length-map c.args.program.now.places.items place_of in
    record {
      keeps = search rules;
      walking = rw stack
          (begins P T hi start only before (λ t. true≢false (sym t ∙ sym c.is_match.ensures ∙ c.if-is_match.false)) (omega (arith, many, c.args.program.now.runnable.rooted)) c.requires.start_in);
      marked = subst (λ k. IsMarked k c.enter.new.marks (reverse c.enter.new.stack.items)) (same ∙ long) c.in_ok-enter.ensures.marked;
    }

pub overflow_add-top : goal.overflow_add-top
overflow_add-top g c =
    let P = places_of c.args.program.now.places.items in
    let T = text_of c.args.program.now.terminator c.args.input.now in
    let hi = c.args.hi in
    let start = c.args.start in
    let only = c.args.only in
    let top = c.in-Some.top in
    let rest = c.pop.new.self.items in
    let walking = top_walking P T hi start only c.steps.stack.items rest top c.in-Some.ensures.items c.steps.invariant.walking in
    let next : Pair = (c.in-Some-way.place, c.in-Some-way.position) in
    let e = same_way P c.args.input.now c.steps.input c.args.program.now.terminator hi (pair_of top) top.tried (Some next) c.steps.invariant.keeps c.in-Some-way.ensures.value in
    let few = few_ways c.args.program.now.places.items T hi (pair_of top) in
    let h = slice_get_within (ways P T hi (pair_of top)) top.tried next e in omega (arith, few, h)

pub is_on-requires : goal.is_on-requires
is_on-requires g c =
    let P = places_of c.args.program.now.places.items in
    let T = text_of c.args.program.now.terminator c.args.input.now in
    let hi = c.args.hi in
    let start = c.args.start in
    let only = c.args.only in
    let n = length c.args.program.now.places.items in
    let top = c.in-Some.top in
    let rest = c.pop.new.self.items in
    let walking = top_walking P T hi start only c.steps.stack.items rest top c.in-Some.ensures.items c.steps.invariant.walking in
    let next : Pair = (c.in-Some-way.place, c.in-Some-way.position) in
    let e = same_way P c.args.input.now c.steps.input c.args.program.now.terminator hi (pair_of top) top.tried (Some next) c.steps.invariant.keeps c.in-Some-way.ensures.value in
    let inside : c.in-Some-way.place < n = rw length-map at (ways_closed P c.args.program.now.runnable.closed T hi (pair_of top) next (in_from_get (ways P T hi (pair_of top)) top.tried next e)) in
    let long = marked_length n c.steps.marks (reverse c.steps.stack.items) c.steps.invariant.marked in
    omega (arith, inside, long)

pub enter-requires-then-not-is_on-clause-inside : goal.enter-requires-then-not-is_on-clause-inside
enter-requires-then-not-is_on-clause-inside g c =
    let P = places_of c.args.program.now.places.items in
    let T = text_of c.args.program.now.terminator c.args.input.now in
    let hi = c.args.hi in
    let start = c.args.start in
    let only = c.args.only in
    let n = length c.args.program.now.places.items in
    let top = c.in-Some.top in
    let rest = c.pop.new.self.items in
    let walking = top_walking P T hi start only c.steps.stack.items rest top c.in-Some.ensures.items c.steps.invariant.walking in
    let next : Pair = (c.in-Some-way.place, c.in-Some-way.position) in
    let e = same_way P c.args.input.now c.steps.input c.args.program.now.terminator hi (pair_of top) top.tried (Some next) c.steps.invariant.keeps c.in-Some-way.ensures.value in
    let inside : c.in-Some-way.place < n = rw length-map at (ways_closed P c.args.program.now.runnable.closed T hi (pair_of top) next (in_from_get (ways P T hi (pair_of top)) top.tried next e)) in
    let long = marked_length n c.steps.marks (reverse c.steps.stack.items) c.steps.invariant.marked in
    omega (arith, inside, long)

pub enter-requires-then-not-is_on-clause-marked : goal.enter-requires-then-not-is_on-clause-marked
enter-requires-then-not-is_on-clause-marked g c =
    let n = length c.args.program.now.places.items in
    let top = c.in-Some.top in
    let rest = c.pop.new.self.items in
    let marked = top_marked n c.steps.marks c.steps.stack.items rest top c.in-Some.ensures.items c.steps.invariant.marked in
    let over = on_top c.push.new.self.items rest (again top) c.in_ok-push.ensures.items in
    rw over (own_marked n c.steps.marks (again top ∷ reverse rest) marked)

pub is_match-requires-then-not-is_on : goal.is_match-requires-then-not-is_on
is_match-requires-then-not-is_on g c =
    let P = places_of c.args.program.now.places.items in
    let T = text_of c.args.program.now.terminator c.args.input.now in
    let hi = c.args.hi in
    let start = c.args.start in
    let only = c.args.only in
    let top = c.in-Some.top in
    let rest = c.pop.new.self.items in
    let walking = top_walking P T hi start only c.steps.stack.items rest top c.in-Some.ensures.items c.steps.invariant.walking in
    let next : Pair = (c.in-Some-way.place, c.in-Some-way.position) in
    let e = same_way P c.args.input.now c.steps.input c.args.program.now.terminator hi (pair_of top) top.tried (Some next) c.steps.invariant.keeps c.in-Some-way.ensures.value in
    rw length-map at (ways_closed P c.args.program.now.runnable.closed T hi (pair_of top) next (in_from_get (ways P T hi (pair_of top)) top.tried next e))

pub returns-then-is_match-2-clause-marked : goal.returns-then-is_match-2-clause-marked
returns-then-is_match-2-clause-marked g c =
    let n = length c.args.program.now.places.items in
    still_marked n c.steps.marks c.enter-then-not-is_on.new.marks (reverse c.steps.stack.items) (reverse c.enter-then-not-is_on.new.stack.items) c.steps.invariant.marked c.in_ok-enter-2.ensures.marked

pub returns-then-is_match-2-clause-first : goal.returns-then-is_match-2-clause-first
returns-then-is_match-2-clause-first g c =
    let P = places_of c.args.program.now.places.items in
    let T = text_of c.args.program.now.terminator c.args.input.now in
    let hi = c.args.hi in
    let start = c.args.start in
    let only = c.args.only in
    let n = length c.args.program.now.places.items in
    let top = c.in-Some.top in
    let rest = c.pop.new.self.items in
    let walking = top_walking P T hi start only c.steps.stack.items rest top c.in-Some.ensures.items c.steps.invariant.walking in
    let marked = top_marked n c.steps.marks c.steps.stack.items rest top c.in-Some.ensures.items c.steps.invariant.marked in
    let next : Pair = (c.in-Some-way.place, c.in-Some-way.position) in
    let e = same_way P c.args.input.now c.steps.input c.args.program.now.terminator hi (pair_of top) top.tried (Some next) c.steps.invariant.keeps c.in-Some-way.ensures.value in
    let onward = ways_onward P T hi (pair_of top) next (in_from_get (ways P T hi (pair_of top)) top.tried next e) in
    let new = new_on_stack n c.steps.marks top (reverse rest) start c.in-Some-way.place c.in-Some-way.position marked walking.rising onward
    (c.is_on.ensures.off (ap not c.if-not-is_on.true)) in
    let before = mark_at c.steps.marks c.in-Some-way.place in
    λ yes. rw (c.in_ok-enter-2.ensures.pushed, c.in_ok-push.ensures.items)
    (rw (← walk_of_frames rest top c.in-Some-way.place c.in-Some-way.position before)
    (arrives_on P T hi start only top (reverse rest) c.in-Some-way.place c.in-Some-way.position e new
    (sym c.is_match-then-not-is_on.ensures ∙ c.if-is_match-2.true) walking))

pub steps-smaller-else-is_match-2 : goal.steps-smaller-else-is_match-2
steps-smaller-else-is_match-2 g c =
    let P = places_of c.args.program.now.places.items in
    let T = text_of c.args.program.now.terminator c.args.input.now in
    let hi = c.args.hi in
    let start = c.args.start in
    let only = c.args.only in
    let n = length c.args.program.now.places.items in
    let top = c.in-Some.top in
    let rest = c.pop.new.self.items in
    let walking = top_walking P T hi start only c.steps.stack.items rest top c.in-Some.ensures.items c.steps.invariant.walking in
    let marked = top_marked n c.steps.marks c.steps.stack.items rest top c.in-Some.ensures.items c.steps.invariant.marked in
    let next : Pair = (c.in-Some-way.place, c.in-Some-way.position) in
    let e = same_way P c.args.input.now c.steps.input c.args.program.now.terminator hi (pair_of top) top.tried (Some next) c.steps.invariant.keeps c.in-Some-way.ensures.value in
    let under = on_top c.steps.stack.items rest top c.in-Some.ensures.items in
    let over = on_top c.push.new.self.items rest (again top) c.in_ok-push.ensures.items in
    let onward = ways_onward P T hi (pair_of top) next (in_from_get (ways P T hi (pair_of top)) top.tried next e) in
    let new = new_on_stack n c.steps.marks top (reverse rest) start c.in-Some-way.place c.in-Some-way.position marked walking.rising onward
    (c.is_on.ensures.off (ap not c.if-not-is_on.true)) in
    let before = mark_at c.steps.marks c.in-Some-way.place in
    let fresh = fresh_frame c.in-Some-way.place c.in-Some-way.position before in
    let stack = on_top c.enter-then-not-is_on.new.stack.items c.push.new.self.items fresh c.in_ok-enter-2.ensures.pushed ∙ ap (λ xs. fresh ∷ xs) over in
    let inside = in_from_get (ways P T hi (pair_of top)) top.tried next e in
    let below = walking.below.0.1 in
    let on = steps_on P T hi start only top (reverse rest) c.in-Some-way.place c.in-Some-way.position before e new
    (λ t. true≢false (sym t ∙ sym c.is_match-then-not-is_on.ensures ∙ c.if-is_match-2.false))
    (ways_closed P c.args.program.now.runnable.closed T hi (pair_of top) next inside)
    (ways_within P T hi (pair_of top) next (omega (arith, below)) inside) walking in
    let few = few_ways c.args.program.now.places.items T hi next in
    rw (stack, under) (on_falls P T hi start only top fresh (reverse rest) next e on (omega (arith, few)))

pub steps-preserved-else-is_match-2 : goal.steps-preserved-else-is_match-2
steps-preserved-else-is_match-2 g c =
    let P = places_of c.args.program.now.places.items in
    let T = text_of c.args.program.now.terminator c.args.input.now in
    let hi = c.args.hi in
    let start = c.args.start in
    let only = c.args.only in
    let n = length c.args.program.now.places.items in
    let top = c.in-Some.top in
    let rest = c.pop.new.self.items in
    let walking = top_walking P T hi start only c.steps.stack.items rest top c.in-Some.ensures.items c.steps.invariant.walking in
    let marked = top_marked n c.steps.marks c.steps.stack.items rest top c.in-Some.ensures.items c.steps.invariant.marked in
    let next : Pair = (c.in-Some-way.place, c.in-Some-way.position) in
    let e = same_way P c.args.input.now c.steps.input c.args.program.now.terminator hi (pair_of top) top.tried (Some next) c.steps.invariant.keeps c.in-Some-way.ensures.value in
    let over = on_top c.push.new.self.items rest (again top) c.in_ok-push.ensures.items in
    let onward = ways_onward P T hi (pair_of top) next (in_from_get (ways P T hi (pair_of top)) top.tried next e) in
    let new = new_on_stack n c.steps.marks top (reverse rest) start c.in-Some-way.place c.in-Some-way.position marked walking.rising onward
    (c.is_on.ensures.off (ap not c.if-not-is_on.true)) in
    let before = mark_at c.steps.marks c.in-Some-way.place in
    let fresh = fresh_frame c.in-Some-way.place c.in-Some-way.position before in
    let stack = on_top c.enter-then-not-is_on.new.stack.items c.push.new.self.items fresh c.in_ok-enter-2.ensures.pushed ∙ ap (λ xs. fresh ∷ xs) over in
    let inside = in_from_get (ways P T hi (pair_of top)) top.tried next e in
    let below = walking.below.0.1 in
    let on = steps_on P T hi start only top (reverse rest) c.in-Some-way.place c.in-Some-way.position before e new
    (λ t. true≢false (sym t ∙ sym c.is_match-then-not-is_on.ensures ∙ c.if-is_match-2.false))
    (ways_closed P c.args.program.now.runnable.closed T hi (pair_of top) next inside)
    (ways_within P T hi (pair_of top) next (omega (arith, below)) inside) walking in
    record {
      keeps = search rules;
      walking = rw stack on;
      marked = still_marked n c.steps.marks c.enter-then-not-is_on.new.marks (reverse c.steps.stack.items) (reverse c.enter-then-not-is_on.new.stack.items) c.steps.invariant.marked c.in_ok-enter-2.ensures.marked;
    }

pub steps-smaller-else-not-is_on : goal.steps-smaller-else-not-is_on
steps-smaller-else-not-is_on g c =
    let P = places_of c.args.program.now.places.items in
    let T = text_of c.args.program.now.terminator c.args.input.now in
    let hi = c.args.hi in
    let start = c.args.start in
    let only = c.args.only in
    let top = c.in-Some.top in
    let rest = c.pop.new.self.items in
    let walking = top_walking P T hi start only c.steps.stack.items rest top c.in-Some.ensures.items c.steps.invariant.walking in
    let next : Pair = (c.in-Some-way.place, c.in-Some-way.position) in
    let e = same_way P c.args.input.now c.steps.input c.args.program.now.terminator hi (pair_of top) top.tried (Some next) c.steps.invariant.keeps c.in-Some-way.ensures.value in
    let under = on_top c.steps.stack.items rest top c.in-Some.ensures.items in
    let over = on_top c.push.new.self.items rest (again top) c.in_ok-push.ensures.items in
    rw (under, over) (over_falls P T hi start only top (reverse rest) next e)

pub steps-preserved-else-not-is_on : goal.steps-preserved-else-not-is_on
steps-preserved-else-not-is_on g c =
    let P = places_of c.args.program.now.places.items in
    let T = text_of c.args.program.now.terminator c.args.input.now in
    let hi = c.args.hi in
    let start = c.args.start in
    let only = c.args.only in
    let n = length c.args.program.now.places.items in
    let top = c.in-Some.top in
    let rest = c.pop.new.self.items in
    let walking = top_walking P T hi start only c.steps.stack.items rest top c.in-Some.ensures.items c.steps.invariant.walking in
    let marked = top_marked n c.steps.marks c.steps.stack.items rest top c.in-Some.ensures.items c.steps.invariant.marked in
    let next : Pair = (c.in-Some-way.place, c.in-Some-way.position) in
    let e = same_way P c.args.input.now c.steps.input c.args.program.now.terminator hi (pair_of top) top.tried (Some next) c.steps.invariant.keeps c.in-Some-way.ensures.value in
    let over = on_top c.push.new.self.items rest (again top) c.in_ok-push.ensures.items in
    let seen = on_stack n c.steps.marks (top ∷ reverse rest) c.in-Some-way.place c.in-Some-way.position marked (c.is_on.ensures.on c.if-not-is_on.false) in
    record { keeps = search rules; walking = rw over (steps_over P T hi start only top (reverse rest) next e seen walking); marked = rw over marked }

pub steps-smaller : goal.steps-smaller
steps-smaller g c =
    let P = places_of c.args.program.now.places.items in
    let T = text_of c.args.program.now.terminator c.args.input.now in
    let hi = c.args.hi in
    let start = c.args.start in
    let only = c.args.only in
    let top = c.in-Some.top in
    let rest = c.pop.new.self.items in
    let walking = top_walking P T hi start only c.steps.stack.items rest top c.in-Some.ensures.items c.steps.invariant.walking in
    let under = on_top c.steps.stack.items rest top c.in-Some.ensures.items in
    rw under (back_falls P T hi start only top (reverse rest) walking)

pub steps-preserved : goal.steps-preserved
steps-preserved g c =
    let P = places_of c.args.program.now.places.items in
    let T = text_of c.args.program.now.terminator c.args.input.now in
    let hi = c.args.hi in
    let start = c.args.start in
    let only = c.args.only in
    let n = length c.args.program.now.places.items in
    let top = c.in-Some.top in
    let rest = c.pop.new.self.items in
    let walking = top_walking P T hi start only c.steps.stack.items rest top c.in-Some.ensures.items c.steps.invariant.walking in
    let marked = top_marked n c.steps.marks c.steps.stack.items rest top c.in-Some.ensures.items c.steps.invariant.marked in
    let e = same_way P c.args.input.now c.steps.input c.args.program.now.terminator hi (pair_of top) top.tried None c.steps.invariant.keeps c.in_default-way.ensures.value in
    record { keeps = search rules; walking = steps_back P T hi start only top (reverse rest) e walking; marked = marked.2 }

pub returns-clause-none : goal.returns-clause-none
returns-clause-none g c =
    let P = places_of c.args.program.now.places.items in
    let T = text_of c.args.program.now.terminator c.args.input.now in
    let hi = c.args.hi in
    let start = c.args.start in
    let only = c.args.only in
    let none : c.steps.stack.items ≡ [] = empty_of_length c.steps.stack.items (omega (arith, c.in_default.ensures.cases.0, c.steps.stack.ok.0)) in
    λ no. gives_up P T hi start only (subst (λ fs. IsWalking P T hi start only (reverse fs)) none c.steps.invariant.walking)
