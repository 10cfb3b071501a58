use Rattle.std.proofs.Common.{◌<◌, ◌++◌, length, reverse, refl, sym, subst, ap, ◌∙◌, arith}
use Rattle.std.proofs.lemmas.List.{length-map}
use Rattle.rc_program.specs.Program.{Place, place_at, ways_out}
use Rattle.rc_program.specs.Laws.{targets}
use Rattle.rc_utf8.specs.Places.{place_of, places_of}
use Rattle.rc_determinize.specs.Sides.{holds_by}
use Rattle.rc_determinize.specs.Steps.{AreBelow, ahead_of}
use Rattle.rc_determinize.specs.Sparse.{Members}
use Rattle.rc_determinize.specs.Machine.{stay_places, read_places, add_all}
use Rattle.rc_determinize.proofs.OpenLemmas.{empty_of_length}
use Rattle.rc_determinize.proofs.FollowLemmas.{targets_below}
use Rattle.rc_determinize.proofs.GatherLemmas.{sets_out, top_below, passes_by, enters, all_entered, entered_are, IsCollecting, left}
use Rattle.rc_determinize.proofs.forward.gather.Goals as goal
use Rattle.rc_determinize.proofs.forward.gather.Goals.{In-Some, Else-insert, In_ok-open}

pub places-init : goal.places-init
places-init c =
    sets_out c.args.places.now (holds_by c.args.behind c.args.ahead) c.args.after (reverse c.args.stack.now.items)
    c.args.entered.now c.args.listed.now c.args.stack.now.items refl c.requires.below c.requires.entered c.requires.listed

inside : (c : In-Some) → c.in-Some.place < length c.args.places.now
inside c =
    top_below c.args.places.now (holds_by c.args.behind c.args.ahead) c.args.after (reverse c.args.stack.now.items)
    c.places.stack.items c.pop.new.self.items c.in-Some.place c.in-Some.ensures.items c.places.invariant.below

pub insert-requires : goal.insert-requires
insert-requires c = subst (λ n. c.in-Some.place < n) (sym c.places.invariant.entered_size) (inside (goal.at.insert-requires c).In-Some)

pub place_at-here-requires : goal.place_at-here-requires
place_at-here-requires c = inside (goal.at.place_at-here-requires c).In-Some

pub open-requires : goal.open-requires
open-requires c =
    rw (c.place_at-here.ensures, c.places.invariant.wanted_size)
    (subst (λ n. AreBelow n (targets (place_at (places_of c.args.places.now) c.in-Some.place))) (length-map c.args.places.now place_of)
    (targets_below (places_of c.args.places.now) c.requires.closed c.in-Some.place))

pub returns-clause-step : goal.returns-clause-step
returns-clause-step c =
    all_entered c.args.places.now (holds_by c.args.behind c.args.ahead) c.args.after (reverse c.args.stack.now.items)
    c.places.entered c.places.listed c.places.stack.items c.places.least
    (empty_of_length c.places.stack.items (let a = c.in_default.ensures.cases.0 in let b = c.places.stack.ok.0 in omega (arith, a, b))) c.places.invariant

pub returns-clause-entered : goal.returns-clause-entered
returns-clause-entered c =
    entered_are c.args.places.now (holds_by c.args.behind c.args.ahead) c.args.after (reverse c.args.stack.now.items)
    c.places.entered c.places.listed c.places.stack.items c.places.least
    (empty_of_length c.places.stack.items (let a = c.in_default.ensures.cases.0 in let b = c.places.stack.ok.0 in omega (arith, a, b))) c.places.invariant

passed : (c : Else-insert) → IsCollecting c.args.places.now (holds_by c.args.behind c.args.ahead) c.args.after (reverse c.args.stack.now.items)
    c.insert.new.self c.places.listed c.pop.new.self.items c.places.least
    × (left c.args.places.now (holds_by c.args.behind c.args.ahead) c.args.after (reverse c.args.stack.now.items) c.insert.new.self c.pop.new.self.items
    < left c.args.places.now (holds_by c.args.behind c.args.ahead) c.args.after (reverse c.args.stack.now.items) c.places.entered c.places.stack.items)
passed c =
    passes_by c.args.places.now (holds_by c.args.behind c.args.ahead) c.args.after (reverse c.args.stack.now.items)
    c.places.entered c.insert.new.self c.places.listed c.places.stack.items c.pop.new.self.items c.places.least c.in-Some.place c.in-Some.ensures.items
    c.if-insert.ensures.member c.if-insert.ensures.after c.places.invariant

pub places-preserved : goal.places-preserved
places-preserved c = (passed c).0

pub places-smaller : goal.places-smaller
places-smaller c = (passed c).1

entered : (c : In_ok-open) → IsCollecting c.args.places.now (holds_by c.args.behind c.args.ahead) c.args.after (reverse c.args.stack.now.items)
    c.insert.new.self c.open.new.listed c.open.new.stack.items c.least_with-least.result
    × (left c.args.places.now (holds_by c.args.behind c.args.ahead) c.args.after (reverse c.args.stack.now.items) c.insert.new.self c.open.new.stack.items
    < left c.args.places.now (holds_by c.args.behind c.args.ahead) c.args.after (reverse c.args.stack.now.items) c.places.entered c.places.stack.items)
entered c =
    let same = λ (p : Place). ways_out (holds_by c.args.behind c.args.ahead) (ahead_of c.args.after) p in
    rw (c.least_with-least.ensures, c.place_at-here.ensures)
    (enters c.args.places.now (holds_by c.args.behind c.args.ahead) c.args.after (reverse c.args.stack.now.items) c.requires.closed
    c.places.entered c.insert.new.self c.places.listed c.open.new.listed c.places.stack.items c.pop.new.self.items c.open.new.stack.items
    c.places.least c.in-Some.place c.in-Some.ensures.items c.if-insert.ensures.after c.if-insert.ensures.few
    (c.in_ok-open.ensures.pushed ∙ ap (λ p. c.pop.new.self.items ++ reverse (stay_places (same p))) c.place_at-here.ensures)
    (c.in_ok-open.ensures.added
    ∙ ap (λ p. let m : Members = record c.places.listed { items = add_all c.places.listed.items (read_places (same p)) } in m) c.place_at-here.ensures)
    c.places.invariant)

pub places-preserved-in-Continue-1 : goal.places-preserved-in-Continue-1
places-preserved-in-Continue-1 c = (entered c).0

pub places-smaller-in-Continue-1 : goal.places-smaller-in-Continue-1
places-smaller-in-Continue-1 c = (entered c).1
