use Rattle.std.proofs.Common.{◌≡◌, List, ◌+◌, ◌-◌, ◌≤◌, length, refl, sym, ap, subst, ◌∙◌, arith, rules}
use Rattle.std.proofs.Math.Nat.{mul-le-mul_left}
use Rattle.rc_text.specs.Text.{is_boundary}
use Rattle.rc_walks.specs.Walks.{Pair}
use Rattle.rc_program.specs.Answer.{Search}
use Rattle.rc_program.specs.Sought.{anchoring_of}
use Rattle.rc_program.specs.Programs.{search_of}
use Rattle.rc_program.proofs.AnswerLemmas.{last_start_of}
use Rattle.rc_pikevm.specs.Sights.{sight_of}
use Rattle.rc_pikevm.specs.Moves.{seen}
use Rattle.rc_pikevm.specs.Passing.{best_of}
use Rattle.rc_pikevm.specs.Rules.{GivesBy, MayEnter}
use Rattle.rc_pikevm.proofs.KeptLemmas.{kept_seen, same_on}
use Rattle.rc_pikevm.proofs.SearchLemmas.{last_found, allowed_free, allowed_boundary, not_allowed}
use Rattle.rc_pikevm.proofs.RuleLemmas.{IsBest, chosen_by, enters_kept, left_by, none_by, none_below_by, outside_by, passed_by, past_by, some_by}
use Rattle.rc_pikevm.specs.Roots.{StandsFor}
use Rattle.rc_pikevm.proofs.search.choose.Given.{Over}
use Rattle.rc_pikevm.proofs.search.choose.Goals as goal
use Rattle.rc_pikevm.proofs.search.choose.Goals.{After-starts, After-pass, In-Some}

pub pass-requires : goal.pass-requires
pass-requires g c =
    let enters : MayEnter (length c.args.program.now.places.items) (StandsFor (sight_of (seen c.args.program.now c.starts.input))) c.args.rule =
    enters_kept c.args.program.now c.args.input.now c.starts.input c.args.rule c.starts.invariant.keeps c.requires.enters in
    search rules

pub starts-init : goal.starts-init
starts-init g c = record {
  keeps = search rules;
  passed = none_below_by c.args.rule (search_of c.args.program.now c.args.input.now) c.bounds-lo.result.0 c.bounds-lo.ensures.low;
  low = search rules;
  few = omega arith;
  same = search rules;
}

last_is : (g : Over) (c : After-starts g) → c.starts_of-pattern.result.1
    ≡ last_start_of (search_of c.args.program.now c.args.input.now)
last_is g c =
    last_found (search_of c.args.program.now c.args.input.now) c.starts_of-pattern.result.1
    c.bounds-lo.result.0 c.bounds-lo.result.1 (anchoring_of c.get_anchored.result) c.starts_of-pattern.ensures.last c.bounds-lo.ensures.low
    c.bounds-lo.ensures.high (ap anchoring_of (c.get_anchored.ensures ∙ c.bounds-lo.ensures.keeps.anchored))
    (omega (arith, c.if-lo-hi.false, c.bounds-lo.ensures.low, c.bounds-lo.ensures.high))

last_there : (g : Over) (c : After-pass g) → c.starts_of-pattern.result.1
    ≡ last_start_of (search_of c.args.program.now c.args.input.now)
last_there g c =
    last_found (search_of c.args.program.now c.args.input.now) c.starts_of-pattern.result.1
    c.bounds-lo.result.0 c.bounds-lo.result.1 (anchoring_of c.get_anchored.result) c.starts_of-pattern.ensures.last c.bounds-lo.ensures.low
    c.bounds-lo.ensures.high (ap anchoring_of (c.get_anchored.ensures ∙ c.bounds-lo.ensures.keeps.anchored))
    (omega (arith, c.if-lo-hi.false, c.bounds-lo.ensures.low, c.bounds-lo.ensures.high))

gives : (g : Over) (c : After-pass g) →
    GivesBy c.args.rule (sight_of (seen c.args.program.now c.args.input.now)) c.starts.scratch.next.threads.width c.starts.from c.starts_of-pattern.result.1
    (best_of c.pass.result c.pass.new.scratch.found.items)
gives g c =
    subst (λ s. GivesBy c.args.rule (sight_of s) c.starts.scratch.next.threads.width c.starts.from c.starts_of-pattern.result.1 (best_of c.pass.result c.pass.new.scratch.found.items))
    (kept_seen c.args.program.now c.starts.invariant.keeps) (c.pass.ensures.gives refl)

-- the walk that was found
best : (g : Over) (c : In-Some g) →
    GivesBy c.args.rule (sight_of (seen c.args.program.now c.args.input.now)) c.starts.scratch.next.threads.width c.starts.from c.starts_of-pattern.result.1
    (best_of c.pass.result c.pass.new.scratch.found.items) →
    (w : List Pair) × IsBest c.args.rule (search_of c.args.program.now c.args.input.now) c.starts.scratch.next.threads.width c.starts.from
    c.starts_of-pattern.result.1 c.in-Some.end c.pass.new.scratch.found.items w
best g c gives =
    some_by c.args.rule (search_of c.args.program.now c.args.input.now) c.starts.scratch.next.threads.width c.starts.from c.starts_of-pattern.result.1
    c.in-Some.end c.pass.new.scratch.found.items
    (subst (λ r. GivesBy c.args.rule (sight_of (seen c.args.program.now c.args.input.now)) c.starts.scratch.next.threads.width c.starts.from
    c.starts_of-pattern.result.1 (best_of r c.pass.new.scratch.found.items)) c.in-Some.is gives)

pub returns-then-lo-hi-clause-chosen : goal.returns-then-lo-hi-clause-chosen
returns-then-lo-hi-clause-chosen g c =
    outside_by c.args.rule (search_of c.args.program.now c.args.input.now)
    (omega (arith, c.if-lo-hi.true, c.bounds-lo.ensures.low, c.bounds-lo.ensures.high))

pub returns-in_default-clause-chosen : goal.returns-in_default-clause-chosen
returns-in_default-clause-chosen g c =
    let s : Search = search_of c.args.program.now c.args.input.now in
    left_by c.args.rule s c.starts.from c.starts_of-pattern.result.1 c.starts.invariant.passed
    (last_there g (goal.at.returns-in_default-clause-chosen g c).After-pass)
    (none_by c.args.rule s c.starts.scratch.next.threads.width c.starts.from c.starts_of-pattern.result.1 c.pass.new.scratch.found.items
    (subst (λ r. GivesBy c.args.rule (sight_of s) c.starts.scratch.next.threads.width c.starts.from c.starts_of-pattern.result.1 (best_of r c.pass.new.scratch.found.items)) c.in_default.is
    (gives g (goal.at.returns-in_default-clause-chosen g c).After-pass)))

pub returns-then-not-program-clause-chosen : goal.returns-then-not-program-clause-chosen
returns-then-not-program-clause-chosen g c =
    let after = goal.at.returns-then-not-program-clause-chosen g c in
    let b = best g after.In-Some (gives g after.After-pass) in
    chosen_by c.starts.invariant.passed (last_there g after.After-pass) b.1 (c.pass.new.scratch.wide.0 ∙ c.in-Some.ensures.same.width)
    (omega (arith, c.starts.invariant.low.0, c.bounds-lo.ensures.low))
    (allowed_free (search_of c.args.program.now c.args.input.now) b.0 c.if-not-program.true)

pub returns-then-is_boundary_at-clause-chosen : goal.returns-then-is_boundary_at-clause-chosen
returns-then-is_boundary_at-clause-chosen g c =
    let after = goal.at.returns-then-is_boundary_at-clause-chosen g c in
    let b = best g after.In-Some (gives g after.After-pass) in
    let content = c.in-Some.ensures.keeps.content ∙ c.starts.invariant.keeps.content in
    chosen_by c.starts.invariant.passed (last_there g after.After-pass) b.1 (c.pass.new.scratch.wide.0 ∙ c.in-Some.ensures.same.width)
    (omega (arith, c.starts.invariant.low.0, c.bounds-lo.ensures.low))
    (allowed_boundary (search_of c.args.program.now c.args.input.now) b.0 c.in-Some.end.end b.1.end
    (ap (λ bytes. is_boundary bytes c.in-Some.end.end) (sym content) ∙ sym c.is_boundary_at.ensures.value ∙ c.if-is_boundary_at.true))

pub overflow_add-from : goal.overflow_add-from
overflow_add-from g c =
    let after = goal.at.overflow_add-from g c in
    let b = best g after.In-Some (gives g after.After-pass) in
    omega (arith, b.1.high, c.starts.invariant.low.1, c.bounds-lo.ensures.small)

pub starts-smaller : goal.starts-smaller
starts-smaller g c =
    let after = goal.at.starts-smaller g c in
    let b = best g after.In-Some (gives g after.After-pass) in
    omega (arith, b.1.low, b.1.high, c.starts-test.true)

pub starts-preserved : goal.starts-preserved
starts-preserved g c =
    let s : Search = search_of c.args.program.now c.args.input.now in
    let after = goal.at.starts-preserved g c in
    let b = best g after.In-Some (gives g after.After-pass) in
    let content = c.in-Some.ensures.keeps.content ∙ c.starts.invariant.keeps.content in
    record {
      keeps = search rules;
      passed = passed_by c.starts.invariant.passed (last_there g after.After-pass) b.1
          (not_allowed s b.0 c.in-Some.end.end b.1.end c.if-not-program.false
          (ap (λ bytes. is_boundary bytes c.in-Some.end.end) (sym content) ∙ sym c.is_boundary_at.ensures.value ∙ c.if-is_boundary_at.false));
      low = (omega (arith, b.1.low, c.starts.invariant.low.0), c.starts.invariant.low.1);
      few = let m = mul-le-mul_left (length c.args.program.now.places.items) (let h : c.bounds-lo.result.1 - c.starts.from + 1 ≤ c.bounds-lo.result.1 - c.bounds-lo.result.0 + 2 = omega (arith, c.starts.invariant.low) in h) in
          omega (arith, m, c.in-Some.ensures.few);
      same = same_on c.starts.invariant.same c.in-Some.ensures.same;
    }

pub returns-clause-chosen : goal.returns-clause-chosen
returns-clause-chosen g c =
    past_by c.args.rule (search_of c.args.program.now c.args.input.now) c.starts.from c.starts_of-pattern.result.1 c.starts.invariant.passed
    (last_is g (goal.at.returns-clause-chosen g c).After-starts) (omega (arith, c.starts-test.false))
