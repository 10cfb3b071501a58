use Rattle.std.proofs.Common.{◌≡◌, ◌∙◌, ℕ, ◌+◌, ◌<◌, ◌≤◌, List, Some, None, min, arith, ap, subst, refl}
use Rattle.std.specs.Option.{option_map}
use Rattle.rc_text.specs.Text.{Keeps, Searched, low, high}
use Rattle.rc_pattern.specs.Re.{Re}
use Rattle.rc_program.specs.Answer.{Search}
use Rattle.rc_program.specs.Program.{program}
use Rattle.rc_needles.specs.Needles.{find_needle, longest}
use Rattle.rc_needles.specs.declared.hit.Hit.{Hit}
use Rattle.rc_literals.specs.Guard.{BeginsFor, IsGuard, guard_needles}
use Rattle.rc_dfa_reach.specs.RunReach.{seen_to}
use Rattle.rc_dfa_search.specs.declared.needles.Leg.{Leg}
use Rattle.rc_dfa_search.specs.declared.needles.Leg.TheVariants.{Ended, Rested}
use Rattle.rc_dfa_search.specs.declared.search.Aim.{Aim}
use Rattle.rc_dfa_search.specs.Aims.{AreHalvesOf, search_for}
use Rattle.rc_dfa_search.specs.Legs.{GoesByNeedles}
use Rattle.rc_dfa_search.specs.Reaches.{GivesBelow, HasRunBelow, NoneBeginBelow}
use Rattle.rc_dfa_search.proofs.NeedleLemmas.{came_on, none_left}
use Rattle.rc_dfa_search.proofs.ReachLemmas.{itself}
use Rattle.rc_dfa_search.proofs.SeenLemmas.{seen_more, seen_past}
use Rattle.rc_dfa_search.proofs.SettledLemmas.{agrees_less, all_below, given_below, gives_from, inside_of, none_given, rested_below}
use Rattle.rc_dfa_search.proofs.ToldLemmas.{kept_search, kept_then}
use Rattle.rc_dfa_search.proofs.needles.seek_by_needles.Given.{Over}
use Rattle.rc_dfa_search.proofs.needles.seek_by_needles.Goals as goal
use Rattle.rc_dfa_search.proofs.needles.seek_by_needles.Goals.{After-max-reach}

pub runs-init : goal.runs-init
runs-init g c =
    let above = c.requires.low in
    let below = c.requires.ordered in
    let bound = c.requires.bounds in
    record {
      cache = c.requires.cache;
      keeps = record { content = refl; span = refl; slice = refl; anchored = refl; earliest = refl };
      low = omega (arith, above, bound);
      high = below;
      carried = λ aim hs terminator of guards goes none.
          let past = seen_past of.ahead.alphabet c.args.left.reach in
          all_below (g.H.Halves.AreOf c.args.halves.now) aim hs terminator of c.args.input.now goes (omega (arith, above, below, bound))
          (seen_to of.ahead.alphabet c.args.left.reach) c.args.left.at (omega (arith, above, bound)) (omega (arith, below, bound))
          (let far = c.requires.far in omega (arith, far, past))
          (λ t in2 agrees. none t in2 (agrees_less (search_for aim hs terminator c.args.input.now) t c.args.left.reach (seen_to of.ahead.alphabet c.args.left.reach) past agrees));
    }

pub returns-in_default-clause-ending : goal.returns-in_default-clause-ending
returns-in_default-clause-ending g c aim hs terminator of guards goes none =
    let s = c.args.input.now in
    let i = c.runs.invariant in
    let above = c.requires.low in
    let below = c.requires.ordered in
    let bound = c.requires.bounds in
    none_left (g.H.Halves.AreOf c.args.halves.now) aim hs terminator of s goes (low s) c.args.left.bounds.high refl c.requires.bounds.1 (omega (arith, above, below))
    c.runs.input i.keeps c.runs.at i.high
    (i.carried aim hs terminator of guards goes none (search_for aim hs terminator s) (inside_of aim hs terminator s) (itself (search_for aim hs terminator s) (seen_to of.ahead.alphabet c.runs.reach)))
    (c.in_default.ensures.passed (program hs) terminator aim.passes_over guards)

module _ (g : Over) (c : After-max-reach g) where
  s : Searched
  s = c.args.input.now

  before : Keeps c.args.input.now c.next_start.new.input
  before = kept_then c.args.input.now c.runs.input c.next_start.new.input c.runs.invariant.keeps c.next_start.ensures.keeps

  first : Some c.in-Some.start.needle ≡ option_map (λ (h : Hit). h.start) (find_needle (guard_needles c.args.guard) c.args.input.now.content c.runs.at (high c.args.input.now))
  first =
      subst (λ b. Some c.in-Some.start.needle ≡ option_map (λ (h : Hit). h.start) (find_needle (guard_needles c.args.guard) c.args.input.now.content c.runs.at b)) c.requires.bounds.1
      (subst (λ bytes. Some c.in-Some.start.needle ≡ option_map (λ (h : Hit). h.start) (find_needle (guard_needles c.args.guard) bytes c.runs.at c.args.left.bounds.high))
      c.runs.invariant.keeps.content c.in-Some.ensures.needle)

  begins : BeginsFor c.args.guard c.args.input.now.content c.runs.at c.in-Some.start
  begins = subst (λ bytes. BeginsFor c.args.guard bytes c.runs.at c.in-Some.start) c.runs.invariant.keeps.content c.in-Some.ensures.from

  high_needle : c.in-Some.start.needle < high c.args.input.now
  high_needle = let w = c.in-Some.ensures.within in let lt = w.2 in omega (arith, lt, c.requires.bounds.1)

  far : min (c.in-Some.start.needle + longest (guard_needles c.args.guard)) (high c.args.input.now + 1) ≤ c.max-reach.result
  far =
      let fits = c.content_fits.ensures in
      let longest_is = c.requires.longest in omega (arith, c.max.ensures, c.max-reach.ensures, c.saturating_add-sought.ensures, longest_is, fits)

  ordered : low c.args.input.now ≤ high c.args.input.now
  ordered = omega (arith, c.requires.bounds)

  module _ (aim : Aim) (hs : List Re) (terminator : ℕ) (of : AreHalvesOf (g.H.Halves.AreOf c.args.halves.now) aim hs terminator)
      (guards : IsGuard (program hs) terminator c.args.guard) (goes : GoesByNeedles aim c.args.input.now.anchored)
      (none : NoneBeginBelow (search_for aim hs terminator c.args.input.now) c.args.left.reach c.args.left.at) where
    abbrev seen : ℕ → ℕ
    seen = seen_to of.ahead.alphabet

    more : seen c.runs.reach ≤ seen c.max-reach.result
    more = seen_more of.ahead.alphabet c.runs.reach c.max-reach.result (omega (arith, c.max.ensures, c.max-reach.ensures))

    read : seen c.in_ok-came.came.read ≤ seen c.max-reach.result
    read = seen_more of.ahead.alphabet c.in_ok-came.came.read c.max-reach.result (omega (arith, c.max-reach.ensures))

    sought : min (c.in-Some.start.needle + longest (guard_needles c.args.guard)) (high c.args.input.now + 1) ≤ seen c.max-reach.result
    sought = let near = far in let past = seen_past of.ahead.alphabet c.max-reach.result in omega (arith, near, past)

    carried : GivesBelow aim.kind of.ahead (search_for aim hs terminator c.args.input.now) (seen c.runs.reach) c.runs.at
    carried = c.runs.invariant.carried aim hs terminator of guards goes none

    leg : (l : Leg) → c.in_ok-came.came.leg ≡ l →
        HasRunBelow of.ahead (search_for aim hs terminator c.args.input.now).text (high c.args.input.now) c.in-Some.start.from c.args.earliest c.in_ok-came.came.read l
    leg l is =
        subst (λ (q : Search). HasRunBelow of.ahead q.text q.hi c.in-Some.start.from c.args.earliest c.in_ok-came.came.read l)
        (kept_search aim hs terminator c.args.input.now c.next_start.new.input before)
        (subst (HasRunBelow of.ahead (search_for aim hs terminator c.next_start.new.input).text (high c.next_start.new.input) c.in-Some.start.from c.args.earliest c.in_ok-came.came.read) is
        (c.in_ok-came.ensures.leg aim hs terminator of))

pub returns-in-Ended-clause-ending : goal.returns-in-Ended-clause-ending
returns-in-Ended-clause-ending g c aim hs terminator of guards goes none =
    let k = (goal.at.returns-in-Ended-clause-ending g c).After-max-reach in
    let w = c.in-Some.ensures.within in (
      gives_from (g.H.Halves.AreOf c.args.halves.now) aim hs terminator of c.args.input.now goes (ordered g k) c.args.guard guards c.runs.at c.in-Some.start (first g k) (begins g k)
          c.runs.invariant.low w.0 w.1 (high_needle g k) (seen_to of.ahead.alphabet c.runs.reach) (seen_to of.ahead.alphabet c.max-reach.result)
          (more g k aim hs terminator of guards goes none) (sought g k aim hs terminator of guards goes none) (carried g k aim hs terminator of guards goes none),
      λ late.
          let told = given_below (g.H.Halves.AreOf c.args.halves.now) aim hs terminator of c.args.input.now goes (ordered g k) c.args.guard guards c.runs.at c.in-Some.start (first g k)
          (begins g k) c.runs.invariant.low w.0 w.1 (high_needle g k) (seen_to of.ahead.alphabet c.runs.reach) (seen_to of.ahead.alphabet c.max-reach.result)
          (more g k aim hs terminator of guards goes none) (sought g k aim hs terminator of guards goes none) (carried g k aim hs terminator of guards goes none)
          c.in_ok-came.came.read (read g k aim hs terminator of guards goes none) c.in-Some-ended.met
          (subst (λ b. HasRunBelow of.ahead (search_for aim hs terminator c.args.input.now).text (high c.args.input.now) c.in-Some.start.from b c.in_ok-came.came.read
          (Ended (Some c.in-Some-ended.met))) late
          (leg g k aim hs terminator of guards goes none (Ended (Some c.in-Some-ended.met)) (c.in-Ended.is ∙ ap Ended c.in-Some-ended.is))) in
          let before = told.0 in (omega (arith, before, c.max-reach.ensures), told.1),
    )

pub returns-in_default-ended-clause-ending : goal.returns-in_default-ended-clause-ending
returns-in_default-ended-clause-ending g c aim hs terminator of guards goes none =
    let k = (goal.at.returns-in_default-ended-clause-ending g c).After-max-reach in
    let w = c.in-Some.ensures.within in
    none_given (g.H.Halves.AreOf c.args.halves.now) aim hs terminator of c.args.input.now goes (ordered g k) c.args.guard guards c.runs.at c.in-Some.start (first g k) (begins g k)
    c.runs.invariant.low w.0 w.1 (high_needle g k) (seen_to of.ahead.alphabet c.runs.reach) (seen_to of.ahead.alphabet c.max-reach.result)
    (more g k aim hs terminator of guards goes none) (sought g k aim hs terminator of guards goes none) (carried g k aim hs terminator of guards goes none)
    c.in_ok-came.came.read (read g k aim hs terminator of guards goes none) c.args.earliest
    (leg g k aim hs terminator of guards goes none (Ended None) (c.in-Ended.is ∙ ap Ended c.in_default-ended.is))

pub runs-preserved : goal.runs-preserved
runs-preserved g c =
    let k = (goal.at.runs-preserved g c).After-max-reach in
    let w = c.in-Some.ensures.within in
    let low_from = w.0 in
    let above = c.runs.invariant.low in
    let on = came_on c.args.input.now c.args.left.bounds.high c.requires.bounds.1 c.next_start.new.input (before g k) c.in-Some.start.from c.in_ok-came.came.leg c.in-Rested.i
    c.in_ok-came.ensures.on c.in-Rested.is in
    let low_i = on.0 in
    record {
      cache = c.in_ok-came.ensures.cache;
      keeps = kept_then c.args.input.now c.next_start.new.input c.read_leg.new.input (before g k) c.read_leg.ensures.keeps;
      low = omega (arith, above, low_from, low_i);
      high = on.1;
      carried = λ aim hs terminator of guards goes none.
          rested_below (g.H.Halves.AreOf c.args.halves.now) aim hs terminator of c.args.input.now goes (ordered g k) c.args.guard guards c.runs.at c.in-Some.start (first g k) (begins g k)
          c.runs.invariant.low w.0 w.1 (high_needle g k) (seen_to of.ahead.alphabet c.runs.reach) (seen_to of.ahead.alphabet c.max-reach.result)
          (more g k aim hs terminator of guards goes none) (sought g k aim hs terminator of guards goes none) (carried g k aim hs terminator of guards goes none)
          c.in_ok-came.came.read (read g k aim hs terminator of guards goes none) c.args.earliest c.in-Rested.i
          (leg g k aim hs terminator of guards goes none (Rested c.in-Rested.i) c.in-Rested.is);
    }
