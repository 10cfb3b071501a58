use Rattle.std.proofs.Common.{false, arith, subst, sym}
use Rattle.rc_text.specs.Text.{high}
use Rattle.rc_program.specs.Answer.{Search}
use Rattle.rc_dfa_search.specs.declared.needles.Leg.TheVariants.{Rested}
use Rattle.rc_dfa_reach.specs.RunReach.{seen_to}
use Rattle.rc_dfa_search.specs.Aims.{search_for}
use Rattle.rc_dfa_search.specs.Reaches.{HasRunBelow, NoneBeginBelow}
use Rattle.rc_dfa_search.proofs.IdleLemmas.{idle_first, idle_next}
use Rattle.rc_dfa_search.proofs.NeedleLemmas.{came_on}
use Rattle.rc_dfa_search.proofs.ToldLemmas.{kept_same, kept_search, kept_then}
use Rattle.rc_dfa_search.proofs.idle.last_idle.Goals as goal

pub returns-in_default-clause-idle : goal.returns-in_default-clause-idle
returns-in_default-clause-idle g c hs terminator of =
    let s = c.args.input.now in
    let b = c.requires.bounds in
    subst (NoneBeginBelow (search_for c.args.aim hs terminator s) (seen_to of.ahead.alphabet (high s))) (sym b.0)
    (idle_first (g.H.Halves.AreOf c.args.halves.now) c.args.aim hs terminator of s c.requires.goes c.requires.preferred (omega (arith, b)))

pub runs-init : goal.runs-init
runs-init g c =
    let s = c.args.input.now in
    let b = c.requires.bounds in
    let on = came_on s c.args.bounds.high b.1 s (kept_same s) c.args.bounds.low c.in_ok-first.first.leg c.in-Rested.next c.in_ok-first.ensures.on c.in-Rested.is in
    let up = on.0 in
    let inside = on.1 in
    record {
      cache = c.in_ok-first.ensures.cache;
      keeps = c.in_ok-first.ensures.keeps;
      above = omega (arith, b, up);
      below = inside;
      idle = λ hs terminator of.
          idle_next (g.H.Halves.AreOf c.args.halves.now) c.args.aim hs terminator of s c.requires.goes c.requires.preferred (omega (arith, b))
          c.args.bounds.low c.in-Rested.next c.in_ok-first.first.read (omega (arith, b)) (omega (arith, b)) up (omega (arith, inside, b))
          (subst (NoneBeginBelow (search_for c.args.aim hs terminator s) (seen_to of.ahead.alphabet (high s))) (sym b.0)
          (idle_first (g.H.Halves.AreOf c.args.halves.now) c.args.aim hs terminator of s c.requires.goes c.requires.preferred (omega (arith, b))))
          (subst (HasRunBelow of.ahead (search_for c.args.aim hs terminator s).text (high s) c.args.bounds.low false c.in_ok-first.first.read) c.in-Rested.is
          (c.in_ok-first.ensures.leg c.args.aim hs terminator of));
    }

pub runs-preserved-then-at-i : goal.runs-preserved-then-at-i
runs-preserved-then-at-i g c =
    let s = c.args.input.now in
    let i = c.runs.invariant in
    let low_is = i.above in
    let high_is = i.below in
    let bound = c.requires.bounds.1 in
    let on = came_on s c.args.bounds.high bound c.runs.input i.keeps c.runs.at c.in_ok-came.came.leg c.in-Rested-leg.i c.in_ok-came.ensures.on c.in-Rested-leg.is in
    let up = on.0 in
    let inside = on.1 in
    record {
      cache = c.in_ok-came.ensures.cache;
      keeps = kept_then s c.runs.input c.read_leg-in-runs.new.input i.keeps c.in_ok-came.ensures.keeps;
      above = omega (arith, low_is, up);
      below = inside;
      idle = λ hs terminator of.
          idle_next (g.H.Halves.AreOf c.args.halves.now) c.args.aim hs terminator of s c.requires.goes c.requires.preferred (omega (arith, c.requires.bounds))
          c.runs.at c.in-Rested-leg.i c.in_ok-came.came.read low_is (omega (arith, high_is, bound)) up (omega (arith, inside, bound)) (i.idle hs terminator of)
          (subst (λ (q : Search). HasRunBelow of.ahead q.text q.hi c.runs.at false c.in_ok-came.came.read (Rested c.in-Rested-leg.i))
          (kept_search c.args.aim hs terminator s c.runs.input i.keeps)
          (subst (HasRunBelow of.ahead (search_for c.args.aim hs terminator c.runs.input).text (high c.runs.input) c.runs.at false c.in_ok-came.came.read) c.in-Rested-leg.is
          (c.in_ok-came.ensures.leg c.args.aim hs terminator of)));
    }
