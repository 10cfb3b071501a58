use Rattle.std.proofs.Common.{false, arith, subst}
use Rattle.rc_text.specs.Text.{high}
use Rattle.rc_program.specs.Answer.{Search}
use Rattle.rc_needles.specs.Prefilters.{needles_of}
use Rattle.rc_dfa_search.specs.declared.needles.Leg.TheVariants.{Rested}
use Rattle.rc_dfa_search.specs.Aims.{search_for}
use Rattle.rc_dfa_search.specs.Reaches.{HasRunBelow}
use Rattle.rc_dfa_search.proofs.IdleLemmas.{idle_next, needle_next}
use Rattle.rc_dfa_search.proofs.NeedleLemmas.{came_on}
use Rattle.rc_dfa_search.proofs.ToldLemmas.{kept_same, kept_search, kept_then}
use Rattle.rc_dfa_search.proofs.undecided.last_idle_by_needles.Goals as goal

pub needles-init : goal.needles-init
needles-init g c =
    let above = c.requires.ordered in
    record {
      cache = c.requires.cache;
      keeps = kept_same c.args.input.now;
      above = omega arith;
      below = omega (arith, above);
      idle = λ aim hs terminator of goes preferred guards none. none;
    }

pub needles-preserved : goal.needles-preserved
needles-preserved g c =
    let s = c.args.input.now in
    let i = c.needles.invariant in
    let n = c.next_needle-next in
    let b = c.requires.bound in
    let low_at = c.requires.above in
    let fit = c.requires.ordered in
    let low_is = i.above in
    let w = n.ensures.within in
    let before = kept_then s c.needles.input n.new.input i.keeps n.ensures.keeps in
    let on = came_on s c.args.bound b n.new.input before n.result.at c.in_ok-came.came.leg c.in-Rested.i c.in_ok-came.ensures.on c.in-Rested.is in
    let up = on.0 in
    let inside = on.1 in
    record {
      cache = c.in_ok-came.ensures.cache;
      keeps = kept_then s n.new.input c.read_leg.new.input before c.in_ok-came.ensures.keeps;
      above = omega (arith, low_is, w, up);
      below = inside;
      idle = λ aim hs terminator of goes preferred guards none.
          idle_next (g.H.Halves.AreOf c.args.halves.now) aim hs terminator of s goes preferred (omega (arith, b, low_at, fit))
          n.result.at c.in-Rested.i c.in_ok-came.came.read (omega (arith, low_is, w, low_at)) (omega (arith, w, b)) up (omega (arith, inside, b))
          (needle_next (g.H.Halves.AreOf c.args.halves.now) aim hs terminator of s goes preferred (omega (arith, b, low_at, fit)) (needles_of c.args.needles.now) guards
          c.needles.input i.keeps c.args.longest_len c.args.bound c.needles.at n.result.at c.requires.longest b w.1 n.ensures.none n.ensures.near
          (i.idle aim hs terminator of goes preferred guards none))
          (subst (λ (q : Search). HasRunBelow of.ahead q.text q.hi n.result.at false c.in_ok-came.came.read (Rested c.in-Rested.i))
          (kept_search aim hs terminator s n.new.input before)
          (subst (HasRunBelow of.ahead (search_for aim hs terminator n.new.input).text (high n.new.input) n.result.at false c.in_ok-came.came.read) c.in-Rested.is
          (c.in_ok-came.ensures.leg aim hs terminator of)));
    }

pub returns-then-not-next-clause-idle : goal.returns-then-not-next-clause-idle
returns-then-not-next-clause-idle g c aim hs terminator of goes preferred guards none =
    let s = c.args.input.now in
    let i = c.needles.invariant in
    let n = c.next_needle-next in
    let b = c.requires.bound in
    let low_at = c.requires.above in
    let fit = c.requires.ordered in
    needle_next (g.H.Halves.AreOf c.args.halves.now) aim hs terminator of s goes preferred (omega (arith, b, low_at, fit)) (needles_of c.args.needles.now) guards
    c.needles.input i.keeps c.args.longest_len c.args.bound c.needles.at n.result.at c.requires.longest b n.ensures.within.1 n.ensures.none n.ensures.near
    (i.idle aim hs terminator of goes preferred guards none)

pub returns-in_default-clause-idle : goal.returns-in_default-clause-idle
returns-in_default-clause-idle g c aim hs terminator of goes preferred guards none =
    let s = c.args.input.now in
    let i = c.needles.invariant in
    let n = c.next_needle-next in
    let b = c.requires.bound in
    let low_at = c.requires.above in
    let fit = c.requires.ordered in
    needle_next (g.H.Halves.AreOf c.args.halves.now) aim hs terminator of s goes preferred (omega (arith, b, low_at, fit)) (needles_of c.args.needles.now) guards
    c.needles.input i.keeps c.args.longest_len c.args.bound c.needles.at n.result.at c.requires.longest b n.ensures.within.1 n.ensures.none n.ensures.near
    (i.idle aim hs terminator of goes preferred guards none)

pub returns-in_default-2-clause-idle : goal.returns-in_default-2-clause-idle
returns-in_default-2-clause-idle g c aim hs terminator of goes preferred guards none =
    let s = c.args.input.now in
    let i = c.needles.invariant in
    let n = c.next_needle-next in
    let b = c.requires.bound in
    let low_at = c.requires.above in
    let fit = c.requires.ordered in
    needle_next (g.H.Halves.AreOf c.args.halves.now) aim hs terminator of s goes preferred (omega (arith, b, low_at, fit)) (needles_of c.args.needles.now) guards
    c.needles.input i.keeps c.args.longest_len c.args.bound c.needles.at n.result.at c.requires.longest b n.ensures.within.1 n.ensures.none n.ensures.near
    (i.idle aim hs terminator of goes preferred guards none)
