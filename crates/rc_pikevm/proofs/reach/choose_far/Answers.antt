use Rattle.std.proofs.Common.{◌≡◌, ℕ, ◌-◌, ◌⊎◌, ap, subst, ◌∙◌, arith, Option, None}
use Rattle.rc_text.specs.declared.types.MatchKind.TheVariants.{LeftmostFirst}
use Rattle.rc_program.specs.Programs.{search_of}
use Rattle.rc_program.specs.Sought.{anchoring_of}
use Rattle.rc_program.proofs.AnswerLemmas.{last_start_of}
use Rattle.rc_pikevm.specs.Passing.{GivesTraceTo, best_of}
use Rattle.rc_pikevm.specs.Reach.{IsStillOn}
use Rattle.rc_pikevm.specs.Sights.{IsUpTo, sight_of}
use Rattle.rc_pikevm.specs.declared.rule.Rule.TheVariants.{First}
use Rattle.rc_pikevm.proofs.KeptLemmas.{kept_seen}
use Rattle.rc_pikevm.proofs.ReachLemmas.{picked, search_inside, settles, settled_whole}
use Rattle.rc_pikevm.proofs.RuleLemmas.{outside_by}
use Rattle.rc_pikevm.proofs.SharpLemmas.{sharp}
use Rattle.rc_pikevm.proofs.SearchLemmas.{last_found}
use Rattle.rc_pikevm.proofs.reach.choose_far.Given.{Over}
use Rattle.rc_pikevm.proofs.reach.choose_far.Goals as goal
use Rattle.rc_pikevm.proofs.reach.choose_far.Goals.{After-pass_far-best}

last_is : (g : Over) (c : After-pass_far-best g) → c.starts_of-pattern.result.1 ≡ last_start_of (search_of c.args.program.now c.args.input.now)
last_is g c =
    last_found (search_of c.args.program.now c.args.input.now) c.starts_of-pattern.result.1
    c.bounds-lo.result.0 c.bounds-lo.result.1 (anchoring_of c.get_anchored.result) c.starts_of-pattern.ensures.last c.bounds-lo.ensures.low
    c.bounds-lo.ensures.high (ap anchoring_of (c.get_anchored.ensures ∙ c.bounds-lo.ensures.keeps.anchored))
    (omega (arith, c.if-lo-hi.false, c.bounds-lo.ensures.low, c.bounds-lo.ensures.high))

gives : (g : Over) (c : After-pass_far-best g) (limit : Option ℕ) → IsUpTo c.pass_far-best.result.1 limit →
    GivesTraceTo limit (sight_of (search_of c.args.program.now c.args.input.now)) c.args.scratch.now.next.threads.width
    (search_of c.args.program.now c.args.input.now).lo c.starts_of-pattern.result.1
    (best_of c.pass_far-best.result.0 c.pass_far-best.new.scratch.found.items)
gives g c limit up =
    subst (λ lo. GivesTraceTo limit (sight_of (search_of c.args.program.now c.args.input.now)) c.args.scratch.now.next.threads.width lo
    c.starts_of-pattern.result.1 (best_of c.pass_far-best.result.0 c.pass_far-best.new.scratch.found.items)) c.bounds-lo.ensures.low
    (subst (λ s. GivesTraceTo limit (sight_of s) c.args.scratch.now.next.threads.width c.bounds-lo.result.0
    c.starts_of-pattern.result.1 (best_of c.pass_far-best.result.0 c.pass_far-best.new.scratch.found.items))
    (kept_seen c.args.program.now c.bounds-lo.ensures.keeps) (c.pass_far-best.ensures.gives limit up))

pub returns-then-lo-hi-clause-chosen : goal.returns-then-lo-hi-clause-chosen
returns-then-lo-hi-clause-chosen g c =
    outside_by (First 0) (search_of c.args.program.now c.args.input.now) (omega (arith, c.if-lo-hi.true, c.bounds-lo.ensures.low, c.bounds-lo.ensures.high))

pub returns-then-lo-hi-clause-settled : goal.returns-then-lo-hi-clause-settled
returns-then-lo-hi-clause-settled g c =
    settled_whole LeftmostFirst (search_of c.args.program.now c.args.input.now) (search_inside c.args.program.now c.args.input.now) c.up_to_slice_end.result
    (let k = c.bounds-lo.ensures.keeps in
    let value = rw (k.slice, k.content) at c.up_to_slice_end.ensures.value in
    let fits = rw (k.slice, k.content) at c.up_to_slice_end.ensures.fits in
    omega (arith, value, fits))

pub returns-clause-chosen : goal.returns-clause-chosen
returns-clause-chosen g c =
    let after = (goal.at.returns-clause-chosen g c).After-pass_far-best in
    picked (search_of c.args.program.now c.args.input.now) c.pass_far-best.result.1 c.args.scratch.now.next.threads.width c.starts_of-pattern.result.1
    c.requires.none_passed (last_is g after) c.pass_far-best.new.scratch.found.items
    (omega (arith, c.bounds-lo.ensures.low, c.pass_far-best.ensures.within)) (c.pass_far-best.new.scratch.wide.0 ∙ c.pass_far-best.ensures.same.width)
    c.pass_far-best.result.0 (gives g after None tt)

pub returns-clause-settled : goal.returns-clause-settled
returns-clause-settled g c =
    let after = (goal.at.returns-clause-settled g c).After-pass_far-best in
    settles (search_of c.args.program.now c.args.input.now) c.pass_far-best.result.1 c.args.scratch.now.next.threads.width c.starts_of-pattern.result.1
    c.requires.none_passed (last_is g after) c.pass_far-best.new.scratch.found.items
    (omega (arith, c.bounds-lo.ensures.low, c.pass_far-best.ensures.within)) (c.pass_far-best.new.scratch.wide.0 ∙ c.pass_far-best.ensures.same.width)
    c.pass_far-best.result.0 (search_inside c.args.program.now c.args.input.now) c.pass_far-best.ensures.ended
    (λ none. c.pass_far-best.ensures.whole none) (gives g after) c.up_to_slice_end-reach.result
    (let j = c.pass_far-best.ensures.keeps in
    let k = c.bounds-lo.ensures.keeps in
    let value = rw (k.slice, k.content) at (rw (j.slice, j.content) at c.up_to_slice_end-reach.ensures.value) in
    let fits = rw (k.slice, k.content) at (rw (j.slice, j.content) at c.up_to_slice_end-reach.ensures.fits) in
    omega (arith, value, fits, c.saturating_add.ensures))

pub returns-then-lo-hi-clause-sharp : goal.returns-then-lo-hi-clause-sharp
returns-then-lo-hi-clause-sharp g c within = absurd (omega (arith, within, c.if-lo-hi.true, c.bounds-lo.ensures.low, c.bounds-lo.ensures.high))

pub returns-clause-sharp : goal.returns-clause-sharp
returns-clause-sharp g c within r reads =
    let s = search_of c.args.program.now c.args.input.now in
    let at : ℕ = c.pass_far-best.result.1 in
    let live = subst (λ lo. (at ≡ 0) ⊎ IsStillOn (at - 1) (sight_of s) lo c.starts_of-pattern.result.1 at) c.bounds-lo.ensures.low
    (subst (λ t. (at ≡ 0) ⊎ IsStillOn (at - 1) (sight_of t) c.bounds-lo.result.0 c.starts_of-pattern.result.1 at)
    (kept_seen c.args.program.now c.bounds-lo.ensures.keeps) c.pass_far-best.ensures.sharp) in
    sharp s c.starts_of-pattern.result.1 at (last_is g (goal.at.returns-clause-sharp g c).After-pass_far-best) live
    c.up_to_slice_end-reach.result (omega (arith, c.up_to_slice_end-reach.ensures.value, c.saturating_add.ensures)) r reads
