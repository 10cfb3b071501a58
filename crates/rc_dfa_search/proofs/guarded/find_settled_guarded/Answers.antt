use Rattle.std.proofs.Common.{◌≡◌, ◌∙◌, ◌≤◌, ℕ, List, None, Some, IfOk, arith, subst, sym, refl}
use Rattle.rc_text.specs.Text.{low, high}
use Rattle.rc_pattern.specs.Re.{Re}
use Rattle.rc_program.specs.Program.{program}
use Rattle.rc_literals.specs.Guard.{BeginsFor, IsGuard, guard_needles}
use Rattle.rc_needles.specs.Needles.{find_needle}
use Rattle.rc_needles.specs.declared.hit.Hit.{Hit}
use Rattle.std.specs.Option.{option_map}
use Rattle.rc_dfa_reach.specs.RunReach.{seen_to}
use Rattle.rc_dfa_search.specs.Aims.{search_for}
use Rattle.rc_dfa_search.specs.Firsts.{starting_at}
use Rattle.rc_dfa_search.specs.Legs.{GoesByNeedles}
use Rattle.rc_dfa_search.specs.Reaches.{IsAnswerBelow, NoneBeginBelow}
use Rattle.rc_dfa_search.proofs.NeedleLemmas.{none_given, none_left}
use Rattle.rc_dfa_search.proofs.ReachLemmas.{answer_far}
use Rattle.rc_dfa_search.proofs.SeenLemmas.{seen_more, seen_past}
use Rattle.rc_dfa_search.proofs.SettledLemmas.{first_settles_some, goes_free, inside_of, none_first, none_yet}
use Rattle.rc_dfa_search.proofs.ToldLemmas.{kept_same, kept_search, kept_then}
use Rattle.rc_dfa_search.proofs.guarded.find_settled_guarded.Given.{Over}
use Rattle.rc_dfa_search.proofs.guarded.find_settled_guarded.Goals as goal
use Rattle.rc_dfa_search.proofs.guarded.find_settled_guarded.Goals.{After-saturating_add-reach}

pub returns-in-Holds-clause-settled : goal.returns-in-Holds-clause-settled
returns-in-Holds-clause-settled g c hs terminator of guards =
    c.settle_by_needles.ensures.settled hs terminator of guards
    (none_yet (search_for c.args.aim hs terminator c.args.input.now) c.args.bounds.low c.args.bounds.low (omega (arith, c.requires.bounds)))

pub returns-in_default-next_start-clause-settled : goal.returns-in_default-next_start-clause-settled
returns-in_default-next_start-clause-settled g c hs terminator of guards =
    let aim = c.args.aim in
    let s = c.args.input.now in
    let goes = goes_free aim s.anchored c.get_anchored.result c.is_anchored.result c.requires.tells c.get_anchored.ensures c.is_anchored.ensures c.if-is_anchored.false in
    let b = c.requires.bounds in
    let fits = c.content_fits.ensures in
    let ordered : low s ≤ high s = omega (arith, b) in
    let A = g.H.Halves.AreOf c.args.halves.now in
    let past = seen_past of.ahead.alphabet 18446744073709551615 in
    answer_far aim.kind (search_for aim hs terminator s) (seen_to of.ahead.alphabet 18446744073709551615) None (inside_of aim hs terminator s) (omega (arith, fits, past))
    (sym (none_given A aim hs terminator of s goes (low s) (high s) refl refl ordered
    (none_left A aim hs terminator of s goes (low s) (high s) refl refl ordered s (kept_same s) (low s) ordered (λ r h. h)
    (λ x above below. c.in_default-next_start.ensures.passed (program hs) terminator aim.passes_over guards x (omega (arith, b, above)) (omega (arith, b, below))))))

-- no match begins before the start
passed : (g : Over) (c : After-saturating_add-reach g) (hs : List Re) (terminator : ℕ) → IsGuard (program hs) terminator c.args.guard →
    NoneBeginBelow (search_for c.args.aim hs terminator c.args.input.now) c.saturating_add-reach.result c.in-Some.start.from
passed g c hs terminator guards =
    let s = c.args.input.now in
    let n = guard_needles c.args.guard in
    let start = c.in-Some.start in
    let b = c.requires.bounds in
    let w = c.in-Some.ensures.within in
    let fits = c.content_fits.ensures in
    none_first c.args.aim hs terminator s c.args.guard start
    (subst (λ hi. Some start.needle ≡ option_map (λ (h : Hit). h.start) (find_needle n s.content (low s) hi)) b.1
    (subst (λ lo. Some start.needle ≡ option_map (λ (h : Hit). h.start) (find_needle n s.content lo c.args.bounds.high)) b.0 c.in-Some.ensures.needle))
    (subst (λ lo. BeginsFor c.args.guard s.content lo start) b.0 c.in-Some.ensures.from)
    (omega (arith, b, w), w.1, omega (arith, b, w)) c.saturating_add-reach.result
    (omega (arith, c.saturating_add-reach.ensures, c.requires.longest, fits)) guards

pub returns-then-is_some-clause-settled : goal.returns-then-is_some-clause-settled
returns-then-is_some-clause-settled g c hs terminator of guards =
    let at = goal.at.returns-then-is_some-clause-settled g c in
    let aim = c.args.aim in
    let s = c.args.input.now in
    let keeps = c.next_start.ensures.keeps in
    let found = c.in_ok-here.here.found in
    let w = c.in-Some.ensures.within in
    let past = seen_past of.ahead.alphabet c.max.result in
    let goes = goes_free aim s.anchored c.get_anchored.result c.is_anchored.result c.requires.tells c.get_anchored.ensures c.is_anchored.ensures c.if-is_anchored.false in
    first_settles_some aim hs terminator s goes c.in-Some.start.from (omega (arith, w, c.requires.bounds)) c.saturating_add-reach.result
    (seen_to of.ahead.alphabet c.in_ok-here.here.reach) (seen_to of.ahead.alphabet c.max.result)
    (omega (arith, c.max.ensures, past)) (seen_more of.ahead.alphabet c.in_ok-here.here.reach c.max.result (omega (arith, c.max.ensures))) (passed g at.After-saturating_add-reach hs terminator guards) found (sym c.is_some.ensures ∙ c.if-is_some.true)
    (subst (λ q. IsAnswerBelow aim.kind (starting_at c.in-Some.start.from q) (seen_to of.ahead.alphabet c.in_ok-here.here.reach) found) (kept_search aim hs terminator s c.next_start.new.input keeps)
    (c.in_ok-here.ensures.settled aim hs terminator of (subst (GoesByNeedles aim) (sym keeps.anchored) goes)))

pub returns-clause-settled : goal.returns-clause-settled
returns-clause-settled g c hs terminator of guards =
    let k = (goal.at.returns-clause-settled g c).After-saturating_add-reach in
    let aim = c.args.aim in
    let s = c.args.input.now in
    let keeps = kept_then s c.next_start.new.input c.settle_here.new.input c.next_start.ensures.keeps c.settle_here.ensures.keeps in
    let same = kept_search aim hs terminator s c.settle_here.new.input keeps in
    subst (λ q. IfOk c.settle_by_needles-2.result (λ o. IsAnswerBelow aim.kind q (seen_to of.ahead.alphabet o.reach) o.found)) same
    (c.settle_by_needles-2.ensures.settled hs terminator of guards
    (subst (λ q. NoneBeginBelow q c.saturating_add-reach.result c.in-Some.start.from) (sym same) (passed g k hs terminator guards)))
