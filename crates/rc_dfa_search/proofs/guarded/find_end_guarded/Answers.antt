use Rattle.std.proofs.Common.{◌≡◌, ◌∙◌, ℕ, false, List, Some, None, Ok, ap, arith, min, refl, subst}
use Rattle.std.specs.Option.{option_map}
use Rattle.rc_text.specs.Found.{half_of}
use Rattle.rc_text.specs.Text.{low, high}
use Rattle.rc_pattern.specs.Re.{Re}
use Rattle.rc_program.specs.Program.{program}
use Rattle.rc_literals.specs.Guard.{IsGuard}
use Rattle.rc_dfa_search.specs.declared.needles.Ending.{Ending}
use Rattle.rc_dfa_search.specs.declared.needles.Ending.TheVariants.{Ends, Nowhere}
use Rattle.rc_dfa_reach.specs.RunReach.{seen_to}
use Rattle.rc_dfa_search.specs.Aims.{AreHalvesOf, search_for}
use Rattle.rc_dfa_search.specs.Legs.{GoesByNeedles}
use Rattle.rc_dfa_search.specs.Reaches.{IsEnding}
use Rattle.rc_dfa_search.proofs.NeedleLemmas.{end_so, is_half, none_given}
use Rattle.rc_dfa_search.proofs.ReachLemmas.{itself}
use Rattle.rc_dfa_search.proofs.SettledLemmas.{inside_of, none_yet}
use Rattle.rc_dfa_search.proofs.guarded.find_end_guarded.Given.{Over}
use Rattle.rc_dfa_search.proofs.guarded.find_end_guarded.Goals as goal
use Rattle.rc_dfa_search.proofs.guarded.find_end_guarded.Goals.{In_ok-met}

-- what the search from needle to needle says
ending : (g : Over) (c : In_ok-met g) (hs : List Re) (terminator : ℕ) (of : AreHalvesOf (g.H.Halves.AreOf c.args.halves.now) c.args.aim hs terminator) →
    GoesByNeedles c.args.aim c.args.input.now.anchored → IsGuard (program hs) terminator c.args.guard → (x : Ending) → c.in_ok-met.field-0 ≡ x →
    IsEnding c.args.aim.kind false of.ahead (search_for c.args.aim hs terminator c.args.input.now) x
ending g c hs terminator of goes guards x is =
    let s = c.args.input.now in
    subst (IsEnding c.args.aim.kind false of.ahead (search_for c.args.aim hs terminator s)) is
    (c.in_ok-met.ensures.ending c.args.aim hs terminator of guards goes
    (none_yet (search_for c.args.aim hs terminator s) c.args.bounds.low c.args.bounds.low (omega (arith, c.requires.bounds))))

pub returns-in_ok-pattern-in-Ends-clause-found : goal.returns-in_ok-pattern-in-Ends-clause-found
returns-in_ok-pattern-in-Ends-clause-found g c hs terminator of guards =
    let k = (goal.at.returns-in_ok-pattern-in-Ends-clause-found g c).In_ok-met in
    let aim = c.args.aim in
    let s = c.args.input.now in
    let S = search_for aim hs terminator s in
    let b = c.requires.bounds in
    let so = c.goes_by_needles.ensures.0 c.if-not-goes_by_needles.false in
    let goes = subst (GoesByNeedles aim) c.get_anchored.ensures so in
    let given = (ending g k hs terminator of goes guards (Ends c.in-Ends.from c.in-Ends.met c.in-Ends.reach) c.in-Ends.is).1 refl in
    is_half aim c.get_anchored.result S (Ok (Some c.new.result)) so
    (ap Some c.new.ensures
    ∙ end_so (g.H.Halves.AreOf c.args.halves.now) aim hs terminator of s goes c.args.bounds.low c.args.bounds.high b.0 b.1 b.2
    c.in-Ends.met (given.1 S (inside_of aim hs terminator s) (itself S (seen_to of.ahead.alphabet c.in-Ends.reach)))
    c.min-end.result (c.min-end.ensures ∙ ap (λ x. min x c.args.bounds.high) c.max.ensures)
    c.in_ok-pattern-in-Ends.pattern c.in_ok-pattern-in-Ends.ensures.id)

pub returns-in-Nowhere-clause-found : goal.returns-in-Nowhere-clause-found
returns-in-Nowhere-clause-found g c hs terminator of guards =
    let k = (goal.at.returns-in-Nowhere-clause-found g c).In_ok-met in
    let aim = c.args.aim in
    let s = c.args.input.now in
    let so = c.goes_by_needles.ensures.0 c.if-not-goes_by_needles.false in
    let goes = subst (GoesByNeedles aim) c.get_anchored.ensures so in
    is_half aim c.get_anchored.result (search_for aim hs terminator s) (Ok None) so
    (ap (option_map half_of) (none_given (g.H.Halves.AreOf c.args.halves.now) aim hs terminator of s goes (low s) (high s) refl refl (omega (arith, c.requires.bounds))
    (ending g k hs terminator of goes guards Nowhere c.in-Nowhere.is)))
