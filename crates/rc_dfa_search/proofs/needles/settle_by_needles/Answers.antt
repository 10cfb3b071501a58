use Rattle.std.proofs.Common.{◌≡◌, ℕ, false, List, None, IfOk, arith, refl, subst, sym}
use Rattle.rc_text.specs.Text.{low, high}
use Rattle.rc_pattern.specs.Re.{Re}
use Rattle.rc_program.specs.Program.{program}
use Rattle.rc_literals.specs.Guard.{IsGuard}
use Rattle.rc_dfa_search.specs.declared.needles.Ending.{Ending}
use Rattle.rc_dfa_search.specs.declared.needles.Ending.TheVariants.{Ends, Nowhere}
use Rattle.rc_dfa_reach.specs.RunReach.{seen_to}
use Rattle.rc_dfa_search.specs.Aims.{AreHalvesOf, search_for}
use Rattle.rc_dfa_search.specs.Reaches.{IsAnswerBelow, IsGivenBelow, IsEnding, NoneBeginBelow}
use Rattle.rc_dfa_search.proofs.NeedleLemmas.{none_given}
use Rattle.rc_dfa_search.proofs.ReachLemmas.{answer_far}
use Rattle.rc_dfa_search.proofs.SeenLemmas.{seen_past}
use Rattle.rc_dfa_search.proofs.SettledLemmas.{inside_of}
use Rattle.rc_dfa_search.proofs.ToldLemmas.{kept_search}
use Rattle.rc_dfa_search.proofs.needles.settle_by_needles.Given.{Over}
use Rattle.rc_dfa_search.proofs.needles.settle_by_needles.Goals as goal
use Rattle.rc_dfa_search.proofs.needles.settle_by_needles.Goals.{In_ok-met}

-- what the search from needle to needle says
ending : (g : Over) (c : In_ok-met g) (hs : List Re) (terminator : ℕ) (of : AreHalvesOf (g.H.Halves.AreOf c.args.halves.now) c.args.aim hs terminator) →
    IsGuard (program hs) terminator c.args.guard → NoneBeginBelow (search_for c.args.aim hs terminator c.args.input.now) c.args.left.reach c.args.left.at →
    (x : Ending) → c.in_ok-met.field-0 ≡ x → IsEnding c.args.aim.kind false of.ahead (search_for c.args.aim hs terminator c.args.input.now) x
ending g c hs terminator of guards none x is =
    subst (IsEnding c.args.aim.kind false of.ahead (search_for c.args.aim hs terminator c.args.input.now)) is
    (c.in_ok-met.ensures.ending c.args.aim hs terminator of guards c.requires.goes none)

pub returns-in-Ends-clause-settled : goal.returns-in-Ends-clause-settled
returns-in-Ends-clause-settled g c hs terminator of guards none =
    let k = (goal.at.returns-in-Ends-clause-settled g c).In_ok-met in
    let aim = c.args.aim in
    let same = kept_search aim hs terminator c.args.input.now c.seek_by_needles.new.input c.seek_by_needles.ensures.keeps in
    let given = (ending g k hs terminator of guards none (Ends c.in-Ends.from c.in-Ends.met c.in-Ends.reach) c.in-Ends.is).1 refl in
    subst (λ q. IfOk c.settle_back.result (λ o. IsAnswerBelow aim.kind q (seen_to of.ahead.alphabet o.reach) o.found)) same
    (c.settle_back.ensures.settled hs terminator of given.0
    (subst (λ q. IsGivenBelow aim.kind of.ahead q (seen_to of.ahead.alphabet c.in-Ends.reach) c.in-Ends.met) (sym same) given.1))

pub returns-in-Nowhere-clause-settled : goal.returns-in-Nowhere-clause-settled
returns-in-Nowhere-clause-settled g c hs terminator of guards none =
    let k = (goal.at.returns-in-Nowhere-clause-settled g c).In_ok-met in
    let aim = c.args.aim in
    let s = c.args.input.now in
    let fits = c.content_fits.ensures in
    let bounds = c.requires.bounds in
    let past = seen_past of.ahead.alphabet 18446744073709551615 in
    answer_far aim.kind (search_for aim hs terminator s) (seen_to of.ahead.alphabet 18446744073709551615) None (inside_of aim hs terminator s) (omega (arith, fits, past))
    (sym (none_given (g.H.Halves.AreOf c.args.halves.now) aim hs terminator of s c.requires.goes (low s) (high s) refl refl (omega (arith, bounds))
    (ending g k hs terminator of guards none Nowhere c.in-Nowhere.is)))
