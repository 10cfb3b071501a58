use Rattle.std.proofs.Common.{◌≡◌, ◌∙◌, ℕ, ◌+◌, ◌≤◌, false, subst, sym}
use Rattle.rc_program.specs.Answer.{Search, chosen}
use Rattle.rc_program.specs.Sought.{search_for}
use Rattle.rc_reach.specs.Reads.{ReadsBelow}
use Rattle.rc_reach.specs.Settled.{IsSettled}
use Rattle.rc_build.proofs.Fitted.{answer_same, fits_search}
use Rattle.api_pikevm.specs.Views.{sought}
use Rattle.api_pikevm.proofs.reach.search_reach.Goals as goal

pub returns-clause-found : goal.returns-clause-found
returns-clause-found g c = c.find_reach-told.ensures.found ∙ answer_same c.args.vm.now.fits c.args.input.now

pub returns-clause-settled : goal.returns-clause-settled
returns-clause-settled g c =
    let vm = c.args.vm.now in
    subst (λ k. IsSettled k c.find_reach-told.result.reach (search_for (sought vm) c.args.input.now)) vm.fits.kinded
    (subst (IsSettled vm.built.engine.kind c.find_reach-told.result.reach) (fits_search vm.fits c.args.input.now) c.find_reach-told.ensures.settled)

pub returns-clause-sharp : goal.returns-clause-sharp
returns-clause-sharp g c first none ordered r reads =
    let vm = c.args.vm.now in
    c.find_reach-told.ensures.sharp (vm.fits.kinded ∙ first) (vm.fits.passing ∙ none) ordered r
    (subst (λ (s : Search). ReadsBelow s r (chosen s)) (sym (fits_search vm.fits c.args.input.now)) reads)
