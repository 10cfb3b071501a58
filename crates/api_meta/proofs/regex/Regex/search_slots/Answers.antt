use Rattle.std.proofs.Common.{◌≡◌, MatchOption, Some, length, subst}
use Rattle.rc_program.specs.Sought.{search_for}
use Rattle.rc_pikevm.specs.KindSlots.{slots_by}
use Rattle.rc_build.proofs.Fitted.{fits_search}
use Rattle.api_meta.specs.Views.{sought}
use Rattle.api_meta.proofs.regex.Regex.search_slots.Goals as goal

pub returns-clause-slots_by : goal.returns-clause-slots_by
returns-clause-slots_by g c =
    let r = c.args.self.now in
    let before = c.args.slots.now in
    let after = c.find_slots.new.slots in
    subst
    (λ k. MatchOption c.find_slots.result (after ≡ before) (λ _. Some after ≡ slots_by k (search_for (sought r) c.args.input) (length before)))
    r.fits.kinded
    (subst
    (λ z. MatchOption c.find_slots.result (after ≡ before) (λ _. Some after ≡ slots_by r.engines.engine.kind z (length before)))
    (fits_search r.fits c.args.input) c.find_slots.ensures.slots)
