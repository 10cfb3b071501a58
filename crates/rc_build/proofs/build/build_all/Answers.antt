use Rattle.std.proofs.Common.{◌∙◌, ap, map, refl, sym, subst, rules}
use Rattle.std.proofs.lemmas.Result.{IfOk-at_ok}
use Rattle.std.proofs.lemmas.List.Elements.{All-weaker}
use Rattle.rc_pattern.specs.Meaning.{meaning}
use Rattle.rc_pattern.specs.WellFormed.{HasBounds, IsWellFormed}
use Rattle.rc_program.specs.Columns.{OwnSlots}
use Rattle.rc_program.specs.Program.{program, shown}
use Rattle.rc_program.specs.Sought.{IsRunnable, passes_over}
use Rattle.rc_program.specs.Places.{places_of}
use Rattle.rc_program.proofs.OwnLemmas.{own_slots}
use Rattle.rc_pikevm_search.specs.Literals.{MayGoBy}
use Rattle.rc_settings.specs.Thompson.{settings_of, line_terminator_of}
use Rattle.rc_build.specs.Fits.{sought_by}
use Rattle.rc_build.proofs.Runnable.{runnable}
use Rattle.rc_build.proofs.Sizes.{fitted}
use Rattle.rc_build.proofs.build.build_all.Goals as goal

pub choose-requires-clause-bounds : goal.choose-requires-clause-bounds
choose-requires-clause-bounds c =
    All-weaker IsWellFormed HasBounds (λ h f. f.bounded) (map meaning c.args.hirs.now) c.in_ok-compiled.ensures.buildable.well_formed

pub engine_of-engine-requires-clause-runnable : goal.engine_of-engine-requires-clause-runnable
engine_of-engine-requires-clause-runnable c =
    subst IsRunnable (sym c.in_ok-compiled.ensures.places) (runnable _ _ _ c.in_ok-compiled.ensures.buildable)

pub engine_of-engine-requires-clause-own : goal.engine_of-engine-requires-clause-own
engine_of-engine-requires-clause-own c =
    subst OwnSlots (sym c.in_ok-compiled.ensures.places) (own_slots (shown _ (map meaning c.args.hirs.now)))

pub engine_of-engine-requires-clause-sound : goal.engine_of-engine-requires-clause-sound
engine_of-engine-requires-clause-sound c =
    let hs = map meaning c.args.hirs.now in
    let s = settings_of c.args.settings in
    let q = sought_by s hs in
    subst (λ places. MayGoBy places (line_terminator_of s) (passes_over q) c.in_ok-literals.literals)
    (sym (c.in_ok-compiled.ensures.places ∙ search rules))
    (IfOk-at_ok (MayGoBy (program (shown q.grouped hs)) (line_terminator_of s) (passes_over q)) c.in_ok-literals.was (c.choose.ensures.sound q refl))

pub returns-clause-fits : goal.returns-clause-fits
returns-clause-fits c =
    fitted _ c.in_ok-hirs.ensures c.in_ok-compiled.ensures.buildable
    (ap (λ ps. places_of ps.items) c.engine_of-engine.ensures.places ∙ c.in_ok-compiled.ensures.places ∙ search rules)
    c.engine_of-engine.ensures.terminator c.engine_of-engine.ensures.passes_over (search rules) (search rules)
