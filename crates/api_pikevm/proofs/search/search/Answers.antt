use Rattle.std.proofs.Common.{◌≡◌, ◌∙◌, MatchOption, Some, ap, length, None, refl, replicate, subst}
use Rattle.std.proofs.lemmas.List.{length-map, length-replicate}
use Rattle.rc_pattern.specs.WellFormed.{group_names}
use Rattle.rc_captures.specs.Captures.{captures_pattern, captures_slots}
use Rattle.rc_captures.proofs.CapturesLaws.{lent-written}
use Rattle.rc_pikevm.specs.KindSlots.{slots_by}
use Rattle.rc_program.specs.Answer.{Search}
use Rattle.rc_program.specs.Program.{shown}
use Rattle.rc_program.specs.Programs.{search_of}
use Rattle.rc_program.specs.Sought.{search_for}
use Rattle.rc_program.specs.Places.{places_of}
use Rattle.rc_settings.specs.Which.{is_grouped}
use Rattle.rc_pikevm_search.proofs.Told.{tells_by}
use Rattle.rc_settings.specs.SearchSettings.{match_kind_of}
use Rattle.rc_settings.specs.Thompson.{which_captures_of}
use Rattle.api_pikevm.specs.Views.{sought, vm_names, vm_patterns, vm_program, vm_settings}
use Rattle.rc_build.proofs.Fitted.{fits_search, told_same}
use Rattle.rc_build.proofs.Matched.{still_for, tells_match_by}
use Rattle.api_pikevm.proofs.Kept.{kept_slots}
use Rattle.api_pikevm.proofs.search.search.Goals as goal

pub search_slots_by_kind-pattern-requires-clause-guarded : goal.search_slots_by_kind-pattern-requires-clause-guarded
search_slots_by_kind-pattern-requires-clause-guarded g c =
    let e = c.args.vm.now.built.engine in
    c.guards_of.ensures.sound (places_of e.program.places.items) e.program.terminator e.program.passes_over e.sound

pub returns-clause-found_by : goal.returns-clause-found_by
returns-clause-found_by g c =
    let vm = c.args.vm.now in
    let e = vm.built.engine in
    told_same vm.fits c.args.input.now c.set_pattern.new.caps
    (tells_by e.kind (search_of e.program c.args.input.now) c.set_pattern.new.caps
    c.search_slots_by_kind-pattern.result _ _
    c.search_slots_by_kind-pattern.ensures.pattern c.search_slots_by_kind-pattern.ensures.slots c.set_pattern.ensures.pattern
    (c.set_pattern.ensures.slots
    ∙ lent-written c.clear.new.caps c.search_slots_by_kind-pattern.new.slots (c.search_slots_by_kind-pattern.ensures.long ∙ ap length c.slots_mut.ensures.value))
    c.search_slots_by_kind-pattern.ensures.long)

pub returns-clause-long : goal.returns-clause-long
returns-clause-long g c =
    ap length (c.set_pattern.ensures.slots
    ∙ lent-written c.clear.new.caps c.search_slots_by_kind-pattern.new.slots (c.search_slots_by_kind-pattern.ensures.long ∙ ap length c.slots_mut.ensures.value))
    ∙ c.search_slots_by_kind-pattern.ensures.long ∙ ap length (c.slots_mut.ensures.value ∙ c.clear.ensures.slots)
    ∙ length-replicate (length (captures_slots c.args.caps.now)) None

pub returns-clause-still_made : goal.returns-clause-still_made
returns-clause-still_made g c =
    still_for (vm_names c.args.vm.now) c.args.caps.now c.set_pattern.new.caps c.requires.for_vm (c.set_pattern.ensures.names ∙ c.clear.ensures.names) (returns-clause-long g c)

pub returns-clause-matched_by : goal.returns-clause-matched_by
returns-clause-matched_by g c =
    let vm = c.args.vm.now in
    let shows = shown (is_grouped (which_captures_of (vm_program vm))) (vm_patterns vm) in
    tells_match_by (match_kind_of (vm_settings vm)) shows (search_for (sought vm) c.args.input.now) (vm_names vm) c.set_pattern.new.caps refl
    (length-map shows group_names) (returns-clause-still_made g c) (returns-clause-found_by g c)

pub returns-clause-slots : goal.returns-clause-slots
returns-clause-slots g c =
    let vm = c.args.vm.now in
    let e = vm.built.engine in
    let kept = captures_slots c.set_pattern.new.caps in
    let n = length (captures_slots c.args.caps.now) in
    let p = captures_pattern c.set_pattern.new.caps in
    subst (λ k. MatchOption p (kept ≡ replicate n None) (λ _. Some kept ≡ slots_by k (search_for (sought vm) c.args.input.now) n)) vm.fits.kinded
    (subst (λ (s : Search). MatchOption p (kept ≡ replicate n None) (λ _. Some kept ≡ slots_by e.kind s n))
    (fits_search vm.fits c.args.input.now)
    (kept_slots e.kind (search_of e.program c.args.input.now) n p
    c.search_slots_by_kind-pattern.result kept c.search_slots_by_kind-pattern.new.slots c.slots_mut.result.now
    c.set_pattern.ensures.pattern
    (c.set_pattern.ensures.slots
    ∙ lent-written c.clear.new.caps c.search_slots_by_kind-pattern.new.slots (c.search_slots_by_kind-pattern.ensures.long ∙ ap length c.slots_mut.ensures.value))
    (c.slots_mut.ensures.value ∙ c.clear.ensures.slots)
    c.search_slots_by_kind-pattern.ensures.slots))
