use Rattle.std.proofs.Common.{◌≡◌, ◌∙◌, ◌≤◌, ap, map, refl, subst, sym}
use Rattle.rc_pattern.specs.Meaning.{meaning}
use Rattle.rc_program.specs.Laws.{heaviness}
use Rattle.rc_program.specs.Places.{places_of}
use Rattle.rc_program.specs.Program.{program, shown}
use Rattle.rc_program.specs.Sought.{passes_over}
use Rattle.rc_settings.specs.Thompson.{nfa_size_limit_of, settings_of, which_captures_of}
use Rattle.rc_settings.specs.Which.{is_grouped}
use Rattle.rc_settings.specs.SearchSettings.{match_kind_of}
use Rattle.rc_build.specs.Fits.{sought_by}
use Rattle.rc_build.specs.Refusals.{IsBuildable, limit_of}
use Rattle.api_hybrid.specs.Halves.{IsLazyFor}
use Rattle.api_dfa.proofs.TableLemmas.{program_light}
use Rattle.api_hybrid.proofs.builder.Builder.build_many_from_hir.Goals as goal

pub lazy_of-made-requires : goal.lazy_of-made-requires
lazy_of-made-requires c =
    let b = c.in_ok-built.ensures in
    let s = settings_of c.args.self.now.thompson in
    let g = is_grouped (which_captures_of s) in
    let hs = map meaning c.deref.result.now in
    let same : hs ≡ map meaning c.in_ok-built.built.hirs.items = ap (λ xs. map meaning xs) c.deref.ensures.value in
    let places : places_of c.deref-2.result.now ≡ program (shown g hs) =
    ap (λ xs. places_of xs) c.deref-2.ensures.value ∙ b.fits.placed ∙ sym (ap (λ xs. program (shown g xs)) same) in
    let limit = limit_of (nfa_size_limit_of s) c.get_grammar.result in
    let ok : IsBuildable limit hs = subst (IsBuildable limit) (sym (same ∙ b.patterns)) b.buildable in
    let light = subst (λ ps. heaviness ps ≤ 2147483646) (sym places) (program_light limit g hs ok) in
    (refl, (places, light))

pub invariant_of-result : goal.invariant_of-result
invariant_of-result c =
    let b = c.in_ok-built.ensures in
    let s = settings_of c.args.self.now.thompson in
    let lazy = c.in_ok-lazy.lazy in
    let same : map meaning c.deref.result.now ≡ map meaning c.in_ok-built.built.hirs.items = ap (λ xs. map meaning xs) c.deref.ensures.value in
    let kind = b.fits.kinded ∙ c.get_match_kind.ensures ∙ sym (ap match_kind_of c.in_ok-config.ensures.same) in
    let kept : map meaning c.into_hirs-hirs.result.items ≡ map meaning c.in_ok-built.built.hirs.items = ap (λ v. map meaning v.items) c.into_hirs-hirs.ensures in
    let made = subst (λ hs. IsLazyFor (sought_by s hs) c.in_ok-built.built.engine.kind lazy) (same ∙ sym kept) c.in_ok-lazy.ensures.made in
    record {
      passing = subst (λ hs. c.in_ok-built.built.engine.program.passes_over ≡ passes_over (sought_by s hs)) (sym kept) b.fits.passing;
      made = ∣ subst (λ k. IsLazyFor (sought_by s (map meaning c.into_hirs-hirs.result.items)) k lazy) kind made ∣₁;
    }
