use Rattle.std.proofs.Common.{◌≡◌, ◌∙◌, ◌≤◌, ap, map, refl, subst, sym}
use Rattle.rc_pattern.specs.Meaning.{meaning}
use Rattle.rc_program.specs.Laws.{heaviness}
use Rattle.rc_program.specs.Places.{places_of}
use Rattle.rc_program.specs.Program.{program, shown}
use Rattle.rc_settings.specs.Thompson.{nfa_size_limit_of, settings_of, which_captures_of}
use Rattle.rc_settings.specs.Which.{is_grouped}
use Rattle.rc_build.specs.Refusals.{IsBuildable, limit_of}
use Rattle.api_dfa.proofs.TableLemmas.{program_light}
use Rattle.api_dfa.proofs.builder.Builder.build_many_from_hir.Goals as goal

pub tables_of-made-requires : goal.tables_of-made-requires
tables_of-made-requires c =
    let b = c.in_ok-built.ensures in
    let s = settings_of c.args.self.now.thompson in
    let g = is_grouped (which_captures_of s) in
    let hs = map meaning c.deref.result.now in
    let same : hs ≡ map meaning c.in_ok-built.built.hirs.items = ap (λ xs. map meaning xs) c.deref.ensures.value in
    let places : places_of c.deref-2.result.now ≡ program (shown g hs) =
    ap (λ xs. places_of xs) c.deref-2.ensures.value ∙ b.fits.placed ∙ sym (ap (λ xs. program (shown g xs)) same) in
    let limit = limit_of (nfa_size_limit_of s) c.get_grammar.result in
    let ok : IsBuildable limit hs = subst (IsBuildable limit) (sym (same ∙ b.patterns)) b.buildable in
    let light = subst (λ ps. heaviness ps ≤ 2147483646) (sym places) (program_light limit g hs ok) in
    (refl, (places, light))
