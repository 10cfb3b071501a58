use Rattle.std.proofs.Common.{◌≡◌, ◌∙◌, ◌≤◌, ⊎_elim, ℕ, Bool, IfSome, List, None, Option, Some, ap, arith, false, inl, inr, map, refl, subst, sym, true≢false}
use Rattle.std.specs.Prelude.{All}
use Rattle.rc_pattern.specs.Meaning.{meaning}
use Rattle.rc_pattern.specs.Re.{Re}
use Rattle.rc_pattern.specs.WellFormed.{IsWellFormed}
use Rattle.rc_program.specs.Laws.{heaviness}
use Rattle.rc_program.specs.Places.{places_of}
use Rattle.rc_program.specs.Program.{program, shown}
use Rattle.rc_program.proofs.GroupLemmas.{shown_lighter}
use Rattle.rc_program.proofs.WeightLemmas.{program_weighs}
use Rattle.rc_settings.specs.Settings.{auto_prefilter_of, dfa_of, hybrid_of, prefilter_of, settings_of as all_of, program_settings, unicode_words_of}
use Rattle.rc_settings.specs.Thompson.{Settings, line_terminator_of, nfa_size_limit_of, settings_of, which_captures_of}
use Rattle.rc_settings.specs.Which.{is_grouped}
use Rattle.rc_reach.specs.Laws.{greatest_len}
use Rattle.rc_build.specs.Refusals.{IsBuildable, limit_of}
use Rattle.rc_build.proofs.Runnable.{bounded}
use Rattle.rc_dfa.specs.Machine.{symbols}
use Rattle.rc_pikevm_search.specs.Choices.{IsGuard, answering, guarding}
use Rattle.rc_pikevm_search.specs.declared.engine.Engine.{Engine}
use Rattle.rc_strategy.specs.Plans.{IsLazyFor, IsLazyOver}
use Rattle.api_meta.specs.Plans.{plan_by}
use Rattle.api_meta.specs.Reaching.{longest_after}
use Rattle.api_meta.proofs.builder.build.Goals as goal

pub engines_of-requires : goal.engines_of-requires
engines_of-requires c =
    let b = c.in_ok-built.ensures in
    let st = settings_of c.program_config.result in
    let s = program_settings (all_of c.args.config.now) in
    let g = is_grouped (which_captures_of s) in
    let hs = map meaning c.deref.result.now in
    let same : hs ≡ map meaning c.in_ok-built.built.hirs.items = ap (λ xs. map meaning xs) c.deref.ensures.value in
    let set : st ≡ s = c.program_config.ensures in
    let places : places_of c.in_ok-built.built.engine.program.places.items ≡ program (shown g hs) =
    b.fits.placed ∙ ap (λ (x : Settings). program (shown (is_grouped (which_captures_of x)) (map meaning c.in_ok-built.built.hirs.items))) set
    ∙ sym (ap (λ xs. program (shown g xs)) same) in
    let ok = subst (λ xs. IsBuildable (limit_of (nfa_size_limit_of st) c.args.grammar) xs) (sym (same ∙ b.patterns)) b.buildable in
    let weighs = program_weighs (shown g hs) (bounded g hs ok.well_formed) in
    let lighter = shown_lighter g hs in
    let placed = ok.placed in
    let weight : heaviness (program (shown g hs)) ≤ 2147483646 = omega (arith, weighs, lighter, placed) in (
      refl,
      (
        places,
        (
          subst (λ ps. heaviness ps ≤ 2147483646) (sym places) weight,
          (bounded g hs ok.well_formed, (b.fits.ended ∙ ap line_terminator_of set, b.fits.kinded ∙ c.get_match_kind.ensures)),
        ),
      ),
    )

pub invariant_of-result-clause-well_formed : goal.invariant_of-result-clause-well_formed
invariant_of-result-clause-well_formed c =
    let b = c.in_ok-built.ensures in ∣ subst (λ xs. All IsWellFormed xs) (sym b.patterns) b.buildable.well_formed ∣₁

pub invariant_of-result-clause-planned : goal.invariant_of-result-clause-planned
invariant_of-result-clause-planned c =
    let same : map meaning c.deref.result.now ≡ map meaning c.in_ok-built.built.hirs.items = ap (λ xs. map meaning xs) c.deref.ensures.value in
    let engines = c.in_ok-engines.engines in
    ∣ subst (λ xs. IfSome engines.lazy (IsLazyFor (plan_by xs (all_of c.in_ok-config.config)))) same
    (subst (λ s. IfSome engines.lazy (IsLazyFor (plan_by (map meaning c.deref.result.now) s))) (sym c.in_ok-config.ensures.same)
    c.in_ok-engines.ensures.planned) ∣₁

pub invariant_of-result-clause-symbols : goal.invariant_of-result-clause-symbols
invariant_of-result-clause-symbols c =
    let same : map meaning c.deref.result.now ≡ map meaning c.in_ok-built.built.hirs.items = ap (λ xs. map meaning xs) c.deref.ensures.value in
    let engines = c.in_ok-engines.engines in
    ∣ subst (λ xs. IfSome engines.symbols (IsLazyOver symbols (plan_by xs (all_of c.in_ok-config.config)))) same
    (subst (λ s. IfSome engines.symbols (IsLazyOver symbols (plan_by (map meaning c.deref.result.now) s))) (sym c.in_ok-config.ensures.same)
    c.in_ok-engines.ensures.symbols) ∣₁

pub invariant_of-result-clause-measured : goal.invariant_of-result-clause-measured
invariant_of-result-clause-measured c =
    c.greatest_length-longest.ensures ∙ ap (λ xs. longest_after (Some 0) (map meaning xs)) c.deref-2.ensures.value

pub invariant_of-result-clause-bounded : goal.invariant_of-result-clause-bounded
invariant_of-result-clause-bounded c =
    c.in_ok-engines.ensures.bounded ∙ ap (λ xs. greatest_len (map meaning xs)) c.deref.ensures.value

-- if no others may be used, the needles are the ones asked for
own_guard : (hs : List Re) (asked : Option (List (List ℕ))) (is_auto : Bool) (guard : Option (List (List ℕ))) → is_auto ≡ false →
    IsGuard hs asked is_auto guard → IfSome guard (λ needles. asked ≡ Some needles)
own_guard hs asked is_auto None off h = tt
own_guard hs asked is_auto (Some needles) off h = ⊎_elim (λ own. own.0) (λ others. absurd (true≢false (sym others.0 ∙ off))) h.2

-- what is switched off isn't there
pub returns-clause-engines : goal.returns-clause-engines
returns-clause-engines c =
    let same = c.in_ok-config.ensures.same in
    let made = c.in_ok-engines.ensures in
    let built = c.in_ok-built.ensures in
    let hs = map meaning c.args.hirs.now in
    record {
      no_tables = λ off. made.no_tables (sym (ap dfa_of same) ∙ off);
      no_lazy = λ off. made.no_lazy (sym (ap hybrid_of same) ∙ off);
      no_symbols = λ off. made.no_symbols (⊎_elim (λ lazy. inl (sym (ap hybrid_of same) ∙ lazy)) (λ words. inr (sym (ap unicode_words_of same) ∙ words)) off);
      no_literals = λ off.
          let auto = sym (ap auto_prefilter_of same) ∙ off in
          let none_auto = c.get_auto_prefilter.ensures ∙ auto in
          let unanswered = built.unanswered none_auto in
          let e = c.in_ok-built.built.engine in
          let own = own_guard hs _ c.get_auto_prefilter.result (guarding e.literals) none_auto (built.guards unanswered) in
          record {
            no_answers = ap (λ (x : Engine). answering x.literals) made.engine ∙ unanswered;
            no_prefixes = subst (λ (x : Engine). IfSome (guarding x.literals) (λ needles. prefilter_of (all_of c.in_ok-config.config) ≡ Some needles))
                (sym made.engine)
                (subst (λ asked. IfSome (guarding e.literals) (λ needles. asked ≡ Some needles))
                (c.get_prefilter.ensures ∙ sym (ap prefilter_of same)) own);
            no_needs = made.no_needs auto;
            no_words = made.no_words auto;
          };
    }
