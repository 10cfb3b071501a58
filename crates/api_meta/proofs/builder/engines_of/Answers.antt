use Rattle.std.proofs.Common.{◌≡◌, ◌⊎◌, ◌∙◌, ⊎_elim, ℕ, Bool, List, IfSome, None, Ok, Err, Result, false, inl, inr, ap, length, map, subst, sym}
use Rattle.std.specs.Result.{IfOk}
use Rattle.std.specs.Prelude.{All}
use Rattle.std.proofs.lemmas.List.{length-map}
use Rattle.std.proofs.lemmas.Result.{IfOk-weaker}
use Rattle.rc_pattern.specs.Meaning.{meaning}
use Rattle.rc_pattern.specs.WellFormed.{HasBounds}
use Rattle.rc_program.specs.Program.{program, shown}
use Rattle.rc_program.specs.Text.{Text}
use Rattle.rc_needles.specs.Prefilters.{needles_of}
use Rattle.rc_literals.specs.Needs.{Confines, Holds, LeavesOut}
use Rattle.rc_literals.specs.declared.guard.Needs.{Needs}
use Rattle.rc_literals.proofs.ConfineLemmas.{need_law}
use Rattle.rc_words.specs.Words.{AreBetween, SpellWords, between_in}
use Rattle.rc_words.specs.declared.words.Words.{Words}
use Rattle.rc_words.proofs.AnswerLemmas.{word_law}
use Rattle.rc_settings.specs.Settings.{Settings, auto_prefilter_of, settings_of, program_settings, byte_classes_of, dfa_of, hybrid_cache_capacity_of, hybrid_of, line_terminator_of, match_kind_of, unicode_words_of}
use Rattle.rc_settings.specs.Thompson.{which_captures_of}
use Rattle.rc_settings.specs.Which.{is_grouped}
use Rattle.rc_program.proofs.GroupLemmas.{length-shown}
use Rattle.rc_text.specs.declared.types.MatchKind.{MatchKind}
use Rattle.rc_pattern.specs.Re.{Re}
use Rattle.rc_reach.specs.Laws.{greatest_len}
use Rattle.rc_strategy.specs.Limits.{AreSymbolsOff, IsLazyBarred}
use Rattle.rc_strategy.specs.Plans.{IsLazyFor, IsLazyOver, LazyPlan, plan_of}
use Rattle.rc_dfa.specs.Machine.{symbols}
use Rattle.rc_pikevm_search.specs.declared.engine.Engine.{Engine}
use Rattle.rc_strategy.specs.declared.engines.Engines.{Engines}
use Rattle.rc_strategy.specs.declared.engines.Limits.{Limits}
use Rattle.rc_strategy.specs.declared.lengths.Lengths.{Lengths}
use Rattle.rc_strategy.proofs.SpanLemmas.{bounds_walks}
use Rattle.api_meta.specs.Plans.{plan_by}
use Rattle.api_meta.proofs.builder.engines_of.Goals as goal

pub new-requires : goal.new-requires
new-requires g c =
    let grouped = is_grouped (which_captures_of (program_settings (settings_of c.args.config.now))) in
    let hs = map meaning c.args.hirs.now in
    let bounded = subst (All HasBounds) c.requires.0 c.requires.1.1.1.0 in
    let is = c.requires.1.0 ∙ ap program c.requires.0 in (
      bounds_walks c.of.result grouped hs _ bounded is c.of.ensures.bounds,
      (
        λ n there. subst (λ ps. Confines ps c.args.engine.program.terminator (needles_of n.needles) n.stops.table) (sym is)
            (need_law.confines hs grouped c.args.engine.program.terminator (needles_of n.needles) n.stops.table bounded
            (subst (λ o. IfSome o (λ (k : Needs). (t : Text) → Holds t hs (needles_of k.needles))) there c.in_ok-needs.ensures.holds)
            (subst (λ o. IfSome o (λ (k : Needs). (t : Text) → LeavesOut t hs k.stops.table)) there c.in_ok-needs.ensures.leaves)),
        (
          λ w there. subst (λ ps. SpellWords ps c.args.engine.program.terminator (between_in w)) (sym is)
              (word_law.spell hs grouped c.args.engine.program.terminator (between_in w) bounded
              (subst (λ o. IfSome o (λ (k : Words). AreBetween hs (between_in k))) there c.in_ok-words.ensures.between)),
          (c.requires.1.0, (sym (ap length c.requires.0 ∙ length-shown grouped hs ∙ length-map c.args.hirs.now meaning), c.requires.1.1.0)),
        ),
      ),
    )

pub returns-clause-bounded : goal.returns-clause-bounded
returns-clause-bounded g c =
    IfOk-weaker c.new.result (λ (v : Engines). v.spans ≡ c.of.result) (λ (v : Engines). v.spans.greatest ≡ greatest_len (map meaning c.args.hirs.now))
    (λ v e. ap (λ (k : Lengths). k.greatest) e ∙ c.of.ensures.greatest) c.new.ensures.spans

-- the plan of the engine is that of the patterns under the settings
same_plan : (e : Engine) (hs kept : List Re) (s : Settings) (l : Limits) → kept ≡ shown (is_grouped (which_captures_of (program_settings s))) hs →
    e.program.terminator ≡ line_terminator_of s → e.kind ≡ match_kind_of s → l.byte_classes ≡ byte_classes_of s → l.capacity ≡ hybrid_cache_capacity_of s →
    plan_of e kept l ≡ plan_by hs s
same_plan e hs kept s l patterns terminator kind classes capacity =
    let plan : List Re → ℕ → MatchKind → Bool → ℕ → LazyPlan =
    λ hs t k b n. record { patterns = hs; terminator = t; kind = k; byte_classes = b; capacity = n } in
    let p = plan_by hs s in
    ap (λ xs. plan xs e.program.terminator e.kind l.byte_classes l.capacity) patterns
    ∙ ap (λ t. plan p.patterns t e.kind l.byte_classes l.capacity) terminator
    ∙ ap (λ k. plan p.patterns p.terminator k l.byte_classes l.capacity) kind
    ∙ ap (λ b. plan p.patterns p.terminator p.kind b l.capacity) classes ∙ ap (λ n. plan p.patterns p.terminator p.kind p.byte_classes n) capacity

pub returns-clause-planned : goal.returns-clause-planned
returns-clause-planned g c =
    subst (λ p. IfOk c.new.result (λ (v : Engines). IfSome v.lazy (IsLazyFor p)))
    (same_plan c.args.engine (map meaning c.args.hirs.now) g.shown_hirs (settings_of c.args.config.now) c.limits_of.result
    c.requires.0 c.requires.1.1.1.1.0 c.requires.1.1.1.1.1 c.limits_of.ensures.classes c.limits_of.ensures.capacity)
    c.new.ensures.planned

pub returns-clause-symbols : goal.returns-clause-symbols
returns-clause-symbols g c =
    subst (λ p. IfOk c.new.result (λ (v : Engines). IfSome v.symbols (IsLazyOver symbols p)))
    (same_plan c.args.engine (map meaning c.args.hirs.now) g.shown_hirs (settings_of c.args.config.now) c.limits_of.result
    c.requires.0 c.requires.1.1.1.1.0 c.requires.1.1.1.1.1 c.limits_of.ensures.classes c.limits_of.ensures.capacity)
    c.new.ensures.symbols

-- no tables are made that are switched off
ok_when : {A E : Type 0} (P : Type 0) (Q : A → Type 0) (r : Result A E) → (P → IfOk r Q) → IfOk r (λ v. P → Q v)
ok_when P Q (Ok v) h = h
ok_when P Q (Err e) h = tt

pub returns-clause-no_tables : goal.returns-clause-no_tables
returns-clause-no_tables g c =
    ok_when (dfa_of (settings_of c.args.config.now) ≡ false) (λ (v : Engines). v.tables ≡ None) c.new.result
    (λ off. c.new.ensures.barred (inl (c.limits_of.ensures.dfa ∙ off)))

pub returns-clause-no_lazy : goal.returns-clause-no_lazy
returns-clause-no_lazy g c =
    IfOk-weaker c.new.result (λ (v : Engines). IsLazyBarred c.args.engine c.limits_of.result v.tables → v.lazy ≡ None)
    (λ (v : Engines). hybrid_of (settings_of c.args.config.now) ≡ false → v.lazy ≡ None)
    (λ v none off. none (inl (c.limits_of.ensures.hybrid ∙ off))) c.new.ensures.lazy_barred

pub returns-clause-no_symbols : goal.returns-clause-no_symbols
returns-clause-no_symbols g c =
    IfOk-weaker c.new.result (λ (v : Engines). AreSymbolsOff c.limits_of.result → v.symbols ≡ None)
    (λ (v : Engines). (hybrid_of (settings_of c.args.config.now) ≡ false) ⊎ (unicode_words_of (settings_of c.args.config.now) ≡ false) → v.symbols ≡ None)
    (λ v none off. none (⊎_elim (λ lazy. inl (c.limits_of.ensures.hybrid ∙ lazy)) (λ words. inr (c.limits_of.ensures.words ∙ words)) off))
    c.new.ensures.symbols_off

pub returns-clause-no_needs : goal.returns-clause-no_needs
returns-clause-no_needs g c =
    IfOk-weaker c.new.result (λ (v : Engines). v.needs ≡ c.in_ok-needs.needs)
    (λ (v : Engines). auto_prefilter_of (settings_of c.args.config.now) ≡ false → v.needs ≡ None)
    (λ v same off. same ∙ c.in_ok-needs.ensures.off off) c.new.ensures.needs

pub returns-clause-no_words : goal.returns-clause-no_words
returns-clause-no_words g c =
    IfOk-weaker c.new.result (λ (v : Engines). c.in_ok-words.words ≡ None → v.words ≡ None)
    (λ (v : Engines). auto_prefilter_of (settings_of c.args.config.now) ≡ false → v.words ≡ None)
    (λ v none off. none (c.in_ok-words.ensures.off off)) c.new.ensures.words
