use Rattle.std.proofs.Common.{◌≡◌, ◌∙◌, IfErr, IfOk, Some, ap, rules, subst}
use Rattle.rc_build.specs.Refusals.{IsBuildable, limit_by}
use Rattle.rc_build.specs.TextRefusals.{AllRead, IsTextRefusal, texts_of}
use Rattle.rc_settings.specs.Settings.{nfa_size_limit_of}
use Rattle.api_meta.specs.Views.{builder_settings, builder_syntax, regex_patterns}
use Rattle.searcher.specs.Flags.{search_settings, size_limit_in, syntax_settings}
use Rattle.searcher.proofs.Limited.{limit_is}
use Rattle.searcher.proofs.searches.build.Goals as goal

pub returns-clause-read : goal.returns-clause-read
returns-clause-read c =
    subst (λ s. IfOk c.build_many.result (λ r. AllRead s (texts_of c.args.texts.now) (regex_patterns r)))
    (c.syntax-2.ensures.value ∙ c.syntax.ensures) c.build_many.ensures.read

pub returns-clause-buildable : goal.returns-clause-buildable
returns-clause-buildable c =
    let set : builder_settings c.syntax-2.result.now ≡ search_settings c.args.settings.now c.args.kind = search rules in
    subst (λ s. IfOk c.build_many.result (λ r. IsBuildable (limit_by (Some (size_limit_in c.args.settings.now)) s) (regex_patterns r)))
    (c.syntax-2.ensures.value ∙ c.syntax.ensures)
    (subst (λ l. IfOk c.build_many.result (λ r. IsBuildable (limit_by l (builder_syntax c.syntax-2.result.now)) (regex_patterns r)))
    (ap nfa_size_limit_of set ∙ limit_is c.args.settings.now c.args.kind) c.build_many.ensures.buildable)

pub returns-clause-refused : goal.returns-clause-refused
returns-clause-refused c =
    let set : builder_settings c.syntax-2.result.now ≡ search_settings c.args.settings.now c.args.kind = search rules in
    subst (λ l. IfErr c.build_many.result (λ e. IsTextRefusal l (syntax_settings c.args.settings.now) (texts_of c.args.texts.now) e))
    (ap nfa_size_limit_of set ∙ limit_is c.args.settings.now c.args.kind)
    (subst (λ s. IfErr c.build_many.result (λ e. IsTextRefusal (nfa_size_limit_of (builder_settings c.syntax-2.result.now)) s (texts_of c.args.texts.now) e))
    (c.syntax-2.ensures.value ∙ c.syntax.ensures) c.build_many.ensures.refused)
