use Rattle.std.proofs.Common.{◌++◌, ◌∙◌, ap, drop, length, rules, subst, sym, take}
use Rattle.std.proofs.Math.Seq.{take-append_seam}
use Rattle.std.specs.Prelude.{IsUtf8, MatchOption, chars}
use Rattle.rc_parser.specs.Settings.{settings_of}
use Rattle.rc_explain.specs.Explained.{IsRead, IsUnread}
use Rattle.rc_explain.specs.Shown.{IsShown}
use Rattle.zorfelith_c.specs.Explaining.{syntax_in}
use Rattle.searcher.specs.Flags.{syntax_settings}
use Rattle.zorfelith_c.proofs.explain.zf_explain.Goals as goal

pub returns-then-line-words-clause-answered : goal.returns-then-line-words-clause-answered
returns-then-line-words-clause-answered c =
    let text = c.in-Ok.text.now in
    let s = settings_of c.syntax.result in
    let met = c.in-Some-explained.met in
    let same = c.syntax.ensures ∙ ap syntax_settings c.in-Some.ensures.1 in
    let unread : IsUnread s (chars text) =
    subst (λ o. MatchOption o (IsRead s (chars text)) (λ _. IsUnread s (chars text))) c.in-Some-explained.is c.in-Ok-explain.ensures.answer in (
      record {
        asked = search rules;
        unread = subst (λ t. IsUnread (syntax_in c.args.settings.now) (chars t)) c.in-Ok.ensures.cases.0
            (subst (λ q. IsUnread q (chars text)) same unread);
        place = search rules;
        kind = c.in-Some-explained.met.kind;
        shown = subst (λ q. IsShown q.grammar met c.args.pattern.now) same (search rules);
        few = search rules;
      },
      c.if-line-words.true,
    )

pub returns-clause-answered : goal.returns-clause-answered
returns-clause-answered c =
    let text = c.in-Ok.text.now in
    let s = settings_of c.syntax.result in
    let met = c.in-Some-explained.met in
    let same = c.syntax.ensures ∙ ap syntax_settings c.in-Some.ensures.1 in
    let line = c.as_bytes-line.result.now in
    let rest = drop (length line) c.args.words.now in
    let unread : IsUnread s (chars text) =
    subst (λ o. MatchOption o (IsRead s (chars text)) (λ _. IsUnread s (chars text))) c.in-Some-explained.is c.in-Ok-explain.ensures.answer in (
      record {
        asked = search rules;
        unread = subst (λ t. IsUnread (syntax_in c.args.settings.now) (chars t)) c.in-Ok.ensures.cases.0
            (subst (λ q. IsUnread q (chars text)) same unread);
        place = search rules;
        kind = c.in-Some-explained.met.kind;
        shown = subst (λ q. IsShown q.grammar met c.args.pattern.now) same (search rules);
        few = search rules;
      },
      (search rules, subst IsUtf8 (sym (ap (λ l. take (length line) (l ++ rest)) c.copy_from_slice.ensures.after ∙ take-append_seam line rest)) c.as_bytes-line.ensures.utf8),
    )
