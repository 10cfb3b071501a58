use Rattle.std.proofs.Common.{◌≡◌, ◌∙◌, Some, MatchOption, subst, sym}
use Rattle.rc_text.specs.Text.{high, low}
use Rattle.rc_text.specs.declared.types.Anchored.TheVariants.{No}
use Rattle.rc_text.specs.declared.types.Span.{Span}
use Rattle.rc_program.specs.Sought.{text_of}
use Rattle.rc_program.specs.Text.{Text}
use Rattle.rc_pikevm_search.specs.Engine.{engine_search}
use Rattle.rc_words.specs.Words.{HasNoWord, IsOnlyWord, between_in}
use Rattle.rc_strategy.specs.Questions.{IsReply}
use Rattle.rc_strategy.proofs.WordLemmas.{none_replies, only_replies}
use Rattle.rc_strategy.proofs.engines.Engines.ask_by_words.Goals as goal

pub returns-in-Some-clause-reply : goal.returns-in-Some-clause-reply
returns-in-Some-clause-reply g c =
    let e = c.args.self.now in
    let s = c.args.input.now in
    let w = c.args.words.now in
    let span = c.in-Some.span in
    let t : Text = text_of e.engine.program.terminator s in
    let free : s.anchored ≡ No = sym c.get_anchored.ensures ∙ c.in-No.is in
    let found : IsOnlyWord (between_in w) t (low s) (high s) span.start span.end =
    subst (λ o. MatchOption o (HasNoWord (between_in w) t (low s) (high s)) (λ (x : Span). IsOnlyWord (between_in w) t (low s) (high s) x.start x.end))
    c.in-Some.is c.in_ok-found.ensures.found in
    subst (λ m. IsReply c.args.question e.engine.kind (engine_search e.engine s) (Some m)) (sym c.new.ensures)
    (only_replies c.args.question e.engine e.words w s e.worded c.requires.own free (sym c.is_leftmost.ensures ∙ c.if-not-is_leftmost.false) c.if-self.false
    span.start span.end found)

pub returns-in-None-clause-reply : goal.returns-in-None-clause-reply
returns-in-None-clause-reply g c =
    let e = c.args.self.now in
    let s = c.args.input.now in
    let w = c.args.words.now in
    let t : Text = text_of e.engine.program.terminator s in
    let free : s.anchored ≡ No = sym c.get_anchored.ensures ∙ c.in-No.is in
    let found : HasNoWord (between_in w) t (low s) (high s) =
    subst (λ o. MatchOption o (HasNoWord (between_in w) t (low s) (high s)) (λ (x : Span). IsOnlyWord (between_in w) t (low s) (high s) x.start x.end))
    c.in-None.is c.in_ok-found.ensures.found in
    none_replies c.args.question e.engine e.words w s e.worded c.requires.own free (sym c.is_leftmost.ensures ∙ c.if-not-is_leftmost.false) c.if-self.false found
