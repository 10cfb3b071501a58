use Rattle.std.proofs.Common.{◌≡◌, ◌∙◌, ap, arith, length, subst}
use Rattle.rc_build.specs.TextRefusals.{AllRead, texts_of}
use Rattle.api_meta.specs.Views.{regex_patterns}
use Rattle.api_meta.specs.declared.regex.Regex.{Regex}
use Rattle.searcher.specs.Flags.{syntax_settings}
use Rattle.searcher.proofs.Counted.{as_many}
use Rattle.searcher.proofs.searches.Searcher.new.Goals as goal

pub with_cache-requires : goal.with_cache-requires
with_cache-requires c =
    let many : length (regex_patterns c.in_ok-regex.regex) ≡ length c.args.patterns.now =
    as_many (syntax_settings c.args.settings.now) c.args.patterns.now (regex_patterns c.in_ok-regex.regex)
    (subst (λ ts. AllRead (syntax_settings c.args.settings.now) ts (regex_patterns c.in_ok-regex.regex))
    (ap texts_of c.deref.ensures.value ∙ c.in_ok-texts.ensures.same) c.in_ok-regex.ensures.read) in
    let few = c.if-patterns-gt-MAX_PATTERNS.false in
    let shared = ap (λ (r : Regex). length (regex_patterns r)) c.in_ok-new.ensures.ok in
    omega (arith, many, few, shared)
