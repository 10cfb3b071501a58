use Rattle.std.proofs.Common.{◌∙◌, None, ap, arith, false, refl}
use Rattle.rc_program.specs.Kinds.{matches_by_kind}
use Rattle.rc_program.specs.Sought.{search_for}
use Rattle.rc_program.proofs.KindLemmas.{kinds_law}
use Rattle.api_meta.specs.Views.{regex_kind, regex_names, sought}
use Rattle.api_meta.proofs.Going.{few_left}
use Rattle.api_meta.proofs.Runs.{captures_law, matched_law}
use Rattle.api_meta.proofs.regex.Regex.captures_iter.Goals as goal

pub returns-clause-left : goal.returns-clause-left
returns-clause-left g c kind =
    let s = search_for (sought c.args.self.now) c.args.input in
    ap (λ k. matches_by_kind k s c.args.input.span.start None) kind ∙ kinds_law.leftmost s c.args.input.span.start None

pub returns-clause-law : goal.returns-clause-law
returns-clause-law g c kind =
    captures_law (regex_kind c.args.self.now) (regex_names c.args.self.now) (search_for (sought c.args.self.now) c.args.input) c.args.input.span.start _ kind
    refl refl refl refl refl

pub returns-clause-law_by : goal.returns-clause-law_by
returns-clause-law_by g c =
    matched_law (regex_kind c.args.self.now) (regex_names c.args.self.now) (search_for (sought c.args.self.now) c.args.input) c.args.input.span.start _
    refl refl refl

pub returns-clause-short : goal.returns-clause-short
returns-clause-short g c = let few = few_left c.args.self.now c.args.input None false in omega (arith, few, c.content_fits.ensures)
