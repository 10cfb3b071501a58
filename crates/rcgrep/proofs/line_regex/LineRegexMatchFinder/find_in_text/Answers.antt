use Rattle.std.proofs.Common.{◌∙◌, ap, cond, take}
use Rattle.rc_text.specs.Joined.{joined}
use Rattle.rcgrep.specs.Picked.{text_matches}
use Rattle.rcgrep.specs.Selecting.{Selecting}
use Rattle.rcgrep.proofs.TextLemmas.{text_spans}
use Rattle.rcgrep.proofs.line_regex.LineRegexMatchFinder.find_in_text.Goals as goal

-- the matches are those in the text of the chunks
pub returns-clause-found : goal.returns-clause-found
returns-clause-found c =
    let r = c.self.inside.patterns.now.regex in
    text_spans r (joined c.args.chunks.now) c.in-Ok.input c.args.only_first c.clear.new.self.items _ c.clear.ensures.items c.in-Ok.ensures c.in_ok-add_matches.ensures.added
    ∙ ap (λ (s : Selecting). let all = text_matches s.regex (joined c.args.chunks.now) in cond c.args.only_first (take 1 all) all) c.self.view_is
