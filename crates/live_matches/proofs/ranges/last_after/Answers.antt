use Rattle.std.proofs.Common.{◌∙◌, sym}
use Rattle.live_matches.proofs.Joins.{end_none, end_some}
use Rattle.live_matches.proofs.ranges.last_after.Goals as goal

pub returns-in-Some : goal.returns-in-Some
returns-in-Some c = sym (end_some c.args.start c.args.entries.now.before c.in-Some.end (sym c.last_end.ensures ∙ c.in-Some.is))

pub returns-in-None : goal.returns-in-None
returns-in-None c = sym (end_none c.args.start c.args.entries.now.before (sym c.last_end.ensures ∙ c.in-None.is))
