use Rattle.std.proofs.Common.{sym, ap, ◌∙◌}
use Rattle.live_matches.specs.Entries.{most_of}
use Rattle.live_matches.proofs.Gaps.{most_push}
use Rattle.live_matches.proofs.entries.most_of.Goals as goal

pub returns-in-Some : goal.returns-in-Some
returns-in-Some c =
    let last = c.in-Some.ensures in
    sym (ap (most_of 0) last.1 ∙ most_push 0 last.0 c.in-Some.kept)
