use Rattle.rc_captures.proofs.CapturesLaws.{lent-same, lent-written}
use Rattle.rc_captures.proofs.captures.lending_keeps_the_patterns.Goals as goal

pub returns : goal.returns
returns c = record { same = lent-same; written = lent-written }
