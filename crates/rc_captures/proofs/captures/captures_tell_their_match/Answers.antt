use Rattle.rc_captures.proofs.CapturesLaws.{span-kept, span-left_out, span-absent, match-whole}
use Rattle.rc_captures.proofs.captures.captures_tell_their_match.Goals as goal

pub returns : goal.returns
returns c = record { kept = span-kept; left_out = span-left_out; absent = span-absent; whole = match-whole }
