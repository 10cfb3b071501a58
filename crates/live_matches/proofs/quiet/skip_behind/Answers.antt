use Rattle.std.proofs.Common.{◌+◌, arith}
use Rattle.live_matches.proofs.Quiets.{over_left, skip_left}
use Rattle.live_matches.proofs.quiet.skip_behind.Goals as goal

pub returns-then-room-lt-LOOKS_BEHIND-clause-left : goal.returns-then-room-lt-LOOKS_BEHIND-clause-left
returns-then-room-lt-LOOKS_BEHIND-clause-left c kind s content other free long inside are =
    skip_left kind s content c.args.last (c.args.edit.replaced.end + 4) c.args.entries.now c.skip_to.result c.skip_to.new.self c.skip_to.ensures inside are

pub returns-clause-left : goal.returns-clause-left
returns-clause-left c kind s content other free long inside are =
    over_left kind s other free content c.args.last (c.args.edit.replaced.end + 4) c.args.entries.now c.skip_over.result c.skip_over.new.self
    c.skip_over.ensures (omega arith)
    (omega (arith, c.if-room-lt-LOOKS_BEHIND.false, c.saturating_sub-room.ensures, c.text_len.ensures, long)) inside are
