use Rattle.std.proofs.Common.{length, reverse, slice_index_or, None}
use Rattle.oracle_walker.specs.Frames.{fresh_frame}
use Rattle.oracle_walker.proofs.MarkLemmas.{enters}
use Rattle.oracle_walker.proofs.StepLemmas.{on_top}
use Rattle.oracle_walker.proofs.frames.enter.Goals as goal

pub returns-clause-marked : goal.returns-clause-marked
returns-clause-marked c =
    let marks = c.args.marks.now in
    let stack = c.args.stack.now.items in
    let place = c.args.place in
    let position = c.args.position in
    let over = on_top c.push.new.self.items stack (fresh_frame place position (slice_index_or marks place None)) c.in_ok-push.ensures.items in
    rw over (enters (length marks) marks (reverse stack) place position c.requires.inside c.requires.marked)
