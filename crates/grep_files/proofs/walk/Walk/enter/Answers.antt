use Rattle.std.proofs.Common.{◌∙◌}
use Rattle.grep_files.proofs.WalkLemmas.{moved_are, not_shut}
use Rattle.grep_files.proofs.walk.Walk.enter.Goals as goal

pub returns-in_err-push_front : goal.returns-in_err-push_front
returns-in_err-push_front c =
    let so_far = moved_are c.args.self.now.choice c.in_ok-paths.ensures c.loop-path.invariant.moved in
    record { choice = c.loop-path.invariant.choice; entries = so_far.0; are = so_far.1; is = c.in_err-push_front.ensures.items ∙ so_far.2; none_shut = λ shut. absurd (not_shut _ _ c.in_ok-is_shut.ensures c.if-branch.false shut) }

pub returns-in-Some-fault : goal.returns-in-Some-fault
returns-in-Some-fault c =
    let so_far = moved_are c.args.self.now.choice c.in_ok-paths.ensures c.loop-path.invariant.moved in
    record { choice = c.loop-path.invariant.choice; entries = so_far.0; are = so_far.1; is = so_far.2; none_shut = λ shut. absurd (not_shut _ _ c.in_ok-is_shut.ensures c.if-branch.false shut) }

pub returns : goal.returns
returns c =
    let so_far = moved_are c.args.self.now.choice c.in_ok-paths.ensures c.loop-path.invariant.moved in
    record { choice = c.loop-path.invariant.choice; entries = so_far.0; are = so_far.1; is = so_far.2; none_shut = λ shut. absurd (not_shut _ _ c.in_ok-is_shut.ensures c.if-branch.false shut) }
