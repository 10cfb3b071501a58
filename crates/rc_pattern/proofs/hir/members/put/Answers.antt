use Rattle.rc_pattern.proofs.PlainNodeLemmas.{plain_behind}
use Rattle.rc_pattern.proofs.hir.members.put.Goals as goal

pub returns-clause-kind : goal.returns-clause-kind
returns-clause-kind c = λ old kind. plain_behind c.args.members.now.items c.push.new.self.items _ c.in_ok-push.ensures.items old kind
