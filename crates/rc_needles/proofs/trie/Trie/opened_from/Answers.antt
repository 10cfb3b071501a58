use Rattle.std.proofs.Common.{subst}
use Rattle.rc_needles.specs.Openings.{ArePassed}
use Rattle.rc_needles.proofs.trie.Trie.opened_from.Goals as goal

pub returns-clause-passed : goal.returns-clause-passed
returns-clause-passed c = subst (λ words. ArePassed words c.args.piece.now c.args.from c.opened_from.result) c.deref.ensures.value c.opened_from.ensures.passed
