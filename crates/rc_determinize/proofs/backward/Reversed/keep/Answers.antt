use Rattle.rc_determinize.proofs.ReverseLemmas.{kept_one}
use Rattle.rc_determinize.proofs.backward.Reversed.keep.Goals as goal

pub returns-clause-kept : goal.returns-clause-kept
returns-clause-kept c =
    kept_one (λ v. v.items) c.args.self.now.into.items c.args.to c.index_mut.result.now c.push.new.self (record { from = c.args.from; over = c.args.over })
    c.requires c.index_mut.ensures.value c.in_ok-push.ensures.items
