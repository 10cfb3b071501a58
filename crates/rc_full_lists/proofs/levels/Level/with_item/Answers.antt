use Rattle.std.proofs.Common.{subst, sym}
use Rattle.rc_tokens.specs.ClassView.{pairs}
use Rattle.rc_class_sets.specs.Sets.{AreRangesOf}
use Rattle.rc_full_lists.specs.Items.{item_set}
use Rattle.rc_full_lists.proofs.levels.Level.with_item.Goals as goal

pub returns : goal.returns
returns c l is =
    let p = item_set c.args.unicode c.args.fold c.args.item in
    record {
      negated = is.negated;
      sides = c.in_ok-sides.ensures c.args.unicode l.progress.side p is.sides
          (subst (λ rs. AreRangesOf c.args.unicode p (pairs rs)) (sym c.deref.ensures.value) c.in_ok-class.ensures);
      deepest = is.deepest;
    }
