use Rattle.std.proofs.Common.{ap, ◌∙◌, max}
use Rattle.rc_full_lists.proofs.levels.Level.with_list.Goals as goal

pub returns : goal.returns
returns c unicode l p is are = record {
  negated = is.negated;
  sides = c.in_ok-sides.ensures unicode l.progress.side p is.sides are;
  deepest = c.max.ensures ∙ ap (λ n. max n c.args.depth) is.deepest;
}
