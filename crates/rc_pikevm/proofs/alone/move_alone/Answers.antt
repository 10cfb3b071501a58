use Rattle.std.proofs.Common.{ap, ◌∙◌}
use Rattle.rc_pikevm.specs.Threads.{ThreadList}
use Rattle.rc_pikevm.proofs.AloneLemmas.{one_of}
use Rattle.rc_pikevm.proofs.alone.move_alone.Goals as goal

pub invariant_of-scratch : goal.invariant_of-scratch
invariant_of-scratch c =
    let one = one_of c.args.scratch.now.curr.items c.requires.alone in
    let moved = c.move_first.ensures one.0 one.1 in
    let alike = c.args.scratch.now.alike in
    record {
      alike = (
        ap (λ (l : ThreadList). l.room) moved ∙ alike.0,
        ap (λ (l : ThreadList). l.most) moved ∙ alike.1,
        ap (λ (l : ThreadList). l.width) moved ∙ alike.2,
      );
      wide = c.args.scratch.now.wide;
      exact = ap (λ (l : ThreadList). l.cells) moved ∙ c.args.scratch.now.exact;
    }
