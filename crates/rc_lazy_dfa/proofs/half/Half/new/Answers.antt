use Rattle.std.proofs.Common.{rules, ◌+◌, ◌*◌, ◌∙◌, replicate, ap, arith}
use Rattle.rc_lazy_dfa.specs.Cells.{unknown}
use Rattle.rc_lazy_dfa.specs.Stores.{frame_of}
use Rattle.rc_lazy_dfa.proofs.MakeLemmas.{frame_is, blank_held}
use Rattle.rc_lazy_dfa.proofs.half.Half.new.Goals as goal

pub returns-clause-made : goal.returns-clause-made
returns-clause-made c =
    let a = c.args.automaton.now in
    let d = c.args.direction in
    let f = frame_of a d in
    let width = ap (λ n. n + 1) c.columns-width.ensures.value in
    let len = c.in-Some.ensures in
    let k = frame_is a d (c.classes-classes.ensures.machine d) (c.classes-classes.ensures.classing d) (c.columns-width.ensures.columning d) in
    let fits = c.ranges.capacity.fits in
    record {
      held = blank_held f _ k (record {
        states = c.new.ensures;
        cells = c.new-2.ensures.items;
        starts = c.in_ok-starts.ensures.items_if_clones_equal (λ y h. search rules) ∙ ap (λ n. replicate n unknown) len;
        width = width;
        used = ap (λ w. 24 * w + 8 * c.in-Some.len + 96) width ∙ ap (λ n. 24 * f.width + 8 * n + 96) len;
      }) c.requires (omega (arith, fits));
      scratch = c.in_ok-scratch.ensures d;
    }
