use Rattle.std.proofs.Common.{◌∙◌, ap, sym, take}
use Rattle.std.proofs.lemmas.Slice.Eq.{bytes_eq-Decides}
use Rattle.rc_literals.proofs.MarkLemmas.{related_front}
use Rattle.rc_literals.proofs.marks.are_related.Goals as goal

pub returns : goal.returns
returns c related =
    let n = c.min-common.result in
    let xs = c.args.left.now in
    let ys = c.args.right.now in
    c.eq.ensures ∙ (bytes_eq-Decides (take n xs) (take n ys)).1
    (ap (λ m. take m xs) c.min-common.ensures ∙ related_front xs ys related ∙ ap (λ m. take m ys) (sym c.min-common.ensures))
