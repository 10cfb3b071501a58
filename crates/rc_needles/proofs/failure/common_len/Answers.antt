use Rattle.std.proofs.Common.{sym, ap, ◌∙◌, take, slice_index}
use Rattle.std.proofs.lemmas.List.{get_or-take}
use Rattle.std.proofs.lemmas.Slice.Eq.{bytes_eq-Decides}
use Rattle.rc_needles.proofs.failure.common_len.Goals as goal

pub returns-then-eq-clause-alike : goal.returns-then-eq-clause-alike
returns-then-eq-clause-alike c i l =
    let left = c.args.left.now in
    let right = c.args.right.now in
    let len = c.min-len.result in
    let same = (bytes_eq-Decides (take len left) (take len right)).0 (sym c.eq.ensures ∙ c.if-eq.true) in
    sym (get_or-take len left i 0 l) ∙ ap (λ xs. slice_index xs i) same ∙ get_or-take len right i 0 l
