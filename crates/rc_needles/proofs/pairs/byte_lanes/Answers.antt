use Rattle.std.proofs.Common.{◌≡◌, ◌+◌, length, replicate, eqb, slice_index, sym, subst, ◌∙◌, w8}
use Rattle.std.specs.Simd.Lanes.{chunk}
use Rattle.std.proofs.lemmas.Simd.{get_or-chunk, length-chunk, tops_compared}
use Rattle.rc_needles.proofs.BlockLemmas.{choice, chosen, long_choice}
use Rattle.rc_needles.proofs.pairs.byte_lanes.Goals as goal

pub returns-clause-long : goal.returns-clause-long
returns-clause-long c =
    let v = chunk c.args.at 16 c.args.piece.now in
    let x = c.args.byte in
    subst (λ ms. length (choice ms) ≡ 16) (sym (tops_compared w8 eqb v (replicate 16 x))) (long_choice v x (length-chunk c.args.at 16 c.args.piece.now c.requires))

pub returns-clause-set : goal.returns-clause-set
returns-clause-set c k l e =
    let v = chunk c.args.at 16 c.args.piece.now in
    let x = c.args.byte in
    subst (λ ms. slice_index (choice ms) k ≡ 255) (sym (tops_compared w8 eqb v (replicate 16 x)))
    (chosen v x k (length-chunk c.args.at 16 c.args.piece.now c.requires) l (get_or-chunk c.args.at 16 c.args.piece.now k 0 l ∙ e))
