use Rattle.std.proofs.Common.{◌-◌, ℕ, arith, refl, inl, inr, length, take, drop}
use Rattle.std.proofs.lemmas.Bool.{cases_lt}
use Rattle.rc_needles.specs.Tables.{needles_in, numbered}
use Rattle.rc_needles.proofs.ScanLemmas.{ruled_out_by_head, tail_length}
use Rattle.rc_needles.proofs.TeddyLemmas.{ruled_out_in_tail, tail_small}
use Rattle.rc_needles.proofs.StandLemmas.{needle_count}
use Rattle.rc_needles.proofs.candidates.teddy_candidate.Goals as goal

pub returns-then-piece-lt-LEAST_PIECE-clause-passed : goal.returns-then-piece-lt-LEAST_PIECE-clause-passed
returns-then-piece-lt-LEAST_PIECE-clause-passed c k l =
    let table = c.args.table.now in
    let none = c.head_candidate.ensures.passed k l in
    ruled_out_by_head (needles_in table.needles.items) 0 table.heads.items c.args.piece.now k refl table.some table.headed
    (omega (arith, l, c.head_candidate.ensures.within)) (c.type_inv.piece k).fits (omega (arith, none, needle_count table.needles.items))

pub returns-then-at-last-clause-passed : goal.returns-then-at-last-clause-passed
returns-then-at-last-clause-passed c k l n m = c.place-at.ensures.passed (numbered (needles_in c.args.table.now.needles.items) n) (c.requires n m) k l

pub returns-clause-passed : goal.returns-clause-passed
returns-clause-passed c k l =
    let table = c.args.table.now in
    let needles = needles_in table.needles.items in
    let piece = c.args.piece.now in
    let last : ℕ = length piece - 2 in
    let heads = c.head_candidate-2.ensures in
    elim (cases_lt k last) [
      | inl h ↦ λ n m. c.place-at.ensures.passed (numbered needles n) (c.requires n m) k (omega (arith, h, c.if-at-last.false))
      | inr g ↦
          let none = heads.passed (k - last) (omega (arith, l, g)) in
          ruled_out_in_tail needles piece last k g
          (ruled_out_by_head needles 0 table.heads.items (take (length piece - last) (drop last piece)) (k - last) refl table.some table.headed
          (omega (arith, l, g, heads.within)) (tail_small piece last (k - last) (λ i. (c.type_inv.piece i).fits) (omega (arith, l, g, heads.within, tail_length piece last)))
          (omega (arith, none, needle_count table.needles.items)))
    ]
