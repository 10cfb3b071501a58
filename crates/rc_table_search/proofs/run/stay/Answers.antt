use Rattle.std.proofs.Common.{Some, ◌≡◌, ◌+◌, ◌-◌, ◌<◌, ◌≤◌, length, sym, subst, ap, ◌∙◌, arith}
use Rattle.rc_table_search.specs.Walks.{HasByte, Reaches, left_of, met, next_of, skip}
use Rattle.rc_table_search.proofs.RunLemmas.{fewer, goes_found}
use Rattle.rc_table_search.proofs.run.stay.Goals as goal

pub loop-here-preserved : goal.loop-here-preserved
loop-here-preserved g c =
    let r = c.requires.1.1 in
    let w = g.walk in
    let place = c.loop-here.place in
    let row = c.args.stand.row in
    let cell = c.cell_at-cell.result in
    let now = c.loop-here.invariant in
    let some : 0 < left_of w.backwards (length c.args.piece.now) place =
    omega (arith, c.left.ensures, c.loop-here-test.true, ap (λ b. left_of b (length c.args.piece.now) place) r.0) in
    let less = fewer w.backwards (length c.args.piece.now) place now.within some in
    let byte : HasByte w place = record {
      within = subst (λ xs. place ≤ length xs) r.1.1.1.1.0 now.within;
      some = subst (λ xs. 0 < left_of w.backwards (length xs) place) r.1.1.1.1.0 some;
    } in
    let to : c.next-place.result ≡ next_of w.backwards place = c.next-place.ensures ∙ ap (λ b. next_of b place) (sym r.0) in
    let high : cell - met < skip = omega (arith, c.if-cell-row.false, r.1.1.1.1.1.1.1.0) in
    let here : cell - met ≡ row = omega (arith, c.if-cell-row.false) in
    let found = goes_found w place row cell c.loop-here.noted now.reaches byte c.cell_at-cell.ensures.cell (omega (arith, c.if-cell-row.false)) high in
    record {
      within = omega (arith, to, less.0);
      on = omega (arith, ap (left_of w.backwards (length c.args.piece.now)) to, less.1, now.on);
      reaches =
          subst (λ s. Reaches w c.next-place.result row (Some (row, s + place))) (sym r.1.1.1.1.1.1.1.1.0)
          (subst (λ k. Reaches w c.next-place.result k (Some (k, w.start + place))) here
          (subst (λ p. Reaches w p (cell - met) (Some (cell - met, w.start + place))) (sym to) found));
    }
