use Rattle.std.proofs.Common.{◌+◌, ◌-◌, ◌∙◌, ◌≡◌, ◌<◌, ◌≤◌, length, List, Bool, false, Some, slice_get, slice_index_or, sym, subst, ap, arith}
use Rattle.std.proofs.lemmas.Option.{slice_get-get_or}
use Rattle.rc_table_search.proofs.SpanLemmas.{next_here}
use Rattle.rc_lazy_dfa.specs.Cells.{met, unknown}
use Rattle.rc_lazy_dfa.specs.Overlaps.{IsUnderway}
use Rattle.rc_lazy_dfa.proofs.RowLemmas.{row_inside}
use Rattle.rc_lazy_dfa.proofs.WhichLemmas.{over_plain, over_collected}
use Rattle.rc_lazy_dfa.proofs.WriteLemmas.{byte_inside}
use Rattle.rc_lazy_dfa.proofs.which.Ends.run.Goals as goal
use Rattle.rc_lazy_dfa.proofs.which.Ends.run.Goals.{then-cell-lt-UNKNOWN, else-cell-lt-UNKNOWN+then-cell-ge-MET+then-cell-lt-UNKNOWN-2+then-is_collected}

pub loop-place-init : goal.loop-place-init
loop-place-init g c =
    let same : c.args.from.at ≡ c.args.from.at + 0 = omega arith in
    let u = c.requires.1.0 in
    record {
      within = omega arith;
      some = (u.0, subst (λ n. IsUnderway g.o c.args.self.now n c.args.from.row u.0) same u.1);
      underway = λ set v. subst (λ n. IsUnderway g.o c.args.self.now n c.args.from.row set) same v;
    }

pub bounds-cells-index : goal.bounds-cells-index
bounds-cells-index g c =
    let some = c.loop-place.invariant.some in
    let u = some.1 in
    let held = u.half.held in
    let frame = held.frame in
    let size = frame.size in
    let same = c.requires.1.1.0 in
    let byte = c.type_inv.piece c.loop-place.place in
    let b = slice_index_or c.args.piece.now c.loop-place.place 0 in
    let lt : b < length c.args.classes.now = subst (λ xs. b < length xs) (sym same) (omega (arith, size, byte)) in
    let below = byte_inside g.o.frame b (slice_index_or c.args.classes.now b 0) frame (subst (λ xs. slice_get xs b ≡ Some (slice_index_or c.args.classes.now b 0)) same
    (slice_get-get_or c.args.classes.now b 0 lt)) in
    let inside = row_inside g.o.frame c.args.self.now.half.store held c.loop-place.row u.state u.in_row in
    let cells = c.as_slice-cells.ensures.value in
    rw cells (omega (arith, below, inside))

pub loop-place-preserved : goal.loop-place-preserved
loop-place-preserved g c =
    let o = g.o in
    let given = c.requires in
    let some = c.loop-place-test.true in
    let b = slice_index_or c.args.piece.now c.loop-place.place 0 in
    let bound = let inside = given.0.inside in inside.high in
    let within = given.1.1.1.1.0 in
    let next = next_here false o.seen o.bound c.args.from.at c.loop-place.place c.args.piece.now
    (let high = bound in omega (arith, high)) given.1.1.1.0 within (omega (arith, some)) (omega (arith, some)) in
    let byte : b < 256 = let fits = c.type_inv.piece c.loop-place.place in omega (arith, fits) in
    let cells = c.as_slice-cells.ensures.value in
    let i = c.args.from.at + c.loop-place.place in
    let e = c.args.self.now in
    let column = slice_index_or c.args.classes.now b 0 in
    let at : i + 1 ≡ c.args.from.at + (c.loop-place.place + 1) = omega arith in
    let on : (set : List Bool) → IsUnderway o e i c.loop-place.row set → IsUnderway o e (c.args.from.at + (c.loop-place.place + 1)) c.if-cell-lt-UNKNOWN.row set = λ set u.
    subst (λ n. IsUnderway o e n c.if-cell-lt-UNKNOWN.row set) at (elim c.if-cell-lt-UNKNOWN.branch [
      | then-cell-lt-UNKNOWN w ↦
          subst (λ r. IsUnderway o e (i + 1) r set) (ap (λ xs. slice_index_or xs (c.loop-place.row + column) 0) (sym cells) ∙ sym w.row-is)
          (over_plain o given.0 e set i c.loop-place.row u b next c.args.classes.now given.1.1.0 byte
          (subst (λ xs. slice_index_or xs (c.loop-place.row + column) 0 < unknown) cells w.if-cell-lt-UNKNOWN.true))
      | else-cell-lt-UNKNOWN+then-cell-ge-MET+then-cell-lt-UNKNOWN-2+then-is_collected w ↦
          subst (λ r. IsUnderway o e (i + 1) r set) (ap (λ xs. slice_index_or xs (c.loop-place.row + column) 0 - met) (sym cells) ∙ sym w.row-is)
          (over_collected o given.0 e set i c.loop-place.row u b next c.args.classes.now given.1.1.0 byte
          (subst (λ xs. met ≤ slice_index_or xs (c.loop-place.row + column) 0) cells w.if-cell-ge-MET.true)
          (subst (λ xs. slice_index_or xs (c.loop-place.row + column) 0 - met < unknown) cells w.if-cell-lt-UNKNOWN-2.true)
          (w.is_collected.ensures w.if-is_collected.true))
    ]) in
    let some_set = c.loop-place.invariant.some in
    record {
      within = omega (arith, some);
      some = (some_set.0, on some_set.0 some_set.1);
      underway = λ set v. on set (c.loop-place.invariant.underway set v);
    }
