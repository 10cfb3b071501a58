use Rattle.std.proofs.Common.{◌≡◌, ◌+◌, ◌∙◌, ℕ, arith, slice_index_or, subst, sym}
use Rattle.std.proofs.lemmas.Option.{slice_get-get_or}
use Rattle.rc_onepass.specs.Rows.{Names}
use Rattle.rc_onepass.specs.Walked.{Stands}
use Rattle.rc_onepass.proofs.RunLemmas.{piece_byte, row_there, stands_turn, turn_wide}
use Rattle.rc_onepass.proofs.onepass.OnePass.run.Goals as goal

pub loop-i-preserved : goal.loop-i-preserved
loop-i-preserved c = record {
  long = c.set_slots.ensures.long ∙ c.loop-i.invariant.long;
  stands = λ s w before sound piece end first.
      let i = c.loop-i.i in
      let at = c.args.start + i in
      let lt = c.loop-i-test.true in
      let more : at + 1 ≡ c.args.start + (i + 1) = omega arith in
      subst (λ x. Stands s w before x c.in_ok-transition.transition.next c.set_slots.new.slots) more
      (stands_turn c.args.self.now s w before sound at c.loop-i.place c.loop-i.slots c.set_slots.new.slots c.in_ok-row.row.now c.in_ok-transition.transition
      (slice_index_or c.args.piece.now i 0) c.in_ok-row.ensures (sym c.in_ok-transition.ensures)
      (piece_byte s.text.content c.args.piece.now c.args.start i (slice_index_or c.args.piece.now i 0) piece
      (slice_get-get_or c.args.piece.now i 0 (omega (arith, lt))) (omega (arith, lt)))
      (omega (arith, lt, end)) (c.loop-i.invariant.stands s w before sound piece end first)
      (λ ks names. c.set_slots.ensures.marks ks (subst (λ xs. Names xs c.in_ok-transition.transition.slots ks) (sym c.deref.ensures.value) names)));
}

pub returns-in_err-row-clause-wide : goal.returns-in_err-row-clause-wide
returns-in_err-row-clause-wide c e s w before sound piece end first =
    absurd (row_there c.args.self.now s w before sound (c.args.start + c.loop-i.i) c.loop-i.place c.loop-i.slots
    (c.loop-i.invariant.stands s w before sound piece end first) c.in_err-row.ensures)

pub returns-in_err-transition-clause-wide : goal.returns-in_err-transition-clause-wide
returns-in_err-transition-clause-wide c e s w before sound piece end first =
    let i = c.loop-i.i in
    let lt = c.loop-i-test.true in
    let b : ℕ = slice_index_or c.args.piece.now i 0 in
    let byte =
    piece_byte s.text.content c.args.piece.now c.args.start i b piece (slice_get-get_or c.args.piece.now i 0 (omega (arith, lt))) (omega (arith, lt)) in (
      c.args.start + i,
      (
        b,
        omega arith,
        omega (arith, lt),
        byte,
        turn_wide c.args.self.now s w before sound (c.args.start + i) c.loop-i.place c.loop-i.slots c.in_ok-row.row.now b c.in_ok-row.ensures
            (sym c.in_err-transition.ensures) byte (omega (arith, lt, end)) (c.loop-i.invariant.stands s w before sound piece end first),
      ),
    )
