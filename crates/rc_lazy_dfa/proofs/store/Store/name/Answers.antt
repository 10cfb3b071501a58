use Rattle.std.proofs.Common.{◌≡◌, Some, slice_get, subst, arith}
use Rattle.rc_determinize.specs.Places.{state_of}
use Rattle.rc_dfa.specs.Keys.{IsFound}
use Rattle.rc_lazy_dfa.proofs.NameLemmas.{named_after, number_small, marks_small}
use Rattle.rc_lazy_dfa.proofs.store.Store.name.Goals as goal

pub overflow_mul-result : goal.overflow_mul-result
overflow_mul-result g c =
    let s = c.args.self.now in
    let there : slice_get s.states c.in-Some.number ≡ Some (state_of c.args.state.now) =
    subst (IsFound s.states (state_of c.args.state.now)) c.in-Some.is c.in_ok-number.ensures.found in
    let small = number_small g.f s c.in-Some.number (state_of c.args.state.now) c.requires.0 there in
    omega (arith, small)

pub overflow_add-result : goal.overflow_add-result
overflow_add-result g c =
    let s = c.args.self.now in
    let there : slice_get s.states c.in-Some.number ≡ Some (state_of c.args.state.now) =
    subst (IsFound s.states (state_of c.args.state.now)) c.in-Some.is c.in_ok-number.ensures.found in
    let small = number_small g.f s c.in-Some.number (state_of c.args.state.now) c.requires.0 there in
    let mark = marks_small (state_of c.args.state.now) in
    let marks = c.marks-marks.ensures in
    omega (arith, small, marks, mark)

pub returns-clause-named : goal.returns-clause-named
returns-clause-named g c =
    named_after g.f c.args.self.now _ c.make_room.new.self c.add.new.self (state_of c.args.state.now) c.in_ok-row.row c.marks-marks.result c.weight.result
    c.in_ok-kept.kept c.marks-marks.ensures c.in_ok-number.ensures.kept c.in_ok-kept.ensures.room c.in_ok-row.ensures.added
