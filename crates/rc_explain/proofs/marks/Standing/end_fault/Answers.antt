use Rattle.std.proofs.Common.{arith, subst, sym}
use Rattle.std.proofs.lemmas.Option.{slice_get_within}
use Rattle.rc_explain.specs.Reading.{AreOpen}
use Rattle.rc_explain.proofs.Begins.{open_at}
use Rattle.rc_explain.proofs.marks.Standing.end_fault.Goals as goal

pub returns-in-Some : goal.returns-in-Some
returns-in-Some c = λ grammar text fits held.
    let g = c.in-Some.group.now in
    let h = open_at text c.deref.result.now _ g (sym c.in-Some.ensures.value) (subst (AreOpen text) (sym c.deref.ensures.value) held) in
    let inside = slice_get_within text g.at 40 h in
    let next = c.saturating_add.ensures in
    record { here = (h, tt); ends = omega (arith, inside, fits, next) }
