use Rattle.std.proofs.Common.{length, sym, ◌∙◌, arith, Bool, true, false, true≢false, IsTrue, MatchBool, not}
use Rattle.std.proofs.lemmas.Bool.{eqb-false}
use Rattle.rc_pikevm.proofs.HeadLemmas.{shown_shut}
use Rattle.rc_pikevm.proofs.heads.is_dead.Goals as goal

bars : (A B : Type 0) (goes : Bool) → MatchBool goes A B → IsTrue (not goes) → B
bars A B true m e = absurd (true≢false (sym e))
bars A B false m e = m

pub returns-in-Some : goal.returns-in-Some
returns-in-Some g c bar =
    let some = eqb-false (length c.args.spot.now.after.now) 0 (sym c.is_empty.ensures ∙ c.if-is_empty.false) in
    shown_shut c.args.spot.now g.text c.args.place c.requires.0 (omega (arith, c.if-spot.false)) (omega (arith, some))
    (bars _ _ c.in-Some.goes c.in-Some.ensures bar)
