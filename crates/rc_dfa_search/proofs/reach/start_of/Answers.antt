use Rattle.std.proofs.Common.{◌≡◌, ◌∙◌, Bool, true, false, true≢false, Option, Some, None, ap, sym, subst, refl}
use Rattle.rc_text.specs.Plain.{is_anchored as anchors}
use Rattle.rc_pattern.specs.Re.{Re}
use Rattle.rc_program.specs.Sought.{text_of}
use Rattle.rc_dfa.specs.declared.ended.Met.{Met}
use Rattle.rc_dfa_search.specs.Aims.{AreHalvesOf, is_early}
use Rattle.rc_dfa_search.specs.Ends.{HasMetDown}
use Rattle.rc_dfa_search.proofs.reach.start_of.Given.{Over}
use Rattle.rc_dfa_search.proofs.reach.start_of.Goals as goal
use Rattle.rc_dfa_search.proofs.reach.start_of.Goals.{In_ok-met}

pub returns-then-is_anchored-clause-start : goal.returns-then-is_anchored-clause-start
returns-then-is_anchored-clause-start g c hs terminator of =
    let so = sym (ap anchors c.get_anchored.ensures) ∙ sym c.is_anchored.ensures ∙ c.if-is_anchored.true in
    ((λ _. refl), λ free. absurd (true≢false (sym so ∙ free)))

-- the search isn't anchored, and this was met
met_late : (g : Over) (c : In_ok-met g) (hs : Rattle.std.proofs.Common.List Re) (terminator : Rattle.std.proofs.Common.ℕ)
    (of : AreHalvesOf (g.H.Halves.AreOf c.args.halves.now) c.args.aim hs terminator) (o : Option Met) → c.in_ok-met.field-0 ≡ o →
    HasMetDown of.back (text_of terminator c.args.input.now) c.args.bounds.low c.args.bounds.high c.args.input.now.anchored false o
met_late g c hs terminator of o is =
    subst (λ b. HasMetDown of.back (text_of terminator c.args.input.now) c.args.bounds.low c.args.bounds.high c.args.input.now.anchored b o)
    (rw c.requires.tells.late refl)
    (subst (λ x. HasMetDown of.back (text_of terminator c.args.input.now) c.args.bounds.low c.args.bounds.high c.args.input.now.anchored (is_early c.args.aim) x) is
    (c.in_ok-met.ensures.met hs terminator of))

pub returns-in_default-clause-start : goal.returns-in_default-clause-start
returns-in_default-clause-start g c hs terminator of =
    let k = (goal.at.returns-in_default-clause-start g c).In_ok-met in
    let free = sym (ap anchors c.get_anchored.ensures) ∙ sym c.is_anchored.ensures ∙ c.if-is_anchored.false in
    ((λ so. absurd (true≢false (sym so ∙ free))), λ _. met_late g k hs terminator of None c.in_default.is)

pub returns-clause-start : goal.returns-clause-start
returns-clause-start g c hs terminator of =
    let k = (goal.at.returns-clause-start g c).In_ok-met in
    let free = sym (ap anchors c.get_anchored.ensures) ∙ sym c.is_anchored.ensures ∙ c.if-is_anchored.false in
    ((λ so. absurd (true≢false (sym so ∙ free))), λ _. (c.in-Some.met.pattern, met_late g k hs terminator of (Some c.in-Some.met) c.in-Some.is))
