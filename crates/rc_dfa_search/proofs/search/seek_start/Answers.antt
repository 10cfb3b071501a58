use Rattle.std.proofs.Common.{◌≡◌, ℕ, ◌+◌, ◌-◌, sym, ap, subst, ◌∙◌, arith, Bool, List, Option, Some, None}
use Rattle.rc_text.specs.Text.{high, low}
use Rattle.rc_text.specs.Plain.{is_anchored as anchors}
use Rattle.rc_pattern.specs.Re.{Re}
use Rattle.rc_program.specs.Kinds.{IsAnswerWhere}
use Rattle.rc_program.specs.Sought.{text_of}
use Rattle.rc_dfa.specs.declared.ended.Met.{Met}
use Rattle.rc_dfa_search.specs.Aims.{AreHalvesOf, is_early, search_for, search_from}
use Rattle.rc_dfa_search.specs.Ends as Ends
use Rattle.rc_dfa_search.specs.Ends.{HasMetDown, match_by}
use Rattle.rc_dfa_search.specs.Faults.{IsFault}
use Rattle.rc_dfa_search.proofs.CostLemmas.{refused}
use Rattle.rc_dfa_search.proofs.ToldLemmas.{weaker_fault}
use Rattle.rc_dfa_search.proofs.FoundLemmas.{empty_start, known_start, some_start, met_start}
use Rattle.rc_dfa_search.proofs.search.seek_start.Given.{Over}
use Rattle.rc_dfa_search.proofs.search.seek_start.Goals as goal
use Rattle.rc_dfa_search.proofs.search.seek_start.Goals.{In_ok-met}

begins_so : (g : Over) (c : In_ok-met g) → Ends.begins_there c.args.aim.kind (is_early c.args.aim) (anchors c.args.input.now.anchored) ≡ c.begins_there.result
begins_so g c = sym (c.begins_there.ensures ∙ ap (λ a. Ends.begins_there c.args.aim.kind (is_early c.args.aim) (anchors a)) c.get_anchored.ensures)

met_so : (g : Over) (c : In_ok-met g) (hs : List Re) (terminator : ℕ) (of : AreHalvesOf (g.H.Halves.AreOf c.args.halves.now) c.args.aim hs terminator) (o : Option Met) →
    c.in_ok-met.field-0 ≡ o →
    HasMetDown of.back (text_of terminator c.args.input.now) c.args.end.from c.args.end.at c.args.input.now.anchored (is_early c.args.aim) o
met_so g c hs terminator of o is =
    subst (λ x. HasMetDown of.back (text_of terminator c.args.input.now) c.args.end.from c.args.end.at c.args.input.now.anchored (is_early c.args.aim) x) is
    (c.in_ok-met.ensures.met hs terminator of)

pub returns-then-begins_there-clause-found : goal.returns-then-begins_there-clause-found
returns-then-begins_there-clause-found g c hs terminator lo of h =
    known_start hs of.ahead of.back c.args.input.now.anchored (search_from c.args.aim hs terminator c.args.input.now lo) c.args.end c.args.aim.kind (is_early c.args.aim) h
    (sym (c.begins_there.ensures ∙ ap (λ a. Ends.begins_there c.args.aim.kind (is_early c.args.aim) (anchors a)) c.get_anchored.ensures) ∙ c.if-begins_there.true)

pub returns-then-is_empty-clause-found : goal.returns-then-is_empty-clause-found
returns-then-is_empty-clause-found g c hs terminator lo of h =
    let e = c.is_empty.ensures c.if-is_empty.true in
    empty_start hs of.ahead of.back c.args.input.now.anchored (search_from c.args.aim hs terminator c.args.input.now lo) c.args.end c.args.aim.kind (is_early c.args.aim) h
    e.0 e.1

pub returns-in_err-met-clause-fault : goal.returns-in_err-met-clause-fault
returns-in_err-met-clause-fault g c hs terminator of =
    let s = search_for c.args.aim hs terminator c.args.input.now in
    let Gives : ℕ → Bool → Type 0 = g.H.Halves.GivesUp c.args.halves.now c.args.cache.now c.run_backwards.new.cache in
    let n : ℕ = high c.args.input.now - c.args.end.from + 2 in
    let k : ℕ = high c.args.input.now - low c.args.input.now + 2 in
    refused c.from_residual.result c.in_err-met.field-0.0 c.from_residual.ensures.1 (IsFault hs s (Gives k))
    (weaker_fault hs s (Gives n) (Gives k)
    (λ memory. g.met.H.Halves.gives_up_within c.args.halves.now c.args.cache.now c.run_backwards.new.cache n k memory (omega (arith, c.requires.low)))
    c.in_err-met.field-0.0 (c.in_err-met.ensures.fault hs terminator of))

pub returns-in_default-clause-found : goal.returns-in_default-clause-found
returns-in_default-clause-found g c hs terminator lo of h =
    let d = (goal.at.returns-in_default-clause-found g c).In_ok-met in
    absurd (some_start hs of.ahead of.back c.args.input.now.anchored (search_from c.args.aim hs terminator c.args.input.now lo) c.args.end c.args.aim.kind (is_early c.args.aim) h
    (begins_so g d ∙ c.if-begins_there.false) (met_so g d hs terminator of None c.in_default.is))

pub returns-clause-found : goal.returns-clause-found
returns-clause-found g c hs terminator lo of h =
    let d = (goal.at.returns-clause-found g c).In_ok-met in
    let s = search_from c.args.aim hs terminator c.args.input.now lo in
    subst (λ x. IsAnswerWhere (is_early c.args.aim) c.args.aim.kind s (Some (match_by c.args.end x))) (sym c.start_by.ensures)
    (met_start hs of.ahead of.back c.args.input.now.anchored s c.args.end c.args.aim.kind (is_early c.args.aim) h
    (begins_so g d ∙ c.if-begins_there.false) c.in-Some.met (met_so g d hs terminator of (Some c.in-Some.met) c.in-Some.is))
