use Rattle.std.proofs.Common.{◌≡◌, ℕ, Bool, List, sym, ap, subst, ◌∙◌, Some, IfSome}
use Rattle.rc_text.specs.Found.{HalfFound}
use Rattle.rc_pattern.specs.Re.{Re}
use Rattle.rc_dfa_search.specs.Aims.{AreHalvesOf, is_early, search_for, search_from, cost}
use Rattle.rc_dfa_search.specs.Ends.{IsEnd, cost_forwards}
use Rattle.rc_dfa_search.specs.Faults.{IsFault}
use Rattle.rc_dfa_search.specs.Halves.{IsForwardHalf}
use Rattle.rc_dfa_search.proofs.CostLemmas.{refused, cost_of_forwards}
use Rattle.rc_dfa_search.proofs.PatternLemmas.{end_below, has_number}
use Rattle.rc_dfa_search.proofs.ToldLemmas.{weaker_fault}
use Rattle.rc_dfa_search.proofs.FoundLemmas.{forward_half}
use Rattle.rc_dfa_search.proofs.search.find_end_between.Given.{Over}
use Rattle.rc_dfa_search.proofs.search.find_end_between.Goals as goal
use Rattle.rc_dfa_search.proofs.search.find_end_between.Goals.{In-Some}

pub returns-in_err-end-clause-fault : goal.returns-in_err-end-clause-fault
returns-in_err-end-clause-fault g c hs terminator of =
    let s = search_for c.args.aim hs terminator c.args.input.now in
    let Gives : ℕ → Bool → Type 0 = g.H.Halves.GivesUp c.args.halves.now c.args.cache.now c.seek_end.new.cache in
    let n : ℕ = cost_forwards c.args.input.now in
    let k : ℕ = cost c.args.input.now in
    refused c.from_residual.result c.in_err-end.field-0.0 c.from_residual.ensures.1 (IsFault hs s (Gives k))
    (weaker_fault hs s (Gives n) (Gives k)
    (λ memory. g.met.H.Halves.gives_up_within c.args.halves.now c.args.cache.now c.seek_end.new.cache n k memory (cost_of_forwards c.args.input.now))
    c.in_err-end.field-0.0 (c.in_err-end.ensures.fault hs terminator of))

-- the end is the one that was met
met_so : (g : Over) (c : In-Some g) (hs : List Re) (terminator : ℕ) (of : AreHalvesOf (g.H.Halves.AreOf c.args.halves.now) c.args.aim hs terminator) →
    IsEnd hs c.args.aim.kind (is_early c.args.aim) of.ahead of.back c.args.input.now.anchored (search_for c.args.aim hs terminator c.args.input.now) c.in-Some.end
met_so g c hs terminator of =
    subst (λ o. IfSome o (IsEnd hs c.args.aim.kind (is_early c.args.aim) of.ahead of.back c.args.input.now.anchored (search_for c.args.aim hs terminator c.args.input.now)))
    c.in-Some.is
    (subst (λ lo. IfSome c.in_ok-end.field-0
    (IsEnd hs c.args.aim.kind (is_early c.args.aim) of.ahead of.back c.args.input.now.anchored (search_from c.args.aim hs terminator c.args.input.now lo)))
    c.requires.bounds.0 (c.in_ok-end.ensures.some hs terminator of))

pub returns-in_err-pattern-clause-fault : goal.returns-in_err-pattern-clause-fault
returns-in_err-pattern-clause-fault g c hs terminator of =
    let k = (goal.at.returns-in_err-pattern-clause-fault g c).In-Some in
    absurd (has_number hs c.in-Some.end.pattern of.few c.in_err-pattern.ensures.refused
    (end_below hs c.args.aim.kind (is_early c.args.aim) of.ahead of.back c.args.input.now.anchored (search_for c.args.aim hs terminator c.args.input.now) c.in-Some.end
    (met_so g k hs terminator of)))

pub returns-clause-found : goal.returns-clause-found
returns-clause-found g c hs terminator of =
    let s = search_for c.args.aim hs terminator c.args.input.now in
    let at : ℕ = c.in-Some.end.at in
    let half : HalfFound = record { pattern = c.in-Some.end.pattern; offset = at } in
    let e : c.new.result ≡ half = c.new.ensures ∙ ap (λ p. let h : HalfFound = record { pattern = p; offset = at } in h) c.in_ok-pattern.ensures.id in
    subst (λ (x : HalfFound). IsForwardHalf c.args.aim.kind c.args.aim.earliest s (Some x)) (sym e)
    (forward_half hs of.ahead of.back c.args.input.now.anchored s c.in-Some.end c.args.aim.kind (is_early c.args.aim)
    (met_so g (goal.at.returns-clause-found g c).In-Some hs terminator of))
