use Rattle.std.proofs.Common.{◌≡◌, ◌∙◌, ◌≤◌, ℕ, List, Option, Some, None, IfOk, max, min, ap, sym, subst, arith, inr}
use Rattle.rc_text.specs.Found.{Found}
use Rattle.rc_text.specs.Text.{Searched, low, high}
use Rattle.rc_pattern.specs.Re.{Re}
use Rattle.rc_program.specs.Sought.{text_of}
use Rattle.rc_program.specs.Text.{Text}
use Rattle.rc_dfa.specs.declared.ended.Met.{Met}
use Rattle.rc_dfa_reach.specs.RunReach.{seen_to}
use Rattle.rc_dfa_search.specs.Aims.{AreHalvesOf, search_for}
use Rattle.rc_dfa_search.specs.Ends.{Asks}
use Rattle.rc_dfa_search.specs.Reaches.{BeginsBy, HasMetBelow, IsAnswerBelow}
use Rattle.rc_dfa_search.proofs.ReachLemmas.{end_is, met_below, met_past, none_settled, some_settled, start_settled, void_below}
use Rattle.rc_dfa_search.proofs.SeenLemmas.{seen_past}
use Rattle.rc_dfa_search.proofs.ToldLemmas.{asks_none, asks_so, kept_text}
use Rattle.rc_dfa_search.proofs.reach.find_settled.Given.{Over}
use Rattle.rc_dfa_search.proofs.reach.find_settled.Goals as goal
use Rattle.rc_dfa_search.proofs.reach.find_settled.Goals.{In_ok-met, In_ok-least}

pub returns-then-not-asks-clause-settled : goal.returns-then-not-asks-clause-settled
returns-then-not-asks-clause-settled g c hs terminator of =
    void_below (g.H.Halves.AreOf c.args.halves.now) c.args.aim c.requires.tells hs terminator of c.args.input.now (seen_to of.ahead.alphabet 18446744073709551615)
    (let fits = c.content_fits.ensures in let past = seen_past of.ahead.alphabet 18446744073709551615 in omega (arith, fits, past))
    (inr (asks_none c.args.aim.patterns c.args.input.now.anchored c.get_anchored.result c.asks.result c.asks.ensures c.get_anchored.ensures c.if-not-asks.true))

-- the input where the run begins
abbrev here : (g : Over) (c : In_ok-met g) → Searched
here g c = c.args.input.now

le : (g : Over) (c : In_ok-met g) → low (here g c) ≤ high (here g c)
le g c = omega (arith, c.requires.bounds)

asks : (g : Over) (c : In_ok-met g) → Asks c.args.aim.patterns (here g c).anchored
asks g c = asks_so c.args.aim.patterns c.args.input.now.anchored c.get_anchored.result c.asks.result c.asks.ensures c.get_anchored.ensures c.if-not-asks.false

-- what the run met
met_here : (g : Over) (c : In_ok-met g) (hs : List Re) (terminator : ℕ) (of : AreHalvesOf (g.H.Halves.AreOf c.args.halves.now) c.args.aim hs terminator) (o : Option Met) →
    c.in_ok-met.field-0 ≡ o →
    HasMetBelow of.ahead (text_of terminator (here g c)) (high (here g c)) (low (here g c)) (here g c).anchored c.run_forwards-reading.result.read o
met_here g c hs terminator of o is =
    subst (HasMetBelow of.ahead (text_of terminator (here g c)) (high (here g c)) (low (here g c)) (here g c).anchored c.run_forwards-reading.result.read) is
    (subst (λ r. IfOk r (HasMetBelow of.ahead (text_of terminator (here g c)) (high (here g c)) (low (here g c)) (here g c).anchored c.run_forwards-reading.result.read)) c.in_ok-met.was
    (met_below (g.H.Halves.AreOf c.args.halves.now) c.args.aim c.requires.tells hs terminator of (here g c) (le g c) (asks g c) c.run_forwards-reading.result c.told.result
    c.args.bounds.low c.get_anchored-2.result c.told.ensures c.requires.bounds.0 c.get_anchored-2.ensures c.run_forwards-reading.ensures.ended))

pub returns-in_default-clause-settled : goal.returns-in_default-clause-settled
returns-in_default-clause-settled g c hs terminator of =
    let k = (goal.at.returns-in_default-clause-settled g c).In_ok-met in
    none_settled (g.H.Halves.AreOf c.args.halves.now) c.args.aim c.requires.tells hs terminator of (here g k) (le g k) (asks g k) c.run_forwards-reading.result.read
    (met_here g k hs terminator of None c.in_default.is)

-- where the match begins
begins_here : (g : Over) (c : In_ok-least g) (hs : List Re) (terminator : ℕ) (of : AreHalvesOf (g.H.Halves.AreOf c.args.halves.now) c.args.aim hs terminator)
    (o : Option ℕ) → c.in_ok-least.field-0 ≡ o →
    BeginsBy of.back (text_of terminator c.args.input.now) (low c.args.input.now) c.min-end.result c.args.input.now.anchored o
begins_here g c hs terminator of o is =
    let b = c.args.input.now in
    let d = c.run_forwards-reading.new.input in
    let k = c.run_forwards-reading.ensures.keeps in
    let raw = subst (λ x. BeginsBy of.back (text_of terminator d) c.args.bounds.low c.min-end.result d.anchored x) is (c.in_ok-least.ensures.start hs terminator of) in
    subst (λ (t : Text). BeginsBy of.back t (low b) c.min-end.result b.anchored o) (kept_text terminator b d k)
    (subst (λ a. BeginsBy of.back (text_of terminator d) (low b) c.min-end.result a o) k.anchored
    (subst (λ x. BeginsBy of.back (text_of terminator d) x c.min-end.result d.anchored o) c.requires.bounds.0 raw))

-- where it ends
end_here : (g : Over) (c : In_ok-least g) → c.min-end.result ≡ min (max c.in-Some.met.at (low c.args.input.now)) (high c.args.input.now)
end_here g c = omega (arith, c.min-end.ensures, c.max.ensures, c.requires.bounds)

pub returns-in_default-2-clause-settled : goal.returns-in_default-2-clause-settled
returns-in_default-2-clause-settled g c hs terminator of =
    let at = goal.at.returns-in_default-2-clause-settled g c in
    let k = at.In_ok-met in
    let l = at.In_ok-least in
    let AreOf = g.H.Halves.AreOf c.args.halves.now in
    let met = c.in-Some.met in
    let h = met_here g k hs terminator of (Some met) c.in-Some.is in
    let r = c.run_forwards-reading.result.read in
    let end = end_is AreOf c.args.aim c.requires.tells hs terminator of (here g k) (le g k) (asks g k) r met h c.min-end.result (end_here g l) in
    absurd (start_settled AreOf c.args.aim c.requires.tells hs terminator of (here g k) (le g k) (asks g k) r met h c.min-end.result end
    (begins_here g l hs terminator of None c.in_default-2.is))

pub returns-clause-settled : goal.returns-clause-settled
returns-clause-settled g c hs terminator of =
    let at = goal.at.returns-clause-settled g c in
    let k = at.In_ok-met in
    let l = at.In_ok-least in
    let b = here g k in
    let AreOf = g.H.Halves.AreOf c.args.halves.now in
    let met = c.in-Some.met in
    let h = met_here g k hs terminator of (Some met) c.in-Some.is in
    let r = c.run_forwards-reading.result.read in
    let end = end_is AreOf c.args.aim c.requires.tells hs terminator of b (le g k) (asks g k) r met h c.min-end.result (end_here g l) in
    let start = c.min-start.ensures ∙ ap (λ x. min x c.min-end.result) c.max-2.ensures ∙ ap (λ x. min (max c.in-Some-2.least x) c.min-end.result) c.requires.bounds.0 in
    subst (λ (m : Found). IsAnswerBelow c.args.aim.kind (search_for c.args.aim hs terminator b) (seen_to of.ahead.alphabet r) (Some m)) (sym c.new.ensures)
    (some_settled AreOf c.args.aim c.requires.tells hs terminator of b (le g k) (asks g k) r met h c.min-end.result c.in-Some-2.least c.min-start.result
    c.in_ok-pattern.pattern end (begins_here g l hs terminator of (Some c.in-Some-2.least) c.in-Some-2.is) start c.in_ok-pattern.ensures.id)

pub returns-clause-past : goal.returns-clause-past
returns-clause-past g c hs terminator of =
    let at = goal.at.returns-clause-past g c in
    let k = at.In_ok-met in
    let l = at.In_ok-least in
    let b = here g k in
    let AreOf = g.H.Halves.AreOf c.args.halves.now in
    let met = c.in-Some.met in
    let h = met_here g k hs terminator of (Some met) c.in-Some.is in
    let r = c.run_forwards-reading.result.read in
    let end = end_is AreOf c.args.aim c.requires.tells hs terminator of b (le g k) (asks g k) r met h c.min-end.result (end_here g l) in
    let past = met_past AreOf c.args.aim c.requires.tells hs terminator of b (le g k) (asks g k) r met h in
    subst (λ (m : Found). m.end ≤ r) (sym c.new.ensures) (omega (arith, past, end))
