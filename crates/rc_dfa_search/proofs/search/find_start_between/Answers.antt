use Rattle.std.proofs.Common.{◌≡◌, refl, ℕ, ◌+◌, ◌-◌, Bool, List, not, ◌||◌, min, max, sym, ap, subst, ◌∙◌, inl, inr, arith}
use Rattle.rc_text.specs.Found.{HalfFound}
use Rattle.rc_text.specs.Text.{high, low, is_boundary}
use Rattle.rc_pattern.specs.Re.{Re}
use Rattle.rc_dfa_search.specs.Aims.{AreHalvesOf, is_early, search_for, cost}
use Rattle.rc_dfa_search.specs.Faults.{IsFault}
use Rattle.rc_dfa_search.specs.Reverse.{IsStartWhere}
use Rattle.rc_dfa_search.proofs.CostLemmas.{refused}
use Rattle.rc_dfa_search.proofs.PatternLemmas.{has_number, start_below}
use Rattle.rc_dfa_search.proofs.ToldLemmas.{asks_none, asks_so, kept_search, weaker_fault}
use Rattle.rc_dfa_search.proofs.SeekLemmas.{void_start}
use Rattle.rc_dfa_search.proofs.StartLemmas.{run_no_start, run_start, cost_of_start}
use Rattle.rc_dfa_search.proofs.search.find_start_between.Given.{Over}
use Rattle.rc_dfa_search.proofs.search.find_start_between.Goals as goal
use Rattle.rc_dfa_search.proofs.search.find_start_between.Goals.{After-min-offset}

pub returns-then-not-asks-clause-found : goal.returns-then-not-asks-clause-found
returns-then-not-asks-clause-found g c hs terminator of =
    inl (void_start hs c.args.aim.patterns c.args.input.now.anchored (search_for c.args.aim hs terminator c.args.input.now) refl refl of.counted
    (inr (asks_none c.args.aim.patterns c.args.input.now.anchored c.get_anchored.result c.asks.result c.asks.ensures c.get_anchored.ensures c.if-not-asks.true)))

pub returns-in_err-met-clause-fault : goal.returns-in_err-met-clause-fault
returns-in_err-met-clause-fault g c hs terminator of =
    let s = search_for c.args.aim hs terminator c.args.input.now in
    let b = c.is_allowed.new.input in
    let kept = c.is_allowed.ensures.keeps in
    let Gives : ℕ → Bool → Type 0 = g.H.Halves.GivesUp c.args.halves.now c.args.cache.now c.run_backwards.new.cache in
    let n : ℕ = high b - c.args.bounds.low + 2 in
    let k : ℕ = cost c.args.input.now in
    refused c.from_residual.result c.in_err-met.field-0.0 c.from_residual.ensures.1 (IsFault hs s (Gives k))
    (weaker_fault hs s (Gives n) (Gives k)
    (λ memory. g.met.H.Halves.gives_up_within c.args.halves.now c.args.cache.now c.run_backwards.new.cache n k memory
    (cost_of_start c.args.input.now b c.args.bounds.low kept c.requires.bounds.0))
    c.in_err-met.field-0.0
    (subst (λ x. IsFault hs x (Gives n) c.in_err-met.field-0.0) (kept_search c.args.aim hs terminator c.args.input.now b kept) (c.in_err-met.ensures.fault hs terminator of)))

pub returns-in_default-clause-found : goal.returns-in_default-clause-found
returns-in_default-clause-found g c hs terminator of =
    let e = c.requires.bounds in
    inl (run_no_start (g.H.Halves.AreOf c.args.halves.now) c.args.aim hs terminator of c.args.input.now c.is_allowed.new.input
    c.is_allowed.ensures.keeps (omega (arith, e)) (asks_so c.args.aim.patterns c.args.input.now.anchored c.get_anchored.result c.asks.result c.asks.ensures c.get_anchored.ensures c.if-not-asks.false) c.args.bounds.low c.args.bounds.high e.0 e.1
    c.in_ok-met.field-0 (c.in_ok-met.ensures.met hs terminator of) c.in_default.is)

-- what was met is a start
met_so : (g : Over) (c : After-min-offset g) (hs : List Re) (terminator : ℕ) → AreHalvesOf (g.H.Halves.AreOf c.args.halves.now) c.args.aim hs terminator →
    IsStartWhere (is_early c.args.aim) (search_for c.args.aim hs terminator c.args.input.now) (record { pattern = c.in-Some.met.pattern; offset = c.min-offset.result })
met_so g c hs terminator of =
    let e = c.requires.bounds in
    let met = c.in-Some.met in
    run_start (g.H.Halves.AreOf c.args.halves.now) c.args.aim hs terminator of c.args.input.now c.is_allowed.new.input
    c.is_allowed.ensures.keeps (omega (arith, e)) (asks_so c.args.aim.patterns c.args.input.now.anchored c.get_anchored.result c.asks.result c.asks.ensures c.get_anchored.ensures c.if-not-asks.false) c.args.bounds.low c.args.bounds.high e.0 e.1
    c.in_ok-met.field-0 (c.in_ok-met.ensures.met hs terminator of) met c.min-offset.result c.in-Some.is
    (c.min-offset.ensures ∙ ap (λ x. min x c.args.bounds.high) c.max.ensures ∙ ap (λ x. min (max met.at x) c.args.bounds.high) e.0
    ∙ ap (λ x. min (max met.at (low c.args.input.now)) x) e.1)

pub returns-in_err-pattern-clause-fault : goal.returns-in_err-pattern-clause-fault
returns-in_err-pattern-clause-fault g c hs terminator of =
    let k = (goal.at.returns-in_err-pattern-clause-fault g c).After-min-offset in
    let half : HalfFound = record { pattern = c.in-Some.met.pattern; offset = c.min-offset.result } in
    absurd (has_number hs half.pattern of.few c.in_err-pattern.ensures.refused
    (start_below hs (is_early c.args.aim) (search_for c.args.aim hs terminator c.args.input.now) half refl (met_so g k hs terminator of)))

pub returns-clause-found : goal.returns-clause-found
returns-clause-found g c hs terminator of =
    let e = c.requires.bounds in
    let s = search_for c.args.aim hs terminator c.args.input.now in
    let at : ℕ = c.min-offset.result in
    let half : HalfFound = record { pattern = c.in-Some.met.pattern; offset = at } in
    let same : c.new.result ≡ half = c.new.ensures ∙ ap (λ p. let h : HalfFound = record { pattern = p; offset = at } in h) c.in_ok-pattern.ensures.id in (
      subst (λ (h : HalfFound). IsStartWhere (is_early c.args.aim) s h) (sym same) (met_so g (goal.at.returns-clause-found g c).After-min-offset hs terminator of),
      ap (λ x. not c.args.aim.passes_over || is_boundary c.args.input.now.content x) (sym e.1)
          ∙ sym c.is_allowed.ensures.value ∙ c.if-not-is_allowed.false,
    )
