use Rattle.std.proofs.Common.{Result, Ok, Err, IfErr, ◌≤◌, refl, ◌+◌, ◌-◌, ◌*◌, ℕ, Bool, sym, ap, subst, ◌∙◌, arith, inl, inr, ⊎_elim, min, max}
use Rattle.rc_text.specs.declared.types.MatchError as error
use Rattle.rc_text.specs.Text.{Keeps, low, high}
use Rattle.rc_text.specs.Plain.{is_anchored as anchors}
use Rattle.rc_dfa_search.specs.Aims.{is_early, search_for, search_from}
use Rattle.rc_dfa_search.specs.Ends.{Stands, cost_forwards, cost_from, may_end}
use Rattle.rc_dfa_search.specs.Faults.{IsFault}
use Rattle.rc_dfa_search.proofs.CostLemmas.{refused, cost_of_later, next_cost, run_cost}
use Rattle.rc_dfa_search.proofs.ToldLemmas.{asks_none, asks_so, case_from, kept_from, kept_search, kept_then, weaker_fault}
use Rattle.rc_dfa_search.proofs.SeekLemmas.{void_answer, stands_first, run_none, run_end, run_raised}
use Rattle.rc_dfa_search.proofs.search.seek_end.Given.{Over}
use Rattle.rc_dfa_search.proofs.search.seek_end.Goals as goal
use Rattle.rc_dfa_search.proofs.search.seek_end.Goals.{After-run_forwards, Then-from-bounds-ge-FEW_STARTS}

spent : (g : Over) (c : After-run_forwards g) → g.H.Halves.Spends c.args.halves.now c.args.cache.now c.run_forwards.new.cache (cost_forwards c.args.input.now)
spent g c =
    let i = c.starts.invariant in
    g.met.H.Halves.spends_within c.args.halves.now c.args.cache.now c.run_forwards.new.cache
    ((c.starts.from - low c.args.input.now) * (high c.args.input.now - low c.args.input.now + 2) + (high c.starts.input - c.starts.from + 2)) (cost_forwards c.args.input.now)
    (run_cost c.args.input.now c.starts.input c.starts.from i.keeps (omega (arith, i.above)) (omega (arith, i.below)))
    (g.met.H.Halves.spends_both c.args.halves.now c.args.cache.now c.starts.cache c.run_forwards.new.cache
    ((c.starts.from - low c.args.input.now) * (high c.args.input.now - low c.args.input.now + 2)) (high c.starts.input - c.starts.from + 2)
    i.spends c.run_forwards.ensures.spends)

pub returns-then-not-asks-clause-none : goal.returns-then-not-asks-clause-none
returns-then-not-asks-clause-none g c hs terminator of =
    void_answer hs c.args.aim.patterns c.args.aim.kind (is_early c.args.aim) c.args.input.now.anchored
    (search_from c.args.aim hs terminator c.args.input.now c.args.bounds.low) refl refl of.counted
    (inr (asks_none c.args.aim.patterns c.args.input.now.anchored c.get_anchored-anchoring.result c.asks.result c.asks.ensures c.get_anchored-anchoring.ensures c.if-not-asks.true))

pub starts-init : goal.starts-init
starts-init g c =
    let asks = asks_so c.args.aim.patterns c.args.input.now.anchored c.get_anchored-anchoring.result c.asks.result c.asks.ensures c.get_anchored-anchoring.ensures c.if-not-asks.false in
    record {
      cache = c.requires.cache;
      keeps = record { content = refl; span = refl; slice = refl; anchored = refl; earliest = refl };
      above = (c.requires.low, omega arith);
      below = (c.requires.high, c.requires.ordered);
      asks = asks;
      stands = λ hs terminator of.
          stands_first hs c.args.aim.kind (is_early c.args.aim) of.ahead of.back c.args.input.now.anchored
          (search_from c.args.aim hs terminator c.args.input.now c.args.bounds.low)
          (case_from (g.H.Halves.AreOf c.args.halves.now) c.args.aim hs terminator c.args.input.now of c.args.bounds.low c.requires.low
          (omega (arith, c.requires.ordered, c.requires.high)) asks);
      spends = g.met.H.Halves.spends_nothing c.args.halves.now c.args.cache.now
          ((c.args.bounds.low - low c.args.input.now) * (high c.args.input.now - low c.args.input.now + 2));
    }

pub returns-in_err-met-clause-fault : goal.returns-in_err-met-clause-fault
returns-in_err-met-clause-fault g c hs terminator of =
    let i = c.starts.invariant in
    let s = c.args.input.now in
    let b = c.starts.input in
    let Gives : ℕ → Bool → Type 0 = g.H.Halves.GivesUp c.args.halves.now c.args.cache.now c.run_forwards.new.cache in
    let Once : Bool → Type 0 = g.H.Halves.GivesUp c.args.halves.now c.starts.cache c.run_forwards.new.cache (high b - c.starts.from + 2) in
    let before : ℕ = (c.starts.from - low s) * (high s - low s + 2) in
    let later : (memory : Bool) → Once memory → Gives (cost_forwards s) memory =
    λ memory once. g.met.H.Halves.gives_up_within c.args.halves.now c.args.cache.now c.run_forwards.new.cache (before + (high b - c.starts.from + 2)) (cost_forwards s) memory
    (run_cost s b c.starts.from i.keeps (omega (arith, i.above)) (omega (arith, i.below)))
    (g.met.H.Halves.gives_up_later c.args.halves.now c.args.cache.now c.starts.cache c.run_forwards.new.cache before (high b - c.starts.from + 2) memory i.spends once) in
    refused c.from_residual.result c.in_err-met.field-0.0 c.from_residual.ensures.1 (IsFault hs (search_for c.args.aim hs terminator s) (Gives (cost_forwards s)))
    (weaker_fault hs (search_for c.args.aim hs terminator s) Once (Gives (cost_forwards s)) later c.in_err-met.field-0.0
    (subst (λ x. IsFault hs x Once c.in_err-met.field-0.0) (kept_search c.args.aim hs terminator s b i.keeps) (c.in_err-met.ensures.fault hs terminator of)))

pub returns-in_err-met-clause-spends : goal.returns-in_err-met-clause-spends
returns-in_err-met-clause-spends g c = spent g (goal.at.returns-in_err-met-clause-spends g c).After-run_forwards

pub returns-in_default-clause-spends : goal.returns-in_default-clause-spends
returns-in_default-clause-spends g c = spent g (goal.at.returns-in_default-clause-spends g c).After-run_forwards

pub returns-then-may_end-clause-spends : goal.returns-then-may_end-clause-spends
returns-then-may_end-clause-spends g c = spent g (goal.at.returns-then-may_end-clause-spends g c).After-run_forwards

pub returns-then-anchored-clause-spends : goal.returns-then-anchored-clause-spends
returns-then-anchored-clause-spends g c = spent g (goal.at.returns-then-anchored-clause-spends g c).After-run_forwards

pub returns-in_default-clause-none : goal.returns-in_default-clause-none
returns-in_default-clause-none g c hs terminator of =
    run_none (g.H.Halves.AreOf c.args.halves.now) c.args.aim hs terminator of c.args.input.now c.starts.input c.starts.invariant.keeps c.args.bounds.low c.starts.from
    (c.starts.invariant.stands hs terminator of) c.in_ok-met.field-0 (c.in_ok-met.ensures.met hs terminator of) c.in_default.is

pub returns-then-may_end-clause-some : goal.returns-then-may_end-clause-some
returns-then-may_end-clause-some g c hs terminator of =
    let i = c.starts.invariant in
    let content = c.in_ok-met.ensures.keeps.content ∙ i.keeps.content in
    run_end (g.H.Halves.AreOf c.args.halves.now) c.args.aim hs terminator of c.args.input.now c.starts.input i.keeps c.args.bounds.low c.starts.from
    (i.stands hs terminator of) c.in_ok-met.field-0 (c.in_ok-met.ensures.met hs terminator of) c.in-Some.met c.min.result c.in-Some.is
    (ap (λ bytes. may_end c.args.aim.kind c.args.aim.passes_over bytes c.in-Some.met.at) (sym content) ∙ sym c.may_end.ensures.value ∙ c.if-may_end.true)
    (c.min.ensures ∙ ap (λ x. min x c.args.bounds.high) c.max.ensures ∙ ap (λ x. min (max c.in-Some.met.at c.starts.from) x) i.below.0)

pub returns-then-anchored-clause-none : goal.returns-then-anchored-clause-none
returns-then-anchored-clause-none g c hs terminator of =
    let i = c.starts.invariant in
    let content = c.in_ok-met.ensures.keeps.content ∙ i.keeps.content in
    let r = run_raised (g.H.Halves.AreOf c.args.halves.now) c.args.aim hs terminator of c.args.input.now c.starts.input i.keeps c.args.bounds.low c.starts.from
    (i.stands hs terminator of) c.in_ok-met.field-0 (c.in_ok-met.ensures.met hs terminator of) c.in-Some.met c.in-Some.is
    (ap (λ bytes. may_end c.args.aim.kind c.args.aim.passes_over bytes c.in-Some.met.at) (sym content) ∙ sym c.may_end.ensures.value ∙ c.if-may_end.false) in
    let so = sym (c.is_anchored-anchored.ensures ∙ ap anchors c.get_anchored-anchoring.ensures) in
    r.1 (⊎_elim (λ is. inl (so ∙ is)) (λ e. inr (omega (arith, e.1, i.below))) c.then-anchored.either)

pub starts-preserved : goal.starts-preserved
starts-preserved g c =
    let i = c.starts.invariant in
    let s = c.args.input.now in
    let content = c.in_ok-met.ensures.keeps.content ∙ i.keeps.content in
    record {
      cache = c.in_ok-met.ensures.cache;
      keeps = kept_then s c.run_forwards.new.input c.may_end.new.input (kept_then s c.starts.input c.run_forwards.new.input i.keeps c.in_ok-met.ensures.keeps) c.may_end.ensures.keeps;
      above = (i.above.0, omega (arith, i.above));
      below = (i.below.0, omega (arith, c.if-from-high.false));
      asks = i.asks;
      stands = λ hs terminator of.
          let r = run_raised (g.H.Halves.AreOf c.args.halves.now) c.args.aim hs terminator of s c.starts.input i.keeps c.args.bounds.low c.starts.from
          (i.stands hs terminator of) c.in_ok-met.field-0 (c.in_ok-met.ensures.met hs terminator of) c.in-Some.met c.in-Some.is
          (ap (λ bytes. may_end c.args.aim.kind c.args.aim.passes_over bytes c.in-Some.met.at) (sym content) ∙ sym c.may_end.ensures.value ∙ c.if-may_end.false) in
          let so = sym (c.is_anchored-anchored.ensures ∙ ap anchors c.get_anchored-anchoring.ensures) in
          r.0 (omega (arith, c.if-from-high.false, i.below)) (so ∙ c.if-anchored.false);
      spends = g.met.H.Halves.spends_within c.args.halves.now c.args.cache.now c.run_forwards.new.cache
          ((c.starts.from - low s) * (high s - low s + 2) + (high c.starts.input - c.starts.from + 2)) ((c.starts.from + 1 - low s) * (high s - low s + 2))
          (next_cost s c.starts.input c.starts.from i.keeps (omega (arith, i.above)) (omega (arith, i.below)))
          (g.met.H.Halves.spends_both c.args.halves.now c.args.cache.now c.starts.cache c.run_forwards.new.cache
          ((c.starts.from - low s) * (high s - low s + 2)) (high c.starts.input - c.starts.from + 2) i.spends c.in_ok-met.ensures.spends);
    }

-- what the runs from the starts that were passed over spent
before_spent : (g : Over) (c : After-run_forwards g) → g.H.Halves.Spends c.args.halves.now c.args.cache.now c.run_forwards.new.cache
    ((c.starts.from + 1 - low c.args.input.now) * (high c.args.input.now - low c.args.input.now + 2))
before_spent g c =
    let i = c.starts.invariant in
    let s = c.args.input.now in
    g.met.H.Halves.spends_within c.args.halves.now c.args.cache.now c.run_forwards.new.cache
    ((c.starts.from - low s) * (high s - low s + 2) + (high c.starts.input - c.starts.from + 2)) ((c.starts.from + 1 - low s) * (high s - low s + 2))
    (next_cost s c.starts.input c.starts.from i.keeps (omega (arith, i.above)) (omega (arith, i.below)))
    (g.met.H.Halves.spends_both c.args.halves.now c.args.cache.now c.starts.cache c.run_forwards.new.cache
    ((c.starts.from - low s) * (high s - low s + 2)) (high c.starts.input - c.starts.from + 2) i.spends c.run_forwards.ensures.spends)

module _ (g : Over) (c : Then-from-bounds-ge-FEW_STARTS g) where
  all_kept : Keeps c.args.input.now c.may_end.new.input
  all_kept =
      kept_then c.args.input.now c.run_forwards.new.input c.may_end.new.input
      (kept_then c.args.input.now c.starts.input c.run_forwards.new.input c.starts.invariant.keeps c.in_ok-met.ensures.keeps) c.may_end.ensures.keeps

  rest_cost : (c.starts.from + 1 - low c.args.input.now) * (high c.args.input.now - low c.args.input.now + 2) + cost_from c.may_end.new.input (c.starts.from + 1)
      ≤ cost_forwards c.args.input.now
  rest_cost =
      let i = c.starts.invariant in
      cost_of_later c.args.input.now c.may_end.new.input (c.starts.from + 1) all_kept (omega (arith, i.above)) (omega (arith, c.if-from-high.false, i.below))

pub seek_later-requires-clause-stands : goal.seek_later-requires-clause-stands
seek_later-requires-clause-stands g c hs terminator of =
    let i = c.starts.invariant in
    let s = c.args.input.now in
    let b = c.may_end.new.input in
    let aim = c.args.aim in
    let lo = c.args.bounds.low in
    let content = c.in_ok-met.ensures.keeps.content ∙ i.keeps.content in
    let r = run_raised (g.H.Halves.AreOf c.args.halves.now) aim hs terminator of s c.starts.input i.keeps lo c.starts.from
    (i.stands hs terminator of) c.in_ok-met.field-0 (c.in_ok-met.ensures.met hs terminator of) c.in-Some.met c.in-Some.is
    (ap (λ bytes. may_end aim.kind aim.passes_over bytes c.in-Some.met.at) (sym content) ∙ sym c.may_end.ensures.value ∙ c.if-may_end.false) in
    let so = sym (c.is_anchored-anchored.ensures ∙ ap anchors c.get_anchored-anchoring.ensures) in
    let there = r.0 (omega (arith, c.if-from-high.false, i.below)) (so ∙ c.if-anchored.false) in
    let keeps = all_kept g (goal.at.seek_later-requires-clause-stands g c).Then-from-bounds-ge-FEW_STARTS in
    subst (λ a. Stands hs aim.kind (is_early aim) of.ahead of.back a (search_from aim hs terminator b lo) (c.starts.from + 1)) (sym keeps.anchored)
    (subst (λ x. Stands hs aim.kind (is_early aim) of.ahead of.back s.anchored x (c.starts.from + 1)) (sym (kept_from aim hs terminator s b lo keeps)) there)

failed_so : {T : Type 0} (r : Result T error.MatchError) (P Q : error.MatchError → Type 0) → ((e : error.MatchError) → P e → Q e) → IfErr r P → IfErr r Q
failed_so (Ok x) P Q f h = h
failed_so (Err e) P Q f h = f e h

pub returns-then-from-bounds-ge-FEW_STARTS-clause-fault : goal.returns-then-from-bounds-ge-FEW_STARTS-clause-fault
returns-then-from-bounds-ge-FEW_STARTS-clause-fault g c hs terminator of =
    let at = (goal.at.returns-then-from-bounds-ge-FEW_STARTS-clause-fault g c).Then-from-bounds-ge-FEW_STARTS in
    let s = c.args.input.now in
    let b = c.may_end.new.input in
    let before : ℕ = (c.starts.from + 1 - low s) * (high s - low s + 2) in
    let rest : ℕ = cost_from b (c.starts.from + 1) in
    let Gives : Bool → Type 0 = g.H.Halves.GivesUp c.args.halves.now c.args.cache.now c.seek_later.new.cache (cost_forwards s) in
    let Later : Bool → Type 0 = g.H.Halves.GivesUp c.args.halves.now c.run_forwards.new.cache c.seek_later.new.cache rest in
    let so : (memory : Bool) → Later memory → Gives memory =
    λ memory later. g.met.H.Halves.gives_up_within c.args.halves.now c.args.cache.now c.seek_later.new.cache (before + rest) (cost_forwards s) memory (rest_cost g at)
    (g.met.H.Halves.gives_up_later c.args.halves.now c.args.cache.now c.run_forwards.new.cache c.seek_later.new.cache before rest memory
    (before_spent g (goal.at.returns-then-from-bounds-ge-FEW_STARTS-clause-fault g c).After-run_forwards) later) in
    failed_so c.seek_later.result (IsFault hs (search_for c.args.aim hs terminator b) Later) (IsFault hs (search_for c.args.aim hs terminator s) Gives)
    (λ e f. weaker_fault hs (search_for c.args.aim hs terminator s) Later Gives so e
    (subst (λ q. IsFault hs q Later e) (kept_search c.args.aim hs terminator s b (all_kept g at)) f))
    (c.seek_later.ensures.fault hs terminator of)

pub returns-then-from-bounds-ge-FEW_STARTS-clause-spends : goal.returns-then-from-bounds-ge-FEW_STARTS-clause-spends
returns-then-from-bounds-ge-FEW_STARTS-clause-spends g c =
    let at = (goal.at.returns-then-from-bounds-ge-FEW_STARTS-clause-spends g c).Then-from-bounds-ge-FEW_STARTS in
    let s = c.args.input.now in
    let before : ℕ = (c.starts.from + 1 - low s) * (high s - low s + 2) in
    let rest : ℕ = cost_from c.may_end.new.input (c.starts.from + 1) in
    g.met.H.Halves.spends_within c.args.halves.now c.args.cache.now c.seek_later.new.cache (before + rest) (cost_forwards s) (rest_cost g at)
    (g.met.H.Halves.spends_both c.args.halves.now c.args.cache.now c.run_forwards.new.cache c.seek_later.new.cache before rest
    (before_spent g (goal.at.returns-then-from-bounds-ge-FEW_STARTS-clause-spends g c).After-run_forwards) c.seek_later.ensures.spends)
