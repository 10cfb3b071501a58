use Rattle.std.proofs.Common.{refl, ◌+◌, ◌-◌, ◌*◌, ℕ, Bool, sym, ap, subst, ◌∙◌, arith, inl, inr, ⊎_elim, min, max}
use Rattle.rc_text.specs.Text.{low, high}
use Rattle.rc_text.specs.Plain.{is_anchored as anchors}
use Rattle.rc_dfa_search.specs.Aims.{is_early, search_for}
use Rattle.rc_dfa_search.specs.Ends.{cost_from, may_end}
use Rattle.rc_dfa_search.specs.Faults.{IsFault}
use Rattle.rc_dfa_search.proofs.CostLemmas.{refused, next_later, later_cost}
use Rattle.rc_dfa_search.proofs.ToldLemmas.{kept_search, kept_then, weaker_fault}
use Rattle.rc_dfa_search.proofs.SeekLemmas.{run_none, run_end, run_raised}
use Rattle.rc_dfa_search.proofs.passed.seek_along.Given.{Over}
use Rattle.rc_dfa_search.proofs.passed.seek_along.Goals as goal
use Rattle.rc_dfa_search.proofs.passed.seek_along.Goals.{After-run_along}

spent : (g : Over) (c : After-run_along g) → g.H.Halves.Spends c.args.halves.now c.args.cache.now c.run_along.new.cache (cost_from c.args.input.now c.args.start)
spent g c =
    let i = c.starts.invariant in
    g.met.H.Halves.spends_within c.args.halves.now c.args.cache.now c.run_along.new.cache
    ((c.starts.from - c.args.start) * (high c.args.input.now - low c.args.input.now + 2) + (high c.starts.input - c.starts.from + 2)) (cost_from c.args.input.now c.args.start)
    (later_cost c.args.input.now c.starts.input c.args.start c.starts.from i.keeps (omega (arith, i.above.0, i.above.1)) (omega (arith, i.above.2)) (omega (arith, i.below)))
    (g.met.H.Halves.spends_both c.args.halves.now c.args.cache.now c.starts.cache c.run_along.new.cache
    ((c.starts.from - c.args.start) * (high c.args.input.now - low c.args.input.now + 2)) (high c.starts.input - c.starts.from + 2)
    i.spends c.run_along.ensures.spends)

pub starts-init : goal.starts-init
starts-init g c = record {
  cache = c.requires.cache;
  keeps = record { content = refl; span = refl; slice = refl; anchored = refl; earliest = refl };
  above = (c.requires.low.0, c.requires.low.1, omega arith);
  below = (c.requires.high, c.requires.ordered);
  stands = c.requires.stands;
  spends = g.met.H.Halves.spends_nothing c.args.halves.now c.args.cache.now
      ((c.args.start - c.args.start) * (high c.args.input.now - low c.args.input.now + 2));
  memo = c.requires.memo;
  refused = tt;
}

pub returns-in_err-met-clause-fault : goal.returns-in_err-met-clause-fault
returns-in_err-met-clause-fault g c hs terminator of =
    let i = c.starts.invariant in
    let s = c.args.input.now in
    let b = c.starts.input in
    let Gives : ℕ → Bool → Type 0 = g.H.Halves.GivesUp c.args.halves.now c.args.cache.now c.run_along.new.cache in
    let Once : Bool → Type 0 = g.H.Halves.GivesUp c.args.halves.now c.starts.cache c.run_along.new.cache (high b - c.starts.from + 2) in
    let before : ℕ = (c.starts.from - c.args.start) * (high s - low s + 2) in
    let later : (memory : Bool) → Once memory → Gives (cost_from s c.args.start) memory =
    λ memory once. g.met.H.Halves.gives_up_within c.args.halves.now c.args.cache.now c.run_along.new.cache (before + (high b - c.starts.from + 2)) (cost_from s c.args.start) memory
    (later_cost s b c.args.start c.starts.from i.keeps (omega (arith, i.above.0, i.above.1)) (omega (arith, i.above.2)) (omega (arith, i.below)))
    (g.met.H.Halves.gives_up_later c.args.halves.now c.args.cache.now c.starts.cache c.run_along.new.cache before (high b - c.starts.from + 2) memory i.spends once) in
    refused c.from_residual.result c.in_err-met.field-0.0 c.from_residual.ensures.1 (IsFault hs (search_for c.args.aim hs terminator s) (Gives (cost_from s c.args.start)))
    (weaker_fault hs (search_for c.args.aim hs terminator s) Once (Gives (cost_from s c.args.start)) later c.in_err-met.field-0.0
    (subst (λ x. IsFault hs x Once c.in_err-met.field-0.0) (kept_search c.args.aim hs terminator s b i.keeps) (c.in_err-met.ensures.fault hs terminator of)))

pub returns-in_err-met-clause-spends : goal.returns-in_err-met-clause-spends
returns-in_err-met-clause-spends g c = spent g (goal.at.returns-in_err-met-clause-spends g c).After-run_along

pub returns-in_default-clause-spends : goal.returns-in_default-clause-spends
returns-in_default-clause-spends g c = spent g (goal.at.returns-in_default-clause-spends g c).After-run_along

pub returns-then-may_end_past-clause-spends : goal.returns-then-may_end_past-clause-spends
returns-then-may_end_past-clause-spends g c = spent g (goal.at.returns-then-may_end_past-clause-spends g c).After-run_along

pub returns-then-anchored-clause-spends : goal.returns-then-anchored-clause-spends
returns-then-anchored-clause-spends g c = spent g (goal.at.returns-then-anchored-clause-spends g c).After-run_along

pub returns-in_default-clause-none : goal.returns-in_default-clause-none
returns-in_default-clause-none g c hs terminator of =
    run_none (g.H.Halves.AreOf c.args.halves.now) c.args.aim hs terminator of c.args.input.now c.starts.input c.starts.invariant.keeps c.args.bounds.low c.starts.from
    (c.starts.invariant.stands hs terminator of) c.in_ok-met.field-0 (c.in_ok-met.ensures.met hs terminator of) c.in_default.is

pub returns-then-may_end_past-clause-some : goal.returns-then-may_end_past-clause-some
returns-then-may_end_past-clause-some g c hs terminator of =
    let i = c.starts.invariant in
    let content = c.in_ok-met.ensures.keeps.content ∙ i.keeps.content in
    run_end (g.H.Halves.AreOf c.args.halves.now) c.args.aim hs terminator of c.args.input.now c.starts.input i.keeps c.args.bounds.low c.starts.from
    (i.stands hs terminator of) c.in_ok-met.field-0 (c.in_ok-met.ensures.met hs terminator of) c.in-Some.met c.min.result c.in-Some.is
    (ap (λ bytes. may_end c.args.aim.kind c.args.aim.passes_over bytes c.in-Some.met.at) (sym content) ∙ sym c.may_end_past.ensures.value ∙ c.if-may_end_past.true)
    (c.min.ensures ∙ ap (λ x. min x c.args.bounds.high) c.max.ensures ∙ ap (λ x. min (max c.in-Some.met.at c.starts.from) x) i.below.0)

pub returns-then-anchored-clause-none : goal.returns-then-anchored-clause-none
returns-then-anchored-clause-none g c hs terminator of =
    let i = c.starts.invariant in
    let content = c.in_ok-met.ensures.keeps.content ∙ i.keeps.content in
    let r = run_raised (g.H.Halves.AreOf c.args.halves.now) c.args.aim hs terminator of c.args.input.now c.starts.input i.keeps c.args.bounds.low c.starts.from
    (i.stands hs terminator of) c.in_ok-met.field-0 (c.in_ok-met.ensures.met hs terminator of) c.in-Some.met c.in-Some.is
    (ap (λ bytes. may_end c.args.aim.kind c.args.aim.passes_over bytes c.in-Some.met.at) (sym content) ∙ sym c.may_end_past.ensures.value ∙ c.if-may_end_past.false) in
    let so = sym (c.is_anchored-anchored.ensures ∙ ap anchors c.get_anchored.ensures) in
    r.1 (⊎_elim (λ is. inl (so ∙ is)) (λ e. inr (omega (arith, e.1, i.below))) c.then-anchored.either)

pub starts-preserved : goal.starts-preserved
starts-preserved g c =
    let i = c.starts.invariant in
    let s = c.args.input.now in
    let content = c.in_ok-met.ensures.keeps.content ∙ i.keeps.content in
    record {
      cache = c.in_ok-met.ensures.cache;
      keeps = kept_then s c.run_along.new.input c.may_end_past.new.input (kept_then s c.starts.input c.run_along.new.input i.keeps c.in_ok-met.ensures.keeps) c.may_end_past.ensures.keeps;
      above = (i.above.0, i.above.1, omega (arith, i.above.2));
      below = (i.below.0, omega (arith, c.if-from-high.false));
      stands = λ hs terminator of.
          let r = run_raised (g.H.Halves.AreOf c.args.halves.now) c.args.aim hs terminator of s c.starts.input i.keeps c.args.bounds.low c.starts.from
          (i.stands hs terminator of) c.in_ok-met.field-0 (c.in_ok-met.ensures.met hs terminator of) c.in-Some.met c.in-Some.is
          (ap (λ bytes. may_end c.args.aim.kind c.args.aim.passes_over bytes c.in-Some.met.at) (sym content) ∙ sym c.may_end_past.ensures.value ∙ c.if-may_end_past.false) in
          let so = sym (c.is_anchored-anchored.ensures ∙ ap anchors c.get_anchored.ensures) in
          r.0 (omega (arith, c.if-from-high.false, i.below)) (so ∙ c.if-anchored.false);
      spends = g.met.H.Halves.spends_within c.args.halves.now c.args.cache.now c.run_along.new.cache
          ((c.starts.from - c.args.start) * (high s - low s + 2) + (high c.starts.input - c.starts.from + 2)) ((c.starts.from + 1 - c.args.start) * (high s - low s + 2))
          (next_later s c.starts.input c.args.start c.starts.from i.keeps (omega (arith, i.above.0, i.above.1)) (omega (arith, i.above.2)) (omega (arith, i.below)))
          (g.met.H.Halves.spends_both c.args.halves.now c.args.cache.now c.starts.cache c.run_along.new.cache
          ((c.starts.from - c.args.start) * (high s - low s + 2)) (high c.starts.input - c.starts.from + 2) i.spends c.in_ok-met.ensures.spends);
      memo = g.met.H.Halves.memo_kept c.args.halves.now c.run_along.new.cache c.run_along.new.input c.may_end_past.new.input c.args.bounds.high (is_early c.args.aim)
          c.run_along.new.memo c.may_end_past.ensures.keeps c.in_ok-met.ensures.memo;
      refused = ap (λ bytes. may_end c.args.aim.kind c.args.aim.passes_over bytes c.in-Some.met.at) (sym content) ∙ sym c.may_end_past.ensures.value
          ∙ c.if-may_end_past.false;
    }

pub returns-then-may_end_past-clause-memo : goal.returns-then-may_end_past-clause-memo
returns-then-may_end_past-clause-memo g c =
    g.met.H.Halves.memo_kept c.args.halves.now c.run_along.new.cache c.run_along.new.input c.may_end_past.new.input c.args.bounds.high (is_early c.args.aim)
    c.run_along.new.memo c.may_end_past.ensures.keeps c.in_ok-met.ensures.memo

pub returns-then-anchored-clause-memo : goal.returns-then-anchored-clause-memo
returns-then-anchored-clause-memo g c =
    g.met.H.Halves.memo_kept c.args.halves.now c.run_along.new.cache c.run_along.new.input c.may_end_past.new.input c.args.bounds.high (is_early c.args.aim)
    c.run_along.new.memo c.may_end_past.ensures.keeps c.in_ok-met.ensures.memo
