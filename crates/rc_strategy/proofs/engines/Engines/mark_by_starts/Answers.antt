use Rattle.std.proofs.Common.{◌∙◌, Some, None, arith, subst, sym}
use Rattle.rc_program.specs.Answer.{Search}
use Rattle.rc_dfa_search.proofs.ToldLemmas.{kept_high, kept_low, kept_then}
use Rattle.rc_pikevm_search.specs.Engine.{engine_search}
use Rattle.rc_strategy.specs.Starts.{AddsBefore, AddsTo}
use Rattle.rc_strategy.proofs.CacheLemmas.{same_in, still_in}
use Rattle.rc_strategy.proofs.PatternLemmas.{kept_search}
use Rattle.rc_strategy.proofs.StartLemmas.{all_adds, held_full, none_before, past_adds, same_then, some_adds}
use Rattle.rc_strategy.proofs.engines.Engines.mark_by_starts.Goals as goal

pub starts-init : goal.starts-init
starts-init g c = record {
  keeps = c.high-hi.ensures.keeps;
  low = omega arith;
  adds = subst (λ n. AddsBefore (engine_search c.args.self.now.engine c.args.input.now) n c.args.set.now c.args.set.now) (sym c.low-lo.ensures)
      (none_before (engine_search c.args.self.now.engine c.args.input.now) c.args.set.now);
  made = c.requires.made;
  cache = same_in c.args.self.now 0 c.args.cache.now c.requires.made;
}

pub mark_next-requires-clause-made : goal.mark_next-requires-clause-made
mark_next-requires-clause-made g c = c.starts.invariant.made

pub mark_next-requires-clause-free : goal.mark_next-requires-clause-free
mark_next-requires-clause-free g c = c.starts.invariant.keeps.anchored ∙ c.requires.free

pub mark_next-requires-clause-from : goal.mark_next-requires-clause-from
mark_next-requires-clause-from g c =
    let same = kept_low c.args.input.now c.starts.input c.starts.invariant.keeps in
    let lo = c.low-lo.ensures in
    let from = c.starts.invariant.low in
    omega (arith, same, lo, from)

pub mark_next-requires-clause-to : goal.mark_next-requires-clause-to
mark_next-requires-clause-to g c =
    let same = kept_high c.args.input.now c.starts.input c.starts.invariant.keeps in
    let hi = c.high-hi.ensures.value in
    let to = c.starts-test.true in
    omega (arith, same, hi, to)

pub returns-then-has_all-clause-adds : goal.returns-then-has_all-clause-adds
returns-then-has_all-clause-adds g c =
    held_full c.args.self.now.engine c.args.input.now c.requires.free c.starts.at
    (let lo = c.low-lo.ensures in let from = c.starts.invariant.low in omega (arith, lo, from))
    c.args.set.now c.starts.set c.starts.invariant.adds c.args.patterns c.requires.first (c.has_all.ensures c.if-has_all.true)

pub returns-in_default-clause-adds : goal.returns-in_default-clause-adds
returns-in_default-clause-adds g c =
    let e = c.args.self.now.engine in
    all_adds e c.args.input.now c.requires.free c.starts.at
    (let lo = c.low-lo.ensures in let from = c.starts.invariant.low in omega (arith, lo, from))
    c.args.set.now c.starts.set c.starts.invariant.adds c.mark_next.new.set
    (subst (λ (q : Search). AddsTo (record q { lo = c.starts.at }) None c.starts.set c.mark_next.new.set)
    (kept_search e c.args.input.now c.starts.input c.starts.invariant.keeps)
    (subst (λ o. AddsTo (record (engine_search e c.starts.input) { lo = c.starts.at }) o c.starts.set c.mark_next.new.set) c.in_default.is c.mark_next.ensures.adds))

pub returns-in_default-clause-keeps : goal.returns-in_default-clause-keeps
returns-in_default-clause-keeps g c = kept_then c.args.input.now c.starts.input c.mark_next.new.input c.starts.invariant.keeps c.mark_next.ensures.keeps

pub returns-in_default-clause-cache : goal.returns-in_default-clause-cache
returns-in_default-clause-cache g c =
    same_then c.args.self.now c.args.cache.now c.starts.cache c.mark_next.new.cache c.starts.invariant.cache c.mark_next.ensures.cache

pub starts-smaller : goal.starts-smaller
starts-smaller g c =
    let further = c.in-Some.ensures.ahead in
    let to = c.starts-test.true in
    omega (arith, further, to)

pub returns-clause-adds : goal.returns-clause-adds
returns-clause-adds g c =
    past_adds c.args.self.now.engine c.args.input.now c.requires.free c.starts.at
    (let lo = c.low-lo.ensures in let from = c.starts.invariant.low in omega (arith, lo, from))
    c.args.set.now c.starts.set c.starts.invariant.adds
    (let hi = c.high-hi.ensures.value in let past = c.starts-test.false in omega (arith, hi, past))

pub starts-preserved : goal.starts-preserved
starts-preserved g c =
    let e = c.args.self.now in
    let i = c.starts.invariant in
    let from = i.low in
    let lo = c.low-lo.ensures in
    let further = c.in-Some.ensures.ahead in
    record {
      keeps = kept_then c.args.input.now c.starts.input c.mark_next.new.input i.keeps c.mark_next.ensures.keeps;
      low = omega (arith, from, further);
      adds = some_adds e.engine c.args.input.now c.requires.free c.starts.at (omega (arith, lo, from)) c.args.set.now c.starts.set i.adds c.mark_next.new.set
          c.in-Some.next further
          (subst (λ (q : Search). AddsTo (record q { lo = c.starts.at }) (Some c.in-Some.next) c.starts.set c.mark_next.new.set)
          (kept_search e.engine c.args.input.now c.starts.input i.keeps) c.in-Some.ensures.adds);
      made = still_in e 0 c.starts.cache c.mark_next.new.cache i.made c.mark_next.ensures.cache;
      cache = same_then e c.args.cache.now c.starts.cache c.mark_next.new.cache i.cache c.mark_next.ensures.cache;
    }
