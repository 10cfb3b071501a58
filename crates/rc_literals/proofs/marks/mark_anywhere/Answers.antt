use Rattle.std.proofs.Common.{arith, rules, ◌≡◌, true, ◌∙◌, ◌+◌, ◌≤◌, sym, ap₂, subst, Some, None, inl, inr}
use Rattle.std.proofs.lemmas.Bool.{cases_lt}
use Rattle.rc_text.specs.Text.{low, high}
use Rattle.rc_needles.specs.Needles.{find_needle, stands_within}
use Rattle.rc_needles.specs.Prefilters.{needles_of}
use Rattle.rc_needles.specs.Tables.{numbered}
use Rattle.rc_needles.proofs.FindLemmas.{keeps_on}
use Rattle.rc_needles.proofs.StandLemmas.{needle_count}
use Rattle.rc_needles.proofs.StartLemmas.{find_found, find_none}
use Rattle.rc_literals.specs.Answers.{owned_of}
use Rattle.rc_literals.specs.Marks.{AddsFrom}
use Rattle.rc_literals.proofs.MarkLemmas.{from_none, from_on, hit_stands, none_done}
use Rattle.rc_literals.proofs.marks.mark_anywhere.Goals as goal

pub loop-at-init : goal.loop-at-init
loop-at-init g c = record {
  keeps = search rules;
  ends = search rules;
  begins = search rules;
  done =
      let vs = c.args.needles.now.prefilter.searcher.table.needles.items in
      none_done (owned_of c.args.needles.now) c.args.set.now 1024 18446744073709551615 (omega (arith, needle_count vs));
  missing = search rules;
  adds = search rules;
}

pub returns-in_default-clause-adds : goal.returns-in_default-clause-adds
returns-in_default-clause-adds g c =
    let s = c.args.input.now in
    let ns = c.args.needles.now in
    let at = c.loop-at.at in
    let found : None ≡ find_needle (needles_of ns.prefilter) s.content at (high s) =
    sym c.in_default.is ∙ c.find_from.ensures.value
    ∙ ap₂ (λ t h. find_needle (needles_of ns.prefilter) t at h) c.loop-at.invariant.keeps.content c.loop-at.invariant.ends in
    let below : at ≤ high s = omega (arith, c.loop-at-test.true, c.loop-at.invariant.ends) in
    from_on (owned_of ns) s.content (high s) (low s) at (high s) c.args.set.now c.loop-at.set c.loop-at.set c.loop-at.invariant.begins
    below c.loop-at.invariant.adds
    (from_none (owned_of ns) s.content (high s) at (high s) c.loop-at.set
    (λ y a b. find_none (needles_of ns.prefilter) s.content at (high s) (sym found) y a (omega (arith, b))))

pub loop-at-preserved : goal.loop-at-preserved
loop-at-preserved g c =
    let s = c.args.input.now in
    let ns = c.args.needles.now in
    let at = c.loop-at.at in
    let hit = c.in-Some.hit in
    let found : Some hit ≡ find_needle (needles_of ns.prefilter) s.content at (high s) =
    sym c.in-Some.is ∙ c.find_from.ensures.value
    ∙ ap₂ (λ t h. find_needle (needles_of ns.prefilter) t at h) c.loop-at.invariant.keeps.content c.loop-at.invariant.ends in
    let f = find_found (needles_of ns.prefilter) s.content at (high s) hit (sym found) in
    let here : AddsFrom (owned_of ns) s.content (high s) hit.start (hit.start + 1) c.loop-at.set c.mark_hit.new.set =
    subst (λ h. AddsFrom (owned_of ns) s.content h hit.start (hit.start + 1) c.loop-at.set c.mark_hit.new.set) c.loop-at.invariant.ends
    (subst (λ t. AddsFrom (owned_of ns) t c.high-end.result hit.start (hit.start + 1) c.loop-at.set c.mark_hit.new.set)
    (c.find_from.ensures.keeps.content ∙ c.loop-at.invariant.keeps.content) c.mark_hit.ensures.adds) in
    let begins = c.loop-at.invariant.begins in
    let later : low s ≤ hit.start = omega (arith, begins, f.low) in
    let next : hit.start ≤ hit.start + 1 = omega arith in
    let to : AddsFrom (owned_of ns) s.content (high s) (low s) hit.start c.args.set.now c.loop-at.set =
    from_on (owned_of ns) s.content (high s) (low s) at hit.start c.args.set.now c.loop-at.set c.loop-at.set begins f.low c.loop-at.invariant.adds
    (from_none (owned_of ns) s.content (high s) at hit.start c.loop-at.set f.none_before) in
    record {
      keeps = keeps_on s c.find_from.new.input c.mark_hit.new.input
          (keeps_on s c.loop-at.input c.find_from.new.input c.loop-at.invariant.keeps c.find_from.ensures.keeps) c.mark_hit.ensures.keeps;
      ends = c.loop-at.invariant.ends;
      begins = omega (arith, later);
      done = c.mark_hit.ensures.done;
      missing = λ p l. (here.members p).1 (inl (elim (cases_lt p c.loop-at.missing) [
        | inl h ↦ c.loop-at.invariant.missing p h
        | inr h ↦ c.missing_from-missing.ensures p h l
      ]));
      adds = from_on (owned_of ns) s.content (high s) (low s) hit.start (hit.start + 1) c.args.set.now c.loop-at.set c.mark_hit.new.set later next to here;
    }

pub mark_hit-requires-clause-number : goal.mark_hit-requires-clause-number
mark_hit-requires-clause-number g c =
    (hit_stands (needles_of c.args.needles.now.prefilter) c.loop-at.input.content c.loop-at.at c.high-end.result c.in-Some.hit
    (sym c.find_from.ensures.value ∙ c.in-Some.is)).0

pub mark_hit-requires-clause-here : goal.mark_hit-requires-clause-here
mark_hit-requires-clause-here g c =
    let needles = needles_of c.args.needles.now.prefilter in
    let hit = c.in-Some.hit in
    subst (λ t. stands_within t c.high-end.result hit.start (numbered needles hit.number) ≡ true) (sym c.find_from.ensures.keeps.content)
    (hit_stands needles c.loop-at.input.content c.loop-at.at c.high-end.result hit (sym c.find_from.ensures.value ∙ c.in-Some.is)).1
