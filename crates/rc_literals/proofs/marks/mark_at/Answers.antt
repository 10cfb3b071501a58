use Rattle.std.proofs.Common.{arith, ◌≡◌, ◌+◌, ◌-◌, ◌<◌, ◌≤◌, length, sym, subst, Some, slice_get, get_or}
use Rattle.std.proofs.lemmas.List.{get_or_read}
use Rattle.rc_needles.specs.Tables.{needles_in, IsNextWith}
use Rattle.rc_needles.proofs.FindLemmas.{keeps_on}
use Rattle.rc_needles.proofs.StandLemmas.{needle_count}
use Rattle.rc_literals.specs.Answers.{owned_of}
use Rattle.rc_literals.proofs.MarkLemmas.{AddsOne, below_all, below_more, below_next, below_none, none_between}
use Rattle.rc_literals.proofs.marks.mark_at.Goals as goal

pub loop-number-init : goal.loop-number-init
loop-number-init g c =
    let ns = c.args.needles.now in
    let content = c.args.input.now.content in
    let table = ns.prefilter.searcher.table in
    let needles = needles_in table.needles.items in
    let b = c.in-Some.byte in
    let head = c.index-number.result.now in
    let small : b < 256 = omega arith in
    let e : head ≡ get_or table.heads.items b 0 = get_or_read table.heads.items b head (omega (arith, table.head_count, small)) c.index-number.ensures 0 in
    let next : IsNextWith needles b 0 head = rw e (table.headed b small) in
    let at : slice_get content c.args.at ≡ Some b = sym c.in-Some.ensures.value in
    record {
      keeps = c.in-Some.ensures.keeps;
      high = next.high;
      begins = next.begins;
      adds = below_none (owned_of ns) content c.args.end c.args.at head c.args.set.now
          (none_between (owned_of ns) content c.args.end c.args.at b 0 head table.some at next);
    }

pub loop-number-smaller : goal.loop-number-smaller
loop-number-smaller g c =
    let table = c.args.needles.now.prefilter.searcher.table in
    let vs = table.needles.items in
    let needles = needles_in vs in
    let n = c.loop-number.number in
    let b = c.in-Some.byte in
    let next = c.index-number-in-loop-number.result.now in
    let count : length needles ≡ length vs = needle_count vs in
    let l : n < length vs = omega (arith, c.loop-number-test.true, c.len.ensures) in
    let e : next ≡ get_or table.nexts.items n 0 = get_or_read table.nexts.items n next (omega (arith, table.next_count, l)) c.index-number-in-loop-number.ensures 0 in
    let is : IsNextWith needles b (n + 1) next =
    rw e (table.linked n b (omega arith) (omega (arith, count, l)) (c.loop-number.invariant.begins (omega (arith, count, l)))) in
    let past : n + 1 ≤ next = is.low in
    let fewer : length vs - next < length vs - n = omega (arith, l, past) in
    fewer

pub loop-number-preserved : goal.loop-number-preserved
loop-number-preserved g c =
    let ns = c.args.needles.now in
    let content = c.args.input.now.content in
    let table = c.args.needles.now.prefilter.searcher.table in
    let vs = table.needles.items in
    let needles = needles_in vs in
    let n = c.loop-number.number in
    let b = c.in-Some.byte in
    let next = c.index-number-in-loop-number.result.now in
    let count : length needles ≡ length vs = needle_count vs in
    let l : n < length vs = omega (arith, c.loop-number-test.true, c.len.ensures) in
    let e : next ≡ get_or table.nexts.items n 0 = get_or_read table.nexts.items n next (omega (arith, table.next_count, l)) c.index-number-in-loop-number.ensures 0 in
    let is : IsNextWith needles b (n + 1) next =
    rw e (table.linked n b (omega arith) (omega (arith, count, l)) (c.loop-number.invariant.begins (omega (arith, count, l)))) in
    let at : slice_get content c.args.at ≡ Some b = sym c.in-Some.ensures.value in
    let same : c.loop-number.input.content ≡ content = c.loop-number.invariant.keeps.content in
    let one = subst (λ t. AddsOne (owned_of ns) t c.args.end c.args.at n c.loop-number.set c.mark_one.new.set) same c.mark_one.ensures.adds in
    record {
      keeps = keeps_on c.args.input.now c.loop-number.input c.mark_one.new.input c.loop-number.invariant.keeps c.mark_one.ensures.keeps;
      high = is.high;
      begins = is.begins;
      adds = below_next (owned_of ns) content c.args.end c.args.at (n + 1) next c.args.set.now c.mark_one.new.set is.low
          (below_more (owned_of ns) content c.args.end c.args.at n c.args.set.now c.loop-number.set c.mark_one.new.set c.loop-number.invariant.adds
          c.mark_one.ensures.capacity one)
          (none_between (owned_of ns) content c.args.end c.args.at b (n + 1) next table.some at is);
    }

pub returns-clause-adds : goal.returns-clause-adds
returns-clause-adds g c =
    let ns = c.args.needles.now in
    let vs = ns.prefilter.searcher.table.needles.items in
    let count : length (needles_in vs) ≡ length vs = needle_count vs in
    below_all (owned_of ns) c.args.input.now.content c.args.end c.args.at c.loop-number.number c.args.set.now c.loop-number.set
    (omega (arith, count, c.loop-number-test.false, c.len.ensures)) c.loop-number.invariant.adds
