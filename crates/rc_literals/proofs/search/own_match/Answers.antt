use Rattle.std.proofs.Common.{rules, arith, ◌≡◌, ◌∙◌, ◌+◌, ◌<◌, true, true≢false, length, sym, ap, ap₂, Some, slice_get, slice_index, get_or, ◌-◌, ◌≤◌, eq-eqb}
use Rattle.std.proofs.lemmas.Bool.{eqb-true}
use Rattle.std.proofs.lemmas.List.{get_or_read}
use Rattle.rc_text.specs.Found.{Found}
use Rattle.rc_needles.specs.Needles.{stands_within}
use Rattle.rc_needles.specs.Tables.{needles_in, numbered, IsNextWith}
use Rattle.rc_needles.proofs.StandLemmas.{numbered_in, needle_count}
use Rattle.rc_literals.specs.Answers.{owned_of}
use Rattle.rc_literals.proofs.OwnedLemmas.{own_first, own_none, own_one_more, own_to_next}
use Rattle.rc_literals.proofs.search.own_match.Goals.{else-eq-via-then-eq+else-occurs, else-eq-via-else-eq}
use Rattle.rc_literals.proofs.search.own_match.Goals as goal

pub loop-number-init : goal.loop-number-init
loop-number-init g c =
    let ns = c.args.needles.now in
    let table = ns.prefilter.searcher.table in
    let needles = needles_in table.needles.items in
    let b = c.in_ok-byte.byte in
    let head = c.index-number.result.now in
    let small : b < 256 = omega arith in
    let e : head ≡ get_or table.heads.items b 0 = get_or_read table.heads.items b head (omega (arith, table.head_count, small)) c.index-number.ensures 0 in
    let next : IsNextWith needles b 0 head = rw e (table.headed b small) in
    let at : slice_get c.args.input.now.content c.args.at ≡ Some b = sym c.in_ok-byte.ensures.value in
    record {
      keeps = c.in_ok-byte.ensures.keeps;
      high = next.high;
      begins = next.begins;
      none_below = own_to_next (owned_of ns) c.args.input.now.content c.args.end c.args.at c.args.pattern ns.each b 0 head table.some at
          (λ k l m. absurd (omega (arith, l))) next;
    }

pub returns-then-occurs-clause-value : goal.returns-then-occurs-clause-value
returns-then-occurs-clause-value g c =
    let ns = c.args.needles.now in
    let content = c.args.input.now.content in
    let vs = ns.prefilter.searcher.table.needles.items in
    let needles = needles_in vs in
    let n = c.loop-number.number in
    let l : n < length vs = omega (arith, c.loop-number-test.true, c.len.ensures) in
    let w : c.index.result.now.items ≡ numbered needles n = numbered_in vs n c.index.result.now l c.index.ensures in
    let read : c.as_slice-needle.result.now ≡ numbered needles n = c.as_slice-needle.ensures.value ∙ w in
    let same : c.loop-number.input.content ≡ content = c.loop-number.invariant.keeps.content in
    let here : stands_within content c.args.end c.args.at (numbered needles n) ≡ true =
    ap₂ (λ t x. stands_within t c.args.end c.args.at x) (sym same) (sym read) ∙ sym c.occurs.ensures.value ∙ c.if-occurs.true in
    let x = c.index-in-loop-number.result.now in
    let there : x ≡ slice_index ns.owners.items n =
    get_or_read ns.owners.items n x (omega (arith, l, needle_count vs, ns.each)) c.index-in-loop-number.ensures 0 in
    let own : slice_index ns.owners.items n ≡ c.args.pattern = sym there ∙ eqb-true x c.args.pattern (sym c.eq.ensures ∙ c.if-eq.true) in
    ap Some c.new.ensures
    ∙ ap (λ x. let f : Found = record { pattern = c.args.pattern; start = c.args.at; end = c.args.at + length x } in Some f) read
    ∙ own_first (owned_of ns) content c.args.end c.args.at c.args.pattern ns.each n (omega (arith, l, needle_count vs)) own here c.loop-number.invariant.none_below

pub loop-number-smaller : goal.loop-number-smaller
loop-number-smaller g c =
    let table = c.args.needles.now.prefilter.searcher.table in
    let vs = table.needles.items in
    let n = c.loop-number.number in
    let next = c.index-number-in-loop-number.result.now in
    let count : length (needles_in vs) ≡ length vs = needle_count vs in
    let l : n < length vs = omega (arith, c.loop-number-test.true, c.len.ensures) in
    let e : next ≡ get_or table.nexts.items n 0 = get_or_read table.nexts.items n next (omega (arith, table.next_count, l)) c.index-number-in-loop-number.ensures 0 in
    let is : IsNextWith (needles_in vs) c.in_ok-byte.byte (n + 1) next =
    rw e (table.linked n c.in_ok-byte.byte (omega arith) (omega (arith, count, l)) (c.loop-number.invariant.begins (omega (arith, count, l)))) in
    let low : n + 1 ≤ next = is.low in
    let fewer : length vs - next < length vs - n = omega (arith, l, low) in
    fewer

pub loop-number-preserved : goal.loop-number-preserved
loop-number-preserved g c =
    let ns = c.args.needles.now in
    let table = ns.prefilter.searcher.table in
    let content = c.args.input.now.content in
    let vs = table.needles.items in
    let needles = needles_in vs in
    let n = c.loop-number.number in
    let b = c.in_ok-byte.byte in
    let next = c.index-number-in-loop-number.result.now in
    let count : length needles ≡ length vs = needle_count vs in
    let l : n < length vs = omega (arith, c.loop-number-test.true, c.len.ensures) in
    let e : next ≡ get_or table.nexts.items n 0 = get_or_read table.nexts.items n next (omega (arith, table.next_count, l)) c.index-number-in-loop-number.ensures 0 in
    let is : IsNextWith needles b (n + 1) next =
    rw e (table.linked n b (omega arith) (omega (arith, count, l)) (c.loop-number.invariant.begins (omega (arith, count, l)))) in
    let w : c.index.result.now.items ≡ numbered needles n = numbered_in vs n c.index.result.now l c.index.ensures in
    let read : c.as_slice-needle.result.now ≡ numbered needles n = c.as_slice-needle.ensures.value ∙ w in
    let at : slice_get content c.args.at ≡ Some b = sym c.in_ok-byte.ensures.value in
    let same : c.loop-number.input.content ≡ content = c.loop-number.invariant.keeps.content in
    record {
      keeps = elim c.else-eq.branch [ else-eq-via-then-eq+else-occurs v ↦ search rules | else-eq-via-else-eq v ↦ search rules ];
      high = is.high;
      begins = is.begins;
      none_below = own_to_next (owned_of ns) content c.args.end c.args.at c.args.pattern ns.each b (n + 1) next table.some at
          (own_one_more (owned_of ns) content c.args.end c.args.at c.args.pattern ns.each n c.loop-number.invariant.none_below
          (λ own. elim c.else-eq.branch [
            | else-eq-via-then-eq+else-occurs v ↦
                ap₂ (λ t x. stands_within t c.args.end c.args.at x) (sym same) (sym read) ∙ sym v.occurs.ensures.value ∙ v.if-occurs.false
            | else-eq-via-else-eq v ↦
                let x = c.index-in-loop-number.result.now in
                let there : x ≡ slice_index ns.owners.items n =
                get_or_read ns.owners.items n x (omega (arith, l, count, ns.each)) c.index-in-loop-number.ensures 0 in
                absurd (true≢false (sym (eq-eqb x c.args.pattern (there ∙ own)) ∙ sym c.eq.ensures ∙ v.if-eq.false))
          ])) is;
    }

pub returns-clause-value : goal.returns-clause-value
returns-clause-value g c =
    let ns = c.args.needles.now in
    let vs = ns.prefilter.searcher.table.needles.items in
    let count : length (needles_in vs) ≡ length vs = needle_count vs in
    own_none (owned_of ns) c.args.input.now.content c.args.end c.args.at c.args.pattern ns.each c.loop-number.number
    (omega (arith, count, c.loop-number-test.false, c.len.ensures)) c.loop-number.invariant.none_below
