use Rattle.std.proofs.Common.{rules, arith, ◌≡◌, ◌+◌, ◌<◌, true, false, true≢false, length, sym, ap, ◌∙◌, Some, slice_get, get_or}
use Rattle.std.proofs.lemmas.List.{get_or_read}
use Rattle.rc_needles.specs.Needles.{stands_within}
use Rattle.rc_needles.specs.Tables.{needles_in, numbered, IsNextWith}
use Rattle.rc_needles.proofs.FindLemmas.{keeps_on}
use Rattle.rc_needles.proofs.StandLemmas.{none_to_next, none_one_more, none_here, first_here, numbered_in, needle_count, stands_from, stands_parts, false_if_not}
use Rattle.std.proofs.lemmas.Slice.Eq.{bytes_eq-Decides}
use Rattle.std.specs.Prelude.{bytes_eq, slice_range}
use Rattle.rc_needles.proofs.literal.needle_at.Goals as goal
use Rattle.rc_needles.proofs.literal.needle_at.Goals.{then-len-end+else-stands, else-len-end}

pub loop-number-init : goal.loop-number-init
loop-number-init g c =
    let same : c.byte_at.new.input.content ≡ c.args.input.now.content = c.byte_at.ensures.keeps.content in
    let start = c.start_number-number.ensures in
    record {
      keeps = keeps_on c.args.input.now c.byte_at.new.input c.start_number-number.new.input c.byte_at.ensures.keeps start.keeps;
      high = start.high;
      begins = start.begins;
      none_below = rw (← same) start.none_below;
    }

pub returns-then-stands-clause-value : goal.returns-then-stands-clause-value
returns-then-stands-clause-value g c =
    let vs = c.args.table.now.needles.items in
    let needles = needles_in vs in
    let n = c.loop-number.number in
    let l : n < length vs = omega (arith, c.loop-number-test.true, c.len.ensures) in
    let w : c.index.result.now.items ≡ numbered needles n = numbered_in vs n c.index.result.now l c.index.ensures in
    let read : c.as_slice-needle.result.now ≡ numbered needles n = c.as_slice-needle.ensures.value ∙ w in
    let long : length c.as_slice-needle.result.now ≡ length (numbered needles n) = ap length read in
    let same : c.loop-number.input.content ≡ c.args.input.now.content = c.loop-number.invariant.keeps.content in
    let equal : bytes_eq (slice_range c.args.input.now.content c.args.at (c.args.at + length (numbered needles n))) (numbered needles n) ≡ true =
    rw (← same, ← read) (sym c.stands.ensures.value ∙ c.if-stands.true) in
    let here : stands_within c.args.input.now.content c.args.end c.args.at (numbered needles n) ≡ true =
    stands_from c.args.input.now.content c.args.end c.args.at (numbered needles n) (omega (arith, long, c.if-len-end.true, c.requires.low))
    ((bytes_eq-Decides (slice_range c.args.input.now.content c.args.at (c.args.at + length (numbered needles n))) (numbered needles n)).0 equal) in
    rw long (first_here needles c.args.input.now.content c.args.end c.args.at n (omega (arith, l, needle_count vs)) c.loop-number.invariant.none_below here)

pub loop-number-preserved : goal.loop-number-preserved
loop-number-preserved g c =
    let table = c.args.table.now in
    let content = c.args.input.now.content in
    let vs = table.needles.items in
    let needles = needles_in vs in
    let n = c.loop-number.number in
    let b = c.in_ok-byte.byte in
    let next = c.index-number.result.now in
    let count : length needles ≡ length vs = needle_count vs in
    let l : n < length vs = omega (arith, c.loop-number-test.true, c.len.ensures) in
    let e : next ≡ get_or table.nexts.items n 0 = get_or_read table.nexts.items n next (omega (arith, table.next_count, l)) c.index-number.ensures 0 in
    let is : IsNextWith needles b (n + 1) next =
    rw e (table.linked n b (omega arith) (omega (arith, count, l)) (c.loop-number.invariant.begins (omega (arith, count, l)))) in
    let w : c.index.result.now.items ≡ numbered needles n = numbered_in vs n c.index.result.now l c.index.ensures in
    let read : c.as_slice-needle.result.now ≡ numbered needles n = c.as_slice-needle.ensures.value ∙ w in
    let at : slice_get content c.args.at ≡ Some b = sym c.in_ok-byte.ensures.value in
    let no : stands_within content c.args.end c.args.at (numbered needles n) ≡ false =
    false_if_not (stands_within content c.args.end c.args.at (numbered needles n))
    (λ t. let parts = stands_parts content c.args.end c.args.at (numbered needles n) t in
    elim c.if-len-end.branch [
      | then-len-end+else-stands v ↦
          let same : c.loop-number.input.content ≡ content = c.loop-number.invariant.keeps.content in
          let differ : bytes_eq (slice_range content c.args.at (c.args.at + length (numbered needles n))) (numbered needles n) ≡ false =
          rw (← same, ← read) (sym v.stands.ensures.value ∙ v.if-stands.false) in
          true≢false (sym ((bytes_eq-Decides (slice_range content c.args.at (c.args.at + length (numbered needles n))) (numbered needles n)).1 parts.1) ∙ differ)
      | else-len-end v ↦ omega (arith, v.if-len-end.false, parts.0, ap length read)
    ]) in
    record {
      keeps = elim c.if-len-end.branch [ then-len-end+else-stands v ↦ search rules | else-len-end v ↦ search rules ];
      high = is.high;
      begins = is.begins;
      none_below = none_to_next needles content c.args.end c.args.at b (n + 1) next table.some at
          (none_one_more needles content c.args.end c.args.at n c.loop-number.invariant.none_below no) is;
    }

pub returns-clause-value : goal.returns-clause-value
returns-clause-value g c =
    let vs = c.args.table.now.needles.items in
    let count : length (needles_in vs) ≡ length vs = needle_count vs in
    none_here (needles_in vs) c.args.input.now.content c.args.end c.args.at c.loop-number.number (omega (arith, count)) c.loop-number.invariant.none_below
