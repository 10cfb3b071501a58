use Rattle.std.proofs.Common.{arith, inl, inr, ◌≡◌, ◌∙◌, ◌+◌, ◌-◌, ◌<◌, ◌≤◌, length, subst, subst₂, sym, get_or, slice_index, true≢false}
use Rattle.std.proofs.lemmas.Bool.{cases_lt}
use Rattle.std.proofs.lemmas.List.{get_or_read}
use Rattle.rc_pattern_set.specs.Sets.{Has}
use Rattle.rc_needles.specs.Tables.{BeginsWithByte, IsNextWith, needles_in, numbered}
use Rattle.rc_needles.proofs.StandLemmas.{needle_count, numbered_in}
use Rattle.rc_literals.specs.Answers.{owned_of}
use Rattle.rc_literals.specs.Marks.{AreRelated}
use Rattle.rc_literals.proofs.MarkLemmas.{first_read, related_first}
use Rattle.rc_literals.proofs.marks.has_related.Goals as goal
use Rattle.rc_literals.proofs.marks.has_related.Goals.{else-is_missing-via-then-is_missing+else-are_related, else-is_missing-via-else-is_missing}

pub loop-other-init : goal.loop-other-init
loop-other-init c =
    let table = c.args.needles.now.prefilter.searcher.table in
    let vs = table.needles.items in
    let needles = needles_in vs in
    let b = c.in-Some.first.now in
    let head = c.index-other.result.now in
    let small : b < 256 = omega arith in
    let e : head ≡ get_or table.heads.items b 0 = get_or_read table.heads.items b head (omega (arith, table.head_count, small)) c.index-other.ensures 0 in
    let next : IsNextWith needles b 0 head = rw e (table.headed b small) in
    let count : length needles ≡ length vs = needle_count vs in
    let is = c.as_slice-needle.ensures.value ∙ numbered_in vs c.args.number c.index.result.now (omega (arith, count, c.requires.number)) c.index.ensures in
    let first : BeginsWithByte (numbered needles c.args.number) b =
    first_read c.as_slice-needle.result.now (numbered needles c.args.number) b is c.in-Some.ensures.lookup.3.0 (c.in-Some.ensures.lookup.3.1 0) in
    record {
      high = next.high;
      begins = λ l. next.begins l ∙ sym first;
      held = λ k l related. elim (cases_lt k (length needles)) [
        | inl below ↦ absurd (next.none_between k (omega arith) l (related_first (numbered needles c.args.number) (numbered needles k) b related first (table.some k below)))
        | inr past ↦ absurd (omega (arith, l, past, next.high))
      ];
    }

pub loop-other-smaller : goal.loop-other-smaller
loop-other-smaller c =
    let table = c.args.needles.now.prefilter.searcher.table in
    let vs = table.needles.items in
    let needles = needles_in vs in
    let n = c.loop-other.other in
    let b = c.in-Some.first.now in
    let next = c.index-other-in-loop-other.result.now in
    let count : length needles ≡ length vs = needle_count vs in
    let l : n < length vs = omega (arith, c.loop-other-test.true, c.len.ensures) in
    let is = c.as_slice-needle.ensures.value ∙ numbered_in vs c.args.number c.index.result.now (omega (arith, count, c.requires.number)) c.index.ensures in
    let first : BeginsWithByte (numbered needles c.args.number) b =
    first_read c.as_slice-needle.result.now (numbered needles c.args.number) b is c.in-Some.ensures.lookup.3.0 (c.in-Some.ensures.lookup.3.1 0) in
    let e : next ≡ get_or table.nexts.items n 0 = get_or_read table.nexts.items n next (omega (arith, table.next_count, l)) c.index-other-in-loop-other.ensures 0 in
    let on : IsNextWith needles b (n + 1) next =
    rw e (table.linked n b (omega arith) (omega (arith, count, l)) (c.loop-other.invariant.begins (omega (arith, count, l)) ∙ first)) in
    let past : n + 1 ≤ next = on.low in
    let fewer : length vs - next < length vs - n = omega (arith, l, past) in
    fewer

pub loop-other-preserved : goal.loop-other-preserved
loop-other-preserved c =
    let ns = c.args.needles.now in
    let table = ns.prefilter.searcher.table in
    let vs = table.needles.items in
    let needles = needles_in vs in
    let owners = (owned_of ns).owners in
    let n = c.loop-other.other in
    let b = c.in-Some.first.now in
    let next = c.index-other-in-loop-other.result.now in
    let count : length needles ≡ length vs = needle_count vs in
    let l : n < length vs = omega (arith, c.loop-other-test.true, c.len.ensures) in
    let is = c.as_slice-needle.ensures.value ∙ numbered_in vs c.args.number c.index.result.now (omega (arith, count, c.requires.number)) c.index.ensures in
    let first : BeginsWithByte (numbered needles c.args.number) b =
    first_read c.as_slice-needle.result.now (numbered needles c.args.number) b is c.in-Some.ensures.lookup.3.0 (c.in-Some.ensures.lookup.3.1 0) in
    let e : next ≡ get_or table.nexts.items n 0 = get_or_read table.nexts.items n next (omega (arith, table.next_count, l)) c.index-other-in-loop-other.ensures 0 in
    let on : IsNextWith needles b (n + 1) next =
    rw e (table.linked n b (omega arith) (omega (arith, count, l)) (c.loop-other.invariant.begins (omega (arith, count, l)) ∙ first)) in
    let owner : c.index-in-loop-other.result.now ≡ slice_index owners n =
    get_or_read owners n c.index-in-loop-other.result.now (omega (arith, ns.each, count, l)) c.index-in-loop-other.ensures 0 in
    let here : AreRelated (numbered needles c.args.number) (numbered needles n) → Has c.args.set.now (slice_index owners n) =
    λ related. subst (Has c.args.set.now) owner (elim c.else-is_missing.branch [
      | else-is_missing-via-then-is_missing+else-are_related w ↦
          let other : w.as_slice.result.now ≡ numbered needles n = w.as_slice.ensures.value ∙ numbered_in vs n w.index-then-is_missing.result.now l w.index-then-is_missing.ensures in
          absurd (true≢false (sym (w.are_related.ensures (subst₂ AreRelated (sym is) (sym other) related)) ∙ w.if-are_related.false))
      | else-is_missing-via-else-is_missing w ↦ c.contains-is_missing.ensures.0 w.if-is_missing.false
    ]) in
    record {
      high = on.high;
      begins = λ m. on.begins m ∙ sym first;
      held = λ k below related.
          elim (cases_lt k n) [
            | inl h ↦ c.loop-other.invariant.held k h related
            | inr h ↦
                elim (cases_lt n k) [
                  | inl more ↦ elim (cases_lt k (length needles)) [
                    | inl there ↦ absurd (on.none_between k (omega (arith, more)) below
                        (related_first (numbered needles c.args.number) (numbered needles k) b related first (table.some k there)))
                    | inr past ↦ absurd (omega (arith, below, past, on.high))
                  ]
                  | inr less ↦
                      let same : n ≡ k = omega (arith, h, less) in
                      subst (λ z. Has c.args.set.now (slice_index owners z)) same (here (subst (λ z. AreRelated (numbered needles c.args.number) (numbered needles z)) (sym same) related))
                ]
          ];
    }

pub returns : goal.returns
returns c t k below related =
    let vs = c.args.needles.now.prefilter.searcher.table.needles.items in
    let count : length (needles_in vs) ≡ length vs = needle_count vs in
    c.loop-other.invariant.held k (omega (arith, count, below, c.loop-other-test.false, c.len.ensures)) related
