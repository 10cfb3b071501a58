use Rattle.std.proofs.Common.{arith, ◌≡◌, ◌+◌, ◌-◌, ◌<◌, length, length-set, sym, ap, subst, ◌∙◌, set, slice_get, slice_index}
use Rattle.std.proofs.lemmas.List.{get_or_read}
use Rattle.rc_needles.specs.Tables.{needles_in, numbered, BeginsWithByte, AreHeads, AreNexts}
use Rattle.rc_needles.specs.Tries.{AreCarriedBy}
use Rattle.rc_needles.proofs.StandLemmas.{numbered_in, needle_count}
use Rattle.rc_needles.proofs.ScanLemmas.{begins_itself}
use Rattle.rc_needles.proofs.TableLemmas.{one_more_head, one_more_next}
use Rattle.rc_needles.proofs.table.table_of.Goals as goal

pub first_of-byte-requires : goal.first_of-byte-requires
first_of-byte-requires c =
    let vs = c.args.needles.items in
    let n = c.loop-number.number - 1 in
    let l : n < length vs = omega (arith, c.loop-number-test.true, c.loop-number.invariant.within) in
    let w : c.index.result.now.items ≡ numbered (needles_in vs) n = numbered_in vs n c.index.result.now l c.index.ensures in
    let some : 0 < length (numbered (needles_in vs) n) = c.requires n (omega (arith, l, needle_count vs)) in
    let read : length c.as_slice.result.now ≡ length (numbered (needles_in vs) n) = ap length (c.as_slice.ensures.value ∙ w) in
    omega (arith, read, some)

pub loop-number-preserved : goal.loop-number-preserved
loop-number-preserved c =
    let vs = c.args.needles.items in
    let needles = needles_in vs in
    let heads = c.loop-number.heads.items in
    let nexts = c.loop-number.nexts.items in
    let n = c.loop-number.number - 1 in
    let e : c.loop-number.number ≡ n + 1 = omega (arith, c.loop-number-test.true) in
    let count = needle_count vs in
    let l : n < length vs = omega (arith, c.loop-number-test.true, c.loop-number.invariant.within) in
    let m : n < length needles = omega (arith, l, count) in
    let w : c.as_slice.result.now ≡ numbered needles n = c.as_slice.ensures.value ∙ numbered_in vs n c.index.result.now l c.index.ensures in
    let bytes = c.as_slice.result.now in
    let a = c.first_of-byte.result in
    let small : a < 256 = c.first_of-byte.ensures.small in
    let begins : BeginsWithByte (numbered needles n) a =
    rw c.first_of-byte.ensures.value (ap (λ xs. slice_get xs 0) (sym w) ∙ begins_itself bytes (let some : 0 < length (numbered needles n) = c.requires n m in let long = ap length w in omega (arith, long, some))) in
    let next = c.index-in-loop-number.result.now in
    let is : next ≡ slice_index heads a = get_or_read heads a next (omega (arith, c.loop-number.invariant.head_count, small)) c.index-in-loop-number.ensures 0 in
    let headed : AreHeads needles (n + 1) heads = subst (λ k. AreHeads needles k heads) e c.loop-number.invariant.headed in
    let linked : AreNexts needles (n + 1) nexts = subst (λ k. AreNexts needles k nexts) e c.loop-number.invariant.linked in
    let long : length nexts ≡ length needles = c.loop-number.invariant.next_count ∙ sym count in
    record {
      within = omega arith;
      head_count = length-set heads a n ∙ c.loop-number.invariant.head_count;
      next_count = length-set nexts n next ∙ c.loop-number.invariant.next_count;
      headed = one_more_head needles heads n a c.loop-number.invariant.head_count small m begins headed;
      linked = subst (λ k. AreNexts needles n (set nexts n k)) (sym is) (one_more_next needles heads nexts n a long small m begins headed linked);
    }

pub invariant_of-result : goal.invariant_of-result
invariant_of-result c =
    let vs = c.args.needles.items in
    let e : c.loop-number.number ≡ 0 = omega arith in
    record {
      some = c.requires;
      head_count = c.loop-number.invariant.head_count;
      next_count = c.loop-number.invariant.next_count;
      headed = subst (λ n. AreHeads (needles_in vs) n c.loop-number.heads.items) e c.loop-number.invariant.headed;
      linked = subst (λ n. AreNexts (needles_in vs) n c.loop-number.nexts.items) e c.loop-number.invariant.linked;
      carried = subst (λ ws. AreCarriedBy c.in_ok-trie.trie (needles_in ws)) c.deref.ensures.value c.in_ok-trie.ensures;
    }
