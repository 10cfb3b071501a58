use Rattle.std.proofs.Common.{arith, ◌≡◌, ◌+◌, ◌<◌, ◌≤◌, ◌∙◌, ap, length, refl, slice_range, sym, Some, None}
use Rattle.rc_needles.specs.Needles.{needle_at}
use Rattle.rc_needles.specs.Tables.{needles_in, numbered}
use Rattle.rc_needles.proofs.FindLemmas.{first_found, first_in_piece, keeps_on, more_before, needle_within, none_found, one_more_start, same_at}
use Rattle.rc_needles.proofs.StandLemmas.{needle_count, numbered_in}
use Rattle.rc_needles.proofs.literal.find_by_trie.Goals as goal

pub returns-then-seen-len-clause-value : goal.returns-then-seen-len-clause-value
returns-then-seen-len-clause-value g c =
    let vs = c.args.table.now.needles.items in
    let needles = needles_in vs in
    let content = c.args.input.now.content in
    let lo = c.args.from in
    let hi = c.args.end in
    let at = c.loop-at.at in
    let seen = c.candidate_in-seen.result in
    let piece = c.piece_from-piece.result.now in
    let same : c.loop-at.input.content ≡ content = c.loop-at.invariant.keeps.content in
    let is : piece ≡ slice_range content at (at + length piece) = rw (← same) c.piece_from-piece.ensures.bytes in
    let within : at + length piece ≤ hi = omega (arith, c.piece_from-piece.ensures.within, c.loop-at-test.true) in
    let l : seen.number < length vs = omega (arith, c.if-seen-len.true, c.len.ensures) in
    let long : length c.as_slice.result.now ≡ length (numbered needles seen.number) =
    ap length (c.as_slice.ensures.value ∙ numbered_in vs seen.number c.index.result.now l c.index.ensures) in
    let here = first_in_piece needles content piece hi at seen.passed seen.number is within (omega (arith, l, needle_count vs)) (c.candidate_in-seen.ensures.first l) in
    rw long
    (first_found needles content lo hi (at + seen.passed) (record { start = at + seen.passed; end = at + seen.passed + length (numbered needles seen.number); number = seen.number })
    (omega (arith, c.loop-at.invariant.from)) (omega (arith, within, c.candidate_in-seen.ensures.within))
    (more_before needles content piece hi lo at seen.passed c.loop-at.invariant.none_before is c.candidate_in-seen.ensures.passed) here)

pub returns-in-Some-clause-value : goal.returns-in-Some-clause-value
returns-in-Some-clause-value g c =
    let needles = needles_in c.args.table.now.needles.items in
    let content = c.args.input.now.content in
    let lo = c.args.from in
    let hi = c.args.end in
    let at = c.loop-at.at in
    let seen = c.candidate_in-seen.result in
    let piece = c.piece_from-piece.result.now in
    let same : c.loop-at.input.content ≡ content = c.loop-at.invariant.keeps.content in
    let is : piece ≡ slice_range content at (at + length piece) = rw (← same) c.piece_from-piece.ensures.bytes in
    let within : at + length piece ≤ hi = omega (arith, c.piece_from-piece.ensures.within, c.loop-at-test.true) in
    let before = c.piece_from-piece.follows.lender-at-none in
    let text : before.content ≡ content = c.piece_from-piece.follows.holds-at-none.content ∙ same in
    let here : Some c.in-Some.hit ≡ needle_at needles content hi (at + seen.passed) = sym c.in-Some.is ∙ c.needle_there.ensures.value
    ∙ same_at needles before.content content hi hi (at + seen.passed) (at + seen.passed) text refl refl in
    first_found needles content lo hi (at + seen.passed) c.in-Some.hit
    (omega (arith, c.loop-at.invariant.from)) (omega (arith, within, c.candidate_in-seen.ensures.within))
    (more_before needles content piece hi lo at seen.passed c.loop-at.invariant.none_before is c.candidate_in-seen.ensures.passed) here

pub returns-in-Some-clause-within : goal.returns-in-Some-clause-within
returns-in-Some-clause-within g c =
    let needles = needles_in c.args.table.now.needles.items in
    let x = c.loop-at.at + c.candidate_in-seen.result.passed in
    let r = needle_within needles c.piece_from-piece.follows.lender-at-none.content c.args.end x c.in-Some.hit c.args.table.now.some
    (sym c.in-Some.is ∙ c.needle_there.ensures.value) in
    (omega (arith, r.0, c.loop-at.invariant.from), omega (arith, r.0, r.1), r.2)

pub loop-at-preserved-then-seen-len-2 : goal.loop-at-preserved-then-seen-len-2
loop-at-preserved-then-seen-len-2 g c =
    let needles = needles_in c.args.table.now.needles.items in
    let content = c.args.input.now.content in
    let hi = c.args.end in
    let at = c.loop-at.at in
    let x = at + c.candidate_in-seen.result.passed in
    let piece = c.piece_from-piece.result.now in
    let same : c.loop-at.input.content ≡ content = c.loop-at.invariant.keeps.content in
    let is : piece ≡ slice_range content at (at + length piece) = rw (← same) c.piece_from-piece.ensures.bytes in
    let before = c.piece_from-piece.follows.lender-at-none in
    let text : before.content ≡ content = c.piece_from-piece.follows.holds-at-none.content ∙ same in
    let none : needle_at needles content hi x ≡ None =
    sym (sym c.in_default.is ∙ c.needle_there.ensures.value ∙ same_at needles before.content content hi hi x x text refl refl) in
    record {
      keeps = keeps_on c.args.input.now before c.needle_there.new.input
          (keeps_on c.args.input.now c.loop-at.input before c.loop-at.invariant.keeps c.piece_from-piece.follows.holds-at-none) c.needle_there.ensures.keeps;
      from = omega (arith, c.loop-at.invariant.from);
      none_before = one_more_start needles content c.args.from hi x
          (more_before needles content piece hi c.args.from at c.candidate_in-seen.result.passed c.loop-at.invariant.none_before is c.candidate_in-seen.ensures.passed) none;
    }

pub loop-at-preserved : goal.loop-at-preserved
loop-at-preserved g c =
    let needles = needles_in c.args.table.now.needles.items in
    let content = c.args.input.now.content in
    let at = c.loop-at.at in
    let piece = c.piece_from-piece.result.now in
    let same : c.loop-at.input.content ≡ content = c.loop-at.invariant.keeps.content in
    let is : piece ≡ slice_range content at (at + length piece) = rw (← same) c.piece_from-piece.ensures.bytes in
    record {
      keeps = keeps_on c.args.input.now c.loop-at.input c.piece_from-piece.follows.lender-at-none c.loop-at.invariant.keeps c.piece_from-piece.follows.holds-at-none;
      from = omega (arith, c.loop-at.invariant.from);
      none_before = more_before needles content piece c.args.end c.args.from at c.candidate_in-seen.result.passed c.loop-at.invariant.none_before is c.candidate_in-seen.ensures.passed;
    }

pub returns-clause-value : goal.returns-clause-value
returns-clause-value g c =
    let table = c.args.table.now in
    none_found (needles_in table.needles.items) c.args.input.now.content c.args.from c.args.end 0 c.loop-at.at table.some
    (omega (arith, c.loop-at-test.false)) c.loop-at.invariant.none_before
