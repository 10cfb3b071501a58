use Rattle.std.proofs.Common.{◌≡◌, ◌+◌, ◌<◌, ◌≤◌, ◌≢◌, ℕ, arith, inl, inr, length, ap, ◌∙◌}
use Rattle.std.proofs.lemmas.Bool.{cases_lt}
use Rattle.std.proofs.lemmas.Bool.Decides.{nat_tests}
use Rattle.rc_needles.specs.Tables.{needles_in, numbered}
use Rattle.rc_needles.proofs.FindLemmas.{keeps_on}
use Rattle.rc_needles.proofs.StandLemmas.{numbered_in, needle_count}
use Rattle.rc_needles.proofs.LongLemmas.{IsReadTo, read_step, whole_found, read_to_end}
use Rattle.rc_needles.proofs.long.find_long.Goals as goal

pub returns-then-state-needle-clause-value : goal.returns-then-state-needle-clause-value
returns-then-state-needle-clause-value g c =
    let vs = c.args.searcher.now.table.needles.items in
    let needles = needles_in vs in
    let content = c.args.input.now.content in
    let loop = c.loop-at in
    let to = c.next_place-at.result in
    let reading = c.read_on-reading.result in
    let one : length needles ≡ 1 = c.requires.long.one in
    let own : c.as_slice-needle.result.now ≡ numbered needles 0 = c.as_slice-needle.ensures.value ∙ numbered_in vs 0 c.index.result.now (omega (arith, one, needle_count vs)) c.index.ensures in
    let same : loop.input.content ≡ content = loop.invariant.keeps.content in
    let also : c.next_place-at.new.input.content ≡ content = c.next_place-at.ensures.keeps.content ∙ same in
    let read : IsReadTo needles content c.args.end c.args.from (to + reading.len) reading.state =
    read_step needles content loop.input.content c.next_place-at.new.input.content c.piece_from-piece.result.now c.as_slice-needle.result.now
    c.args.end c.args.from loop.at loop.state to reading.len reading.state one same also own loop.invariant.read c.next_place-at.ensures.low
    c.next_place-at.ensures.stays c.next_place-at.ensures.passed c.piece_from-piece.ensures.bytes c.read_on-reading.ensures.within c.read_on-reading.ensures.goes_on in
    let is = c.if-state-needle.true in
    let long = ap length own in
    let whole : reading.state ≡ length (numbered needles 0) = grind (arith, nat_tests) in
    let high = c.read_on-reading.ensures.goes_on.high in
    let within : to + reading.len ≤ c.args.end =
    omega (arith, c.piece_from-piece.ensures.within, c.read_on-reading.ensures.within, high, whole, loop.invariant.short) in
    whole_found needles content c.args.end c.args.from (to + reading.len) reading.state one c.requires.inside within whole read

pub loop-at-preserved : goal.loop-at-preserved
loop-at-preserved g c =
    let vs = c.args.searcher.now.table.needles.items in
    let needles = needles_in vs in
    let content = c.args.input.now.content in
    let loop = c.loop-at in
    let to = c.next_place-at.result in
    let reading = c.read_on-reading.result in
    let one : length needles ≡ 1 = c.requires.long.one in
    let own : c.as_slice-needle.result.now ≡ numbered needles 0 = c.as_slice-needle.ensures.value ∙ numbered_in vs 0 c.index.result.now (omega (arith, one, needle_count vs)) c.index.ensures in
    let same : loop.input.content ≡ content = loop.invariant.keeps.content in
    let also : c.next_place-at.new.input.content ≡ content = c.next_place-at.ensures.keeps.content ∙ same in
    let isnt = c.if-state-needle.false in
    let long = ap length own in
    let other : reading.state ≢ length (numbered needles 0) = λ e. grind (arith, nat_tests) in
    let high = c.read_on-reading.ensures.goes_on.high in
    let inside = c.read_on-reading.ensures.goes_on.within in
    let next = keeps_on c.args.input.now loop.input c.next_place-at.new.input loop.invariant.keeps c.next_place-at.ensures.keeps in
    record {
      keeps = keeps_on c.args.input.now c.next_place-at.new.input c.piece_from-piece.follows.lender-at-none next c.piece_from-piece.follows.holds-at-none;
      short = below reading.state (length (numbered needles 0)) other (omega (arith, high, inside, long));
      read = read_step needles content loop.input.content c.next_place-at.new.input.content c.piece_from-piece.result.now c.as_slice-needle.result.now
          c.args.end c.args.from loop.at loop.state to reading.len reading.state one same also own loop.invariant.read c.next_place-at.ensures.low
          c.next_place-at.ensures.stays c.next_place-at.ensures.passed c.piece_from-piece.ensures.bytes c.read_on-reading.ensures.within c.read_on-reading.ensures.goes_on;
    }
  where
    below : (a b : ℕ) → a ≢ b → a ≤ b → a < b
    below a b other le = elim (cases_lt a b) [
      | inl l ↦ l
      | inr g ↦ absurd (other (omega (arith, g, le)))
    ]

pub returns-clause-value : goal.returns-clause-value
returns-clause-value g c =
    let needles = needles_in c.args.searcher.now.table.needles.items in
    read_to_end needles c.args.input.now.content c.args.end c.args.from c.loop-at.at c.loop-at.state c.requires.long.one c.loop-at.invariant.short
    (omega (arith, c.loop-at-test.false)) c.loop-at.invariant.read
