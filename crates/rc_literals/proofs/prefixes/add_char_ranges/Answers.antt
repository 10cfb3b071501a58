use Rattle.std.proofs.Common.{◌∙◌, ap, sym, refl, Some}
use Rattle.rc_literals.specs.Extraction.{greatest_whole, grown, range_chars}
use Rattle.rc_needles.specs.Tables.{needles_in}
use Rattle.rc_pattern.specs.Meaning.{char_range}
use Rattle.rc_literals.proofs.ExtractionLemmas.{each_some, turn_failed, turn_taken, turns_done}
use Rattle.rc_literals.proofs.prefixes.add_char_ranges.Goals as goal

pub returns-then-not-branch : goal.returns-then-not-branch
returns-then-not-branch c =
    let begun = needles_in c.args.list.now.items in
    ap (grown greatest_whole begun) (sym (each_some char_range range_chars c.args.ranges.now))
    ∙ turn_failed greatest_whole (λ r. Some (range_chars (char_range r))) begun (needles_in c.loop-range.list.items) (needles_in c.add_chars.new.list.items) c.args.ranges.now
    c.loop-range.range-index _ _ _ c.loop-range-test.true refl c.loop-range.invariant c.in_ok-add_chars.ensures c.if-not-branch.true

pub loop-range-preserved : goal.loop-range-preserved
loop-range-preserved c =
    turn_taken greatest_whole (λ r. Some (range_chars (char_range r))) (needles_in c.args.list.now.items) (needles_in c.loop-range.list.items)
    (needles_in c.add_chars.new.list.items) c.args.ranges.now c.loop-range.range-index _ _ _ c.loop-range-test.true refl c.loop-range.invariant
    c.in_ok-add_chars.ensures c.if-not-branch.false

pub returns : goal.returns
returns c =
    let begun = needles_in c.args.list.now.items in
    ap (grown greatest_whole begun) (sym (each_some char_range range_chars c.args.ranges.now))
    ∙ turns_done greatest_whole (λ r. Some (range_chars (char_range r))) begun (needles_in c.loop-range.list.items) c.args.ranges.now c.loop-range.range-index
    c.loop-range-test.false c.loop-range.invariant
