use Rattle.std.proofs.Common.{◌+◌, ◌∙◌, ap, Some}
use Rattle.rc_literals.specs.Extraction.{greatest_whole, range_chars}
use Rattle.rc_needles.specs.Tables.{needles_in}
use Rattle.std.specs.Prelude.{encode_utf8}
use Rattle.rc_pattern.specs.Meaning.{char_range}
use Rattle.rc_literals.specs.Extraction.{filled}
use Rattle.rc_literals.proofs.ExtractionLemmas.{scalar_failed, scalar_passed, scalar_taken}
use Rattle.rc_literals.proofs.prefixes.add_chars.Goals.{in-Some+in_ok-add_needle+else-not-branch, in_default}
use Rattle.rc_literals.proofs.prefixes.add_chars.Goals as goal

pub returns-then-not-branch : goal.returns-then-not-branch
returns-then-not-branch c =
    scalar_failed greatest_whole (needles_in c.args.list.now.items) (needles_in c.loop-code.list.items) (needles_in c.add_needle.new.list.items)
    (Some (range_chars (char_range c.args.range))) _ c.loop-code.code (c.args.range.end + 1) _ c.loop-code-test.true c.in-Some.ensures.value.0
    (c.as_bytes-bytes.ensures.value ∙ c.encode_utf8.ensures.value ∙ ap encode_utf8 c.in-Some.ensures.value.1) c.loop-code.invariant
    c.in_ok-add_needle.ensures c.if-not-branch.true

pub loop-code-preserved : goal.loop-code-preserved
loop-code-preserved c =
    let begun = needles_in c.args.list.now.items in
    let old = needles_in c.loop-code.list.items in
    let whole = Some (range_chars (char_range c.args.range)) in
    let end = c.args.range.end + 1 in
    elim c.match-from_u32.branch [
      | in-Some+in_ok-add_needle+else-not-branch w ↦
          rw w.list-is (scalar_taken greatest_whole begun old (needles_in w.add_needle.new.list.items) whole _ c.loop-code.code end _ c.loop-code-test.true
          w.in-Some.ensures.value.0 (w.as_bytes-bytes.ensures.value ∙ w.encode_utf8.ensures.value ∙ ap encode_utf8 w.in-Some.ensures.value.1)
          c.loop-code.invariant w.in_ok-add_needle.ensures w.if-not-branch.false)
      | in_default w ↦
          rw w.list-is (c.loop-code.invariant ∙ ap (filled greatest_whole old) (scalar_passed c.loop-code.code end c.loop-code-test.true w.in_default.ensures.value))
    ]
