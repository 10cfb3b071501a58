use Rattle.std.proofs.Common.{◌+◌, ◌∷◌, [], subst, Some}
use Rattle.rc_literals.specs.Extraction.{Extends, greatest_whole, range_bytes}
use Rattle.rc_needles.specs.Tables.{needles_in}
use Rattle.rc_pattern.specs.Meaning.{byte_range}
use Rattle.rc_literals.proofs.ExtractionLemmas.{number_failed, number_taken}
use Rattle.rc_literals.proofs.prefixes.add_bytes.Goals as goal

pub returns-then-not-branch : goal.returns-then-not-branch
returns-then-not-branch c =
    number_failed greatest_whole (needles_in c.args.list.now.items) (needles_in c.loop-byte.list.items) (needles_in c.add_needle.new.list.items)
    (Some (range_bytes (byte_range c.args.range))) (λ b. b ∷ []) c.loop-byte.byte (c.args.range.end + 1) c.loop-byte-test.true c.loop-byte.invariant
    (subst (λ d. Extends greatest_whole d (needles_in c.loop-byte.list.items) (needles_in c.add_needle.new.list.items) (Some ((c.loop-byte.byte ∷ []) ∷ [])))
    c.if-not-branch.true c.in_ok-add_needle.ensures)

pub loop-byte-preserved : goal.loop-byte-preserved
loop-byte-preserved c =
    number_taken greatest_whole (needles_in c.args.list.now.items) (needles_in c.loop-byte.list.items) (needles_in c.add_needle.new.list.items)
    (Some (range_bytes (byte_range c.args.range))) (λ b. b ∷ []) c.loop-byte.byte (c.args.range.end + 1) c.loop-byte-test.true c.loop-byte.invariant
    (subst (λ d. Extends greatest_whole d (needles_in c.loop-byte.list.items) (needles_in c.add_needle.new.list.items) (Some ((c.loop-byte.byte ∷ []) ∷ [])))
    c.if-not-branch.false c.in_ok-add_needle.ensures)
