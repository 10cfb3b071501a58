use Rattle.std.proofs.Common.{◌+◌, ◌&&◌, ap₂, nat_le, slice_index_or, subst, sym, take}
use Rattle.std.proofs.lemmas.Simd.{map-map}
use Rattle.rc_pattern.specs.Meaning.{char_range}
use Rattle.rc_program.specs.Closing.{AreJoined}
use Rattle.rc_program.specs.Heads.{leads}
use Rattle.rc_program.specs.Program.{in_ranges}
use Rattle.rc_program.proofs.ClosingLemmas.{in_range, joined_range, joined_same}
use Rattle.rc_program.proofs.heads.fill_scalars.Goals as goal

pub loop-range-preserved : goal.loop-range-preserved
loop-range-preserved c =
    let rs = c.args.ranges.now in
    let i = c.loop-range.range-index in
    let begun = c.args.flags.now in
    let old = c.loop-range.flags in
    let new = c.fill.new.flags in
    subst (λ l. AreJoined 256 (in_ranges l) begun new) (sym (map-map leads char_range (take (i + 1) rs)))
    (joined_range 256 (λ r. leads (char_range r)) rs i (record { start = 0; end = 0 }) begun old new c.loop-range-test.true
    (subst (λ l. AreJoined 256 (in_ranges l) begun old) (map-map leads char_range (take i rs)) c.loop-range.invariant)
    (joined_same 256 (λ b. nat_le c.lead.result b && nat_le b c.lead-in-loop-range.result)
    (in_range (leads (char_range (slice_index_or rs i (record { start = 0; end = 0 }))))) old new
    (λ b small. ap₂ (λ x y. nat_le x b && nat_le b y) c.lead.ensures c.lead-in-loop-range.ensures) c.fill.ensures))
