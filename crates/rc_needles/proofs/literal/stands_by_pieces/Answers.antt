use Rattle.std.proofs.Common.{rules, arith, ◌≡◌, ◌+◌, ◌-◌, ◌≤◌, true, false, length, sym, ◌∙◌, slice_range, take, drop, subst}
use Rattle.std.proofs.lemmas.Bool.Decides.{nat_tests}
use Rattle.std.specs.Prelude.{bytes_eq}
use Rattle.std.proofs.lemmas.List.{take_all}
use Rattle.std.proofs.lemmas.Slice.Eq.{bytes_eq-Decides}
use Rattle.rc_needles.proofs.RangeLemmas.{one_more_piece, other_piece}
use Rattle.rc_needles.proofs.StandLemmas.{false_if_not}
use Rattle.rc_needles.proofs.literal.stands_by_pieces.Goals as goal

pub returns-then-ne-clause-value : goal.returns-then-ne-clause-value
returns-then-ne-clause-value g c =
    let content = c.args.input.now.content in
    let needle = c.args.needle.now in
    let piece = c.piece_from.result.now in
    let at = c.args.at in
    let done = c.loop-done.done in
    let same = c.loop-done.invariant.keeps.content in
    let long : at + done + length piece ≤ c.args.to = omega (arith, c.piece_from.ensures.within, c.loop-done.invariant.within) in
    let is : piece ≡ slice_range content (at + done) (at + done + length piece) = rw (← same) c.piece_from.ensures.bytes in
    let e : bytes_eq piece (take (done + length piece - done) (drop done needle)) ≡ false = grind (arith, nat_tests) in
    sym (false_if_not (bytes_eq (slice_range content at (at + length needle)) needle)
    (λ t. other_piece content needle piece at done is (omega (arith, long)) e
    ((bytes_eq-Decides (slice_range content at (at + length needle)) needle).0 t)))

pub loop-done-preserved : goal.loop-done-preserved
loop-done-preserved g c =
    let content = c.args.input.now.content in
    let needle = c.args.needle.now in
    let piece = c.piece_from.result.now in
    let at = c.args.at in
    let done = c.loop-done.done in
    let same = c.loop-done.invariant.keeps.content in
    let long : at + done + length piece ≤ c.args.to = omega (arith, c.piece_from.ensures.within, c.loop-done.invariant.within) in
    let is : piece ≡ slice_range content (at + done) (at + done + length piece) = rw (← same) c.piece_from.ensures.bytes in
    let e : bytes_eq piece (take (done + length piece - done) (drop done needle)) ≡ true = grind (arith, nat_tests) in
    record {
      keeps = search rules;
      within = omega (arith, long);
      same = one_more_piece content needle piece at done is c.loop-done.invariant.same e;
    }

pub returns-clause-value : goal.returns-clause-value
returns-clause-value g c =
    let content = c.args.input.now.content in
    let needle = c.args.needle.now in
    let done = c.loop-done.done in
    let e : done ≡ length needle = omega (arith, c.loop-done.invariant.within) in
    let same : slice_range content c.args.at (c.args.at + length needle) ≡ needle =
    subst (λ n. slice_range content c.args.at (c.args.at + n) ≡ take n needle) e c.loop-done.invariant.same ∙ take_all (length needle) needle (omega arith) in
    sym ((bytes_eq-Decides (slice_range content c.args.at (c.args.at + length needle)) needle).1 same)
