use Rattle.std.proofs.Common.{rules, ◌≡◌, ◌+◌, ◌∙◌, ℕ, ap, sym, subst, take, arith, slice_range, length-set}
use Rattle.rc_text.proofs.Ranges.{past_of_none}
use Rattle.rc_program.specs.Scalars.{scalar_at}
use Rattle.oracle_walker.proofs.TextLemmas.{reads_more, first_four}
use Rattle.oracle_walker.proofs.ways.next_scalar.Goals as goal
use Rattle.oracle_walker.proofs.ways.next_scalar.Goals.{in-Some, in_default}

pub loop-len-preserved : goal.loop-len-preserved
loop-len-preserved g c =
    let content = c.args.input.now.content in
    let same = c.loop-len.invariant.keeps.content in
    record {
      keeps = search rules;
      long = elim c.match-byte_at.branch [
        | in-Some w ↦ rw (w.bytes-is, length-set) c.loop-len.invariant.long
        | in_default w ↦ rw w.bytes-is c.loop-len.invariant.long
      ];
      bytes = elim c.match-byte_at.branch [
        | in-Some w ↦ rw (w.bytes-is) (reads_more content c.loop-len.bytes c.args.position c.loop-len.len w.in-Some.byte
            c.loop-len.invariant.bytes (omega (arith, c.loop-len.invariant.long, c.loop-len-test.true, c.min-count.ensures)) (rw (same, w.in-Some.is) at c.byte_at.ensures.value))
        | in_default w ↦ absurd (let past = past_of_none content (c.args.position + c.loop-len.len) (sym (rw (same, w.in_default.is) at c.byte_at.ensures.value)) in
            omega (arith, past, c.requires, c.loop-len-test.true, c.min-count.ensures, c.saturating_sub.ensures))
      ];
    }

pub returns-clause-value : goal.returns-clause-value
returns-clause-value g c =
    let content = c.args.input.now.content in
    let count = c.min-count.result in
    let e : c.loop-len.len ≡ count = omega (arith, c.loop-len-test.false, c.loop-len.auto.len-end) in
    let bytes : take count c.loop-len.bytes ≡ slice_range content c.args.position (c.args.position + count) =
    subst (λ (n : ℕ). take n c.loop-len.bytes ≡ slice_range content c.args.position (c.args.position + n)) e c.loop-len.invariant.bytes in
    c.scalar_at.ensures ∙ ap scalar_at bytes
    ∙ (rw (c.min-count.ensures, c.saturating_sub.ensures) (first_four content c.args.position c.args.hi))
