use Rattle.std.proofs.Common.{◌∙◌, ◌<◌, arith, false, length-set, refl, set, slice_index_or}
use Rattle.std.specs.Prelude.{nat_eq}
use Rattle.rc_literals.specs.Stops.{among}
use Rattle.rc_literals.proofs.LeaveLemmas.{any_reads, each_byte, leaves_alike, one_out, turn_done, turns_end}
use Rattle.rc_literals.proofs.stops.pass_bytes.Goals as goal

pub loop-byte-preserved : goal.loop-byte-preserved
loop-byte-preserved c =
    let table = c.loop-byte.table in
    let index = c.loop-byte.byte-index in
    let byte = slice_index_or c.args.bytes.now index 0 in
    let small : byte < 256 = omega (arith, c.type_inv.bytes index) in
    record {
      long = length-set table byte false ∙ c.loop-byte.invariant.long;
      left = turn_done nat_eq c.args.table.now table (set table byte false) c.args.bytes.now index byte 0 c.loop-byte-test.true refl
          c.loop-byte.invariant.left (λ b. one_out table byte b (omega (arith, small, c.loop-byte.invariant.long)));
    }

pub returns : goal.returns
returns c =
    leaves_alike c.args.table.now c.loop-byte.table (any_reads nat_eq c.args.bytes.now) (among c.args.bytes.now) (each_byte c.args.bytes.now)
    (turns_end nat_eq c.args.table.now c.loop-byte.table c.args.bytes.now c.loop-byte.byte-index c.loop-byte-test.false c.loop-byte.invariant.left)
