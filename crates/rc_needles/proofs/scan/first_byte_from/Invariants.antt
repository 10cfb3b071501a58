use Rattle.std.proofs.Common.{◌<◌, length, slice_index}
use Rattle.memchr.specs.Find.{Nowhere}
use Rattle.rc_needles.proofs.scan.first_byte_from.Given as goal

abbrev pub invariant-loop-byte : goal.invariant-loop-byte
invariant-loop-byte l = Nowhere (λ b. slice_index l.table.heads.items b < length l.table.needles.items) l.from l.byte
