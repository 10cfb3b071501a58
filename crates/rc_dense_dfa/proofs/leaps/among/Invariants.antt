use Rattle.std.proofs.Common.{◌≡◌, length}
use Rattle.rc_dense_dfa.specs.Cells.{dead}
use Rattle.rc_dense_dfa.specs.Exits.{AreStays}
use Rattle.rc_dense_dfa.proofs.leaps.among.Given as goal

abbrev pub invariant-loop-byte : goal.invariant-loop-byte
invariant-loop-byte l = record { long : length l.stays ≡ 256; told : AreStays dead l.classes l.cells l.row l.other l.stays }
