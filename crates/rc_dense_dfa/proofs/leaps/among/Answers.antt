use Rattle.std.proofs.Common.{refl}
use Rattle.rc_dense_dfa.specs.Cells.{dead}
use Rattle.rc_dense_dfa.proofs.LeapLemmas.{none_stay}
use Rattle.rc_dense_dfa.proofs.leaps.among.Goals as goal

pub loop-byte-init : goal.loop-byte-init
loop-byte-init c = record { long = refl; told = none_stay dead c.args.classes.now c.args.cells.now c.args.row c.args.other 256 }
