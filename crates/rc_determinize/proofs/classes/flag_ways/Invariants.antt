use Rattle.std.proofs.Common.{map, take}
use Rattle.std.specs.List.{list_any}
use Rattle.rc_program.specs.Closing.{AreJoined}
use Rattle.rc_utf8.specs.declared.place.ByteWay.{ByteWay}
use Rattle.rc_determinize.specs.Classes.{parts}
use Rattle.rc_determinize.proofs.classes.flag_ways.Given as goal

abbrev pub invariant-loop-way : goal.invariant-loop-way
invariant-loop-way l =
    AreJoined 255 (λ b. list_any (parts b) (map (λ (w : ByteWay). (w.first, w.last)) (take l.way-index l.ways.items))) l.fn.borders l.borders
