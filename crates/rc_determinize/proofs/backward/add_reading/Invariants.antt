use Rattle.std.proofs.Common.{◌≡◌, drop}
use Rattle.rc_determinize.specs.Machine.{add_all}
use Rattle.rc_determinize.specs.Reversed.{reads_over, sources}
use Rattle.rc_determinize.proofs.backward.add_reading.Given as goal

abbrev pub invariant-loop-edge : goal.invariant-loop-edge
invariant-loop-edge l =
    record l.set { items = add_all l.set.items (sources (reads_over l.byte) (drop l.edge-index l.edges.items)) }
    ≡ record l.fn.set { items = add_all l.fn.set.items (sources (reads_over l.byte) l.edges.items) }
