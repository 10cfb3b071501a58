use Rattle.std.proofs.Common.{◌≡◌, drop, map}
use Rattle.rc_program.specs.Program.{branch_ways}
use Rattle.rc_utf8.specs.Places.{way_of}
use Rattle.rc_determinize.specs.Machine.{read_places, add_all}
use Rattle.rc_determinize.proofs.open.add_ways.Given as goal

abbrev pub invariant-loop-way : goal.invariant-loop-way
invariant-loop-way l =
    record l.listed { items = add_all l.listed.items (read_places (branch_ways l.byte (map way_of (drop l.way-index l.ways.items)))) }
    ≡ record l.fn.listed { items = add_all l.fn.listed.items (read_places (branch_ways l.byte (map way_of l.ways.items))) }
