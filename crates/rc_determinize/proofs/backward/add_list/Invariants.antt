use Rattle.std.proofs.Common.{◌≡◌, drop}
use Rattle.rc_determinize.specs.Machine.{add_all}
use Rattle.rc_determinize.proofs.backward.add_list.Given as goal

abbrev pub invariant-loop-place : goal.invariant-loop-place
invariant-loop-place l =
    record l.set { items = add_all l.set.items (drop l.place-index l.list) }
    ≡ record l.fn.set { items = add_all l.fn.set.items l.list }
