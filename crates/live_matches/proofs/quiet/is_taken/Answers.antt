use Rattle.std.proofs.Common.{◌<◌, ◌≤◌, None, subst, arith}
use Rattle.std.specs.Prelude.{IfSome}
use Rattle.live_matches.specs.Entry.{Entry}
use Rattle.live_matches.specs.Entries.{last_end, reach_of}
use Rattle.live_matches.specs.Lists.{Meets, place_of}
use Rattle.live_matches.specs.Stretches.{IsQuiet}
use Rattle.live_matches.proofs.Stretched.{come_behind, first_behind}
use Rattle.live_matches.proofs.quiet.is_taken.Goals as goal

pub returns : goal.returns
returns c kind s content other free taken start quiet meets =
    let t = c.args.stretch in
    let es = c.args.entries.now.after in
    let last = last_end None c.args.entries.now.before in
    let q = c.in-Some.place in
    let behind = first_behind t.end t.reach es
    (subst (λ o. IfSome o (λ (e : Entry). (t.end ≤ e.found.start) × (t.reach ≤ reach_of e))) c.get_after.ensures (c.begins_behind.ensures taken)) in
    let far : place_of last < t.end = omega (arith, c.if-stretch.false, start) in
    come_behind kind s other free content last t.end t.reach far
    (subst (λ j. IsQuiet kind s content t.reach j t.end) start quiet) q es (omega (arith, c.if-stretch-place.false)) behind.0 behind.1
    (subst (λ m. Meets kind s content m es) c.in-Some.is meets)
