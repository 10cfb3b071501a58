use Rattle.std.proofs.Common.{◌+◌, length, refl, sym, subst, ap}
use Rattle.std.proofs.lemmas.List.{length-map}
use Rattle.rc_utf8.specs.Places.{place_of, places_of}
use Rattle.rc_determinize.specs.Places.{state_of}
use Rattle.rc_determinize.specs.Sides.{out_over}
use Rattle.rc_determinize.specs.Sparse.{Members}
use Rattle.rc_determinize.specs.States.{is_match}
use Rattle.rc_determinize.specs.Steps.{AreBelow}
use Rattle.rc_determinize.specs.Longest.{groups_of}
use Rattle.rc_determinize.specs.Machine.{IsParted}
use Rattle.rc_determinize.proofs.PartedLemmas.{made}
use Rattle.rc_determinize.proofs.longest.next_longest.Goals as goal

pub close_groups-requires-clause-below : goal.close_groups-requires-clause-below
close_groups-requires-clause-below c = subst (λ l. AreBelow (length c.args.places.now + 1) l) (sym c.deref.ensures.value) c.requires.below

pub returns-clause-next : goal.returns-clause-next
returns-clause-next c =
    made (places_of c.args.places.now) c.args.root (state_of c.args.from.now) c.args.sides
    (state_of (record { list = c.part_to.new.list; beside = c.args.sides.far; goes_on = c.goes_on-goes_on.result; matched = c.in_ok-matched.matched }))
    (length c.args.places.now) c.close_groups.new.listed.items c.add_root.new.listed.items c.close_groups.new.to.items c.len-before.result
    (length-map c.args.places.now place_of)
    (subst (λ l. IsParted (out_over (places_of c.args.places.now) c.args.from.now.beside c.args.sides)
    (is_match (places_of c.args.places.now)) (length c.args.places.now) (groups_of (length c.args.places.now) l) c.close_groups.new.listed.items c.close_groups.new.to.items c.in_ok-matched.matched)
    c.deref.ensures.value c.in_ok-matched.ensures.parted)
    c.goes_on-goes_on.ensures
    (ap (λ (m : Members). m.items) c.add_root.ensures)
    c.len-before.ensures.value
    c.in_ok-part_to.ensures
    refl
