use Rattle.std.proofs.Common.{◌≡◌, length, reverse, slice_range, sym, subst, ap, ◌∙◌, refl, arith}
use Rattle.std.proofs.lemmas.List.{reverse-reverse}
use Rattle.rc_utf8.specs.Places.{places_of}
use Rattle.rc_determinize.specs.Sides.{holds_by}
use Rattle.rc_determinize.specs.Steps.{AreBelow, out_by}
use Rattle.rc_determinize.specs.States.{is_match}
use Rattle.rc_determinize.specs.Machine.{IsShut}
use Rattle.rc_determinize.proofs.PartedLemmas.{parts_out, parted_all, places_alone, meets_some, longer, parts_on, not_some}
use Rattle.rc_determinize.proofs.longest.close_groups.Goals as goal
use Rattle.rc_determinize.proofs.longest.close_groups.Goals.{In_ok-stack_up, In_ok-met}

pub groups-init : goal.groups-init
groups-init c =
    parts_out (out_by (places_of c.args.places.now) (holds_by c.args.behind c.args.ahead) c.args.after) (is_match (places_of c.args.places.now))
    (length c.args.places.now) c.args.list.now c.args.entered.now c.args.listed.now c.clear.new.self.items c.requires.entered c.requires.listed c.clear.ensures.items

turned : (c : In_ok-stack_up) → reverse c.stack_up.new.stack.items ≡ slice_range c.args.list.now c.groups.from c.group_end-end.result
turned c = ap (λ l. reverse l) c.in_ok-stack_up.ensures ∙ reverse-reverse (slice_range c.args.list.now c.groups.from c.group_end-end.result)

pub close-requires-clause-below : goal.close-requires-clause-below
close-requires-clause-below c =
    subst (λ l. AreBelow (length c.args.places.now) l) (sym (turned (goal.at.close-requires-clause-below c).In_ok-stack_up))
    (places_alone (length c.args.places.now) c.args.list.now c.groups.from c.group_end-end.result c.requires.below c.group_end-end.ensures.other)

-- the group was closed over
shut : (c : In_ok-met) → IsShut (out_by (places_of c.args.places.now) (holds_by c.args.behind c.args.ahead) c.args.after) (is_match (places_of c.args.places.now))
    (slice_range c.args.list.now c.groups.from c.group_end-end.result) c.groups.entered.items c.close.new.entered.items c.groups.listed.items c.close.new.listed.items c.in_ok-met.met
shut c =
    subst (λ l. IsShut (out_by (places_of c.args.places.now) (holds_by c.args.behind c.args.ahead) c.args.after) (is_match (places_of c.args.places.now))
    l c.groups.entered.items c.close.new.entered.items c.groups.listed.items c.close.new.listed.items c.in_ok-met.met)
    (ap (λ l. reverse l) c.in_ok-stack_up.ensures ∙ reverse-reverse (slice_range c.args.list.now c.groups.from c.group_end-end.result)) c.in_ok-met.ensures.shut

pub part_to-requires : goal.part_to-requires
part_to-requires c =
    longer (out_by (places_of c.args.places.now) (holds_by c.args.behind c.args.ahead) c.args.after) (is_match (places_of c.args.places.now))
    (length c.args.places.now) c.args.list.now c.groups.entered c.close.new.entered c.groups.listed c.close.new.listed c.groups.to.items _
    c.groups.from c.group_end-end.result c.len-before.result (slice_range c.args.list.now c.groups.from c.group_end-end.result) c.in_ok-met.met
    c.groups.invariant c.group_end-end.ensures.group (shut (goal.at.part_to-requires c).In_ok-met) c.len-before.ensures.value refl

pub returns-then-is_some-clause-parted : goal.returns-then-is_some-clause-parted
returns-then-is_some-clause-parted c =
    meets_some (out_by (places_of c.args.places.now) (holds_by c.args.behind c.args.ahead) c.args.after) (is_match (places_of c.args.places.now))
    (length c.args.places.now) c.args.list.now c.groups.entered c.close.new.entered c.groups.listed c.close.new.listed c.groups.to.items c.part_to.new.list.items
    c.groups.from c.group_end-end.result c.len-before.result (slice_range c.args.list.now c.groups.from c.group_end-end.result) c.in_ok-met.met
    c.groups.invariant c.group_end-end.ensures.group (shut (goal.at.returns-then-is_some-clause-parted c).In_ok-met) c.len-before.ensures.value c.in_ok-part_to.ensures
    (sym c.is_some.ensures ∙ c.if-is_some.true)

pub groups-preserved : goal.groups-preserved
groups-preserved c =
    parts_on (out_by (places_of c.args.places.now) (holds_by c.args.behind c.args.ahead) c.args.after) (is_match (places_of c.args.places.now))
    (length c.args.places.now) c.args.list.now c.groups.entered c.close.new.entered c.groups.listed c.close.new.listed c.groups.to.items c.part_to.new.list.items
    c.groups.from c.group_end-end.result c.len-before.result (slice_range c.args.list.now c.groups.from c.group_end-end.result) c.in_ok-met.met
    c.groups.invariant c.group_end-end.ensures.group (shut (goal.at.groups-preserved c).In_ok-met) c.len-before.ensures.value c.in_ok-part_to.ensures
    c.in_ok-met.ensures.sizes.0 c.in_ok-met.ensures.sizes.1 c.in_ok-met.ensures.few
    (not_some c.in_ok-met.met (sym c.is_some.ensures ∙ c.if-is_some.false))

pub returns-clause-parted : goal.returns-clause-parted
returns-clause-parted c =
    parted_all (out_by (places_of c.args.places.now) (holds_by c.args.behind c.args.ahead) c.args.after) (is_match (places_of c.args.places.now))
    (length c.args.places.now) c.args.list.now c.groups.entered c.groups.listed c.groups.to.items c.groups.from
    (let a = c.groups-test.false in omega (arith, a)) c.groups.invariant
