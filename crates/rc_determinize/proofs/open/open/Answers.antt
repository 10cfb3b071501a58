use Rattle.std.proofs.Common.{subst, sym, inl, refl, map}
use Rattle.std.proofs.lemmas.List.{append-nil}
use Rattle.rc_program.specs.Laws.{targets}
use Rattle.rc_utf8.specs.Places.{way_of, place_of}
use Rattle.rc_determinize.specs.Steps.{AreBelow}
use Rattle.rc_determinize.proofs.OpenLemmas.{branch_targets, no_stays}
use Rattle.rc_determinize.proofs.open.open.Goals as goal

pub add-requires : goal.add-requires
add-requires c = subst (λ p. AreBelow c.args.listed.now.capacity (targets (place_of p))) c.in-Byte.is c.requires c.in-Byte.next (inl refl)

pub add-requires-then-has_byte : goal.add-requires-then-has_byte
add-requires-then-has_byte c =
    subst (λ p. AreBelow c.args.listed.now.capacity (targets (place_of p))) c.in-Bytes.is c.requires c.in-Bytes.next (inl refl)

pub add_ways-requires : goal.add_ways-requires
add_ways-requires c q h =
    subst (λ p. AreBelow c.args.listed.now.capacity (targets (place_of p))) c.in-Branch.is c.requires q (branch_targets c.in-Branch.ways.items q h)

pub returns-in-Some-after-clause-pushed : goal.returns-in-Some-after-clause-pushed
returns-in-Some-after-clause-pushed c =
    rw (c.in-Branch.is, c.in-Some-after.is, no_stays c.in-Some-after.found (map way_of c.in-Branch.ways.items)) (sym (append-nil c.args.stack.now.items))
