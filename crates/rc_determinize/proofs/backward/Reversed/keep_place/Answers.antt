use Rattle.std.proofs.Common.{◌<◌, subst, sym, inl, inr, refl, length}
use Rattle.rc_program.specs.Laws.{targets}
use Rattle.rc_utf8.specs.Places.{place_of}
use Rattle.rc_determinize.specs.Steps.{AreBelow}
use Rattle.rc_determinize.proofs.OpenLemmas.{branch_targets}
use Rattle.rc_determinize.proofs.backward.Reversed.keep_place.Goals as goal

pub keep-requires : goal.keep-requires
keep-requires c = subst (λ p. AreBelow (length c.args.self.now.into.items) (targets (place_of p))) c.in-Choice.is c.requires c.in-Choice.first (inl refl)

pub keep-requires-in-Choice : goal.keep-requires-in-Choice
keep-requires-in-Choice c = subst (λ n. c.in-Choice.second < n) (sym c.keep.ensures.len)
    (subst (λ p. AreBelow (length c.args.self.now.into.items) (targets (place_of p))) c.in-Choice.is c.requires c.in-Choice.second (inr (inl refl)))

pub keep-requires-in-Pass : goal.keep-requires-in-Pass
keep-requires-in-Pass c = subst (λ p. AreBelow (length c.args.self.now.into.items) (targets (place_of p))) c.in-Pass.is c.requires c.in-Pass.next (inl refl)

pub keep-requires-in-Byte : goal.keep-requires-in-Byte
keep-requires-in-Byte c = subst (λ p. AreBelow (length c.args.self.now.into.items) (targets (place_of p))) c.in-Byte.is c.requires c.in-Byte.next (inl refl)

pub keep_ranges-requires : goal.keep_ranges-requires
keep_ranges-requires c = subst (λ p. AreBelow (length c.args.self.now.into.items) (targets (place_of p))) c.in-Bytes.is c.requires c.in-Bytes.next (inl refl)

pub keep_ways-requires : goal.keep_ways-requires
keep_ways-requires c q h =
    subst (λ p. AreBelow (length c.args.self.now.into.items) (targets (place_of p))) c.in-Branch.is c.requires q (branch_targets c.in-Branch.ways.items q h)

pub keep-requires-in-Guard : goal.keep-requires-in-Guard
keep-requires-in-Guard c = subst (λ p. AreBelow (length c.args.self.now.into.items) (targets (place_of p))) c.in-Guard.is c.requires c.in-Guard.next (inl refl)

pub keep-requires-in-Slot : goal.keep-requires-in-Slot
keep-requires-in-Slot c = subst (λ p. AreBelow (length c.args.self.now.into.items) (targets (place_of p))) c.in-Slot.is c.requires c.in-Slot.next (inl refl)
