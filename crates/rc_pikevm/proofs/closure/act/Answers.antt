use Rattle.std.proofs.Common.{[], ◌∷◌, ◌∙◌, inl, inr, ap, refl, subst, rules}
use Rattle.rc_program.specs.Places.{place_of}
use Rattle.rc_pikevm.specs.Moves.{IsMove, moving, reading}
use Rattle.rc_pikevm.specs.Near.{seen_from}
use Rattle.rc_pikevm.specs.declared.moves.Move.TheVariants.{Fork, Save, Matches, Stays, DeadEnd}
use Rattle.rc_pikevm.proofs.LookUpLemmas.{placed, choice_moves, none_ended}
use Rattle.rc_pikevm.proofs.closure.act.Goals as goal

pub returns-else-is_dead-clause-acted : goal.returns-else-is_dead-clause-acted
returns-else-is_dead-clause-acted g c = record {
  move = Fork c.in-Choice.first c.in-Choice.second;
  goes = inl (choice_moves (seen_from c.args.spot.now g.text) c.args.place c.args.spot.now.at (c.in-Choice.first ∷ c.in-Choice.second ∷ [])
      (placed c.args.spot.now.course.program.now.places.items c.args.place c.index.result.now c.requires.1.0 c.index.ensures ∙ ap place_of c.in-Choice.is));
  made = c.fork.ensures.made c.args.spot.now.at c.args.start;
  ended = refl;
}

pub returns-in-Pass-clause-acted : goal.returns-in-Pass-clause-acted
returns-in-Pass-clause-acted g c = record {
  move = Stays c.in-Pass.next;
  goes = inl (choice_moves (seen_from c.args.spot.now g.text) c.args.place c.args.spot.now.at (c.in-Pass.next ∷ [])
      (placed c.args.spot.now.course.program.now.places.items c.args.place c.index.result.now c.requires.1.0 c.index.ensures ∙ ap place_of c.in-Pass.is));
  made = c.stay.ensures.made c.args.spot.now.at c.args.start;
  ended = refl;
}

pub returns-in-Byte-clause-acted : goal.returns-in-Byte-clause-acted
returns-in-Byte-clause-acted g c = record {
  move = reading c.in-Byte.next c.after_byte.result;
  goes = inl (c.after_byte.ensures c.args.place c.in-Byte.next
      (placed c.args.spot.now.course.program.now.places.items c.args.place c.index.result.now c.requires.1.0 c.index.ensures ∙ ap place_of c.in-Byte.is));
  made = c.read.ensures.made c.args.spot.now.at;
  ended = none_ended c.in-Byte.next c.after_byte.result;
}

pub returns-in-Bytes-clause-acted : goal.returns-in-Bytes-clause-acted
returns-in-Bytes-clause-acted g c = record {
  move = reading c.in-Bytes.next c.after_one_of.result;
  goes = inl (c.after_one_of.ensures c.in-Bytes.next
      (placed c.args.spot.now.course.program.now.places.items c.args.place c.index.result.now c.requires.1.0 c.index.ensures ∙ ap place_of c.in-Bytes.is));
  made = c.read-in-Bytes.ensures.made c.args.spot.now.at;
  ended = none_ended c.in-Bytes.next c.after_one_of.result;
}

pub returns-in-Scalar-clause-acted : goal.returns-in-Scalar-clause-acted
returns-in-Scalar-clause-acted g c = record {
  move = reading c.in-Scalar.next c.after_scalar.result;
  goes = inl (c.after_scalar.ensures c.in-Scalar.next
      (placed c.args.spot.now.course.program.now.places.items c.args.place c.index.result.now c.requires.1.0 c.index.ensures ∙ ap place_of c.in-Scalar.is));
  made = c.read-in-Scalar.ensures.made c.args.spot.now.at;
  ended = none_ended c.in-Scalar.next c.after_scalar.result;
}

pub returns-then-is_open-clause-acted : goal.returns-then-is_open-clause-acted
returns-then-is_open-clause-acted g c = record {
  move = Stays c.in-Guard.next;
  goes = inl (subst (λ b. IsMove (seen_from c.args.spot.now g.text) (c.args.place, c.args.spot.now.at) (moving (Stays c.in-Guard.next) b)) c.if-is_open.true
      (c.is_open.ensures c.args.place c.in-Guard.next
      (placed c.args.spot.now.course.program.now.places.items c.args.place c.index.result.now c.requires.1.0 c.index.ensures ∙ ap place_of c.in-Guard.is)));
  made = c.stay-then-is_open.ensures.made c.args.spot.now.at c.args.start;
  ended = refl;
}

pub returns-else-is_open-clause-acted : goal.returns-else-is_open-clause-acted
returns-else-is_open-clause-acted g c = record {
  move = DeadEnd;
  goes = inl (subst (λ b. IsMove (seen_from c.args.spot.now g.text) (c.args.place, c.args.spot.now.at) (moving (Stays c.in-Guard.next) b)) c.if-is_open.false
      (c.is_open.ensures c.args.place c.in-Guard.next
      (placed c.args.spot.now.course.program.now.places.items c.args.place c.index.result.now c.requires.1.0 c.index.ensures ∙ ap place_of c.in-Guard.is)));
  made = search rules;
  ended = refl;
}

pub returns-else-is_dead-3-clause-acted : goal.returns-else-is_dead-3-clause-acted
returns-else-is_dead-3-clause-acted g c = record {
  move = Save c.column-column.result c.in-Slot.next;
  goes = inl (c.in-Slot.field-0, placed c.args.spot.now.course.program.now.places.items c.args.place c.index.result.now c.requires.1.0 c.index.ensures ∙ ap place_of c.in-Slot.is, c.column-column.ensures);
  made = c.note.ensures.made c.args.start;
  ended = refl;
}

pub returns-then-may_end-clause-acted : goal.returns-then-may_end-clause-acted
returns-then-may_end-clause-acted g c = record {
  move = Matches c.in-Accept.number;
  goes = inl (subst (λ b. IsMove (seen_from c.args.spot.now g.text) (c.args.place, c.args.spot.now.at) (moving (Matches c.in-Accept.number) b)) c.if-may_end.true
      (c.may_end.ensures c.args.place
      (placed c.args.spot.now.course.program.now.places.items c.args.place c.index.result.now c.requires.1.0 c.index.ensures ∙ ap place_of c.in-Accept.is)));
  made = search rules;
  ended = refl;
}

pub returns-then-is_dead-clause-acted : goal.returns-then-is_dead-clause-acted
returns-then-is_dead-clause-acted g c = record {
  move = DeadEnd;
  goes = inr (refl, c.is_dead.ensures c.if-is_dead.true);
  made = search rules;
  ended = refl;
}

pub returns-then-is_dead-2-clause-acted : goal.returns-then-is_dead-2-clause-acted
returns-then-is_dead-2-clause-acted g c = record {
  move = DeadEnd;
  goes = inr (refl, c.is_dead-in-Guard.ensures c.if-is_dead-2.true);
  made = search rules;
  ended = refl;
}

pub returns-then-is_dead-3-clause-acted : goal.returns-then-is_dead-3-clause-acted
returns-then-is_dead-3-clause-acted g c = record {
  move = DeadEnd;
  goes = inr (refl, c.is_dead-in-Slot.ensures c.if-is_dead-3.true);
  made = search rules;
  ended = refl;
}
