use Rattle.std.proofs.Common.{◌≡◌, ◌∙◌, None, Some, arith, length, refl, slice_index_or, subst, sym, true≢false}
use Rattle.std.proofs.lemmas.List.{length-map}
use Rattle.std.proofs.lemmas.Option.{none-some, same_Some}
use Rattle.rc_program.specs.Places.{place_of, places_of}
use Rattle.rc_onepass.specs.Rows.{TellsRow}
use Rattle.rc_onepass.proofs.ClosureLemmas.{length_more, more_rows}
use Rattle.rc_onepass.proofs.EnterLemmas.{there_more}
use Rattle.rc_onepass.proofs.RunLemmas.{row_single}
use Rattle.rc_onepass.proofs.onepass.OnePass.new.Goals as goal

pub loop-place-preserved-then-not-index : goal.loop-place-preserved-then-not-index
loop-place-preserved-then-not-index c = record {
  long = c.loop-place.invariant.long;
  count = length_more c.loop-place.rows.items c.push.new.self.items None c.loop-place.place c.in_ok-push.ensures.items c.loop-place.invariant.count;
  rows = more_rows (places_of c.args.places.now) c.loop-place.rows.items c.push.new.self.items None c.in_ok-push.ensures.items c.loop-place.invariant.rows
      (λ r e. absurd (none-some r e));
  there = there_more c.loop-place.place c.in_ok-entered.entered.items c.loop-place.rows.items c.push.new.self.items None c.in_ok-push.ensures.items
      c.loop-place.invariant.count
      (λ marked. absurd (true≢false (sym marked
      ∙ sym (subst (λ x. x ≡ slice_index_or c.in_ok-entered.entered.items c.loop-place.place x) c.if-not-index.true c.index.ensures))))
      c.loop-place.invariant.there;
}

pub loop-place-preserved : goal.loop-place-preserved
loop-place-preserved c = record {
  long = c.loop-place.invariant.long;
  count = length_more c.loop-place.rows.items c.push-in-loop-place.new.self.items (Some c.in-Some.row) c.loop-place.place c.in_ok-push-2.ensures.items
      c.loop-place.invariant.count;
  rows = more_rows (places_of c.args.places.now) c.loop-place.rows.items c.push-in-loop-place.new.self.items (Some c.in-Some.row)
      c.in_ok-push-2.ensures.items c.loop-place.invariant.rows
      (λ r e. let told = rw c.in-Some.is at c.in_ok-row.ensures in
      subst (λ row. TellsRow (places_of c.args.places.now) (length c.loop-place.rows.items) row) (same_Some c.in-Some.row r e)
      (subst (λ n. TellsRow (places_of c.args.places.now) n c.in-Some.row) (sym c.loop-place.invariant.count) told));
  there = there_more c.loop-place.place c.in_ok-entered.entered.items c.loop-place.rows.items c.push-in-loop-place.new.self.items (Some c.in-Some.row)
      c.in_ok-push-2.ensures.items c.loop-place.invariant.count (λ marked. (c.in-Some.row, refl)) c.loop-place.invariant.there;
}

pub returns-clause-single : goal.returns-clause-single
returns-clause-single c q row there = row_single (places_of c.args.places.now) q row (c.loop-place.invariant.rows q row there)

pub returns-clause-rows : goal.returns-clause-rows
returns-clause-rows c = record {
  rows = c.loop-place.invariant.rows;
  whole = λ q l e.
      let long = length-map c.args.places.now place_of in
      let all = c.loop-place-test.false in
      c.loop-place.invariant.there q (omega (arith, l, long, all)) (c.in_ok-entered.ensures.entered q (omega (arith, l, long)) e);
}
