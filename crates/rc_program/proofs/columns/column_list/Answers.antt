use Rattle.std.proofs.Common.{◌≡◌, ◌+◌, ◌-◌, ◌∙◌, suc, ap, arith, length, slice_index_or, sym}
use Rattle.std.proofs.lemmas.List.{length_push}
use Rattle.rc_program.specs.Columns.{match_count, matches_before, no_slots, slot_number}
use Rattle.rc_program.specs.Places.{place_of, places_of}
use Rattle.rc_program.specs.Program.{place_at}
use Rattle.rc_program.proofs.ClosingLemmas.{place_read}
use Rattle.rc_program.proofs.ColumnLemmas.{count_most, matches_more, none_yet, told_more}
use Rattle.rc_program.proofs.columns.column_list.Goals as goal

pub loop-place-init : goal.loop-place-init
loop-place-init c = record {
  long = ap length c.in_ok-columns.ensures.items;
  pattern = sym (none_yet (places_of c.args.places.now));
  few = omega arith;
  told = λ q l. absurd (omega (arith, l));
}

pub loop-place-preserved : goal.loop-place-preserved
loop-place-preserved c =
    let places = places_of c.args.places.now in
    let i = c.loop-place.place-index in
    let before = c.loop-place.invariant in
    let next : i + 1 ≡ suc i = omega arith in
    let here : place_at places i ≡ place_of c.place-item.result =
    place_read c.args.places.now i c.place-item.result c.loop-place-test.true c.place-item.is in
    record {
      long = ap length c.in_ok-push.ensures.items ∙ length_push c.loop-place.columns.items c.column_in.result ∙ ap (λ n. n + 1) before.long;
      pattern = c.pattern_after-pattern.ensures ∙ ap (λ q. c.loop-place.pattern + match_count q) (sym here)
          ∙ ap (λ n. n + match_count (place_at places i)) before.pattern ∙ sym (matches_more places i) ∙ ap (matches_before places) (sym next);
      few = let m = count_most (place_of c.place-item.result) in let r = c.pattern_after-pattern.ensures in omega (arith, m, r, before.few);
      told = told_more places c.args.ranges.now c.loop-place.columns.items c.push.new.self.items i c.column_in.result c.loop-place.pattern before.long
          c.in_ok-push.ensures.items c.requires before.pattern
          (c.column_in.ensures ∙ ap (λ q. slot_number q - (slice_index_or c.args.ranges.now c.loop-place.pattern no_slots).first) (sym here)) before.told;
    }
