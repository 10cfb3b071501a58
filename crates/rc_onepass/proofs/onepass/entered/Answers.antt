use Rattle.std.proofs.Common.{◌≡◌, ◌∙◌, ◌<◌, ℕ, ap, arith, false, length, length-set, get_or-set_same, slice_index_or, slice_set, subst, sym, true}
use Rattle.std.proofs.lemmas.List.{length-map}
use Rattle.std.proofs.lemmas.Option.{same_Some}
use Rattle.rc_program.specs.Places.{place_of, places_of}
use Rattle.rc_onepass.specs.OnePass.{Takes}
use Rattle.rc_onepass.proofs.ClosureLemmas.{place_there}
use Rattle.rc_onepass.proofs.EnterLemmas.{all_marked, mark_more, set_kept}
use Rattle.rc_onepass.proofs.onepass.entered.Goals as goal
use Rattle.rc_onepass.proofs.onepass.entered.Goals.{Joined-read_to, in-Some+then-next-len, in-Some+else-next-len, in_default}

kept : (c : Joined-read_to) → (q : ℕ) → q < length c.args.places.now → slice_index_or c.loop-place.flags.items q false ≡ true →
    slice_index_or c.match-read_to.flags.items q false ≡ true
kept c q l e =
    elim c.match-read_to.branch [
      | in-Some+then-next-len w ↦ ap (λ v. slice_index_or v.items q false) w.flags-is
          ∙ set_kept c.loop-place.flags.items w.in-Some.next q (let long = c.loop-place.invariant.long in omega (arith, l, long)) e
      | in-Some+else-next-len w ↦ ap (λ v. slice_index_or v.items q false) w.flags-is ∙ e
      | in_default w ↦ ap (λ v. slice_index_or v.items q false) w.flags-is ∙ e
    ]

marked : (c : Joined-read_to) → (b q : ℕ) → q < length c.args.places.now → Takes (place_of c.place-item.result) b q →
    slice_index_or c.match-read_to.flags.items q false ≡ true
marked c b q l takes =
    let told = c.read_to.ensures b q takes in
    let long = c.loop-place.invariant.long in
    elim c.match-read_to.branch [
      | in-Some+then-next-len w ↦ let same : w.in-Some.next ≡ q = same_Some w.in-Some.next q (sym w.in-Some.is ∙ told) in
          ap (λ v. slice_index_or v.items q false) w.flags-is
          ∙ subst (λ n. slice_index_or (slice_set c.loop-place.flags.items n true) q false ≡ true) (sym same)
          (get_or-set_same c.loop-place.flags.items q true false (omega (arith, l, long)))
      | in-Some+else-next-len w ↦ let same : w.in-Some.next ≡ q = same_Some w.in-Some.next q (sym w.in-Some.is ∙ told) in
          absurd (let past = w.if-next-len.false in omega (arith, same, past, w.len.ensures, l, long))
      | in_default w ↦ absurd (w.in_default.not-Some q told)
    ]

pub loop-place-preserved : goal.loop-place-preserved
loop-place-preserved c = record {
  long = elim c.match-read_to.branch [
    | in-Some+then-next-len w ↦ ap (λ v. length v.items) w.flags-is ∙ length-set c.loop-place.flags.items w.in-Some.next true ∙ c.loop-place.invariant.long
    | in-Some+else-next-len w ↦ ap (λ v. length v.items) w.flags-is ∙ c.loop-place.invariant.long
    | in_default w ↦ ap (λ v. length v.items) w.flags-is ∙ c.loop-place.invariant.long
  ];
  first = λ l. kept c 0 l (c.loop-place.invariant.first l);
  marked = mark_more (places_of c.args.places.now) (length c.args.places.now) c.loop-place.place-index c.loop-place.flags.items c.match-read_to.flags.items
      (place_of c.place-item.result) (place_there c.args.places.now c.loop-place.place-index c.place-item.result c.loop-place-test.true c.place-item.is)
      (kept c) (marked c) c.loop-place.invariant.marked;
}

pub returns-clause-entered : goal.returns-clause-entered
returns-clause-entered c =
    all_marked (places_of c.args.places.now) (length c.args.places.now) c.loop-place.place-index c.loop-place.flags.items
    (sym (length-map c.args.places.now place_of)) c.loop-place-test.false c.loop-place.invariant.first c.loop-place.invariant.marked
