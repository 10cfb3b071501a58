use Rattle.std.proofs.Common.{◌≡◌, ℕ, ◌+◌, ◌<◌, ◌≤◌, None, [], inl, inr, refl, ⊎_elim, sym, subst, arith}
use Rattle.std.proofs.lemmas.Bool.{cases_lt}
use Rattle.rc_pikevm.specs.Sights.{Sight, HasNoWalkFrom}
use Rattle.rc_pikevm.specs.Near.{seen_from, size}
use Rattle.rc_pikevm.specs.Moves.{IsMove, seen_by}
use Rattle.rc_pikevm.specs.Alone.{IsDead, LeadsTo}
use Rattle.rc_pikevm.specs.declared.moves.Move.TheVariants.{Reads}
use Rattle.rc_pikevm.proofs.AloneLemmas.{inside_program, dead_stops, dead_reads, dead_slot, no_start, leads_on, leads_then}
use Rattle.rc_pikevm.proofs.alone.seek.Given.{Over}
use Rattle.rc_pikevm.proofs.alone.seek.Goals as goal
use Rattle.rc_pikevm.proofs.alone.seek.Goals.{After-pass_over-here, In-Some, In-Reads, in-DeadEnd, in-Reads+else-to-here+else-not-is_shut, in_default-step+else-not-leads_nowhere}

-- no walk sets out from the starts passed over
left_out : (g : Over) (c : After-pass_over-here g) (y : ℕ) → c.args.at ≤ y → y < c.pass_over-here.result → HasNoWalkFrom (seen_by c.args.course g.text) y
left_out g c y low before =
    ⊎_elim (λ l. c.starts.invariant.none y low l)
    (λ ge. no_start (seen_by c.args.course g.text) y c.args.root c.args.root c.requires.1.1.1.1.1.0 (inl refl)
    (c.pass_over-here.ensures.dead y ge before []))
    (cases_lt y c.starts.here)

-- where no walk leads on from the place behind a slot, none does from the slot
past_dead : (g : Over) (c : In-Some g) → IsDead (seen_by c.args.course g.text) [] (c.past_slot-first.result, c.pass_over-here.result) →
    IsDead (seen_by c.args.course g.text) [] (c.args.way, c.pass_over-here.result)
past_dead g c d =
    let s : Sight = seen_by c.args.course g.text in
    let here : ℕ = c.pass_over-here.result in
    ⊎_elim (λ e. subst (λ p. IsDead s [] (p, here)) e d) (λ r. dead_slot s here [] c.args.way r.0 c.past_slot-first.result r.1 d)
    (rw c.spot_at-spot.ensures.course at c.past_slot-first.ensures.past)

-- the byte is read there, and the place behind it is one of the program
reads_there : (g : Over) (c : In-Reads g) →
    IsMove (seen_by c.args.course g.text) (c.in-Some.place, c.pass_over-here.result) (Reads c.in-Reads.next c.in-Reads.to)
    × (c.in-Reads.next < size c.args.course)
reads_there g c =
    let m = subst (IsMove (seen_from c.spot_at-spot.result g.text) (c.in-Some.place, c.spot_at-spot.result.at)) c.in-Reads.is c.in-Some.ensures.makes in
    let inside = inside_program c.spot_at-spot.result g.text c.in-Some.place (Reads c.in-Reads.next c.in-Reads.to) m in
    (rw (c.spot_at-spot.ensures.course, c.spot_at-spot.ensures.at) at m, rw c.spot_at-spot.ensures.course at inside)

pub returns-then-here-end-clause-none : goal.returns-then-here-end-clause-none
returns-then-here-end-clause-none g c = left_out g (goal.at.returns-then-here-end-clause-none g c).After-pass_over-here

pub returns-in_default-clause-none : goal.returns-in_default-clause-none
returns-in_default-clause-none g c = left_out g (goal.at.returns-in_default-clause-none g c).After-pass_over-here

pub returns-then-to-here-clause-none : goal.returns-then-to-here-clause-none
returns-then-to-here-clause-none g c = left_out g (goal.at.returns-then-to-here-clause-none g c).After-pass_over-here

pub returns-then-not-is_shut-clause-none : goal.returns-then-not-is_shut-clause-none
returns-then-not-is_shut-clause-none g c = left_out g (goal.at.returns-then-not-is_shut-clause-none g c).After-pass_over-here

pub returns-then-first-way-clause-none : goal.returns-then-first-way-clause-none
returns-then-first-way-clause-none g c = left_out g (goal.at.returns-then-first-way-clause-none g c).After-pass_over-here

pub returns-then-not-leads_nowhere : goal.returns-then-not-leads_nowhere
returns-then-not-leads_nowhere g c = record {
  later = omega (arith, c.starts.invariant.later, c.pass_over-here.ensures.later);
  within = omega (arith, c.pass_over-here.ensures.within, c.min-end.ensures, c.args.course.ordered);
  none = left_out g (goal.at.returns-then-not-leads_nowhere g c).After-pass_over-here;
  around = λ _. c.limit.ensures c.pass_over-here.result (omega (arith, c.pass_over-here.ensures.within, c.min-end.ensures));
  reads = tt;
}

pub spot_at-requires : goal.spot_at-requires
spot_at-requires g c =
    let here : ℕ = c.pass_over-here.result in
    let begun = c.requires.1.1.0 in
    let later : c.args.at ≤ here + 1 = omega (arith, c.starts.invariant.later, c.pass_over-here.ensures.later) in
    let below : here + 1 ≤ c.min-end.result = omega (arith, c.pass_over-here.ensures.within, c.if-here-end.false) in (
      c.requires.0,
      (
        c.requires.1.0,
        (
          record {
            below = omega (arith, begun.below, later);
            four = ⊎_elim (λ e. inl e) (λ h. inr (omega (arith, h, later))) begun.four;
          },
          (c.limit.ensures (here + 1) (omega (arith, below, c.min-end.ensures)), omega (arith, below, c.min-end.ensures, c.args.course.ordered)),
        ),
      ),
    )

pub is_shut-requires : goal.is_shut-requires
is_shut-requires g c =
    let r = reads_there g (goal.at.is_shut-requires g c).In-Reads in
    (c.spot_at.ensures.here, rw c.spot_at.ensures.course r.1)

pub returns-then-not-is_shut-clause-reads : goal.returns-then-not-is_shut-clause-reads
returns-then-not-is_shut-clause-reads g c =
    let s : Sight = seen_by c.args.course g.text in
    let here : ℕ = c.pass_over-here.result in
    let place : ℕ = c.in-Some.place in
    let r = reads_there g (goal.at.returns-then-not-is_shut-clause-reads g c).In-Reads in
    let to : c.in-Reads.to ≡ here + 1 = omega (arith, c.if-to-here.false) in
    let same : c.past_slot-first.result ≡ c.args.way = omega (arith, c.if-first-way.false) in
    let leads = rw (c.spot_at-spot.ensures.course, c.spot_at-spot.ensures.at) at c.in-Some.ensures.leads in (
      omega (arith, c.pass_over-here.ensures.within, c.if-here-end.false, c.min-end.ensures),
      c.limit.ensures (here + 1) (omega (arith, c.pass_over-here.ensures.within, c.if-here-end.false, c.min-end.ensures)),
      (
        place,
        record {
          leads = leads_then s here c.args.root c.args.way place (leads_on s here c.args.root c.args.way (c.requires.1.1.1.1.1.1.1 here))
              (subst (λ p. LeadsTo s here p place) same leads);
          move = subst (λ to. IsMove s (place, here) (Reads c.in-Reads.next to)) to r.0;
          inside = r.1;
        },
      ),
    )

pub starts-preserved : goal.starts-preserved
starts-preserved g c =
    let s : Sight = seen_by c.args.course g.text in
    let here : ℕ = c.pass_over-here.result in
    let place : ℕ = c.in-Some.place in
    let dead : IsDead s [] (place, here) =
    elim c.match-step.branch [
      | in-DeadEnd w ↦
          let m = subst (IsMove (seen_from c.spot_at-spot.result g.text) (place, c.spot_at-spot.result.at)) w.in-DeadEnd.is c.in-Some.ensures.makes in
          dead_stops s here [] place (rw (c.spot_at-spot.ensures.course, c.spot_at-spot.ensures.at) at m)
      | in-Reads+else-to-here+else-not-is_shut w ↦
          let m = subst (IsMove (seen_from c.spot_at-spot.result g.text) (place, c.spot_at-spot.result.at)) w.in-Reads.is c.in-Some.ensures.makes in
          let to : w.in-Reads.to ≡ here + 1 = omega (arith, w.if-to-here.false) in
          let shut = rw (w.spot_at.ensures.course, w.spot_at.ensures.at) at (w.is_shut.ensures w.if-not-is_shut.false None tt []) in
          dead_reads s here [] place w.in-Reads.next w.in-Reads.to (rw (c.spot_at-spot.ensures.course, c.spot_at-spot.ensures.at) at m)
          (subst (λ z. IsDead s [] (w.in-Reads.next, z)) (sym to) shut)
      | in_default-step+else-not-leads_nowhere w ↦
          rw (c.spot_at-spot.ensures.course, c.spot_at-spot.ensures.at) at (w.leads_nowhere.ensures w.if-not-leads_nowhere.false)
    ] in
    let nowhere = rw (c.spot_at-spot.ensures.course, c.spot_at-spot.ensures.at) at c.in-Some.ensures.none in
    let none : HasNoWalkFrom s here =
    no_start s here c.args.root c.args.way c.requires.1.1.1.1.1.0 (c.requires.1.1.1.1.1.1.1 here)
    (past_dead g (goal.at.starts-preserved g c).In-Some (nowhere dead)) in
    record {
      later = omega (arith, c.starts.invariant.later, c.pass_over-here.ensures.later);
      within = omega (arith, c.pass_over-here.ensures.within, c.if-here-end.false, c.min-end.ensures, c.args.course.ordered);
      none = λ y low before. ⊎_elim (λ l. left_out g (goal.at.starts-preserved g c).After-pass_over-here y low l)
          (λ ge. let e : here ≡ y = omega (arith, ge, before) in subst (λ z. HasNoWalkFrom s z) e none) (cases_lt y here);
      around = λ _. c.limit.ensures (here + 1) (omega (arith, c.pass_over-here.ensures.within, c.if-here-end.false, c.min-end.ensures));
    }
