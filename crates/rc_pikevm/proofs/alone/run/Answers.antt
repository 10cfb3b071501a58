use Rattle.std.proofs.Common.{◌≡◌, ℕ, ◌+◌, ◌≤◌, true, [], ◌∷◌, subst, arith}
use Rattle.rc_pikevm.specs.Near.{seen_from}
use Rattle.rc_pikevm.specs.Sights.{Sight}
use Rattle.rc_pikevm.specs.Moves.{IsMove, seen_by}
use Rattle.rc_pikevm.specs.Alone.{IsDead}
use Rattle.rc_pikevm.specs.declared.moves.Move.TheVariants.{Reads}
use Rattle.rc_pikevm.proofs.AloneLemmas.{inside_program, reads_alone}
use Rattle.rc_pikevm.proofs.RaceAloneLemmas.{cut_later, raced_alone}
use Rattle.rc_pikevm.proofs.alone.run.Goals as goal

pub positions-preserved : goal.positions-preserved
positions-preserved g c =
    let s : Sight = seen_by c.args.course g.text in
    let at : ℕ = c.positions.at in
    let tried : ℕ = c.in-Some.tried in
    let next : ℕ = c.in-Reads.next in
    let m = subst (IsMove (seen_from c.spot_at-spot.result g.text) (tried, c.spot_at-spot.result.at)) c.in-Reads.is c.in-Some.ensures.makes in
    let inside = inside_program c.spot_at-spot.result g.text tried (Reads next c.in-Reads.to) m in
    let here = rw (c.spot_at-spot.ensures.course, c.spot_at-spot.ensures.at) at m in
    let to : c.in-Reads.to ≡ at + 1 = omega (arith, c.if-to-at.false) in
    let reads = subst (λ to. IsMove s (tried, at) (Reads next to)) to here in
    let leads = rw (c.spot_at-spot.ensures.course, c.spot_at-spot.ensures.at) at c.in-Some.ensures.leads in
    let dead : c.args.is_open ≡ true → at ≤ c.args.course.last → IsDead s ((tried, at) ∷ []) (0, at) =
    λ e le. rw (c.spot_at-spot.ensures.course, c.spot_at-spot.ensures.at) at (c.may_set_out.ensures c.if-may_set_out.false) e le in
    record {
      place_in = rw c.spot_at-spot.ensures.course at inside;
      later = omega (arith, c.positions.invariant.later);
      within = omega (arith, c.positions-test.true, c.min-end.ensures);
      around = λ _. c.limit.ensures (at + 1) (omega (arith, c.positions-test.true, c.min-end.ensures));
      carries = λ slots width best o x.
          c.positions.invariant.carries slots width best o
          (reads_alone s at width c.args.course.last best o c.args.is_open c.positions.place tried next c.args.head.start slots
          leads reads dead x);
      races = λ all slots width best found sought cut x.
          raced_alone s all at width c.args.course.last best found c.args.is_open c.positions.place tried next c.args.head.start slots leads reads
          (λ e. cut_later best c.args.head.at at c.positions.invariant.later (cut e)) dead sought
          (c.positions.invariant.races all slots width best found sought cut x);
    }

pub may_set_out-requires : goal.may_set_out-requires
may_set_out-requires g c = (
  c.spot_at-spot.ensures.here,
  (
    rw c.spot_at-spot.ensures.course c.requires.1.1.1.1.1.0,
    rw (c.spot_at-spot.ensures.course, c.spot_at-spot.ensures.at) (c.requires.1.1.1.1.1.1 c.positions.at),
  ),
)

pub returns-in-Matches-clause-ended : goal.returns-in-Matches-clause-ended
returns-in-Matches-clause-ended g c =
    let at : ℕ = c.positions.at in
    let tried : ℕ = c.in-Some.tried in
    let m = subst (IsMove (seen_from c.spot_at-spot.result g.text) (tried, c.spot_at-spot.result.at)) c.in-Matches.is c.in-Some.ensures.makes in (
      (
        tried,
        rw (c.spot_at-spot.ensures.course, c.spot_at-spot.ensures.at) at c.in-Some.ensures.leads,
        rw c.spot_at-spot.ensures.course at m,
      ),
      omega (arith, c.positions-test.true, c.min-end.ensures),
      c.limit.ensures (at + 1) (omega (arith, c.positions-test.true, c.min-end.ensures)),
    )
