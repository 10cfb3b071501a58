use Rattle.std.proofs.Common.{ℕ, ◌<◌, List, sym, subst, ◌∙◌}
use Rattle.rc_walks.specs.Walks.{Pair}
use Rattle.rc_pikevm.specs.Near.{seen_from, size}
use Rattle.rc_pikevm.specs.Sights.{Sight}
use Rattle.rc_pikevm.specs.Moves.{IsMove}
use Rattle.rc_pikevm.specs.Alone.{IsDead, tried_at}
use Rattle.rc_pikevm.specs.declared.moves.Move.TheVariants.{Fork, Save, Stays}
use Rattle.rc_pikevm.proofs.AloneLemmas.{AreIn, Dies, dies_none, inside_program, dead_stops, dead_stays, dead_saves, dead_forks}
use Rattle.rc_pikevm.proofs.alone.leads_nowhere.Goals as goal
use Rattle.rc_pikevm.proofs.alone.leads_nowhere.Goals.{in-DeadEnd+in-Some-later, in-Stays, in-Save, in-Fork+else-is_some}

pub returns-in_default-later : goal.returns-in_default-later
returns-in_default-later g c _ =
    let s : Sight = seen_from c.args.spot.now g.text in
    let at : ℕ = c.args.spot.now.at in
    let passed : List Pair = tried_at at c.args.tried in
    c.ways.invariant.dead (dead_stops s at passed c.ways.place (subst (IsMove s (c.ways.place, at)) c.in-DeadEnd.is c.look_up.ensures))
    (subst (Dies s at passed) (sym c.in_default-later.is) tt)

pub ways-preserved : goal.ways-preserved
ways-preserved g c =
    let s : Sight = seen_from c.args.spot.now g.text in
    let at : ℕ = c.args.spot.now.at in
    let passed : List Pair = tried_at at c.args.tried in
    let n : ℕ = size c.args.spot.now.course in
    let here : ℕ = c.ways.place in
    elim c.match-look_up.branch [
      | in-DeadEnd+in-Some-later w ↦
          record {
            place_in = subst (λ p. p < n) (sym w.place-is) (subst (AreIn n) w.in-Some-later.is c.ways.invariant.later_in);
            later_in = subst (AreIn n) (sym w.later-is) tt;
            dead = λ d _. c.ways.invariant.dead
                (dead_stops s at passed here (subst (IsMove s (here, at)) w.in-DeadEnd.is c.look_up.ensures))
                (subst (Dies s at passed) (sym w.in-Some-later.is) (subst (λ p. IsDead s passed (p, at)) w.place-is d));
          }
      | in-Stays w ↦
          let m = subst (IsMove s (here, at)) w.in-Stays.is c.look_up.ensures in
          record {
            place_in = subst (λ p. p < n) (sym w.place-is) (inside_program c.args.spot.now g.text here (Stays w.in-Stays.next) m);
            later_in = subst (AreIn n) (sym w.later-is) c.ways.invariant.later_in;
            dead = λ d e. c.ways.invariant.dead
                (dead_stays s at passed here w.in-Stays.next m (subst (λ p. IsDead s passed (p, at)) w.place-is d))
                (subst (Dies s at passed) w.later-is e);
          }
      | in-Save w ↦
          let m = subst (IsMove s (here, at)) w.in-Save.is c.look_up.ensures in
          record {
            place_in = subst (λ p. p < n) (sym w.place-is) (inside_program c.args.spot.now g.text here (Save w.in-Save.field-0 w.in-Save.next) m);
            later_in = subst (AreIn n) (sym w.later-is) c.ways.invariant.later_in;
            dead = λ d e. c.ways.invariant.dead
                (dead_saves s at passed here w.in-Save.field-0 w.in-Save.next m (subst (λ p. IsDead s passed (p, at)) w.place-is d))
                (subst (Dies s at passed) w.later-is e);
          }
      | in-Fork+else-is_some w ↦
          let m = subst (IsMove s (here, at)) w.in-Fork.is c.look_up.ensures in
          let inside = inside_program c.args.spot.now g.text here (Fork w.in-Fork.first w.in-Fork.second) m in
          record {
            place_in = subst (λ p. p < n) (sym w.place-is) inside.0;
            later_in = subst (AreIn n) (sym w.later-is) inside.1;
            dead = λ d e. c.ways.invariant.dead
                (dead_forks s at passed here w.in-Fork.first w.in-Fork.second m (subst (λ p. IsDead s passed (p, at)) w.place-is d)
                (subst (Dies s at passed) w.later-is e))
                (dies_none s at passed c.ways.later (sym w.is_some.ensures ∙ w.if-is_some.false));
          }
    ]
