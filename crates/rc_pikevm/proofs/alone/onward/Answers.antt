use Rattle.std.proofs.Common.{ℕ, ◌<◌, [], sym, subst}
use Rattle.rc_pikevm.specs.Near.{seen_from, size}
use Rattle.rc_pikevm.specs.Sights.{Sight}
use Rattle.rc_pikevm.specs.Moves.{IsMove}
use Rattle.rc_pikevm.specs.Alone.{IsChosen, IsDead, LeadsTo}
use Rattle.rc_pikevm.specs.declared.moves.Move.TheVariants.{Fork, Stays}
use Rattle.rc_pikevm.proofs.AloneLemmas.{inside_program, chosen_in, dead_stays, none_chosen, leads_stays, leads_chosen, leads_then}
use Rattle.rc_pikevm.proofs.alone.onward.Goals as goal
use Rattle.rc_pikevm.proofs.alone.onward.Goals.{in-Stays, in-Fork+in-Some}

pub only_way-requires : goal.only_way-requires
only_way-requires g c =
    let inside = inside_program c.args.spot.now g.text c.ways.place (Fork c.in-Fork.first c.in-Fork.second)
    (subst (IsMove (seen_from c.args.spot.now g.text) (c.ways.place, c.args.spot.now.at)) c.in-Fork.is c.look_up.ensures) in
    (c.requires.0, (inside.0, inside.1))

pub ways-preserved : goal.ways-preserved
ways-preserved g c =
    let s : Sight = seen_from c.args.spot.now g.text in
    let at : ℕ = c.args.spot.now.at in
    let n : ℕ = size c.args.spot.now.course in
    let here : ℕ = c.ways.place in
    elim c.match-look_up.branch [
      | in-Stays w ↦
          let next : ℕ = w.in-Stays.next in
          let m = subst (IsMove s (here, at)) w.in-Stays.is c.look_up.ensures in
          record {
            place_in = subst (λ p. p < n) (sym w.place-is) (inside_program c.args.spot.now g.text here (Stays next) m);
            leads = subst (λ p. LeadsTo s at c.args.from p) (sym w.place-is)
                (leads_then s at c.args.from here next c.ways.invariant.leads (leads_stays s at here next m));
            none = λ d. c.ways.invariant.none (dead_stays s at [] here next m (subst (λ p. IsDead s [] (p, at)) w.place-is d));
          }
      | in-Fork+in-Some w ↦
          let first : ℕ = w.in-Fork.first in
          let second : ℕ = w.in-Fork.second in
          let way : ℕ = w.in-Some.way in
          let m = subst (IsMove s (here, at)) w.in-Fork.is c.look_up.ensures in
          let inside = inside_program c.args.spot.now g.text here (Fork first second) m in
          let chosen : IsChosen s at here first second way = w.in-Some.ensures in
          record {
            place_in = subst (λ p. p < n) (sym w.place-is) (chosen_in s at n here first second way inside.0 inside.1 chosen);
            leads = subst (λ p. LeadsTo s at c.args.from p) (sym w.place-is)
                (leads_then s at c.args.from here way c.ways.invariant.leads (leads_chosen s at here first second way m chosen));
            none = λ d. c.ways.invariant.none (none_chosen s at here first second way m chosen (subst (λ p. IsDead s [] (p, at)) w.place-is d));
          }
    ]
