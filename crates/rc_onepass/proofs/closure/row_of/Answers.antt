use Rattle.std.proofs.Common.{sym, subst}
use Rattle.std.specs.List.{Contains}
use Rattle.std.proofs.lemmas.List.Elements.{Contains-push}
use Rattle.rc_program.specs.Places.{places_of}
use Rattle.rc_onepass.proofs.ClosureLemmas.{under_way_first, under_way_turn}
use Rattle.rc_onepass.proofs.closure.row_of.Goals as goal

pub loop-turn-init : goal.loop-turn-init
loop-turn-init c = record {
  whole = c.in_ok-row.ensures.whole;
  under_way = under_way_first (places_of c.args.places.now) c.args.from c.in_ok-row.row c.push.new.self.items
      (subst (λ xs. Contains xs (record { place = c.args.from; slots = 0 })) (sym c.in_ok-push.ensures.items)
      (Contains-push c.new-stack.result.items (record { place = c.args.from; slots = 0 })));
}

pub loop-turn-preserved : goal.loop-turn-preserved
loop-turn-preserved c = record {
  whole = c.in_ok-follow.ensures.whole;
  under_way = under_way_turn (places_of c.args.places.now) c.args.from c.loop-turn.row c.follow.new.row c.loop-turn.stack.items c.pop.new.self.items
      c.follow.new.stack.items c.in-Some.visit c.in-Some.ensures.items (c.in_ok-follow.ensures.followed c.if-not-branch.false) c.loop-turn.invariant.under_way;
}
