use Rattle.std.proofs.Common.{◌≤◌, ◌+◌, ◌-◌, false, true, inr, arith}
use Rattle.rc_text.specs.Text.{high}
use Rattle.rc_lazy_dfa.specs.Courses.{frame_in}
use Rattle.rc_lazy_dfa.specs.SpendLaws.{may_within, spends_nothing, spends_within}
use Rattle.rc_lazy_dfa.proofs.lazy.LazyHalves.run_backwards.Goals as goal
use Rattle.rc_lazy_dfa.proofs.lazy.LazyHalves.run_backwards.Goals.{After-search}

pub returns-clause-ended : goal.returns-clause-ended
returns-clause-ended g c = λ m n same asked. c.search.ensures.over.ended n same.1 asked

few : (g : _) (c : After-search g) → c.args.run.high - c.args.run.low + 2 ≤ high c.args.input.now - c.args.run.low + 2
few g c = let le = c.requires.high in omega (arith, le)

pub returns-clause-spends : goal.returns-clause-spends
returns-clause-spends g c = record {
  ahead = spends_nothing (frame_in c.args.self.now false) c.args.cache.now.forward.store _;
  behind = spends_within (frame_in c.args.self.now true) c.args.cache.now.reverse.store c.search.new.cache.store _ _
      (few g (goal.at.returns-clause-spends g c).After-search) c.search.ensures.over.spends;
}

pub returns-clause-gives_up : goal.returns-clause-gives_up
returns-clause-gives_up g c = λ memory e.
    inr
    (may_within (frame_in c.args.self.now true) c.args.cache.now.reverse.store c.search.new.cache.store _ _ memory
    (few g (goal.at.returns-clause-gives_up g c).After-search) (c.search.ensures.over.gives_up memory e))
