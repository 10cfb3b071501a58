use Rattle.rc_lazy_dfa.specs.Courses.{frame_in}
use Rattle.rc_lazy_dfa.proofs.RowLemmas.{wide}
use Rattle.rc_lazy_dfa.proofs.SearchLemmas.{end_says}
use Rattle.rc_lazy_dfa.proofs.search.LazyTransitions.at_end.Goals as goal

pub stop_by-requires : goal.stop_by-requires
stop_by-requires g c = wide (frame_in c.args.self.now g.W.Way.BACKWARDS) c.next.new.self.store c.in_ok-cell.ensures.half.held

pub returns-clause-found : goal.returns-clause-found
returns-clause-found g c =
    end_says c.args.self.now g.W.Way.BACKWARDS c.args.cache.now c.next.new.self c.args.row c.in_ok-cell.cell c.stop_by.result c.in_ok-cell.ensures.leads
    (c.stop_by.ensures (frame_in c.args.self.now g.W.Way.BACKWARDS) c.in_ok-cell.ensures.half.held)
