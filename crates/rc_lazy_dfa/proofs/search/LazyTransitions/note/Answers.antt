use Rattle.std.proofs.Common.{◌∙◌, ap}
use Rattle.std.specs.Option.{unwrap_or}
use Rattle.rc_lazy_dfa.specs.Courses.{frame_in}
use Rattle.rc_lazy_dfa.proofs.RowLemmas.{wide}
use Rattle.rc_lazy_dfa.proofs.search.LazyTransitions.note.Goals as goal

pub stop_at-requires : goal.stop_at-requires
stop_at-requires g c = wide (frame_in c.args.self.now g.W.Way.BACKWARDS) c.args.cache.now.store c.requires.cache.held

pub returns : goal.returns
returns g c = λ m s k has is.
    c.unwrap_or.ensures ∙ ap (λ o. unwrap_or o 0) (c.stop_at.ensures (frame_in c.args.self.now g.W.Way.BACKWARDS) c.requires.cache.held s has.1 ∙ is)
