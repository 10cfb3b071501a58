use Rattle.std.proofs.Common.{◌∙◌, sym}
use Rattle.rc_lazy_dfa.specs.Courses.{frame_in}
use Rattle.rc_lazy_dfa.proofs.RowLemmas.{wide}
use Rattle.rc_lazy_dfa.proofs.search.LazyTransitions.is_idle.Goals as goal

pub idles_at-requires : goal.idles_at-requires
idles_at-requires g c = wide (frame_in c.args.self.now g.W.Way.BACKWARDS) c.args.cache.now.store c.requires.cache.held

pub returns : goal.returns
returns g c = λ yes m s has. sym (c.idles_at.ensures (frame_in c.args.self.now g.W.Way.BACKWARDS) c.requires.cache.held s has.1) ∙ yes
