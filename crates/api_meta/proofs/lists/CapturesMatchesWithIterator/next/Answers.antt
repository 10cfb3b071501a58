use Rattle.std.proofs.Common.{refl}
use Rattle.api_meta.proofs.Cached.{keeps_room, stays_for}
use Rattle.api_meta.proofs.LentRuns.{captures_go}
use Rattle.api_meta.proofs.lists.CapturesMatchesWithIterator.next.Goals as goal

pub returns-clause-steps : goal.returns-clause-steps
returns-clause-steps g c = (
  (c.next_captures.ensures.steps, (refl, c.next_captures.ensures.moves), c.next_captures.ensures.over),
  (refl, refl, keeps_room c.args.self.now.regex.now c.args.self.now.cache.now.inner c.next_captures.new.cache c.next_captures.ensures.same),
  stays_for c.args.self.now.regex.now c.args.self.now.cache.now.inner c.next_captures.new.cache c.requires c.next_captures.ensures.same,
  c.next_captures.ensures.start,
)

pub returns-clause-goes : goal.returns-clause-goes
returns-clause-goes g c = captures_go c.args.self.now _ c.next_captures.result (returns-clause-steps g c)
