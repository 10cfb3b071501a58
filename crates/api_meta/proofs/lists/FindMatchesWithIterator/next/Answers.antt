use Rattle.std.proofs.Common.{refl}
use Rattle.api_meta.proofs.Cached.{keeps_room, stays_for}
use Rattle.api_meta.proofs.LentRuns.{find_goes}
use Rattle.api_meta.proofs.lists.FindMatchesWithIterator.next.Goals as goal

pub returns-clause-steps : goal.returns-clause-steps
returns-clause-steps g c = (
  (c.next_match.ensures.steps, (refl, c.next_match.ensures.moves), c.next_match.ensures.over),
  (refl, refl, keeps_room c.args.self.now.regex.now c.args.self.now.cache.now.inner c.next_match.new.cache c.next_match.ensures.same),
  stays_for c.args.self.now.regex.now c.args.self.now.cache.now.inner c.next_match.new.cache c.requires c.next_match.ensures.same,
  c.next_match.ensures.start,
)

pub returns-clause-goes : goal.returns-clause-goes
returns-clause-goes g c = find_goes c.args.self.now _ c.next_match.result (returns-clause-steps g c)
