use Rattle.api_meta.proofs.Cached.{keeps_room, stays_for}
use Rattle.api_meta.proofs.Going.{is_matched}
use Rattle.api_meta.proofs.regex.Regex.is_match_with.Goals as goal

pub returns-clause-found_by : goal.returns-clause-found_by
returns-clause-found_by g c = is_matched c.args.self.now c.args.input.now c.is_match.result c.is_match.ensures.found

pub returns-clause-cache : goal.returns-clause-cache
returns-clause-cache g c =
    stays_for c.args.self.now c.args.cache.now.inner c.is_match.new.cache c.requires.made c.is_match.ensures.cache

pub returns-clause-room : goal.returns-clause-room
returns-clause-room g c = keeps_room c.args.self.now c.args.cache.now.inner c.is_match.new.cache c.is_match.ensures.cache
