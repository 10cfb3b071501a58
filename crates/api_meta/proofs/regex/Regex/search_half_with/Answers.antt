use Rattle.api_meta.proofs.Cached.{keeps_room, stays_for}
use Rattle.api_meta.proofs.Going.{late_half, may_half}
use Rattle.api_meta.proofs.regex.Regex.search_half_with.Goals as goal

pub returns-clause-may : goal.returns-clause-may
returns-clause-may g c = may_half c.args.self.now c.args.input.now c.search_end.result c.search_end.ensures.may

pub returns-clause-found_by : goal.returns-clause-found_by
returns-clause-found_by g c late = late_half c.args.self.now c.args.input.now c.search_end.result late c.search_end.ensures.may

pub returns-clause-cache : goal.returns-clause-cache
returns-clause-cache g c =
    stays_for c.args.self.now c.args.cache.now.inner c.search_end.new.cache c.requires.made c.search_end.ensures.cache

pub returns-clause-room : goal.returns-clause-room
returns-clause-room g c = keeps_room c.args.self.now c.args.cache.now.inner c.search_end.new.cache c.search_end.ensures.cache
