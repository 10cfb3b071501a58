use Rattle.api_meta.proofs.Cached.{keeps_room, stays_for}
use Rattle.api_meta.proofs.Going.{late_answer, leftmost_answer, may_answer}
use Rattle.api_meta.proofs.Preferred.{prefers}
use Rattle.api_meta.proofs.regex.Regex.search_with.Goals as goal

pub returns-clause-may : goal.returns-clause-may
returns-clause-may g c = may_answer c.args.self.now c.args.input.now c.search.result c.search.ensures.may

pub returns-clause-found_by : goal.returns-clause-found_by
returns-clause-found_by g c late = late_answer c.args.self.now c.args.input.now c.search.result late c.search.ensures.may

pub returns-clause-found : goal.returns-clause-found
returns-clause-found g c kind late = leftmost_answer c.args.self.now c.args.input.now c.search.result kind late c.search.ensures.may

pub returns-clause-preferred : goal.returns-clause-preferred
returns-clause-preferred g c kind plain late =
    prefers c.args.self.now c.args.input.now kind plain c.search.result (returns-clause-found_by g c late)

pub returns-clause-cache : goal.returns-clause-cache
returns-clause-cache g c =
    stays_for c.args.self.now c.args.cache.now.inner c.search.new.cache c.requires.made c.search.ensures.cache

pub returns-clause-room : goal.returns-clause-room
returns-clause-room g c = keeps_room c.args.self.now c.args.cache.now.inner c.search.new.cache c.search.ensures.cache
