use Rattle.api_meta.proofs.Cached.{keeps_room, stays_for}
use Rattle.api_meta.proofs.regex.Regex.undecided_by_bytes.Goals as goal

pub returns-clause-cache : goal.returns-clause-cache
returns-clause-cache g c =
    stays_for c.args.self.now c.args.cache.now.inner c.undecided_from-idle.new.cache c.requires.made c.undecided_from-idle.ensures.cache

pub returns-clause-room : goal.returns-clause-room
returns-clause-room g c =
    keeps_room c.args.self.now c.args.cache.now.inner c.undecided_from-idle.new.cache c.undecided_from-idle.ensures.cache
