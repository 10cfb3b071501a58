use Rattle.api_meta.proofs.Cached.{made_for}
use Rattle.api_meta.proofs.cache.Cache.new.Goals as goal

pub returns : goal.returns
returns c = made_for c.args.regex.now c.in_ok-inner.inner c.in_ok-inner.ensures.made c.in_ok-inner.ensures.both c.in_ok-inner.ensures.symbols
