use Rattle.api_meta.proofs.Cached.{made_for}
use Rattle.api_meta.proofs.cache.Cache.reset.Goals as goal

pub returns-clause-made : goal.returns-clause-made
returns-clause-made c = made_for c.args.regex.now c.in_ok-self.field-0 c.in_ok-self.ensures.made c.in_ok-self.ensures.both c.in_ok-self.ensures.symbols
