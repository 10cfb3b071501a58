use Rattle.std.proofs.Common.{sym}
use Rattle.rc_determinize.proofs.PlaceLemmas.{placed}
use Rattle.rc_determinize.proofs.open.place_at.Goals as goal

pub returns : goal.returns
returns c = sym (placed c.args.places.now c.args.index c.index-places-index.result c.requires c.index-places-index.is)
