use Rattle.live_matches.proofs.live.LiveMatches.next_from.Goals as goal

pub returns : goal.returns
returns c hi o = (c.index_from-index.result, c.index_from-index.ensures hi o, c.get.ensures)
