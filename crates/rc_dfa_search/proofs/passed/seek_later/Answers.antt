use Rattle.rc_dfa_search.specs.Aims.{is_early}
use Rattle.rc_dfa_search.proofs.passed.seek_later.Goals as goal

pub seek_along-requires-clause-memo : goal.seek_along-requires-clause-memo
seek_along-requires-clause-memo g c =
    g.met.H.Halves.bare_memo c.args.halves.now c.args.cache.now c.args.input.now c.args.bounds.high (is_early c.args.aim) c.new-memo.result
    (record { era = c.new-memo.ensures.era; empty = c.new-memo.ensures.empty })
