use Rattle.std.proofs.Common.{◌∙◌}
use Rattle.rc_words.proofs.LookLemmas.{holds_around}
use Rattle.rc_words.proofs.search.holds_at.Goals as goal

pub returns-clause-value : goal.returns-clause-value
returns-clause-value g c =
    rw (c.around.ensures.bytes, c.around.ensures.place) at c.holds.ensures
    ∙ holds_around c.args.input.now c.args.terminator c.args.look c.args.position c.requires.low c.requires.high
