use Rattle.std.proofs.Common.{◌∙◌}
use Rattle.oracle_walker.proofs.TextLemmas.{holds_around}
use Rattle.oracle_walker.proofs.ways.holds_at.Goals as goal

pub returns-clause-value : goal.returns-clause-value
returns-clause-value g c =
    rw (c.around.ensures.bytes, c.around.ensures.place) at c.holds.ensures
    ∙ holds_around c.args.input.now c.args.terminator c.args.look c.args.position c.requires.low c.requires.high
