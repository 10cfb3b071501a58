use Rattle.std.proofs.Common.{◌+◌, length, slice_range, sym}
use Rattle.std.proofs.lemmas.Slice.Eq.{bytes_eq-Decides}
use Rattle.rc_needles.proofs.RangeLemmas.{one_byte}
use Rattle.rc_needles.proofs.literal.stands.Goals as goal

pub returns-then-needle-eq1-clause-value : goal.returns-then-needle-eq1-clause-value
returns-then-needle-eq1-clause-value g c =
    let content = c.args.input.now.content in
    let needle = c.args.needle.now in
    sym ((bytes_eq-Decides (slice_range content c.args.at (c.args.at + length needle)) needle).1
    (one_byte content needle c.args.at c.if-needle-eq1.true c.requires.begins))
