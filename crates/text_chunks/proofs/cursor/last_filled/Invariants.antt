use Rattle.std.proofs.Common.{◌≡◌, ◌<◌, ◌+◌, take}
use Rattle.rc_text.specs.Joined.{joined}
use Rattle.text_chunks.proofs.cursor.last_filled.Given as goal

abbrev pub invariant-loop-index : goal.invariant-loop-index
invariant-loop-index l = record {
  below : l.index < l.to;
  after : joined (take l.to l.text) ≡ joined (take (l.index + 1) l.text);
}

abbrev pub decreases-loop-index : goal.decreases-loop-index
decreases-loop-index l = l.index
