use Rattle.std.proofs.Common.{◌≡◌, ◌-◌, length, take, drop}
use Rattle.rc_text.specs.Joined.{joined}
use Rattle.text_chunks.proofs.cursor.next_filled.Given as goal

abbrev pub invariant-loop-index : goal.invariant-loop-index
invariant-loop-index l = record {
  before : joined (take l.index l.text) ≡ joined (take l.from l.text);
  after : joined (drop l.index l.text) ≡ joined (drop l.from l.text);
}

abbrev pub decreases-loop-index : goal.decreases-loop-index
decreases-loop-index l = length l.text - l.index
