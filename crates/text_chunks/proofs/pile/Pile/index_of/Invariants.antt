use Rattle.std.proofs.Common.{◌<◌, ◌≤◌, ◌-◌, length, take}
use Rattle.rc_text.specs.Joined.{joined}
use Rattle.text_chunks.proofs.pile.Pile.index_of.Given as goal

-- the byte is between the two
abbrev pub invariant-loop-high : goal.invariant-loop-high
invariant-loop-high l = record {
  order : l.low < l.high;
  within : l.high ≤ length l.self;
  least : length (joined (take l.low l.self)) ≤ l.at;
  most : l.at < length (joined (take l.high l.self));
}

abbrev pub decreases-loop-high : goal.decreases-loop-high
decreases-loop-high l = l.high - l.low
