use Rattle.std.proofs.Common.{◌≡◌, ◌+◌, length, map}
use Rattle.grep_lines.specs.Ahead.{IsPlaced, contents, plain}
use Rattle.grep_lines.specs.Context.{size_of}
use Rattle.grep_lines.proofs.context.Progress.pass.Given as goal

-- some of the kept lines were passed over
abbrev pub invariant-loop-line : goal.invariant-loop-line
invariant-loop-line l = record {
  next : l.self.next + length l.self.kept.items ≡ l.initial.self.next + length l.initial.self.kept.items;
  place :
      l.self.place + size_of (map plain (contents l.self.kept.items)) ≡ l.initial.self.place + size_of (map plain (contents l.initial.self.kept.items));
  left : l.self.left ≡ l.initial.self.left;
  behind : l.self.behind ≡ l.initial.self.behind;
  placed : IsPlaced l.self;
}

abbrev pub decreases-loop-line : goal.decreases-loop-line
decreases-loop-line l = length l.self.kept.items
