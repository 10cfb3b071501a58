use Rattle.std.proofs.Common.{◌≡◌, length}
use Rattle.std.specs.Io.KnownBytes.{Keeps}
use Rattle.rcsub.proofs.rewrite.read_page.Given as goal

-- nothing was read yet
abbrev pub invariant-loop-turn : goal.invariant-loop-turn
invariant-loop-turn g l = record {
  kept : Keeps (g.R.Read.remaining l.initial.input) (g.R.Read.remaining l.input);
  long : length l.page ≡ length l.initial.page;
}
