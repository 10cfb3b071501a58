use Rattle.std.proofs.Common.{◌≡◌, IfSome, false}
use Rattle.rcsub.proofs.ByLine.{Stands}
use Rattle.rcsub.proofs.replacer.Replacer.rewrite_lines.Given as goal

-- the lines before those that are left were put
abbrev pub invariant-loop-read : goal.invariant-loop-read
invariant-loop-read g l = record {
  stands : IfSome (g.R.Read.remaining l.initial.input) (λ text.
      Stands l.self text (g.R.Read.remaining l.input) (g.W.Sink.taken l.initial.out) (g.W.Sink.taken l.out) l.any);
  sound : g.W.Sink.has_failed l.out ≡ false;
}
