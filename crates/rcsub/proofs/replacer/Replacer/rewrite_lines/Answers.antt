use Rattle.std.proofs.Common.{◌≡◌, ◌<◌, ◌++◌, IfSome, arith, length, subst, sym}
use Rattle.std.specs.Io.BufRead.{take_through}
use Rattle.rcsub.proofs.ByLine.{advanced, ended}
use Rattle.rcsub.proofs.replacer.Replacer.rewrite_lines.Goals as goal

pub returns-then-branch-eq0-clause-put : goal.returns-then-branch-eq0-clause-put
returns-then-branch-eq0-clause-put g c =
    ended c.args.self.now (g.R.Read.remaining c.args.input.now) (g.R.Read.remaining c.loop-read.input) (g.W.Sink.taken c.args.out.now) (g.W.Sink.taken c.loop-read.out)
    c.loop-read.any c.loop-read.invariant.stands (c.in_ok-read_until.ensures.end c.if-branch-eq0.true)

pub loop-read-preserved : goal.loop-read-preserved
loop-read-preserved g c =
    let left = g.R.Read.remaining c.loop-read.input in
    let items = c.read_until.new.buf.items in
    let read : IfSome left (λ xs. items ≡ take_through 10 xs) =
    subst (λ zs. IfSome left (λ xs. items ≡ zs ++ take_through 10 xs)) c.clear.ensures.items c.in_ok-read_until.ensures.bytes in
    let some : 0 < length items = omega (arith, c.in_ok-read_until.ensures.ok, c.if-branch-eq0.false, c.read_until.new.buf.ok.0) in
    record {
      stands =
          advanced c.args.self.now (g.R.Read.remaining c.args.input.now) left (g.R.Read.remaining c.read_until.new.self) (g.W.Sink.taken c.args.out.now)
          (g.W.Sink.taken c.loop-read.out) (g.W.Sink.taken c.replace_line.new.out) c.loop-read.any c.deref.result.now c.in_ok-count.count c.loop-read.invariant.stands
          (subst (λ xs. 0 < length xs) (sym c.deref.ensures.value) some) (subst (λ ys. IfSome left (λ xs. ys ≡ take_through 10 xs)) (sym c.deref.ensures.value) read)
          c.in_ok-read_until.ensures.rest c.in_ok-count.ensures.put;
      sound = c.in_ok-count.ensures.sound;
    }
