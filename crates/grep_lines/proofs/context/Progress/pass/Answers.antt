use Rattle.std.proofs.Common.{◌≡◌, ◌∷◌, ap, arith, length, map, refl}
use Rattle.grep_lines.specs.Ahead.{contents, plain}
use Rattle.grep_lines.specs.Context.{size_of}
use Rattle.grep_lines.proofs.context.Progress.pass.Goals as goal

pub loop-line-init : goal.loop-line-init
loop-line-init c = record { next = refl; place = refl; left = refl; behind = refl; placed = c.requires.placed }

-- one more was
pub loop-line-preserved : goal.loop-line-preserved
loop-line-preserved c =
    let inv = c.loop-line.invariant in
    let was = c.loop-line.self in
    let is : was.kept.items ≡ c.in-Some.line ∷ c.pop_front.new.self.items = c.in-Some.ensures.items in
    record {
      next = omega (arith, inv.next, ap length is);
      place = omega (arith, inv.place, ap (λ vs. size_of (map plain (contents vs))) is, c.len.ensures, c.in-Some.line.ok.0);
      left = inv.left;
      behind = inv.behind;
      placed = omega (arith, inv.placed, c.len.ensures, c.in-Some.line.ok.0);
    }
