use Rattle.std.proofs.Common.{Bor, List, ℕ, ◌+◌, arith, refl}
use Rattle.std.specs.Option.{option_map}
use Rattle.std.proofs.lemmas.List.Elements.{All-nil}
use Rattle.grep_options.proofs.NearestLemmas.{Best, best_gained, best_kept, best_of_all}
use Rattle.grep_options.proofs.read.nearest.Goals as goal
use Rattle.grep_options.proofs.read.nearest.Goals.{then-distance-least, else-distance-least}

pub loop-entry-init : goal.loop-entry-init
loop-entry-init c = record { near = All-nil _; is = refl; most = omega arith }

-- one option more
pub loop-entry-preserved : goal.loop-entry-preserved
loop-entry-preserved c =
    let table = c.args.table.now in
    let text = c.args.name.now in
    let before = option_map (λ (n : Bor (List ℕ)). n.now) c.loop-entry.best in
    let there = c.in_ok-distance.ensures.value in
    elim c.if-distance-least.branch as (λ _. Best table (c.loop-entry.entry-index + 1) text (option_map (λ (n : Bor (List ℕ)). n.now) c.if-distance-least.best) c.if-distance-least.least) [
      | then-distance-least w ↦
          rw (w.best-is, w.least-is)
          (best_gained table c.loop-entry.entry-index _ text before c.loop-entry.least c.in_ok-distance.distance c.loop-entry-test.true c.loop-entry.invariant there
          w.if-distance-least.true)
      | else-distance-least w ↦
          rw (w.best-is, w.least-is)
          (best_kept table c.loop-entry.entry-index _ text before c.loop-entry.least c.in_ok-distance.distance c.loop-entry-test.true c.loop-entry.invariant there
          w.if-distance-least.false)
    ]

pub returns : goal.returns
returns c =
    best_of_all c.args.table.now c.loop-entry.entry-index c.args.name.now (option_map (λ (n : Bor (List ℕ)). n.now) c.loop-entry.best) c.loop-entry.least c.loop-entry-test.false
    c.loop-entry.invariant
