use Rattle.std.proofs.Common.{◌≡◌, ◌+◌, ◌<◌, ◌≤◌, IfOk, arith, drop, length, rules, subst, sym}
use Rattle.rc_parser.specs.declared.config.Grammar.TheVariants.{Full}
use Rattle.rc_full_parser.specs.View.{mark_of}
use Rattle.rc_explain.specs.Reading.{BeginsMark}
use Rattle.rc_explain.specs.Shown.{HasShape, Shows, Stands}
use Rattle.rc_explain.proofs.FullMarks.{opens_first}
use Rattle.rc_explain.proofs.Shapes.{shows, stands_shifted}
use Rattle.rc_explain.proofs.full_marks.full_fault_at.Goals.{in-None, in-Some}
use Rattle.rc_explain.proofs.full_marks.full_fault_at.Goals as goal

pub returns-then-at-stop : goal.returns-then-at-stop
returns-then-at-stop c =
    let t = c.args.text.now in
    let at = c.saturating_sub-at.result in
    elim c.match-branch-4.branch [
      | in-Some w ↦
          let f = w.in-Some.fault in
          let g = w.after-in-Some.result in
          let here : HasShape Full f.kind (drop at t) f.start f.end = search rules in
          subst (λ r. IfOk r (λ found. Shows Full found.kind t found.start found.end)) (sym w.result-is)
          (shows Full g.kind t g.start g.end
          (w.after-in-Some.ensures Full t c.requires here))
      | in-None w ↦
          subst (λ r. IfOk r (λ found. Shows Full found.kind t found.start found.end)) (sym w.result-is)
          (w.too_deep.ensures Full t c.loop.invariant)
    ]

pub loop-preserved : goal.loop-preserved
loop-preserved c =
    let t = c.args.text.now in
    let at = c.saturating_sub-at.result in
    let m = c.from-rest.result.now in
    let same : 0 + at ≡ at = omega arith in
    let n = c.in-Ok.read.1 in
    let k = mark_of c.in-Ok.read.0 in
    let read : (0 < n) × (n ≤ length m) × BeginsMark k m n = search rules in
    c.in_ok-pass.ensures t
    (λ start x e. subst (λ k. Stands t k 40) same (stands_shifted at t 0 40 (subst (λ l. Stands l 0 40) c.from-rest.ensures (opens_first m k n start x read.2 e))))
    c.loop.invariant
