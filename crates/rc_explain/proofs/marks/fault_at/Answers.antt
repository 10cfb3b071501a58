use Rattle.std.proofs.Common.{◌≡◌, ◌+◌, ◌≤◌, IfOk, arith, drop, length, rules, subst, sym, take}
use Rattle.rc_tokens.specs.View.{said_of}
use Rattle.rc_parser.specs.declared.config.Grammar.TheVariants.{Stated}
use Rattle.rc_explain.specs.Reading.{IsToken}
use Rattle.rc_explain.specs.Shown.{HasShape, Shows, Stands, shape_of}
use Rattle.rc_explain.proofs.Begins.{opens_at}
use Rattle.rc_explain.proofs.Shapes.{plain_stated, shows, stands_shifted, wider}
use Rattle.rc_explain.proofs.Tokens.{token_alone}
use Rattle.rc_explain.proofs.marks.fault_at.Goals.{in-None, in-Some-2}
use Rattle.rc_explain.proofs.marks.fault_at.Goals as goal

pub returns-then-at-stop : goal.returns-then-at-stop
returns-then-at-stop c =
    let t = c.args.text.now in
    elim c.match-branch-5.branch [
      | in-Some-2 w ↦
          let f = w.in-Some-2.fault in
          let g = w.after-in-Some-2.result in
          let here : HasShape Stated f.kind (take c.in-Some.count (drop c.loop.at t)) f.start f.end = search rules in
          subst (λ r. IfOk r (λ found. Shows Stated found.kind t found.start found.end)) (sym w.result-is)
          (shows Stated g.kind t g.start g.end
          (w.after-in-Some-2.ensures Stated t c.requires (wider (shape_of Stated f.kind) c.in-Some.count (drop c.loop.at t) f.start f.end (plain_stated f.kind) here)))
      | in-None w ↦
          subst (λ r. IfOk r (λ found. Shows Stated found.kind t found.start found.end)) (sym w.result-is)
          (w.too_deep.ensures Stated t c.loop.invariant)
    ]

pub loop-preserved : goal.loop-preserved
loop-preserved c =
    let t = c.args.text.now in
    let m = c.from-mark.result.now in
    let at = c.loop.at in
    let read : IsToken (said_of c.in-Some.token) m 0 c.in-Some.count = search rules in
    let same : 0 + at ≡ at = omega arith in
    c.in_ok-pass.ensures t
    (λ start e.
    let first : Stands m 0 40 = opens_at m start c.in-Some.count (subst (λ k. IsToken k m 0 c.in-Some.count) e read) in
    subst (λ k. Stands t k 40) same (stands_shifted at t 0 40 (subst (λ l. Stands l 0 40) c.from-mark.ensures first)))
    c.loop.invariant

pub mark_fault-requires-clause-token : goal.mark_fault-requires-clause-token
mark_fault-requires-clause-token c =
    let m = c.from-mark.result.now in
    let n = c.in-Some.count in
    let read : IsToken (said_of c.in-Some.token) m 0 n = search rules in
    let fits : n ≤ length m = search rules in
    token_alone m (said_of c.in-Some.token) n fits read

pub returns-in_default : goal.returns-in_default
returns-in_default c =
    let t = c.args.text.now in
    let f = c.after.result in
    let here : HasShape Stated f.kind t f.start f.end = search rules in
    shows Stated f.kind t f.start f.end here
