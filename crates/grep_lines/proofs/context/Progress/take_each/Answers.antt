use Rattle.std.proofs.Common.{ℕ, List, false, ◌≡◌, ◌<◌, ◌+◌, ◌-◌, ◌∙◌, ◌++◌, ap, arith, drop, get_or, get_or-take, length, length-drop, length-take-le, refl, subst, sym, take, take_all}
use Rattle.std.proofs.lemmas.Bool.{eqb-true, eq-eqb}
use Rattle.grep_lines.specs.Ahead.{Advances}
use Rattle.grep_lines.specs.Blocks.{IsTaking}
use Rattle.grep_lines.specs.Lines.{lines}
use Rattle.grep_lines.proofs.AdvanceLemmas.{first_cut, some_lines_in, taking_all, taking_first, taking_more, taking_none}
use Rattle.grep_lines.proofs.LineLemmas.{HasNo}
use Rattle.grep_lines.proofs.context.Progress.take_each.Goals as goal

pub loop-end-init : goal.loop-end-init
loop-end-init g c = record {
  sound = c.requires.sound;
  placed = c.requires.placed;
  same = refl;
  counted = c.requires.counted;
  next = refl;
  taking = taking_first c.args.plan.extent c.args.plan.terminator c.args.self.now (g.P.LinePrinter.printed c.args.printer.now) c.args.text.now c.requires.whole;
}

-- a line more was taken
pub loop-end-preserved : goal.loop-end-preserved
loop-end-preserved g c =
    let inv = c.loop-end.invariant in
    let stop = c.args.plan.terminator in
    let left = c.loop-end.left.now in
    let end = c.in-Some.end in
    let found = c.in-Some.ensures in
    let line = take end left in
    let sized : length line ≡ end = length-take-le end left (omega (arith, found.0.high)) in
    let free : HasNo stop line = λ k lt ten.
    found.0.before k (omega arith) (omega (arith, lt, sized))
    (eq-eqb (get_or left k 0) stop (sym (get_or-take end left k 0 (omega (arith, lt, sized))) ∙ ten)) in
    let is : get_or left end 0 ≡ stop = eqb-true (get_or left end 0) stop found.1 in
    let items : c.extend_from_slice.new.self.items ≡ line = c.in_ok-extend_from_slice.ensures.items ∙ ap (λ (xs : List ℕ). xs ++ line) c.clear.ensures.items in
    let old = g.P.LinePrinter.printed c.loop-end.printer in
    let new = g.P.LinePrinter.printed c.take.new.printer in
    let told : Advances c.args.plan.extent c.loop-end.self c.take.new.self old new (record { line = line; selected = false }) =
    subst (λ (xs : List ℕ). Advances c.args.plan.extent c.loop-end.self c.take.new.self old new (record { line = xs; selected = false })) items c.in_ok-take.ensures.ok in
    let cut = first_cut stop left end found.0.high free is in
    let was = c.args.self.now in
    let rest = drop (end + 1) left in
    let some : 0 < c.loop-end.rest = omega (arith, inv.counted, ap length cut) in
    let before : c.loop-end.self.next + length c.loop-end.self.kept.items + c.loop-end.rest ≡ was.next + length was.kept.items + c.args.count = inv.next in
    let after : c.take.new.self.next + length c.take.new.self.kept.items ≡ c.loop-end.self.next + length c.loop-end.self.kept.items + 1 = c.in_ok-take.ensures.next in
    let behind : c.take.new.self.next + length c.take.new.self.kept.items + (c.loop-end.rest - 1) ≡ was.next + length was.kept.items + c.args.count =
    omega (arith, some, before, after) in
    let all : take (length left - (end + 1)) rest ≡ rest = take_all (length left - (end + 1)) rest (omega (arith, length-drop (end + 1) left)) in
    let fewer : c.loop-end.rest - 1 ≡ length (lines stop rest) = omega (arith, inv.counted, ap length cut) in
    record {
      sound = c.in_ok-take.ensures.sound;
      placed = c.in_ok-take.ensures.placed;
      same = c.take.ensures.same ∙ inv.same;
      counted = fewer ∙ ap (λ xs. length (lines stop xs)) (sym all);
      next = behind;
      taking =
          subst (IsTaking stop c.args.plan.extent was c.take.new.self (g.P.LinePrinter.printed c.args.printer.now) new c.args.text.now) (sym all)
          (taking_more c.args.plan.extent stop was c.loop-end.self (g.P.LinePrinter.printed c.args.printer.now) old c.args.text.now left c.take.new.self new end
          inv.taking found.0.high free is told);
    }

-- a line is left, and can be numbered
pub take-requires-clause-fits : goal.take-requires-clause-fits
take-requires-clause-fits g c =
    let inv = c.loop-end.invariant in
    let was = c.args.self.now in
    let before : c.loop-end.self.next + length c.loop-end.self.kept.items + c.loop-end.rest ≡ was.next + length was.kept.items + c.args.count = inv.next in
    let some : 0 < length (lines c.args.plan.terminator c.loop-end.left.now) = some_lines_in c.args.plan.terminator c.loop-end.left.now (omega (arith, c.in-Some.ensures.0.high)) in
    omega (arith, some, inv.counted, before, c.requires.fits)

pub overflow_sub-rest : goal.overflow_sub-rest
overflow_sub-rest g c =
    let some : 0 < length (lines c.args.plan.terminator c.loop-end.left.now) = some_lines_in c.args.plan.terminator c.loop-end.left.now (omega (arith, c.in-Some.ensures.0.high)) in
    omega (arith, some, c.loop-end.invariant.counted)

-- the last ones of the others are kept
pub returns-then-rest-plan-clause-ok : goal.returns-then-rest-plan-clause-ok
returns-then-rest-plan-clause-ok g c =
    let now = g.P.LinePrinter.printed c.loop-end.printer in
    taking_all c.args.plan.extent c.args.plan.terminator c.args.self.now c.loop-end.self (g.P.LinePrinter.printed c.args.printer.now) now c.args.text.now c.loop-end.left.now
    c.keep_last.new.self now c.loop-end.invariant.taking (c.in_ok-keep_last.ensures.ok now)

-- none is left
pub returns-clause-ok : goal.returns-clause-ok
returns-clause-ok g c =
    taking_none c.args.plan.extent c.args.plan.terminator c.args.self.now c.loop-end.self (g.P.LinePrinter.printed c.args.printer.now) (g.P.LinePrinter.printed c.loop-end.printer)
    c.args.text.now c.loop-end.left.now c.loop-end.invariant.taking (λ k lt ten. c.in_default.ensures k (omega arith) lt (eq-eqb _ c.args.plan.terminator ten))

pub overflow_add-left : goal.overflow_add-left
overflow_add-left g c = omega (arith, c.in-Some.ensures.0.high, c.loop-end.invariant.taking.short)
