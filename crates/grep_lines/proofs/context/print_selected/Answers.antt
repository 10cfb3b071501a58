use Rattle.std.proofs.Common.{Bool, ℕ, ◌≤◌, ◌+◌, ◌∙◌, List, IfSome, MatchOption, ap, arith, length, refl, subst, sym}
use Rattle.grep_lines.specs.Blocks.{IsAtEnd, TakesLines}
use Rattle.grep_lines.specs.Context.{PrintsBeginning}
use Rattle.grep_lines.proofs.AdvanceLemmas.{read_weaker, stands_on, told_none}
use Rattle.grep_lines.proofs.StandsLemmas.{begun, left_at_enough, stands_first, told_enough}
use Rattle.grep_lines.proofs.context.print_selected.Goals as goal

-- nothing was read
pub loop-init : goal.loop-init
loop-init g c =
    let new = c.new-progress.ensures in
    record {
      sound = record { within = omega (arith, ap length new.kept); idle = λ _. new.left };
      placed = omega (arith, new.place, new.next);
      same = refl;
      few = omega arith;
      stands =
          stands_first c.args.terminator c.args.extent (λ _. g.S.LineSelector.selects c.args.selector.now) (g.P.LinePrinter.printed c.args.printer.now) c.new-progress.result
          (g.R.Read.remaining c.args.reader.now) new.kept new.next new.place new.left new.behind;
    }

-- enough lines were selected, and those behind the last one printed
pub returns-then-progress-eq0-clause-printed : goal.returns-then-progress-eq0-clause-printed
returns-then-progress-eq0-clause-printed g c =
    (told_enough c.args.terminator c.args.extent (λ _. g.S.LineSelector.selects c.args.selector.now) (g.P.LinePrinter.printed c.args.printer.now) c.loop.progress
    (g.P.LinePrinter.printed c.loop.printer) c.loop.count 0 (g.R.Read.remaining c.args.reader.now) (g.R.Read.remaining c.loop.reader)
    (omega arith) (omega arith) c.loop.invariant.stands).0

pub returns-then-progress-eq0-clause-counted : goal.returns-then-progress-eq0-clause-counted
returns-then-progress-eq0-clause-counted g c =
    (told_enough c.args.terminator c.args.extent (λ _. g.S.LineSelector.selects c.args.selector.now) (g.P.LinePrinter.printed c.args.printer.now) c.loop.progress
    (g.P.LinePrinter.printed c.loop.printer) c.loop.count 0 (g.R.Read.remaining c.args.reader.now) (g.R.Read.remaining c.loop.reader)
    (omega arith) (omega arith) c.loop.invariant.stands).1

pub returns-then-progress-eq0-clause-read : goal.returns-then-progress-eq0-clause-read
returns-then-progress-eq0-clause-read g c =
    left_at_enough c.args.terminator c.args.extent (λ _. g.S.LineSelector.selects c.args.selector.now) (g.P.LinePrinter.printed c.args.printer.now) c.loop.progress
    (g.P.LinePrinter.printed c.loop.printer) c.loop.count 0 (g.R.Read.remaining c.args.reader.now) (g.R.Read.remaining c.loop.reader)
    (omega arith) (omega arith) c.loop.invariant.stands

-- the text's end was reached
pub returns-in-None-clause-printed : goal.returns-in-None-clause-printed
returns-in-None-clause-printed g c =
    let e = c.args.extent in
    let stop = c.args.terminator in
    let picks = g.S.LineSelector.selects c.args.selector.now in
    let inv = c.loop.invariant in
    let mid = g.R.Read.remaining c.loop.reader in
    let left = g.R.Read.remaining c.step.new.reader in
    let start = g.P.LinePrinter.printed c.args.printer.now in
    let now = g.P.LinePrinter.printed c.loop.printer in
    let new = g.P.LinePrinter.printed c.step.new.printer in
    let count = c.loop.count in
    let over : IfSome mid (λ text. IsAtEnd stop c.loop.progress c.step.new.self now new text left) =
    subst (λ o. IfSome mid (λ text. MatchOption o (IsAtEnd stop c.loop.progress c.step.new.self now new text left)
    (λ more. TakesLines stop e (g.S.LineSelector.selects c.loop.selector) c.loop.progress c.step.new.self now new count more text left))) c.in-None.is c.in-Ok.ensures.ok in
    (told_none stop e picks c.loop.progress c.step.new.self start now new count mid left inv.sound over (g.R.Read.remaining c.args.reader.now) inv.stands).0

pub returns-in-None-clause-counted : goal.returns-in-None-clause-counted
returns-in-None-clause-counted g c =
    let e = c.args.extent in
    let stop = c.args.terminator in
    let picks = g.S.LineSelector.selects c.args.selector.now in
    let inv = c.loop.invariant in
    let mid = g.R.Read.remaining c.loop.reader in
    let left = g.R.Read.remaining c.step.new.reader in
    let start = g.P.LinePrinter.printed c.args.printer.now in
    let now = g.P.LinePrinter.printed c.loop.printer in
    let new = g.P.LinePrinter.printed c.step.new.printer in
    let count = c.loop.count in
    let over : IfSome mid (λ text. IsAtEnd stop c.loop.progress c.step.new.self now new text left) =
    subst (λ o. IfSome mid (λ text. MatchOption o (IsAtEnd stop c.loop.progress c.step.new.self now new text left)
    (λ more. TakesLines stop e (g.S.LineSelector.selects c.loop.selector) c.loop.progress c.step.new.self now new count more text left))) c.in-None.is c.in-Ok.ensures.ok in
    (told_none stop e picks c.loop.progress c.step.new.self start now new count mid left inv.sound over (g.R.Read.remaining c.args.reader.now) inv.stands).1

pub returns-in-None-clause-read : goal.returns-in-None-clause-read
returns-in-None-clause-read g c =
    let e = c.args.extent in
    let stop = c.args.terminator in
    let picks = g.S.LineSelector.selects c.args.selector.now in
    let inv = c.loop.invariant in
    let mid = g.R.Read.remaining c.loop.reader in
    let left = g.R.Read.remaining c.step.new.reader in
    let start = g.P.LinePrinter.printed c.args.printer.now in
    let now = g.P.LinePrinter.printed c.loop.printer in
    let new = g.P.LinePrinter.printed c.step.new.printer in
    let count = c.loop.count in
    let over : IfSome mid (λ text. IsAtEnd stop c.loop.progress c.step.new.self now new text left) =
    subst (λ o. IfSome mid (λ text. MatchOption o (IsAtEnd stop c.loop.progress c.step.new.self now new text left)
    (λ more. TakesLines stop e (g.S.LineSelector.selects c.loop.selector) c.loop.progress c.step.new.self now new count more text left))) c.in-None.is c.in-Ok.ensures.ok in
    (told_none stop e picks c.loop.progress c.step.new.self start now new count mid left inv.sound over (g.R.Read.remaining c.args.reader.now) inv.stands).2

-- lines were taken
pub loop-preserved : goal.loop-preserved
loop-preserved g c =
    let e = c.args.extent in
    let stop = c.args.terminator in
    let picks = g.S.LineSelector.selects c.args.selector.now in
    let inv = c.loop.invariant in
    let mid = g.R.Read.remaining c.loop.reader in
    let left = g.R.Read.remaining c.step.new.reader in
    let start = g.P.LinePrinter.printed c.args.printer.now in
    let now = g.P.LinePrinter.printed c.loop.printer in
    let new = g.P.LinePrinter.printed c.step.new.printer in
    let count = c.loop.count in
    let more = c.in-Some.more in
    let taken : IfSome mid (λ text. TakesLines stop e picks c.loop.progress c.step.new.self now new count more text left) =
    subst (λ (p : List ℕ → Bool). IfSome mid (λ text. TakesLines stop e p c.loop.progress c.step.new.self now new count more text left)) inv.same
    (subst (λ o. IfSome mid (λ text. MatchOption o (IsAtEnd stop c.loop.progress c.step.new.self now new text left)
    (λ more. TakesLines stop e (g.S.LineSelector.selects c.loop.selector) c.loop.progress c.step.new.self now new count more text left))) c.in-Some.is c.in-Ok.ensures.ok) in
    record {
      sound = c.in-Ok.ensures.sound;
      placed = c.in-Ok.ensures.placed;
      same = c.step.ensures.same ∙ inv.same;
      few = subst (λ o. IfSome o (λ more. count + more ≤ e.most)) c.in-Some.is c.in-Ok.ensures.few;
      stands = stands_on stop e picks c.loop.progress c.step.new.self now new count more start (g.R.Read.remaining c.args.reader.now) mid left inv.stands taken;
    }

-- there are too many lines
pub returns-clause-begun : goal.returns-clause-begun
returns-clause-begun g c =
    begun c.args.terminator c.args.extent (λ _. g.S.LineSelector.selects c.args.selector.now) (g.P.LinePrinter.printed c.args.printer.now) c.loop.progress
    (g.P.LinePrinter.printed c.loop.printer) c.loop.count 0 (g.R.Read.remaining c.args.reader.now) (g.R.Read.remaining c.loop.reader)
    c.loop.invariant.stands

pub returns-then-not-has_room-clause-begun : goal.returns-then-not-has_room-clause-begun
returns-then-not-has_room-clause-begun g c =
    begun c.args.terminator c.args.extent (λ _. g.S.LineSelector.selects c.args.selector.now) (g.P.LinePrinter.printed c.args.printer.now) c.loop.progress
    (g.P.LinePrinter.printed c.loop.printer) c.loop.count 0 (g.R.Read.remaining c.args.reader.now) (g.R.Read.remaining c.loop.reader)
    c.loop.invariant.stands

-- a line couldn't be read
pub returns-in-Err-clause-begun : goal.returns-in-Err-clause-begun
returns-in-Err-clause-begun g c =
    let start = g.P.LinePrinter.printed c.args.printer.now in
    let input = g.R.Read.remaining c.args.reader.now in
    let picks = g.S.LineSelector.selects c.args.selector.now in
    read_weaker c.in-Err.fault c.in-Err.ensures.unprinted
    (λ same. subst (λ o. IfSome input (PrintsBeginning c.args.terminator c.args.extent (λ _. picks) start o)) (sym same)
    (begun c.args.terminator c.args.extent (λ _. picks) start c.loop.progress (g.P.LinePrinter.printed c.loop.printer) c.loop.count 0 input (g.R.Read.remaining c.loop.reader)
    c.loop.invariant.stands))
