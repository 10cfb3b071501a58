use Rattle.std.proofs.Common.{ℕ, false, true, ◌≡◌, ◌+◌, ◌-◌, ◌*◌, ◌&&◌, ◌≤◌, ◌∙◌, Bool, List, IfSome, ap, arith, cond, length, nat_lt, refl, subst}
use Rattle.std.specs.Prelude.{MatchOption}
use Rattle.std.specs.Io.KnownBytes.{Keeps}
use mir.Val.{bool_byte}
use Rattle.grep_lines.specs.Blocks.{IsUntaken, TakesLinesAt}
use Rattle.grep_lines.specs.Selected.{TakesLine}
use Rattle.grep_lines.specs.Touched.{left_at, picks_touched}
use Rattle.grep_lines.specs.declared.context.Progress.{Progress}
use Rattle.grep_lines.specs.declared.touched.Touched.{Touched}
use Rattle.grep_lines.proofs.StretchLemmas.{stands_behind, stands_still}
use Rattle.grep_lines.proofs.TouchedLemmas.{left_again}
use Rattle.grep_lines.proofs.StandsLemmas.{few_more, left_at_end, left_at_enough, stands_first, stands_next, told_at_end, told_enough}
use Rattle.grep_lines.proofs.touched.print_touched.Goals as goal

-- nothing was read
pub loop-init : goal.loop-init
loop-init g c =
    let new = c.new-progress.ensures in
    record {
      sound = record { within = omega (arith, ap length new.kept); idle = λ _. new.left };
      placed = omega (arith, new.place, new.next);
      same = refl;
      few = omega arith;
      near = omega arith;
      all = refl;
      left = λ p le. refl;
      stands =
          stands_first c.args.terminator c.args.extent (picks_touched c.args.touched.now.is_inverted c.args.touched.now.spans.now) (g.P.LinePrinter.printed c.args.printer.now)
          c.new-progress.result (g.R.Read.remaining c.args.reader.now) new.kept new.next new.place new.left new.behind;
    }

-- enough lines were selected, and those behind the last one printed
pub returns-then-progress-eq0-clause-printed : goal.returns-then-progress-eq0-clause-printed
returns-then-progress-eq0-clause-printed g c =
    (told_enough c.args.terminator c.args.extent (picks_touched c.args.touched.now.is_inverted c.args.touched.now.spans.now) (g.P.LinePrinter.printed c.args.printer.now) c.loop.progress
    (g.P.LinePrinter.printed c.loop.printer) c.loop.front.count c.loop.front.place (g.R.Read.remaining c.args.reader.now) (g.R.Read.remaining c.loop.reader)
    (omega arith) (omega arith) c.loop.invariant.stands).0

pub returns-then-progress-eq0-clause-counted : goal.returns-then-progress-eq0-clause-counted
returns-then-progress-eq0-clause-counted g c =
    (told_enough c.args.terminator c.args.extent (picks_touched c.args.touched.now.is_inverted c.args.touched.now.spans.now) (g.P.LinePrinter.printed c.args.printer.now) c.loop.progress
    (g.P.LinePrinter.printed c.loop.printer) c.loop.front.count c.loop.front.place (g.R.Read.remaining c.args.reader.now) (g.R.Read.remaining c.loop.reader)
    (omega arith) (omega arith) c.loop.invariant.stands).1

pub returns-then-progress-eq0-clause-read : goal.returns-then-progress-eq0-clause-read
returns-then-progress-eq0-clause-read g c =
    left_at_enough c.args.terminator c.args.extent (picks_touched c.args.touched.now.is_inverted c.args.touched.now.spans.now) (g.P.LinePrinter.printed c.args.printer.now) c.loop.progress
    (g.P.LinePrinter.printed c.loop.printer) c.loop.front.count c.loop.front.place (g.R.Read.remaining c.args.reader.now) (g.R.Read.remaining c.loop.reader)
    (omega arith) (omega arith) c.loop.invariant.stands

-- lines of a page were taken
pub loop-preserved-in-Some : goal.loop-preserved-in-Some
loop-preserved-in-Some g c =
    let e = c.args.extent in
    let stop = c.args.terminator in
    let touched = c.args.touched.now in
    let picks = picks_touched touched.is_inverted touched.spans.now in
    let inv = c.loop.invariant in
    let start = g.P.LinePrinter.printed c.args.printer.now in
    let input = g.R.Read.remaining c.args.reader.now in
    let mid = g.R.Read.remaining c.loop.reader in
    let now = g.P.LinePrinter.printed c.loop.printer in
    let new = g.P.LinePrinter.printed c.take_touched.new.printer in
    let p = c.loop.progress in
    let q = c.take_touched.new.self in
    let front = c.loop.front in
    let ensured = c.in_ok-taken.ensures in
    let next = g.R.Read.remaining c.take_touched.new.reader in
    let t = c.in-Some.taken in
    let told : IfSome mid (λ text. TakesLinesAt stop e picks p q now new front.count t.selected front.place t.len text next) =
    subst (λ (x : Touched). IfSome mid (λ text. TakesLinesAt stop e (picks_touched x.is_inverted x.spans.now) p q now new front.count t.selected front.place t.len text next)) inv.all
    (subst (λ o. MatchOption o (IsUntaken p q now new × Keeps mid next) (λ t. IfSome mid (λ text. TakesLinesAt stop e
    (picks_touched front.touched.now.is_inverted front.touched.now.spans.now) p q now new front.count t.selected front.place t.len text next))) c.in-Some.is ensured.ok) in
    record {
      sound = ensured.sound;
      placed = ensured.placed;
      same = c.take_touched.ensures.same ∙ inv.same;
      few = subst (λ o. IfSome o (λ t. front.count + t.selected ≤ e.most)) c.in-Some.is ensured.few;
      near = subst (λ o. IfSome o (λ t. front.place + t.len ≤ (q.next + length q.kept.items) * 18446744073709551616)) c.in-Some.is ensured.near;
      all = inv.all;
      left = λ k le. ap (left_at k) c.spans_from-front.ensures ∙ left_again front.place k front.spans.now (omega (arith, le)) ∙ inv.left k (omega (arith, le));
      stands = stands_behind stop e picks p q now new front.count t.selected front.place t.len start input mid next inv.stands told;
    }

-- the text's end was reached
pub returns-in-Ok-false-clause-printed : goal.returns-in-Ok-false-clause-printed
returns-in-Ok-false-clause-printed g c =
    let e = c.args.extent in
    let stop = c.args.terminator in
    let touched = c.args.touched.now in
    let picks = picks_touched touched.is_inverted touched.spans.now in
    let inv = c.loop.invariant in
    let start = g.P.LinePrinter.printed c.args.printer.now in
    let input = g.R.Read.remaining c.args.reader.now in
    let mid = g.R.Read.remaining c.loop.reader in
    let now = g.P.LinePrinter.printed c.loop.printer in
    let new = g.P.LinePrinter.printed c.take_touched.new.printer in
    let p = c.loop.progress in
    let q = c.take_touched.new.self in
    let front = c.loop.front in
    let ensured = c.in_ok-taken.ensures in
    let next = g.R.Read.remaining c.take_touched.new.reader in
    let untaken : IsUntaken p q now new × Keeps mid next =
    subst (λ o. MatchOption o (IsUntaken p q now new × Keeps mid next) (λ t. IfSome mid (λ text. TakesLinesAt stop e
    (picks_touched front.touched.now.is_inverted front.touched.now.spans.now) p q now new front.count t.selected front.place t.len text next))) c.in-None.is ensured.ok in
    let still = stands_still stop e picks p q start now new front.count front.place input mid next inv.stands untaken.0 untaken.1 in
    let left = g.R.Read.remaining c.next_line.new.reader in
    let line = c.next_line.new.line.items in
    let ended : IfSome next (λ text. TakesLine stop text false line left) =
    subst (λ b. IfSome next (λ text. TakesLine stop text b line left)) c.in-Ok-false.field-0-test c.in-Ok-false.ensures.taken in
    (told_at_end stop e picks start q new front.count front.place input next left line ensured.sound ended still).0

pub returns-in-Ok-false-clause-counted : goal.returns-in-Ok-false-clause-counted
returns-in-Ok-false-clause-counted g c =
    let e = c.args.extent in
    let stop = c.args.terminator in
    let touched = c.args.touched.now in
    let picks = picks_touched touched.is_inverted touched.spans.now in
    let inv = c.loop.invariant in
    let start = g.P.LinePrinter.printed c.args.printer.now in
    let input = g.R.Read.remaining c.args.reader.now in
    let mid = g.R.Read.remaining c.loop.reader in
    let now = g.P.LinePrinter.printed c.loop.printer in
    let new = g.P.LinePrinter.printed c.take_touched.new.printer in
    let p = c.loop.progress in
    let q = c.take_touched.new.self in
    let front = c.loop.front in
    let ensured = c.in_ok-taken.ensures in
    let next = g.R.Read.remaining c.take_touched.new.reader in
    let untaken : IsUntaken p q now new × Keeps mid next =
    subst (λ o. MatchOption o (IsUntaken p q now new × Keeps mid next) (λ t. IfSome mid (λ text. TakesLinesAt stop e
    (picks_touched front.touched.now.is_inverted front.touched.now.spans.now) p q now new front.count t.selected front.place t.len text next))) c.in-None.is ensured.ok in
    let still = stands_still stop e picks p q start now new front.count front.place input mid next inv.stands untaken.0 untaken.1 in
    let left = g.R.Read.remaining c.next_line.new.reader in
    let line = c.next_line.new.line.items in
    let ended : IfSome next (λ text. TakesLine stop text false line left) =
    subst (λ b. IfSome next (λ text. TakesLine stop text b line left)) c.in-Ok-false.field-0-test c.in-Ok-false.ensures.taken in
    (told_at_end stop e picks start q new front.count front.place input next left line ensured.sound ended still).1

pub returns-in-Ok-false-clause-read : goal.returns-in-Ok-false-clause-read
returns-in-Ok-false-clause-read g c =
    let e = c.args.extent in
    let stop = c.args.terminator in
    let touched = c.args.touched.now in
    let picks = picks_touched touched.is_inverted touched.spans.now in
    let inv = c.loop.invariant in
    let start = g.P.LinePrinter.printed c.args.printer.now in
    let input = g.R.Read.remaining c.args.reader.now in
    let mid = g.R.Read.remaining c.loop.reader in
    let now = g.P.LinePrinter.printed c.loop.printer in
    let new = g.P.LinePrinter.printed c.take_touched.new.printer in
    let p = c.loop.progress in
    let q = c.take_touched.new.self in
    let front = c.loop.front in
    let ensured = c.in_ok-taken.ensures in
    let next = g.R.Read.remaining c.take_touched.new.reader in
    let untaken : IsUntaken p q now new × Keeps mid next =
    subst (λ o. MatchOption o (IsUntaken p q now new × Keeps mid next) (λ t. IfSome mid (λ text. TakesLinesAt stop e
    (picks_touched front.touched.now.is_inverted front.touched.now.spans.now) p q now new front.count t.selected front.place t.len text next))) c.in-None.is ensured.ok in
    let still = stands_still stop e picks p q start now new front.count front.place input mid next inv.stands untaken.0 untaken.1 in
    let left = g.R.Read.remaining c.next_line.new.reader in
    let line = c.next_line.new.line.items in
    let ended : IfSome next (λ text. TakesLine stop text false line left) =
    subst (λ b. IfSome next (λ text. TakesLine stop text b line left)) c.in-Ok-false.field-0-test c.in-Ok-false.ensures.taken in
    left_at_end stop e picks start q new front.count front.place input next left line ensured.sound ended (c.in-Ok-false.ensures.ended c.in-Ok-false.field-0-test) still

bit : (b : Bool) → bool_byte b ≡ cond b 1 0
bit true = refl
bit false = refl

more_of : (b : Bool) (n count : ℕ) → n ≡ cond b 1 0 → count + n ≡ cond b (count + 1) count
more_of true n count is = omega (arith, is)
more_of false n count is = omega (arith, is)

-- a line more was read
pub loop-preserved : goal.loop-preserved
loop-preserved g c =
    let e = c.args.extent in
    let stop = c.args.terminator in
    let touched = c.args.touched.now in
    let picks = picks_touched touched.is_inverted touched.spans.now in
    let inv = c.loop.invariant in
    let start = g.P.LinePrinter.printed c.args.printer.now in
    let input = g.R.Read.remaining c.args.reader.now in
    let mid = g.R.Read.remaining c.loop.reader in
    let now = g.P.LinePrinter.printed c.loop.printer in
    let new = g.P.LinePrinter.printed c.take_touched.new.printer in
    let p = c.loop.progress in
    let q = c.take_touched.new.self in
    let front = c.loop.front in
    let ensured = c.in_ok-taken.ensures in
    let next = g.R.Read.remaining c.take_touched.new.reader in
    let untaken : IsUntaken p q now new × Keeps mid next =
    subst (λ o. MatchOption o (IsUntaken p q now new × Keeps mid next) (λ t. IfSome mid (λ text. TakesLinesAt stop e
    (picks_touched front.touched.now.is_inverted front.touched.now.spans.now) p q now new front.count t.selected front.place t.len text next))) c.in-None.is ensured.ok in
    let still = stands_still stop e picks p q start now new front.count front.place input mid next inv.stands untaken.0 untaken.1 in
    let left = g.R.Read.remaining c.next_line.new.reader in
    let line = c.next_line.new.line.items in
    let b = c.selects_more-is_selected.result in
    let more = front.count + c.from.result in
    let r = c.take.new.self in
    let taken : IfSome next (λ text. TakesLine stop text true line left) =
    subst (λ b. IfSome next (λ text. TakesLine stop text b line left)) c.in-Ok-true.field-0-test c.in-Ok-true.ensures.taken in
    let passes : b ≡ (picks front.place line && nat_lt 0 (e.most - front.count)) =
    c.selects_more-is_selected.ensures
    ∙ ap (λ (l : List ℕ). picks_touched front.touched.now.is_inverted front.touched.now.spans.now front.place l && nat_lt 0 (e.most - front.count)) c.deref.ensures.value
    ∙ ap (λ (x : Touched). picks_touched x.is_inverted x.spans.now front.place line && nat_lt 0 (e.most - front.count)) inv.all in
    let is : more ≡ cond b (front.count + 1) front.count = more_of b c.from.result front.count (c.from.ensures ∙ bit b) in
    let kept : q.next + length q.kept.items ≡ p.next + length p.kept.items = ap (λ (x : Progress). x.next + length x.kept.items) untaken.0.same in
    let read = c.in_default.ensures in
    record {
      sound = read.sound;
      placed = read.placed;
      same = c.take.ensures.same ∙ c.take_touched.ensures.same ∙ inv.same;
      few = few_more e.most front.count more (picks front.place line) b inv.few is passes;
      near = omega (arith, inv.near, c.len.ensures, c.len.type_inv, read.next, kept);
      all = inv.all;
      left = λ k le. ap (left_at k) c.spans_from-front.ensures ∙ left_again front.place k front.spans.now (omega (arith, le)) ∙ inv.left k (omega (arith, le));
      stands =
          stands_next stop e picks start q r new (g.P.LinePrinter.printed c.take.new.printer) front.count more front.place _ line input next left b still taken passes is
          (omega (arith, c.len.ensures, c.next_line.new.line.ok.0)) read.ok read.left (λ enough. omega (arith, enough, ap (λ (x : Progress). x.left) untaken.0.same));
    }
