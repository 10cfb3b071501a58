use Rattle.std.proofs.Common.{◌++◌, List, ℕ, ap, sym, arith, ◌∙◌}
use Rattle.std.proofs.lemmas.Fmt.{decimal_digit}
use Rattle.regex_cursor.proofs.Digits.{decimal_few, decimal_of_one, decimal_longer, decimal_after}
use Rattle.regex_cursor.specs.Line.{line_text}
use Rattle.regex_cursor.proofs.run.line.Line.+push_decimal.Goals as goal

pub returns-then-n-lt10-clause-text : goal.returns-then-n-lt10-clause-text
returns-then-n-lt10-clause-text t c =
    c.push.ensures.text ∙ ap (λ (l : List ℕ). line_text c.args.self.now ++ l) (sym (decimal_digit c.args.n c.if-n-lt10.true))

pub returns-then-n-lt10-clause-len : goal.returns-then-n-lt10-clause-len
returns-then-n-lt10-clause-len t c = omega (arith, c.push.ensures.len, decimal_of_one c.args.n c.if-n-lt10.true)

pub push-requires-2 : goal.push-requires-2
push-requires-2 t c =
    omega (arith, c.push_decimal.ensures.len, c.requires, decimal_longer c.args.n c.if-n-lt10.false c.ranges.n.fits, decimal_few c.args.n c.ranges.n.fits)

pub returns-clause-text : goal.returns-clause-text
returns-clause-text t c =
    decimal_after c.args.n (line_text c.args.self.now) _ _ c.if-n-lt10.false c.ranges.n.fits c.push_decimal.ensures.text c.push-2.ensures.text

pub returns-clause-len : goal.returns-clause-len
returns-clause-len t c =
    omega (arith, c.push_decimal.ensures.len, c.push-2.ensures.len, decimal_longer c.args.n c.if-n-lt10.false c.ranges.n.fits)

pub returns-clause-few : goal.returns-clause-few
returns-clause-few t c =
    omega (arith, c.push_decimal.ensures.len, c.push-2.ensures.len, decimal_longer c.args.n c.if-n-lt10.false c.ranges.n.fits, decimal_few c.args.n c.ranges.n.fits)
