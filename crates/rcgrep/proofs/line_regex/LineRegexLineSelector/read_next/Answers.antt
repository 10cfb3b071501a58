use Rattle.std.proofs.Common.{ℕ, ◌≡◌, ◌<◌, Bool, List, Option, Some, None, IfSome, length, subst}
use Rattle.grep_lines.specs.Pieces.{Begins, BeginsLine, IsLong}
use Rattle.grep_lines.specs.Selected.{PassesLine}
use Rattle.grep_lines.specs.declared.pieces.Begun.TheVariants.{Long}
use Rattle.grep_lines.specs.declared.select.Passed.{Passed}
use Rattle.rcgrep.specs.Picked.{has_match, is_picked}
use Rattle.rcgrep.proofs.line_regex.LineRegexLineSelector.read_next.Goals as goal

-- what is told of a long line is told of the text
passes : (stop most : ℕ) (picks : List ℕ → Bool) (old mid left : Option (List ℕ)) (line : List ℕ) (passed : Passed) →
    IfSome old (λ text. Begins stop most text line mid Long) →
    ((text : List ℕ) → BeginsLine stop text line mid → 0 < length line → PassesLine stop picks text left passed) → IfSome old (λ text. PassesLine stop picks text left passed)
passes stop most picks None mid left line passed begun told = tt
passes stop most picks (Some text) mid left line passed begun told = told text begun.0 begun.1.some

pub returns-in_ok-pass_long-in-Long-clause-passed : goal.returns-in_ok-pass_long-in-Long-clause-passed
returns-in_ok-pass_long-in-Long-clause-passed g c =
    let stop = c.args.terminator in
    let s = c.args.self.now in
    let picks : List ℕ → Bool = λ line. is_picked s.is_inverted (has_match s.regex line) in
    let old = g.R.Read.remaining c.args.reader.now in
    let mid = g.R.Read.remaining c.begin_line.new.reader in
    let left = g.R.Read.remaining c.pass_long.new.reader in
    let passed = c.in_ok-pass_long-in-Long.field-0 in
    let begun : IfSome old (λ text. Begins stop 131072 text c.begin_line.new.line.items mid Long) =
    subst (λ b. IfSome old (λ text. Begins stop 131072 text c.begin_line.new.line.items mid b)) c.in-Long.is c.in_ok-begin_line.ensures.begun in
    let told : (text : List ℕ) → BeginsLine stop text c.begin_line.new.line.items mid → 0 < length c.begin_line.new.line.items → PassesLine stop picks text left passed =
    subst (λ xs. (text : List ℕ) → BeginsLine stop text xs mid → 0 < length xs → PassesLine stop picks text left passed) c.deref-in-Long.ensures.value
    c.in_ok-pass_long-in-Long.ensures.passed in
    passes stop 131072 picks old mid left c.begin_line.new.line.items passed begun told
