use Rattle.std.proofs.Common.{◌≡◌, ◌<◌, ◌-◌, ◌++◌, ◌∙◌, [], Some, true, length, take, get_or, IfSome, arith, ap, subst, sym}
use Rattle.std.specs.Io.BufRead.{drop_through, take_through}
use Rattle.std.proofs.lemmas.List.{get_or_read}
use Rattle.std.specs.Io.BufRead.{DropsThrough}
use Rattle.std.specs.Io.KnownBytes.{Keeps}
use Rattle.grep_lines.specs.Pages.{MayTake}
use Rattle.grep_lines.specs.Selected.{TakesLine}
use Rattle.grep_lines.proofs.LineLemmas.{kept_some, takes_cut, takes_whole}
use Rattle.grep_lines.proofs.select.next_line.Goals as goal

pub returns-then-index-terminator-clause-taken : goal.returns-then-index-terminator-clause-taken
returns-then-index-terminator-clause-taken g c =
    let old = g.R.Read.remaining c.args.reader.now in
    let new = g.R.Read.remaining c.read_until.new.self in
    let items = c.read_until.new.buf.items in
    let read = c.in_ok-read_until.ensures in
    let sized : c.len-last.result ≡ length items = c.len-last.ensures ∙ c.read_until.new.buf.ok.0 in
    let some : 0 < length items = omega (arith, read.ok, c.if-branch-eq0.false, c.read_until.new.buf.ok.0) in
    let mid = g.R.Read.remaining c.take_line.new.reader in
    let untaken : (c.take_line.new.line.items ≡ []) × Keeps old mid =
    subst (λ b. MayTake c.args.terminator b old mid c.take_line.new.line.items) c.if-branch.false c.in_ok-take_line.ensures.taken in
    let told : IfSome old (λ xs. items ≡ take_through c.args.terminator xs) =
    kept_some (λ xs. items ≡ take_through c.args.terminator xs) old mid untaken.1
    (subst (λ zs. IfSome mid (λ xs. items ≡ zs ++ take_through c.args.terminator xs)) untaken.0 read.bytes) in
    let dropped : DropsThrough old new c.args.terminator = kept_some (λ xs. new ≡ Some (drop_through c.args.terminator xs)) old mid untaken.1 read.rest in
    let at_last = get_or_read items (c.len-last.result - 1) c.index.result.now (omega (arith, sized, some)) c.index.ensures 0 in
    let last : get_or items (length items - 1) 0 ≡ c.args.terminator = ap (λ n. get_or items (n - 1) 0) (sym sized) ∙ sym at_last ∙ c.if-index-terminator.true in
    let kept : take (length items - 1) items ≡ c.truncate.new.self.items = sym (c.truncate.ensures.items ∙ ap (λ n. take (n - 1) items) sized) in
    subst (λ line. IfSome old (λ xs. TakesLine c.args.terminator xs true line new)) kept (takes_cut c.args.terminator new items some old told dropped last)

pub returns-clause-taken : goal.returns-clause-taken
returns-clause-taken g c =
    let old = g.R.Read.remaining c.args.reader.now in
    let new = g.R.Read.remaining c.read_until.new.self in
    let items = c.read_until.new.buf.items in
    let read = c.in_ok-read_until.ensures in
    let sized : c.len-last.result ≡ length items = c.len-last.ensures ∙ c.read_until.new.buf.ok.0 in
    let some : 0 < length items = omega (arith, read.ok, c.if-branch-eq0.false, c.read_until.new.buf.ok.0) in
    let mid = g.R.Read.remaining c.take_line.new.reader in
    let untaken : (c.take_line.new.line.items ≡ []) × Keeps old mid =
    subst (λ b. MayTake c.args.terminator b old mid c.take_line.new.line.items) c.if-branch.false c.in_ok-take_line.ensures.taken in
    let told : IfSome old (λ xs. items ≡ take_through c.args.terminator xs) =
    kept_some (λ xs. items ≡ take_through c.args.terminator xs) old mid untaken.1
    (subst (λ zs. IfSome mid (λ xs. items ≡ zs ++ take_through c.args.terminator xs)) untaken.0 read.bytes) in
    let dropped : DropsThrough old new c.args.terminator = kept_some (λ xs. new ≡ Some (drop_through c.args.terminator xs)) old mid untaken.1 read.rest in
    let at_last = get_or_read items (c.len-last.result - 1) c.index.result.now (omega (arith, sized, some)) c.index.ensures 0 in
    takes_whole c.args.terminator new items some old told dropped (λ last. c.if-index-terminator.false (at_last ∙ ap (λ n. get_or items (n - 1) 0) sized ∙ last))
