use Rattle.std.proofs.Common.{◌≡◌, ◌++◌, [], IfOk, IsTrue, false, length, ap, subst}
use Rattle.std.specs.Prelude.{◌↔◌, IsUtf8}
use Rattle.rc_text.specs.Joined.{joined}
use Rattle.regex_cursor.specs.Put.{Puts}
use Rattle.chunk_replace.specs.Replaced.{matches_of, replaced_by}
use Rattle.chunk_replace.specs.Template.{template_items}
use Rattle.rcsub.proofs.Regexes.{is_leftmost, replaced_if}
use Rattle.rcsub.proofs.replacer.Replacer.replace.Goals as goal

pub returns-else-is_utf8-clause-put : goal.returns-else-is_utf8-clause-put
returns-else-is_utf8-clause-put g c =
    let r = c.args.self.now in
    let o = c.replace_all-else-is_utf8.result in
    let old = g.W.Sink.taken c.args.out.now in
    let new = g.W.Sink.taken c.replace_all-else-is_utf8.new.out in
    let same : joined c.from_ref-chunks.result.now ≡ c.args.text.now ++ [] = ap joined c.from_ref-chunks.ensures.value in
    replaced_if o r false c.args.text.now old new (subst (λ b. IsTrue b ↔ IsUtf8 c.args.text.now) c.if-is_utf8.false c.is_utf8.ensures)
    (subst (λ t. Puts o old new (replaced_by r.over_bytes (template_items r.template) t)) same
    (c.replace_all-else-is_utf8.ensures.replaced (is_leftmost false r.over_bytes r.bytes_settings)))
    (subst (λ t. IfOk o (λ n. n ≡ length (matches_of r.over_bytes t))) same c.replace_all-else-is_utf8.ensures.count)
