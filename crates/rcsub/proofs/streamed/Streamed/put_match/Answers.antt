use Rattle.std.proofs.Common.{◌∙◌, ◌-◌, ℕ, ap, append-nil, slice_range, subst}
use Rattle.std.specs.Io.KnownBytes.{Appends}
use Rattle.rc_text.specs.Joined.{joined}
use Rattle.regex_cursor.proofs.Grown.{Appends-trans}
use Rattle.chunk_replace.specs.Replaced.{replacement}
use Rattle.chunk_replace.specs.Template.{template_items}
use Rattle.rcsub.proofs.streamed.Streamed.put_match.Goals as goal

pub returns-clause-put : goal.returns-clause-put
returns-clause-put g c = λ names s walk kept has.
    let old = g.W.Sink.taken c.args.out.now in
    let mid = g.W.Sink.taken c.put_kept.new.out in
    let new = g.W.Sink.taken c.replace_match.new.out in
    let items = template_items c.args.template.now in
    let same = ap joined c.from_ref.ensures.value ∙ append-nil c.kept-kept.result.now ∙ c.kept-kept.ensures in
    let stream = c.args.self.now.stream in
    let gap = subst (λ (n : ℕ). Appends old mid (slice_range stream.kept (c.args.self.now.written - stream.gone) (n - stream.gone)))
    c.start.ensures.value c.in_ok-put_kept.ensures.put in
    Appends-trans old mid new _ _ gap
    (subst (λ l. Appends mid new (replacement l names s items walk)) same (c.in_ok-replace_match.ensures.replaced names s walk kept has))
