use Rattle.std.proofs.Common.{◌∙◌, ap}
use Rattle.std.specs.List.{flat_map}
use Rattle.rc_text.specs.Joined.{joined}
use Rattle.regex_cursor.proofs.Puts.{puts_as}
use Rattle.chunk_replace.specs.Replaced.{replacement}
use Rattle.chunk_replace.specs.Template.{items_of}
use Rattle.chunk_replace.specs.Told.{told_parts}
use Rattle.chunk_replace.proofs.Groups.{items_told}
use Rattle.chunk_replace.proofs.replace.replace_match.Goals as goal

pub returns-clause-replaced : goal.returns-clause-replaced
returns-clause-replaced g c =
    let caps = c.args.captures.now in
    let parts = c.as_slice.result.now in
    let content = joined c.args.chunks.now in
    λ names s walk keeps has. puts_as c.put_parts.result _ _ _ _
    (ap (λ x. told_parts x caps parts) c.in-Ok.ensures.whole
    ∙ items_told names caps s walk keeps.named keeps.sized has content (flat_map items_of parts)
    ∙ ap (λ ps. replacement content names s (flat_map items_of ps) walk) c.as_slice.ensures.value)
    c.put_parts.ensures.put
