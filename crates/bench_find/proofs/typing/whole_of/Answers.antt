use Rattle.std.proofs.Common.{length, sym, ap, ◌∙◌}
use Rattle.rc_text.specs.Text.{end_by_total}
use Rattle.bench_find.proofs.Whole.{whole_input}
use Rattle.bench_find.proofs.typing.whole_of.Goals as goal

pub returns-clause-whole : goal.returns-clause-whole
returns-clause-whole c =
    let i = c.new.ensures in
    let t = c.cursor.ensures in
    whole_input c.new.result (i.start ∙ t.start) (i.end ∙ ap end_by_total t.total ∙ sym (ap length (i.content ∙ t.content)))
    i.slice_start i.slice_end i.anchored
