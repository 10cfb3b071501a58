use Rattle.std.proofs.Common.{length, sym, ap, ◌∙◌}
use Rattle.rc_text.specs.Text.{end_by_total}
use Rattle.live_matches.proofs.Wholes.{whole_of}
use Rattle.live_matches.proofs.input.whole_input.Goals as goal

pub returns-clause-whole : goal.returns-clause-whole
returns-clause-whole g c =
    let i = c.new.ensures in
    whole_of c.new.result (i.start ∙ c.requires.start) (i.end ∙ ap end_by_total c.requires.total ∙ sym (ap length i.content))
    i.slice_start i.slice_end i.anchored
