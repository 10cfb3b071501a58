use Rattle.std.proofs.Common.{◌∙◌, sym, ap, arith}
use Rattle.std.specs.List.{slice_get}
use Rattle.live_matches.specs.Entries.{all_of}
use Rattle.live_matches.proofs.Drawns.{get_behind}
use Rattle.live_matches.proofs.changes.Ahead.of.Goals as goal

pub returns : goal.returns
returns c =
    let g = c.args.entries.now in
    record {
      first = c.get_after.ensures ∙ sym (get_behind g.before g.after 0) ∙ ap (slice_get (all_of g)) (omega arith);
      second = c.get_after-2.ensures ∙ sym (get_behind g.before g.after 1);
      third = c.get_after-3.ensures ∙ sym (get_behind g.before g.after 2);
    }
