use Rattle.std.proofs.Common.{sym, ap, ◌∙◌, Some, None}
use Rattle.live_matches.specs.Entries.{Gapped, entries_of, last_end}
use Rattle.live_matches.proofs.Gaps.{end_push, entries_push}
use Rattle.live_matches.proofs.entries.Entries.last_end.Goals as goal

pub returns : goal.returns
returns c =
    let k = c.in_ok-kept.kept in
    let last = c.in_ok-kept.ensures in
    ap Some c.end.ensures.value
    ∙ sym (ap (λ (g : Gapped). last_end None g.before) (sym c.self.view_is) ∙ ap (λ ks. last_end None (entries_of ks)) last.1
    ∙ ap (last_end None) (entries_push last.0 k) ∙ end_push None (entries_of last.0) k.entry)
