use Rattle.rc_explain.proofs.FullLists.{escape_read}
use Rattle.rc_explain.proofs.full_lists.atom_at.Goals as goal

pub escaped_atom-requires-clause-some : goal.escaped_atom-requires-clause-some
escaped_atom-requires-clause-some c =
    let read = escape_read c.args.settings.octal c.args.text.now c.in-Ok.rest.now c.in-Ok.said c.saturating_sub-count.result c.in-Ok.ensures
    c.saturating_sub-count.ensures in
    read.0

pub escaped_atom-requires-clause-escape : goal.escaped_atom-requires-clause-escape
escaped_atom-requires-clause-escape c =
    let read = escape_read c.args.settings.octal c.args.text.now c.in-Ok.rest.now c.in-Ok.said c.saturating_sub-count.result c.in-Ok.ensures
    c.saturating_sub-count.ensures in
    read.2
