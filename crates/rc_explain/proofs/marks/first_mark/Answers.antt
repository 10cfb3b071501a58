use Rattle.rc_tokens.specs.View.{said_of}
use Rattle.rc_explain.proofs.Tokens.{token_at_front}
use Rattle.rc_explain.proofs.marks.first_mark.Goals as goal

pub returns-in-Ok : goal.returns-in-Ok
returns-in-Ok c =
    token_at_front c.args.text.now (said_of c.in-Ok.token) c.in-Ok.rest.now c.saturating_sub.result c.in-Ok.ensures c.saturating_sub.ensures
