use Rattle.std.proofs.Common.{◌∙◌, arith}
use Rattle.api_meta.specs.Views.{regex_kind}
use Rattle.live_matches.specs.Live.{seeks}
use Rattle.live_matches.proofs.Stretched.{quiet_part}
use Rattle.live_matches.proofs.stretches.ask.Goals as goal

pub returns-clause-quiet : goal.returns-clause-quiet
returns-clause-quiet g c =
    let r = c.args.regex.now in
    quiet_part (regex_kind r) (seeks r) c.args.input.now.content c.deref.result.now c.saturating_sub-first.result c.args.end c.args.at
    c.quiet_place-quiet.result (c.deref.ensures.value ∙ c.in_ok-copy_range.ensures.bytes) c.requires.inside (omega (arith, c.saturating_sub-first.ensures, c.requires.order))
    (omega (arith, c.saturating_sub-first.ensures)) (λ h. omega (arith, c.saturating_sub-first.ensures, h)) c.quiet_place-quiet.ensures.quiet
