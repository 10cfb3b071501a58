use Rattle.std.proofs.Common.{◌-◌, ap, subst, ◌∙◌, arith}
use Rattle.rc_literals.specs.Guard.{IsBehind}
use Rattle.api_meta.proofs.Partials.{settled_behind}
use Rattle.api_meta.proofs.regex.Regex.settled_by_stop.Goals as goal

pub returns-else-behind-first-clause-settled : goal.returns-else-behind-first-clause-settled
returns-else-behind-first-clause-settled g c =
    let behind = c.behind_stop-behind in
    let known = c.saturating_sub-known in
    settled_behind c.args.self.now c.args.input.now c.requires.other known.result c.max-first.result behind.result
    (known.ensures ∙ ap (λ n. n - 3) c.high.ensures.value) (omega (arith, c.if-known-first.false)) behind.ensures.high behind.ensures.low
    c.if-behind-first.false
    (subst (λ bytes. IsBehind c.args.self.now.stops.table bytes c.max-first.result known.result behind.result) c.high.ensures.keeps.content behind.ensures.behind)
