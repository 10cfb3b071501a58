use Rattle.buffered_sink.proofs.Kept.{IfSome-map}
use Rattle.rcsub.proofs.Kept.{kept_by}
use Rattle.rcsub.proofs.replacer.Replacer.rewrite_over.Goals as goal

pub returns-in_ok-done-in-Ok : goal.returns-in_ok-done-in-Ok
returns-in_ok-done-in-Ok g c =
    IfSome-map (g.R.Read.remaining c.args.input)
    (λ text. kept_by c.args.by_line c.args.self.now text _ _ _ _ c.in_ok-done-in-Ok.field-0 c.in_ok-sink.ensures.holds c.in-Ok.ensures) c.in_ok-done-in-Ok.ensures.put
