use Rattle.std.proofs.Common.{arith, refl}
use Rattle.chunk_replace.specs.Template.{template_items}
use Rattle.rcsub.proofs.Standing.{gap_ready, gap_stands}
use Rattle.rcsub.proofs.streamed.Streamed.put_settled.Goals as goal

pub returns-clause-ready : goal.returns-clause-ready
returns-clause-ready g c =
    let s = c.put_matches.new.self in
    let ready = c.in_ok-put_matches.ensures.ready in
    gap_ready s _ c.min-to.result ready refl refl refl refl (omega (arith, ready.ahead, ready.inside)) (omega arith) (omega arith)

pub returns-clause-stands : goal.returns-clause-stands
returns-clause-stands g c =
    let s = c.put_matches.new.self in
    let ready = c.in_ok-put_matches.ensures.ready in
    λ fed told old st.
    let (more, x, all) = c.in_ok-put_matches.ensures.stands fed told old st in (
      more,
      gap_stands (template_items c.args.template.now) s _ c.min-to.result (g.W.Sink.taken c.put_matches.new.out) (g.W.Sink.taken c.put_kept.new.out)
          ready refl refl refl (omega (arith, ready.ahead, ready.inside)) (omega arith) c.in_ok-put_kept.ensures.put fed more old x,
    )
