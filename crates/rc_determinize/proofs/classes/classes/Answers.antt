use Rattle.std.proofs.Common.{◌+◌, ◌∙◌, ap, rules, sym, if◌then◌else◌}
use Rattle.rc_utf8.specs.Places.{places_of}
use Rattle.rc_determinize.specs.Classes.{ArePartedAt}
use Rattle.rc_determinize.proofs.ClassLemmas.{goes_on}
use Rattle.rc_determinize.proofs.classes.classes.Goals as goal
use Rattle.rc_determinize.proofs.classes.classes.Goals.{then-is_border, else-is_border}

pub loop-byte-preserved : goal.loop-byte-preserved
loop-byte-preserved c =
    let parted : ArePartedAt (places_of c.args.places.now) c.deref.result.now = search rules in
    let border = c.is_border.ensures (places_of c.args.places.now) parted in
    goes_on (places_of c.args.places.now) c.args.needs c.args.terminator c.loop-byte.classes.items c.push-in-loop-byte.new.self.items
    c.loop-byte.class c.if-is_border.class c.loop-byte.byte
    (elim c.if-is_border.branch [
      | then-is_border w ↦ w.class-is ∙ ap (λ b. if b then c.loop-byte.class + 1 else c.loop-byte.class) (sym w.if-is_border.true ∙ border)
      | else-is_border w ↦ w.class-is ∙ ap (λ b. if b then c.loop-byte.class + 1 else c.loop-byte.class) (sym w.if-is_border.false ∙ border)
    ])
    c.in_ok-push-2.ensures.items c.loop-byte.invariant
