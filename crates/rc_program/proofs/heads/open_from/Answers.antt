use Rattle.std.proofs.Common.{◌≡◌, ◌∷◌, [], sym, ap, subst, ◌∙◌}
use Rattle.rc_program.specs.Closing.{Opens}
use Rattle.rc_program.specs.Heads.{silent}
use Rattle.rc_program.specs.Places.{place_of, places_of}
use Rattle.rc_program.specs.Program.{place_at}
use Rattle.rc_program.proofs.ClosingLemmas.{place_read, opens_both}
use Rattle.rc_program.proofs.heads.open_from.Goals as goal

pub returns-in_ok-open-in-Some-Choice-2 : goal.returns-in_ok-open-in-Some-Choice-2
returns-in_ok-open-in-Some-Choice-2 c =
    let arm = c.in-Some-Choice in
    let read = place_read c.args.places.now c.args.from arm.field-0.now (arm.ensures.lookup.3.0) arm.ensures.lookup.1 in
    let same : silent (place_at (places_of c.args.places.now) c.args.from) ≡ arm.first ∷ arm.second ∷ [] =
    ap silent read ∙ ap (λ q. silent (place_of q)) arm.field-0-is in
    subst (λ ns. Opens ns c.args.opened.now.items c.open-in-Some-Choice.new.opened.items) (sym same)
    (opens_both arm.first arm.second c.args.opened.now.items c.open.new.opened.items c.open-in-Some-Choice.new.opened.items
    c.in_ok-open-in-Some-Choice.ensures c.in_ok-open-in-Some-Choice-2.ensures)
