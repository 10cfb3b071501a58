use Rattle.std.proofs.Common.{subst, sym}
use Rattle.rc_explain.specs.Shown.{Stands}
use Rattle.rc_explain.proofs.Begins.{held_at}
use Rattle.rc_explain.proofs.Shapes.{stands_dropped}
use Rattle.rc_explain.proofs.full_lists.innermost_fault.Goals as goal

pub unclosed_list-requires : goal.unclosed_list-requires
unclosed_list-requires c =
    let t = c.args.mark.now in
    let at = c.in-Some.at.now in
    let here = held_at (λ at. Stands t at 91) c.args.opens.now _ at (sym c.in-Some.ensures.value) c.requires.others in
    subst (λ l. Stands l 0 91) (sym c.from.ensures) (stands_dropped at t 91 here)
