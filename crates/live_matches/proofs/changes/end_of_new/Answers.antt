use Rattle.std.proofs.Common.{◌∙◌, sym, subst, arith}
use Rattle.live_matches.specs.Drawn.{EndBy}
use Rattle.live_matches.specs.Entries.{all_of}
use Rattle.live_matches.proofs.Drawns.{came_by, came_inside, none_came}
use Rattle.live_matches.proofs.changes.end_of_new.Goals as goal

pub returns-then-change-eq0 : goal.returns-then-change-eq0
returns-then-change-eq0 c old was split laid =
    none_came c.args.edit old (all_of c.args.entries.now) c.args.change split was c.args.entries.now.len laid c.if-change-eq0.true 0

pub returns-in-Some : goal.returns-in-Some
returns-in-Some c old was split laid =
    subst (λ k. EndBy k split.changed.anew) (sym c.end.ensures.value)
    (came_by c.args.edit old (all_of c.args.entries.now) c.args.change split was c.args.entries.now.len laid c.in-Some.last
    (omega (arith, c.if-change-eq0.false)) (sym c.get.ensures ∙ c.in-Some.is))

pub returns-in-None : goal.returns-in-None
returns-in-None c old was split laid =
    subst (λ k. EndBy k split.changed.anew) (sym c.text_len.ensures)
    (came_inside c.args.edit old (all_of c.args.entries.now) c.args.change split was c.args.entries.now.len laid)
