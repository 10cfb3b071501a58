use Rattle.std.proofs.Common.{◌∙◌, ◌<◌, All, ap, length, ℕ, rules, subst, sym}
use Rattle.std.proofs.lemmas.List.Elements.{All-pop, All-push}
use Rattle.rc_full_lists.specs.Read.{read_part}
use Rattle.rc_explain.specs.Shown.{Stands}
use Rattle.rc_explain.proofs.FullLists.{closes_there}
use Rattle.rc_explain.proofs.full_lists.list_end.Goals.{in-Ok-Closes-default+else-is_empty, in-Ok-Opens-default, then-is_at+in_ok-push-in-Ok-Opens-default, else-is_at, in-Ok}
use Rattle.rc_explain.proofs.full_lists.list_end.Goals as goal

pub loop-preserved : goal.loop-preserved
loop-preserved c =
    let P : ℕ → Type 0 = λ at. Stands c.args.mark.now at 91 in
    elim c.match-first_part-2.branch [
      | in-Ok-Closes-default+else-is_empty w ↦
          let fewer = All-pop P c.loop.opens.items w.pop.new.self.items w.pop.result w.pop.ensures.items c.loop.invariant in
          subst (λ v. All P v.items) (sym w.opens-is) fewer.0
      | in-Ok-Opens-default w ↦
          subst (λ v. All P v.items) (sym w.opens-is) (elim w.if-is_at.branch [
            | then-is_at+in_ok-push-in-Ok-Opens-default v ↦
                let here : Stands c.args.mark.now c.saturating_sub-at.result 91 = search rules in
                subst (λ x. All P x.items) (sym v.opens-is) (subst (All P) (sym v.in_ok-push-in-Ok-Opens-default.ensures.items)
                (All-push P c.loop.opens.items c.saturating_sub-at.result c.loop.invariant here))
            | else-is_at v ↦ subst (λ x. All P x.items) (sym v.opens-is) c.loop.invariant
          ])
      | in-Ok w ↦ subst (λ v. All P v.items) (sym w.opens-is) c.loop.invariant
    ]

pub returns-then-is_empty : goal.returns-then-is_empty
returns-then-is_empty c =
    let w = c.in-Ok-Closes-default in
    let inside : c.saturating_sub-at.result < length c.args.mark.now = search rules in
    closes_there c.args.settings c.args.mark.now w.field-0-1.now c.saturating_sub-at.result w.field-0-0 c.requires.opens
    (ap (read_part c.args.settings) (sym c.from-in-loop.ensures) ∙ w.ensures) w.field-0-0-is inside
