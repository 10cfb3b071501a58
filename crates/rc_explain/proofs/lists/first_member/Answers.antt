use Rattle.std.proofs.Common.{◌≢◌, refl, rules}
use Rattle.rc_tokens.specs.declared.tokens.Member.TheVariants as member
use Rattle.rc_explain.specs.Shown.{Stands}
use Rattle.rc_explain.proofs.Tokens.{plain_at, plain_says}
use Rattle.rc_explain.proofs.lists.first_member.Goals as goal

pub returns-in-45 : goal.returns-in-45
returns-in-45 c =
    let at : Stands c.args.mark.now 0 45 = search rules in
    plain_at c.args.mark.now 45 member.Hyphen at refl

pub returns-in_default-c : goal.returns-in_default-c
returns-in_default-c c =
    let d = c.in-Some.c in
    let at : Stands c.args.mark.now 0 d = search rules in
    let hyphen : d ≢ 45 = search rules in
    let opener : d ≢ 91 = search rules in
    let slash : d ≢ 92 = search rules in
    let closer : d ≢ 93 = search rules in
    plain_at c.args.mark.now d (member.Character d) at (plain_says d hyphen opener slash closer)
