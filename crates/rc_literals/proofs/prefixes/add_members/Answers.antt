use Rattle.std.proofs.Common.{◌∙◌, ap, subst, IfOk, Some}
use Rattle.rc_literals.specs.Extraction.{Extends, greatest_count}
use Rattle.rc_needles.specs.Tables.{needles_in}
use Rattle.rc_literals.proofs.ExtractionLemmas.{members_known, members_unknown}
use Rattle.rc_literals.proofs.prefixes.add_members.Goals as goal

pub returns-then-not-branch : goal.returns-then-not-branch
returns-then-not-branch c =
    members_unknown c.args.class.now (needles_in c.new-members.result.items) (needles_in c.add_class.new.list.items)
    (ap needles_in c.new-members.ensures.items) c.in_ok-add_class.field-0 c.in_ok-add_class.ensures (needles_in c.args.list.now.items)
    c.if-not-branch.true

pub returns : goal.returns
returns c =
    subst (λ found. IfOk c.add_needles.result (λ done. Extends greatest_count done (needles_in c.args.list.now.items)
    (needles_in c.add_needles.new.list.items) found))
    (ap (λ vs. Some (needles_in vs)) c.deref.ensures.value
    ∙ members_known c.args.class.now (needles_in c.new-members.result.items) (needles_in c.add_class.new.list.items)
    (ap needles_in c.new-members.ensures.items) c.in_ok-add_class.field-0 c.in_ok-add_class.ensures c.if-not-branch.false)
    c.add_needles.ensures
