use Rattle.std.proofs.Common.{arith, sym, ◌∙◌}
use Rattle.std.proofs.lemmas.List.{length-map}
use Rattle.rc_needles.specs.Tables.{needles_in}
use Rattle.rc_literals.proofs.RequiredLemmas.{next_many, next_none, next_some}
use Rattle.rc_literals.proofs.required.next_bytes.Goals as goal

pub returns-in_default : goal.returns-in_default
returns-in_default c = next_none c.args.subs.now (rw c.in_default.is at c.in_ok-list.ensures.exact)

pub returns : goal.returns
returns c =
    next_some c.args.subs.now (needles_in c.in-Some.list.items) (sym c.is_empty.ensures ∙ c.if-is_empty.false)
    (rw c.in-Some.is at c.in_ok-list.ensures.exact) (omega (arith, length-map c.in-Some.list.items (λ v. v.items)))

pub returns-then-len-gt-GREATEST_REST : goal.returns-then-len-gt-GREATEST_REST
returns-then-len-gt-GREATEST_REST c =
    next_many c.args.subs.now (needles_in c.in-Some.list.items) (rw c.in-Some.is at c.in_ok-list.ensures.exact)
    (omega (arith, length-map c.in-Some.list.items (λ v. v.items)))
