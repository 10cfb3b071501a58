use Rattle.std.proofs.Common.{◌≡◌, [], sym, ◌∙◌, arith}
use Rattle.std.proofs.lemmas.Bool.{eqb-true, eqb-false}
use Rattle.std.proofs.lemmas.List.{nil_from_length}
use Rattle.rc_pattern.proofs.DropLemmas.{steps_Concat, last_left, member_left, members_left}
use Rattle.rc_pattern.proofs.drops.enter.Goals as goal

pub returns-in_default : goal.returns-in_default
returns-in_default c = λ h s. last_left c.args.waiting h c.last_of.result c.last_of.ensures

pub returns-then-is_empty-2 : goal.returns-then-is_empty-2
returns-then-is_empty-2 c =
    let few = eqb-true _ 0 (sym c.is_empty-2.ensures ∙ c.if-is_empty-2.true) in
    let none : c.pop.new.self.items ≡ [] = nil_from_length c.pop.new.self.items (omega (arith, few, c.pop.new.self.ok.0)) in
    λ h s. member_left h c.in-Some.last c.in-Some-waiting.waiting c.args.waiting c.args.subs.items c.pop.new.self.items c.in-Some-waiting.is
    c.in-Some.ensures.items none s

pub returns : goal.returns
returns c =
    let w = c.in-Some-waiting.waiting in
    let some = eqb-false _ 0 (sym c.is_empty.ensures ∙ c.if-is_empty.false) in
    let more = eqb-false _ 0 (sym c.is_empty-2.ensures ∙ c.if-is_empty-2.false) in
    λ h s. members_left h c.from_kind-earlier.result c.put_first-first.result c.in-Some.last c.args.waiting w c.push_reserved.new.self c.args.subs.items
    c.pop.new.self.items c.put_first-first.new.nodes.items c.in-Some-waiting.is (omega (arith, some, w.ok.0))
    (omega (arith, more, c.pop.new.self.ok.0)) c.in-Some.ensures.items c.put_first-first.ensures.value c.put_first-first.ensures.items
    c.push_reserved.ensures.items (steps_Concat c.from_kind-earlier.result w c.from_kind-earlier.ensures.node) s
