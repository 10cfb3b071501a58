use Rattle.std.proofs.Common.{◌≡◌, Some, length, slice_get, sym, subst, refl, arith}
use Rattle.std.proofs.lemmas.Option.{slice_get_read}
use Rattle.std.proofs.lemmas.Result.{IfOk-weaker}
use Rattle.rc_determinize.specs.Places.{state_of}
use Rattle.rc_dfa.specs.declared.automaton.Direction.TheVariants.{Forwards}
use Rattle.rc_dfa.specs.Machine.{BeginsBeside, IsAsked}
use Rattle.rc_dfa.specs.Automata.{machine_of}
use Rattle.rc_dfa.proofs.automaton.Automaton.begin_forwards.Goals as goal

pub returns-in-No : goal.returns-in-No
returns-in-No c =
    IfOk-weaker c.first.result _ _
    (λ x h. subst (λ a. BeginsBeside (machine_of c.args.self.now Forwards) a c.args.seen (state_of c.first.new.to)) (sym c.in-No.is) h)
    c.first.ensures

pub returns-in-Yes : goal.returns-in-Yes
returns-in-Yes c =
    IfOk-weaker c.first-in-Yes.result _ _
    (λ x h. subst (λ a. BeginsBeside (machine_of c.args.self.now Forwards) a c.args.seen (state_of c.first-in-Yes.new.to)) (sym c.in-Yes.is) h)
    c.first-in-Yes.ensures

pub returns-in-Pattern : goal.returns-in-Pattern
returns-in-Pattern c =
    let asked = subst (λ a. IsAsked (machine_of c.args.self.now Forwards) a) c.in-Pattern.is c.requires in
    let e = c.as_usize.ensures.value in
    let read : slice_get c.args.self.now.entries.items c.as_usize.result ≡ Some c.index-entry.result.now =
    slice_get_read c.args.self.now.entries.items (length c.args.self.now.entries.items) c.as_usize.result c.index-entry.result.now refl
    (omega (arith, asked, e)) c.index-entry.ensures in
    IfOk-weaker c.first-in-Pattern.result _ _
    (λ x h. subst (λ a. BeginsBeside (machine_of c.args.self.now Forwards) a c.args.seen (state_of c.first-in-Pattern.new.to)) (sym c.in-Pattern.is) (
      c.index-entry.result.now,
      subst (λ k. slice_get c.args.self.now.entries.items k ≡ Some c.index-entry.result.now) e read,
      h,
    ))
    c.first-in-Pattern.ensures
