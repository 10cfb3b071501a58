use Rattle.std.proofs.Common.{◌≡◌, ◌∙◌, false, subst}
use Rattle.rc_dfa.specs.declared.automaton.Direction.TheVariants.{Overlapping}
use Rattle.rc_dfa.specs.Runs.{ahead_at}
use Rattle.rc_table_search.proofs.SpanLemmas.{beside_kept}
use Rattle.rc_lazy_dfa.specs.declared.letters.Letter.TheVariants.{Alone}
use Rattle.rc_lazy_dfa.specs.Stores.{frame_of}
use Rattle.rc_lazy_dfa.specs.Overlaps.{IsUnderway, text_over}
use Rattle.rc_lazy_dfa.proofs.StepLemmas.{read_by}
use Rattle.rc_lazy_dfa.proofs.WhichLemmas.{bound_all, bound_some}
use Rattle.rc_lazy_dfa.proofs.which.Ends.finish.Goals as goal

pub returns-in_default-clause-told : goal.returns-in_default-clause-told
returns-in_default-clause-told g c =
    let o = g.o in
    let r = c.requires.1 in
    let end = r.1.1.1.1 in
    let u = subst (λ i. IsUnderway o c.args.self.now i c.args.row c.args.set.now) end r.1.1.0 in
    let is = c.byte_beside-beside.ensures.value ∙ beside_kept false o.frame.machine.setting.terminator o.seen c.args.input.now c.args.end r.1.1.1.0 in
    let read = read_by o.frame (frame_of c.args.automaton.now Overlapping) c.may_read.result (Alone c.byte_beside-beside.result) r.0 c.if-not-may_read.false (c.may_read.ensures Overlapping).0 in
    bound_some o r.1.0 c.args.self.now c.args.set.now c.args.row u c.byte_beside-beside.result
    (subst (λ i. c.byte_beside-beside.result ≡ ahead_at (text_over o) i) end is) read c.insert.new.set (c.insert.ensures.adds u.state u.in_row) _ c.insert.ensures.half

pub returns-clause-told : goal.returns-clause-told
returns-clause-told g c =
    let o = g.o in
    let r = c.requires.1 in
    let end = r.1.1.1.1 in
    let u = subst (λ i. IsUnderway o c.args.self.now i c.args.row c.args.set.now) end r.1.1.0 in
    let is = c.byte_beside-beside.ensures.value ∙ beside_kept false o.frame.machine.setting.terminator o.seen c.args.input.now c.args.end r.1.1.1.0 in
    let read = read_by o.frame (frame_of c.args.automaton.now Overlapping) c.may_read.result (Alone c.byte_beside-beside.result) r.0 c.if-not-may_read.false (c.may_read.ensures Overlapping).0 in
    bound_all o r.1.0 c.args.self.now c.args.set.now c.args.row u c.byte_beside-beside.result
    (subst (λ i. c.byte_beside-beside.result ≡ ahead_at (text_over o) i) end is) read c.insert.new.set (c.insert.ensures.adds u.state u.in_row) _ c.insert.ensures.half
    (c.in-Ok.ensures.each u.state u.in_row)
