use Rattle.std.proofs.Common.{inl}
use Rattle.rc_explain.specs.Shown.{HasPerl}
use Rattle.rc_explain.specs.declared.faults.FaultKind.TheVariants.{ClassInRange}
use Rattle.rc_explain.proofs.Members.{class_line, ranged, shaped}
use Rattle.rc_explain.proofs.lists.Item.hyphen_fault.Goals as goal

pub returns : goal.returns
returns c = λ text at item is cls.
    let class = c.in_ok-class.field-0 in
    let next = c.in_ok-next.next in
    let before : Rattle.rc_explain.specs.Reading.IsClass text at class = search Rattle.std.proofs.Common.rules in
    let behind : Rattle.rc_explain.specs.Reading.IsNext text c.args.self.first.end (Rattle.std.proofs.Common.Some next) = search (Rattle.std.proofs.Common.rules, item.second) in
    let f = c.between-2.result in
    shaped ClassInRange text class.start next.end f c.between-2.ensures.kind c.between-2.ensures.start c.between-2.ensures.end
    (ranged HasPerl text class c.args.self.first next (class_line text at class next c.args.self item is before behind.0 behind.1) (inl before.perl))
