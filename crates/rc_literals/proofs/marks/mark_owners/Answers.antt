use Rattle.std.proofs.Common.{◌∙◌, sym, refl}
use Rattle.rc_literals.specs.Answers.{owned_of}
use Rattle.rc_literals.proofs.MarkLemmas.{anywhere_adds, at_start_adds, pattern_adds, pattern_absent}
use Rattle.rc_literals.proofs.marks.mark_owners.Goals as goal

pub returns-in-No-clause-adds : goal.returns-in-No-clause-adds
returns-in-No-clause-adds g c =
    let ns = c.args.needles.now in
    anywhere_adds (owned_of ns) c.args.input.now c.args.set.now c.mark_anywhere.new.set ns.each ns.prefilter.searcher.table.some
    (sym c.in-No.is ∙ c.get_anchored.ensures) c.mark_anywhere.ensures.adds

pub returns-in-Yes-clause-adds : goal.returns-in-Yes-clause-adds
returns-in-Yes-clause-adds g c =
    let ns = c.args.needles.now in
    at_start_adds (owned_of ns) c.args.input.now c.args.set.now c.mark_at_start.new.set ns.each ns.prefilter.searcher.table.some
    (sym c.in-Yes.is ∙ c.get_anchored.ensures) c.mark_at_start.ensures.adds

pub returns-then-is_some-clause-adds : goal.returns-then-is_some-clause-adds
returns-then-is_some-clause-adds g c =
    let ns = c.args.needles.now in
    pattern_adds (owned_of ns) c.args.input.now c.args.set.now c.insert.new.self ns.each ns.prefilter.searcher.table.some c.in-Pattern.pattern c.search.result
    (sym c.in-Pattern.is ∙ c.get_anchored.ensures) c.search.ensures.value (sym c.is_some.ensures ∙ c.if-is_some.true) c.insert.ensures.set

pub returns-else-is_some-clause-adds : goal.returns-else-is_some-clause-adds
returns-else-is_some-clause-adds g c =
    let ns = c.args.needles.now in
    pattern_absent (owned_of ns) c.args.input.now c.args.set.now c.args.set.now ns.each ns.prefilter.searcher.table.some c.in-Pattern.pattern c.search.result
    (sym c.in-Pattern.is ∙ c.get_anchored.ensures) c.search.ensures.value (sym c.is_some.ensures ∙ c.if-is_some.false) refl
