use Rattle.std.proofs.Common.{◌∙◌, sym, ap, Some, ◌≤◌}
use Rattle.rc_text.specs.Found.{Found}
use Rattle.rc_program.proofs.GreatestLemmas.{greatest_regardless}
use Rattle.rc_pikevm.specs.Moves.{seen}
use Rattle.rc_pikevm.proofs.SpreadPassLemmas.{greatest_fine}
use Rattle.rc_pikevm.proofs.greatest.find_greatest.Goals as goal

pub returns-in_default-clause-found : goal.returns-in_default-clause-found
returns-in_default-clause-found g c =
    c.in_default.ensures.chosen ∙ sym (greatest_regardless (seen c.args.program.now c.args.input.now) c.args.program.now.passes_over)

pub returns-in_default-new-clause-found : goal.returns-in_default-new-clause-found
returns-in_default-new-clause-found g c =
    let fine = greatest_fine (seen c.args.program.now c.args.input.now) c.in-Some.end c.in-Some.ensures.chosen in
    let few : c.in-Some.end.pattern ≤ 2147483646 = fine.numbered c.args.program.now.runnable.numbered in
    absurd (c.in_default-new.ensures few)

pub new-requires-2 : goal.new-requires-2
new-requires-2 g c =
    (greatest_fine (seen c.args.program.now c.args.input.now) c.in-Some.end c.in-Some.ensures.chosen).within.1

pub returns-clause-found : goal.returns-clause-found
returns-clause-found g c =
    ap Some (c.new-2.ensures ∙ ap (λ p. let f : Found = record { pattern = p; start = c.in-Some.end.start; end = c.in-Some.end.end } in f) c.in-Some-new.ensures.1)
    ∙ c.in-Some.ensures.chosen ∙ sym (greatest_regardless (seen c.args.program.now c.args.input.now) c.args.program.now.passes_over)

pub returns-clause-within : goal.returns-clause-within
returns-clause-within g c =
    rw c.new-2.ensures (greatest_fine (seen c.args.program.now c.args.input.now) c.in-Some.end c.in-Some.ensures.chosen).within
