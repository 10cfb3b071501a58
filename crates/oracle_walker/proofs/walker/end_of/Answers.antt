use Rattle.std.proofs.Common.{◌-◌, length, List, sym, ap, ◌∙◌}
use Rattle.std.specs.List.{slice_get}
use Rattle.oracle_walker.proofs.StepLemmas.{last_of_frames}
use Rattle.oracle_walker.specs.declared.frames.Frame.{Frame}
use Rattle.oracle_walker.proofs.walker.end_of.Goals as goal

pub returns-in-Some : goal.returns-in-Some
returns-in-Some c =
    let h = c.in-Some.ensures.value in
    last_of_frames c.args.walk.now.items c.in-Some.frame.now
    (ap (λ (xs : List Frame). slice_get xs (length xs - 1)) (sym c.deref.ensures.value) ∙ sym h)
