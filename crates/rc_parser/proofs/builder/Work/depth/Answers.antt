use Rattle.std.proofs.Common.{option_map, ap, sym, ◌∙◌}
use Rattle.rc_parser.specs.Machine.{settled}
use Rattle.rc_parser.specs.Nesting.{body_depth}
use Rattle.rc_parser.specs.View.{level, part}
use Rattle.rc_parser.proofs.DepthLemmas.{add_depth}
use Rattle.rc_parser.proofs.builder.Work.depth.Goals as goal

pub returns-in-Some-clause-value : goal.returns-in-Some-clause-value
returns-in-Some-clause-value c =
    let around = level c.args.self.now.level in
    c.depth_with.ensures.value ∙ sym (add_depth (part c.in-Some.item) around) ∙ sym (ap (λ o. body_depth (settled (option_map part o) around)) c.in-Some.is)
