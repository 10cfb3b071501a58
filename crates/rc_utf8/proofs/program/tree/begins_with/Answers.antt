use Rattle.std.proofs.Common.{◌∙◌, ap, sym, arith, nat_eq, ◌&&◌}
use Rattle.std.proofs.lemmas.Bool.{eq-eqb, ne_eqb}
use Rattle.rc_pattern.specs.Meaning.{byte_range}
use Rattle.rc_utf8.proofs.PlaceLemmas.{begins_short, begins_there}
use Rattle.rc_utf8.proofs.program.tree.begins_with.Goals as goal

pub returns-then-len-level : goal.returns-then-len-level
returns-then-len-level c =
    begins_short (byte_range c.args.range) c.args.sequence.now.ranges c.args.level
    (omega (arith, c.len.ensures, c.if-len-level.true))

pub returns-then-here-range : goal.returns-then-here-range
returns-then-here-range c =
    sym (begins_there (byte_range c.args.range) c.args.sequence.now.ranges c.args.level c.get-here.result
    (omega (arith, c.len.ensures, c.if-len-level.false))
    ∙ ap (λ r. nat_eq r.start c.args.range.start && nat_eq r.end c.args.range.end) (sym (c.get-here.ensures _))
    ∙ ap (λ b. b && nat_eq c.get-here.result.end c.args.range.end) (eq-eqb _ _ c.if-here-range.true))

pub returns-else-here-range : goal.returns-else-here-range
returns-else-here-range c =
    ne_eqb _ _ c.if-here-range.false
    ∙ sym (begins_there (byte_range c.args.range) c.args.sequence.now.ranges c.args.level c.get-here.result
    (omega (arith, c.len.ensures, c.if-len-level.false))
    ∙ ap (λ r. nat_eq r.start c.args.range.start && nat_eq r.end c.args.range.end) (sym (c.get-here.ensures _))
    ∙ ap (λ b. b && nat_eq c.get-here.result.end c.args.range.end) (ne_eqb _ _ c.if-here-range.false))
