use Rattle.std.proofs.Common.{map, drop}
use Rattle.rc_pattern.specs.Meaning.{meaning, cat_all, alt_all}
use Rattle.rc_pattern.specs.PropertiesOf.{IsPropertiesOf}
use Rattle.rc_pattern.proofs.hir.properties.known.+properties.Given as goal

abbrev pub invariant-put_concat-loop-i : goal.invariant-put_concat-loop-i
invariant-put_concat-loop-i l = IsPropertiesOf (cat_all (map meaning (drop l.i l.subs))) l.rest

abbrev pub invariant-put_alternation-loop-i : goal.invariant-put_alternation-loop-i
invariant-put_alternation-loop-i l = IsPropertiesOf (alt_all (map meaning (drop l.i l.subs))) l.rest
