use Rattle.std.proofs.Common.{◌≡◌, map, drop}
use Rattle.rc_pattern.specs.Meaning.{meaning, cat_all, alt_all}
use Rattle.rc_compile.specs.Shown.{laid}
use Rattle.rc_compile.proofs.compile.sizes.+size.Given as goal

abbrev pub invariant-size_of_alternation-loop-i : goal.invariant-size_of_alternation-loop-i
invariant-size_of_alternation-loop-i l = l.total ≡ (laid l.groups (alt_all (map meaning (drop l.i l.subs)))).size

abbrev pub invariant-size_of_concat-loop-i : goal.invariant-size_of_concat-loop-i
invariant-size_of_concat-loop-i l = l.total ≡ (laid l.groups (cat_all (map meaning (drop l.i l.subs)))).size
