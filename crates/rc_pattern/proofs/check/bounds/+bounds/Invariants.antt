use Rattle.std.proofs.Common.{◌↔◌, map, drop}
use Rattle.rc_pattern.specs.Meaning.{meaning, cat_all}
use Rattle.rc_pattern.specs.WellFormed.{HasBounds}
use Rattle.rc_pattern.proofs.check.bounds.+bounds.Given as goal

abbrev pub invariant-have_bounds-loop-sub : goal.invariant-have_bounds-loop-sub
invariant-have_bounds-loop-sub l = HasBounds (cat_all (map meaning (drop l.sub-index l.subs))) ↔ HasBounds (cat_all (map meaning l.subs))
