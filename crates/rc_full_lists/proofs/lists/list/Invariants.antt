use Rattle.std.proofs.Common.{◌∷◌, length}
use Rattle.rc_full_lists.specs.Levels.{Levels, Fit, AreLevels}
use Rattle.rc_full_lists.proofs.ListLemmas.{Same}
use Rattle.rc_full_lists.proofs.lists.list.Given as goal

abbrev pub invariant-parts : goal.invariant-parts
invariant-parts l = (ls : Levels) × AreLevels l.fn.settings.unicode l.levels ls × Fit l.fn.nest_limit (ls.inner ∷ ls.outer)
    × Same l.fn.settings l.fn.fold l.fn.text ls l.rest

abbrev pub decreases-parts : goal.decreases-parts
decreases-parts l = length l.rest
