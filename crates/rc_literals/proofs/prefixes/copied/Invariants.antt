use Rattle.std.proofs.Common.{◌≡◌, ◌-◌}
use Rattle.rc_literals.specs.Extraction.{copied}
use Rattle.rc_needles.specs.Tables.{needles_in}
use Rattle.rc_literals.proofs.prefixes.copied.Given as goal

abbrev pub invariant-loop : goal.invariant-loop
invariant-loop l =
    copied (needles_in l.texts) (needles_in l.texts) l.fn.copies
    ≡ copied (needles_in l.longer.items) (needles_in l.texts) (l.fn.copies - l.counter)
