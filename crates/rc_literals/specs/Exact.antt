-- Only proofs use this file.
-- Exact literals: literals that are collected.
use Rattle.rc_needles.specs.Tables.{needles_in}
use Rattle.rc_literals.specs.Answers.{Owned}
use Rattle.rc_literals.specs.declared.exact.PatternLiterals.{PatternLiterals}

-- They as owned needles.
abbrev pub literals_in : PatternLiterals → Owned
literals_in l = record { needles = needles_in l.needles.items; owners = l.owners.items }
