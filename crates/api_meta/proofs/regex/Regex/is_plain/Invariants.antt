use Rattle.std.proofs.Common.{map, take}
use Rattle.rc_pattern.specs.Meaning.{meaning}
use Rattle.rc_parses.specs.Preference.{ArePlain}
use Rattle.api_meta.proofs.regex.Regex.is_plain.Given as goal

abbrev pub invariant-loop-hir : goal.invariant-loop-hir
invariant-loop-hir l = ArePlain (map meaning (take l.hir-index l.hir-items))
