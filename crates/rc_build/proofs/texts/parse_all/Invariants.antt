use Rattle.std.proofs.Common.{map, take}
use Rattle.rc_pattern.specs.Meaning.{meaning}
use Rattle.rc_parser.specs.Settings.{settings_of}
use Rattle.rc_build.specs.TextRefusals.{AllRead, texts_of}
use Rattle.rc_build.proofs.texts.parse_all.Given as goal

abbrev pub invariant-loop-i : goal.invariant-loop-i
invariant-loop-i l = AllRead (settings_of l.config) (texts_of (take l.i l.texts)) (map meaning l.hirs.items)
