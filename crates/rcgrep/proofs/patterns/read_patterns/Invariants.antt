use Rattle.std.proofs.Common.{map, take}
use Rattle.rc_pattern.specs.Meaning.{meaning}
use Rattle.rc_parser.specs.Settings.{settings_of}
use Rattle.rc_build.specs.TextRefusals.{AllRead, texts_of}
use Rattle.rcgrep.proofs.patterns.read_patterns.Given as goal

-- the texts so far are read as the patterns so far
abbrev pub invariant-loop-number : goal.invariant-loop-number
invariant-loop-number l = AllRead (settings_of l.config) (texts_of (take l.number l.texts)) (map meaning l.hirs.items)
