-- What the reader's values stand for.
use Rattle.std.specs.Prelude.{ℕ, List, map, reverse, Option, option_map, string_bytes}
use Rattle.rc_pattern.specs.Meaning.{meaning}
use Rattle.rc_parser.specs.Pieces.{Subpattern}
use Rattle.rc_parser.specs.Grammar as spec
use Rattle.rc_parser.specs.Machine as machine
use Rattle.rc_parser.specs.declared.nested.Nested.{Nested}
use Rattle.rc_parser.specs.declared.nested.Parts.{Parts}
use Rattle.rc_parser.specs.declared.builder.Level.{Level}
use Rattle.rc_parser.specs.declared.builder.Group.{Group}
use Rattle.rc_parser.specs.declared.builder.Outside.{Outside}
use Rattle.rc_parser.specs.declared.builder.Work.{Work}

abbrev pub part : Nested → Subpattern
part n = record { re = meaning n.hir; depth = n.depth }

abbrev pub parts : Parts → spec.Parts
parts p = record { res = map meaning p.hirs.items; deepest = p.deepest }

abbrev pub level : Level → spec.Level
level l = record { flags = l.flags; groups = l.groups; names = map string_bytes l.names.list.items; branches = parts l.branches; items = parts l.items }

abbrev pub paired_name : Group → ℕ × Option (List ℕ)
paired_name g = (g.index, option_map string_bytes g.name)

abbrev pub outside : Outside → machine.Outside
outside o = (option_map paired_name o.group, level o.level)

abbrev pub state : Work → machine.Work
state w = machine.work (level w.level) (option_map part w.last) (map outside (reverse w.outer.items))
