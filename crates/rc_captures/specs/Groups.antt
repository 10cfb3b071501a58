-- What contracts see of the groups of a list of patterns.
use Rattle.rc_captures.specs.Names.{Names, names_in}
use Rattle.rc_captures.specs.declared.groups.GroupInfo.{GroupInfo}

-- for each pattern the names of its groups 1, 2, .. in order
abbrev pub names_of : GroupInfo → Names
names_of g = names_in g.table.value.names.items
