use Rattle.rc_captures.proofs.NamesLaws.{to_index-first, to_index-none, to_index-inverse}
use Rattle.rc_captures.proofs.groups.names_and_groups_are_inverse.Goals as goal

pub returns : goal.returns
returns c = record { first = to_index-first; none = to_index-none; inverse = to_index-inverse }
