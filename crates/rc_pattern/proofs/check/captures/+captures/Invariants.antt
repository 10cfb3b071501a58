use Rattle.std.proofs.Common.{◌≡◌, ◌++◌, map, drop}
use Rattle.rc_pattern.specs.Meaning.{meaning, cat_all}
use Rattle.rc_pattern.specs.WellFormed.{group_numbers, group_names}
use Rattle.rc_pattern.specs.Groups.{number_of, name_of}
use Rattle.rc_pattern.proofs.check.captures.+captures.Given as goal

abbrev pub invariant-push_all_captures-loop-sub : goal.invariant-push_all_captures-loop-sub
invariant-push_all_captures-loop-sub l =
    let all = cat_all (map meaning l.subs) in let left = cat_all (map meaning (drop l.sub-index l.subs)) in
    (map number_of l.captures.items ++ group_numbers left ≡ map number_of l.initial.captures.items ++ group_numbers all)
    × (map name_of l.captures.items ++ group_names left ≡ map name_of l.initial.captures.items ++ group_names all)
