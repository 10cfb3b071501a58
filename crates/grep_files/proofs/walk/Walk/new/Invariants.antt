use Rattle.std.proofs.Common.{◌≡◌, false, map, take}
use Rattle.grep_files.specs.Walks.{seen}
use Rattle.grep_files.proofs.walk.Walk.new.Given as goal

abbrev pub invariant-loop-name : goal.invariant-loop-name
invariant-loop-name l = map seen l.left.items ≡ map (λ n. (n.now, false)) (take l.name-index l.names)
