-- Only proofs use this file.
-- How deep a pattern is nested at least, as far as its text was read.
use Rattle.std.specs.Prelude.{ℕ, ◌+◌, ◌-◌, List, [], ◌∷◌, length, max, min}
use Rattle.rc_parser.specs.Grammar.{Level}
use Rattle.rc_parser.specs.Machine.{Outside, Work, settled}

-- the depth of the body, if it ends here: two or more items are a level of their own, and so are two
-- or more branches
abbrev pub body_depth : Level → ℕ
body_depth l = max l.branches.deepest (l.items.deepest + min 1 (length l.items.res - 1)) + min 1 (length l.branches.res)

-- the same, if one more item comes before, which is that deep
abbrev pub body_depth_with : ℕ → Level → ℕ
body_depth_with depth l = max l.branches.deepest (max l.items.deepest depth + min 1 (length l.items.res)) + min 1 (length l.branches.res)

-- the depth of the pattern, if a body is that deep and the groups around it end behind it
abbrev pub closed_depth : ℕ → List Outside → ℕ
closed_depth depth [] = depth
closed_depth depth (f ∷ outer) = closed_depth (body_depth_with (depth + 1) (f.1)) outer

-- the least depth of the pattern, whatever follows: it ends here, with all groups that are open
abbrev pub least_depth : Work → ℕ
least_depth w = closed_depth (body_depth (settled w.last w.level)) w.outer
