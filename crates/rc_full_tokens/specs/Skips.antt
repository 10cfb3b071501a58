-- Only proofs use this file.
-- The rest behind gaps, as a function.
use Rattle.std.specs.Prelude.{Bool, true, false, ◌==◌, [], ◌∷◌, if◌then◌else◌}
use Rattle.unicode.specs.Binary.{is_white_space}
use Rattle.rc_tokens.specs.Text.{Characters}

-- the flag says whether the text begins inside a comment
abbrev pub behind_gaps : Bool → Characters → Characters
behind_gaps in_comment [] = []
behind_gaps true (c ∷ t) = if c == 10 then behind_gaps false t else behind_gaps true t
behind_gaps false (c ∷ t) =
    if c == 35 then behind_gaps true t else if is_white_space c then behind_gaps false t else c ∷ t
