-- Gaps: white space and comments, which the flag x passes over.
use Rattle.std.specs.Prelude.{◌≡◌, ℕ, Bool, true, not, ◌&&◌, ◌==◌, [], ◌∷◌, ◌++◌}
use Rattle.unicode.specs.Binary.{is_white_space}
use Rattle.rc_tokens.specs.Text.{Characters, each}

-- neither white space nor a comment begins the text
abbrev pub is_solid : Characters → Bool
is_solid [] = true
is_solid (c ∷ t) = not (is_white_space c) && not (c == 35)

-- no LF stands in the text
abbrev pub is_line : Characters → Bool
is_line t = each (λ c. not (c == 10)) t

-- `Gaps t u`: white space and comments begin t, and u is behind all of them. A comment goes from `#`
-- to the end of its line.
pub data Gaps : Characters → Characters → Type 0 where
  none : (t : Characters) → is_solid t ≡ true → Gaps t t
  blank : (c : ℕ) (t u : Characters) → is_white_space c ≡ true → Gaps t u → Gaps (c ∷ t) u
  comment : (line t u : Characters) → is_line line ≡ true → Gaps t u → Gaps (35 ∷ (line ++ 10 ∷ t)) u
  last_comment : (line : Characters) → is_line line ≡ true → Gaps (35 ∷ line) []

-- behind the gaps of a text stands one rest
abbrev pub OneGapLaw : Type 0
OneGapLaw = (t u v : Characters) → Gaps t u → Gaps t v → u ≡ v
