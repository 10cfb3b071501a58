-- Reaching: how many bytes settle a match, as far as the lengths of the patterns say.
use Rattle.std.specs.Prelude.{ℕ, ◌+◌, ◌-◌, ◌^◌, ◌≤◌, List, [], ◌∷◌, max, min, Option, Some, None, IfSome, if◌then◌else◌}
use Rattle.rc_text.specs.Found.{Found}
use Rattle.rc_text.specs.Plain.{is_anchored}
use Rattle.rc_text.specs.Text.{Searched, low}
use Rattle.rc_text.specs.declared.types.MatchKind.{MatchKind}
use Rattle.rc_text.specs.declared.types.MatchKind.TheVariants.{All as all_matches}
use Rattle.rc_pattern.specs.Properties.{both, maximum_len}
use Rattle.rc_pattern.specs.Re.{Re}
use Rattle.rc_program.specs.Answer.{Search}
use Rattle.rc_reach.specs.Settled.{IsWalkSettled}

-- The one start of an anchored search.
abbrev pub anchored_start : Searched → Option ℕ
anchored_start i = if is_anchored i.anchored then Some (low i) else None

-- The last start that decides the search.
abbrev pub last_start : MatchKind → Searched → Option Found → Option ℕ
last_start all_matches i found = anchored_start i
last_start kind i None = anchored_start i
last_start kind i (Some m) = Some m.start

-- The greatest length of the patterns and of those before them, if each has one.
abbrev pub longest_after : Option ℕ → List Re → Option ℕ
longest_after longest [] = longest
longest_after longest (h ∷ hs) =
    longest_after (both (λ m n. Some (max m n)) longest (maximum_len h)) hs

-- How many bytes settle the search, by that start and the greatest length of the patterns.
abbrev pub reach_after : Option ℕ → Option ℕ → ℕ
reach_after None longest = 2 ^ 64 - 1
reach_after (Some start) None = 2 ^ 64 - 1
reach_after (Some start) (Some longest) = min (start + longest + 4) (2 ^ 64 - 1)

-- The bytes before r settle the search, and its match ends at r or before.
pub record EndsSettled (kind : MatchKind) (s : Search) (found : Option Found) (r : ℕ) : Type 0 where
  pub settled : IsWalkSettled kind r s
  pub past : IfSome found (λ m. m.end ≤ r)
