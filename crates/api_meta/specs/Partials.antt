-- Partial answers, as they are returned.
use Rattle.std.specs.Prelude.{◌≡◌, ◌≢◌, ℕ, ◌+◌, ◌-◌, ◌<◌, ◌≤◌, List, Option, Some, None, IfSome, max, min}
use Rattle.rc_text.specs.Found.{Found}
use Rattle.rc_text.specs.Text.{Searched, low, high}
use Rattle.rc_text.specs.declared.types.MatchKind.{MatchKind}
use Rattle.rc_text.specs.declared.types.MatchKind.TheVariants.{All as all_matches}
use Rattle.rc_pattern.specs.Re.{Re}
use Rattle.rc_program.specs.Answer.{Search}
use Rattle.rc_program.specs.Kinds.{answer_by}
use Rattle.rc_program.specs.Matches.{from_on}
use Rattle.rc_reach.specs.Laws.{greatest_len}
use Rattle.rc_reach.specs.Partial as partial
use Rattle.api_meta.specs.declared.partial.Partial.{Partial}
use Rattle.api_meta.specs.declared.partial.Partial.TheVariants.{Final, From}

-- What it says.
abbrev pub partial_of : Partial → partial.Partial
partial_of (Final m) = partial.final m
partial_of (From k) = partial.from_place k

-- A place to go on from is between the bounds of the search.
abbrev pub IsOnward : Searched → Partial → Type 0
IsOnward i (Final m) = Unit {0}
IsOnward i (From k) = (low i ≤ k) × (k ≤ max (low i) (high i))

-- n + 3 bytes before the end of the bounds, or where the match that was found begins.
abbrev pub far_on : ℕ → Searched → Option Found → ℕ
far_on n i None = high i - (n + 3)
far_on n i (Some m) = min (high i - (n + 3)) m.start

-- If no pattern is longer than n bytes, a place to go on from isn't before that one.
abbrev pub IsFarOn : MatchKind → List Re → Searched → Option Found → Partial → Type 0
IsFarOn kind hs i found (Final m) = Unit {0}
IsFarOn kind hs i found (From k) =
    kind ≢ all_matches → (n : ℕ) → greatest_len hs ≡ Some n → far_on n i found ≤ k

-- Before this place the content tells all, from wherever a search begins. A match that begins
-- before the place is final. If none does, no match of a content that goes on begins before it.
pub record IsSettledBefore (kind : MatchKind) (s : Search) (k : ℕ) : Type 0 where
  pub final : (at : ℕ) (m : Found) → answer_by kind (from_on s at) ≡ Some m → m.start < k →
      partial.IsPartial kind (from_on s at) (partial.final m)
  pub onward : (at : ℕ) (o : Option Found) → answer_by kind (from_on s at) ≡ o →
      IfSome o (λ m. k ≤ m.start) → partial.IsPartial kind (from_on s at) (partial.from_place k)
