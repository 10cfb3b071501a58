-- Only proofs use this file.
-- Meta strategy: how a DFA search goes, and by which literals.
use Rattle.std.specs.Prelude.{◌≡◌, ⊤, ℕ, true, List, Option, Some, MatchOption}
use Rattle.rc_text.specs.declared.types.Anchored.{Anchored}
use Rattle.rc_text.specs.declared.types.Anchored.TheVariants.{No}
use Rattle.rc_text.specs.declared.types.MatchKind.{MatchKind}
use Rattle.rc_program.specs.Places.{places_of}
use Rattle.rc_needles.specs.Needles.{longest}
use Rattle.rc_needles.specs.Prefilters.{needles_of}
use Rattle.rc_literals.specs.Guard.{IsGuard}
use Rattle.rc_literals.specs.declared.guard.Guard.{Guard}
use Rattle.rc_literals.specs.declared.guard.Guard.TheVariants.{Begins, Holds}
use Rattle.rc_literals.specs.declared.guard.Needs.{Needs}
use Rattle.rc_pikevm_search.specs.Choices.{guarding}
use Rattle.rc_pikevm_search.specs.declared.engine.Engine.{Engine}
use Rattle.rc_pikevm_search.specs.declared.literals.Literals.{Literals}
use Rattle.rc_strategy.specs.Lengths.{IsOneLength, is_leftmost}
use Rattle.rc_strategy.specs.declared.lengths.Lengths.{Lengths}
use Rattle.rc_strategy.specs.declared.route.LongestLiterals.{LongestLiterals}
use Rattle.rc_strategy.specs.declared.route.Route.{Route}
use Rattle.rc_strategy.specs.declared.route.Route.TheVariants.{FromStart, FromEnd, OfLength}

-- Searches by the engine's program may rely on the guard, if there is one.
abbrev pub MayGuard : Engine → Option Guard → Type 0
MayGuard e guard = MatchOption guard ⊤ (IsGuard (places_of e.program.places.items) e.program.terminator)

-- The longest of these prefix literals and of these required ones have so many bytes.
pub record AreLongest (literals : Literals) (needs : Option Needs) (l : LongestLiterals) : Type 0 where
  pub prefix : (needles : List (List ℕ)) → guarding literals ≡ Some needles
      → l.prefix ≡ longest needles
  pub required : (n : Needs) → needs ≡ Some n → l.required ≡ longest (needles_of n.needles)

-- How many bytes the longest literal of the guard has.
abbrev pub longest_for : LongestLiterals → Guard → ℕ
longest_for l (Begins p) = l.prefix
longest_for l (Holds n) = l.required

-- The route serves searches that are anchored so. It relies on nothing if it goes along.
pub record Serves (kind : MatchKind) (k : Lengths) (anchored : Anchored) (route : Route) : Type 0 where
  -- The search isn't anchored, and each match begins where the slice does.
  pub from_start : route ≡ FromStart → (anchored ≡ No) × (k.begins ≡ true)
  -- The search isn't anchored, and each match ends where the slice does.
  pub from_end : route ≡ FromEnd → (anchored ≡ No) × (k.ends ≡ true)
  -- The kind is leftmost, and each match has this length.
  pub of_length : (n : ℕ) → route ≡ OfLength n → (is_leftmost kind ≡ true) × IsOneLength k n

-- The route serves every search, anchored or not.
abbrev pub ServesAll : MatchKind → Lengths → Route → Type 0
ServesAll kind k route = (anchored : Anchored) → Serves kind k anchored route
