-- Prefilters: by which needles a search of patterns may go.
use Rattle.std.specs.Prelude.{◌≡◌, ◌⊎◌, ℕ, List, Bool, true, false, Option, Some, None, IfSome}
use Rattle.rc_pattern.specs.Re.{Re}
use Rattle.rc_literals.specs.Answers.{Owned, owned_of}
use Rattle.rc_needles.specs.Prefilters.{needles_of}
use Rattle.rc_literals.specs.Prefixes.{ArePrefixes, EachBegins}
use Rattle.rc_text.specs.declared.types.MatchKind.{MatchKind}
use Rattle.rc_text.specs.declared.types.MatchKind.TheVariants.{All as all_matches, LeftmostFirst as leftmost_first, LeftmostLongest as leftmost_longest}
use Rattle.rc_pikevm_search.specs.declared.literals.Literals.{Literals}
use Rattle.rc_pikevm_search.specs.declared.literals.Literals.TheVariants.{Absent, Guarded, Exact}

-- The needles with which walks begin.
abbrev pub guarding : Literals → Option (List (List ℕ))
guarding Absent = None
guarding (Guarded p) = Some (needles_of p)
guarding (Exact n) = Some (needles_of n.prefilter)

-- The needles that alone decide answers.
abbrev pub answering : Literals → Option Owned
answering Absent = None
answering (Guarded p) = None
answering (Exact n) = Some (owned_of n)

-- The needles that alone decide the answers to searches for a kind of match.
abbrev pub answering_for : MatchKind → Literals → Option Owned
answering_for leftmost_first s = answering s
answering_for all_matches s = None
answering_for leftmost_longest s = None

-- No needles are asked for with one of which each of the prefixes begins.
abbrev pub NoneServes : List (List ℕ) → Option (List (List ℕ)) → Type 0
NoneServes prefixes asked = IfSome asked (λ needles. ¬ EachBegins prefixes needles)

-- The needles that guard a search of patterns. They are the ones asked for, if the patterns have
-- prefixes and each of these begins with one of them; or else the prefixes themselves, if others
-- than the ones asked for may be used.
abbrev pub IsGuard : List Re → Option (List (List ℕ)) → Bool → Option (List (List ℕ)) → Type 0
IsGuard hs asked is_auto (Some needles) =
    (prefixes : List (List ℕ)) × ArePrefixes hs prefixes
    × (((asked ≡ Some needles) × EachBegins prefixes needles) ⊎ ((is_auto ≡ true) × NoneServes prefixes asked × (needles ≡ prefixes)))
IsGuard hs asked is_auto None = (prefixes : List (List ℕ)) → ArePrefixes hs prefixes → (is_auto ≡ false) × NoneServes prefixes asked
