-- Exact literals: what a search finds for patterns that are exactly some needles.
use Rattle.std.specs.Prelude.{◌≡◌, ◌↔◌, ◌⊎◌, ◌<◌, ◌≤◌, ℕ, Bool, List, [], ◌∷◌, Option, Some, None, length, option_map, nat_eq, slice_get, slice_index, if◌then◌else◌}
use Rattle.rc_pattern_set.specs.Sets.{Has}
use Rattle.rc_text.specs.Found.{Found}
use Rattle.rc_text.specs.Text.{Searched, low, high}
use Rattle.rc_text.specs.declared.types.Anchored.{Anchored}
use Rattle.rc_text.specs.declared.types.Anchored.TheVariants.{No, Yes, Pattern}
use Rattle.rc_needles.specs.declared.hit.Hit.{Hit}
use Rattle.rc_needles.specs.Needles.{StandsWithin, find_needle, prefix_needle}
use Rattle.rc_needles.specs.Prefilters.{needles_of}
use Rattle.rc_literals.specs.declared.owned.OwnedNeedles.{OwnedNeedles}

-- Needles in order of preference, each with its owner: the pattern to which it belongs.
pub record Owned : Type 0 where
  pub needles : List (List ℕ)
  pub owners : List ℕ

-- What contracts see of owned needles.
abbrev pub owned_of : OwnedNeedles → Owned
owned_of n = record { needles = needles_of n.prefilter; owners = n.owners.items }

-- Of these needles, with these owners, those that pattern p owns.
abbrev pub own_needles : ℕ → List ℕ → List (List ℕ) → List (List ℕ)
own_needles p [] needles = []
own_needles p (q ∷ owners) [] = []
own_needles p (q ∷ owners) (needle ∷ needles) =
    if nat_eq q p then needle ∷ own_needles p owners needles else own_needles p owners needles

-- The needles of the only pattern that is allowed; `None` allows all.
abbrev pub needles_for : Option ℕ → Owned → List (List ℕ)
needles_for None o = o.needles
needles_for (Some p) o = own_needles p o.owners o.needles

-- The pattern of the needle with this number among them.
abbrev pub owner_for : Option ℕ → Owned → ℕ → ℕ
owner_for None o number = slice_index o.owners number
owner_for (Some p) o number = p

-- The match that one of them is.
abbrev pub found_for : Option ℕ → Owned → Hit → Found
found_for only o h = record { pattern = owner_for only o h.number; start = h.start; end = h.end }

-- The match of a search for patterns that are exactly these needles: the first needle at the least
-- start at which one occurs, and the pattern that owns it.
abbrev pub literal_answer_by : Owned → List ℕ → ℕ → ℕ → Anchored → Option Found
literal_answer_by o content lo hi No = option_map (found_for None o) (find_needle (needles_for None o) content lo hi)
literal_answer_by o content lo hi Yes = option_map (found_for None o) (prefix_needle (needles_for None o) content lo hi)
literal_answer_by o content lo hi (Pattern p) = option_map (found_for (Some p) o) (prefix_needle (needles_for (Some p) o) content lo hi)

abbrev pub literal_answer : Owned → Searched → Option Found
literal_answer o s = literal_answer_by o s.content (low s) (high s) s.anchored

-- A needle of pattern p occurs at i, and ends at hi or earlier.
pub record OwnsAt (o : Owned) (content : List ℕ) (hi p i : ℕ) : Type 0 where
  pub number : ℕ
  pub needle : List ℕ
  pub is : slice_get o.needles number ≡ Some needle
  pub owned : slice_get o.owners number ≡ Some p
  pub stands : StandsWithin content hi needle i

-- Pattern p has a match in a search for patterns that are exactly these needles.
abbrev pub OwnsBy : Owned → List ℕ → ℕ → ℕ → ℕ → Anchored → Type 0
OwnsBy o content lo hi p No = (i : ℕ) × (lo ≤ i) × OwnsAt o content hi p i
OwnsBy o content lo hi p Yes = OwnsAt o content hi p lo
OwnsBy o content lo hi p (Pattern q) = (p ≡ q) × OwnsAt o content hi p lo

abbrev pub Owns : Owned → Searched → ℕ → Type 0
Owns o s p = OwnsBy o s.content (low s) (high s) p s.anchored

-- The set keeps what it had, and adds each pattern below its capacity that has a match.
pub record AddsOwners (o : Owned) (s : Searched) (old new : List Bool) : Type 0 where
  pub capacity : length new ≡ length old
  pub members : (p : ℕ) → Has new p ↔ (Has old p ⊎ ((p < length old) × Owns o s p))
