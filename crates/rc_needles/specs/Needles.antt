-- Literal search: needles, and where they occur in a content.
use Rattle.std.specs.Prelude.{◌≡◌, ◌↔◌, ℕ, ◌+◌, ◌-◌, ◌<◌, ◌≤◌, Bool, ◌&&◌, List, [], ◌∷◌, length, max, Option, Some, None, nat_le, bytes_eq, slice_get, slice_range, if◌then◌else◌}
use Rattle.rc_program.specs.Answer.{first_given}
use Rattle.rc_program.specs.Spells.{Stands}
use Rattle.rc_needles.specs.declared.hit.Hit.{Hit}

-- The content has the needle's bytes from i on.
abbrev pub StandsAt : List ℕ → List ℕ → ℕ → Type 0
StandsAt content needle i = Stands content needle i (i + length needle)

-- The needle occurs there, and ends at hi or earlier.
abbrev pub StandsWithin : List ℕ → ℕ → List ℕ → ℕ → Type 0
StandsWithin content hi needle i = (i + length needle ≤ hi) × StandsAt content needle i

-- No needle occurs at i.
abbrev pub NoneAt : List (List ℕ) → List ℕ → ℕ → ℕ → Type 0
NoneAt needles content hi i = (k : ℕ) (needle : List ℕ) → slice_get needles k ≡ Some needle → ¬ StandsWithin content hi needle i

-- It is the first of the needles that occur at i.
pub record IsFirstAt (needles : List (List ℕ)) (content : List ℕ) (hi i : ℕ) (h : Hit) : Type 0 where
  pub needle : List ℕ
  pub is : slice_get needles h.number ≡ Some needle
  pub stands : StandsWithin content hi needle i
  pub start : h.start ≡ i
  pub end : h.end ≡ i + length needle
  pub none_earlier : (k : ℕ) (other : List ℕ) → k < h.number → slice_get needles k ≡ Some other → ¬ StandsWithin content hi other i

-- It is the first of the needles that occur at the least start from lo on at which one occurs.
pub record IsFirstNeedle (needles : List (List ℕ)) (content : List ℕ) (lo hi : ℕ) (h : Hit) : Type 0 where
  pub low : lo ≤ h.start
  pub is_first : IsFirstAt needles content hi h.start h
  pub none_before : (i : ℕ) → lo ≤ i → i < h.start → NoneAt needles content hi i

-- No needle occurs from lo on.
abbrev pub HasNoNeedle : List (List ℕ) → List ℕ → ℕ → ℕ → Type 0
HasNoNeedle needles content lo hi = (i : ℕ) → lo ≤ i → NoneAt needles content hi i

-- These relations as functions. The law `NeedleLaw` says that both agree.

-- The needle occurs at i, and ends at hi or earlier.
abbrev pub stands_within : List ℕ → ℕ → ℕ → List ℕ → Bool
stands_within content hi i needle = nat_le (i + length needle) hi && bytes_eq (slice_range content i (i + length needle)) needle

-- The first of the needles that occurs at i, if the first of them has the number n.
abbrev pub first_from : List ℕ → ℕ → ℕ → ℕ → List (List ℕ) → Option Hit
first_from content hi i n [] = None
first_from content hi i n (needle ∷ needles) =
    if stands_within content hi i needle then Some (record { start = i; end = i + length needle; number = n })
    else first_from content hi i (n + 1) needles

-- The first of the needles that occurs at i.
abbrev pub needle_at : List (List ℕ) → List ℕ → ℕ → ℕ → Option Hit
needle_at needles content hi i = first_from content hi i 0 needles

-- The least start from lo on at which a needle occurs, and the first needle there.
unfoldable pub find_needle : List (List ℕ) → List ℕ → ℕ → ℕ → Option Hit
find_needle needles content lo hi = first_given (needle_at needles content hi) (hi + 1 - lo) lo

-- The needle that occurs at lo.
unfoldable pub prefix_needle : List (List ℕ) → List ℕ → ℕ → ℕ → Option Hit
prefix_needle needles content lo hi = needle_at needles content hi lo

pub record NeedleLaw : Type 0 where
  pub found : (needles : List (List ℕ)) (content : List ℕ) (lo hi : ℕ) (h : Hit) →
      (find_needle needles content lo hi ≡ Some h) ↔ IsFirstNeedle needles content lo hi h
  pub not_found : (needles : List (List ℕ)) (content : List ℕ) (lo hi : ℕ) →
      (find_needle needles content lo hi ≡ None) ↔ HasNoNeedle needles content lo hi
  pub prefixed : (needles : List (List ℕ)) (content : List ℕ) (lo hi : ℕ) (h : Hit) →
      (prefix_needle needles content lo hi ≡ Some h) ↔ IsFirstAt needles content hi lo h
  pub not_prefixed : (needles : List (List ℕ)) (content : List ℕ) (lo hi : ℕ) →
      (prefix_needle needles content lo hi ≡ None) ↔ NoneAt needles content hi lo

-- How many bytes the longest has.
abbrev pub longest : List (List ℕ) → ℕ
longest [] = 0
longest (needle ∷ needles) = max (length needle) (longest needles)
