-- Sets of characters or of bytes, as tests of codes, and the ranges that denote them.
use Rattle.std.specs.Prelude.{◌≡◌, ◌↔◌, ℕ, Bool, true, not, ◌&&◌, ◌||◌, List, IsTrue}
use Rattle.rc_pattern.specs.Re.{Range}
use Rattle.rc_tokens.specs.Classes.{is_code, AreCodes}
use Rattle.rc_tokens.specs.Members.{Has, InOrder}

-- a set of codes: those that pass the test
abbrev pub CodeSet : Type 0
CodeSet = ℕ → Bool

abbrev pub union : CodeSet → CodeSet → CodeSet
union p q c = p c || q c

abbrev pub intersection : CodeSet → CodeSet → CodeSet
intersection p q c = p c && q c

-- what the first set has and the second one hasn't
abbrev pub difference : CodeSet → CodeSet → CodeSet
difference p q c = p c && not (q c)

-- what exactly one of the sets has
abbrev pub symmetric_difference : CodeSet → CodeSet → CodeSet
symmetric_difference p q c = (p c && not (q c)) || (not (p c) && q c)

abbrev pub complement : CodeSet → CodeSet
complement p c = not (p c)

-- The ranges denote the set: among the codes of characters, or if `unicode` is false of bytes, they
-- have those of the set. They stand in any order, and may overlap.
pub record Denote (unicode : Bool) (p : CodeSet) (rs : List Range) : Type 0 where
  pub codes : AreCodes unicode rs
  pub members : (c : ℕ) → is_code unicode c ≡ true → Has rs c ↔ IsTrue (p c)

-- The ranges are those of the set: they denote it, stand in order, and no two touch.
pub record AreRangesOf (unicode : Bool) (p : CodeSet) (rs : List Range) : Type 0 where
  pub denote : Denote unicode p rs
  pub in_order : InOrder unicode 0 rs

-- A set has one list of ranges.
abbrev pub RangesLaw : Type 0
RangesLaw = (unicode : Bool) (p : CodeSet) (rs qs : List Range) → AreRangesOf unicode p rs → AreRangesOf unicode p qs → rs ≡ qs
