-- First-byte sets: over which bytes walks may go on from a place, as far as one byte shows.
use Rattle.std.specs.Prelude.{◌≡◌, ◌↔◌, ℕ, ◌<◌, Bool, true, false, List, [], ◌∷◌, IsTrue, Some, encode_utf8, map, length, slice_get, slice_index, slice_index_or, Vec}
use Rattle.std.specs.List.{Contains}
use Rattle.rc_pattern.specs.Re.{Range}
use Rattle.rc_walks.specs.Walks.{Pair, HasNoWalk}
use Rattle.rc_program.specs.Text.{Text, ahead}
use Rattle.rc_program.specs.Program.{Place, choice, byte, branch, scalar, guard, slot, accept, in_ranges, place_at, ways}

-- The places to which ways lead that read nothing, whatever assertions say.
abbrev pub silent : Place → List ℕ
silent (choice ns) = ns
silent (guard l n) = n ∷ []
silent (slot k n) = n ∷ []
silent _ = []

-- q is reached from p by ways that read nothing.
pub data Reaches (places : List Place) : ℕ → ℕ → Type 0 where
  here : {p : ℕ} → Reaches places p p
  on : {p q : ℕ} (m : ℕ) → Contains (silent (place_at places p)) m → Reaches places m q → Reaches places p q

-- The first byte of a scalar in UTF-8.
abbrev pub lead : ℕ → ℕ
lead c = slice_index (encode_utf8 c) 0

-- From the lead of the range's first scalar to that of its last.
abbrev pub leads : Range → Range
leads r = (lead r.0, lead r.1)

-- A walk may go on there over the byte, as far as that byte alone shows, or it ends there.
abbrev pub may_take : Place → ℕ → Bool
may_take (byte rs n) b = in_ranges rs b
may_take (branch ts) b = true
may_take (scalar rs n) b = in_ranges (map leads rs) b
may_take (accept p) b = true
may_take _ b = false

-- A walk may go on from p over the byte b, or end before it.
abbrev pub MayGoOn : List Place → ℕ → ℕ → Type 0
MayGoOn places p b = ∥ ((q : ℕ) × Reaches places p q × IsTrue (may_take (place_at places q) b)) ∥₁

-- Flag b of the 256 is set exactly if a walk may go on from p over the byte b.
pub record TellsHeads (places : List Place) (p : ℕ) (flags : List Bool) : Type 0 where
  pub whole : length flags ≡ 256
  pub exact : (b : ℕ) → b < 256 → IsTrue (slice_index_or flags b false) ↔ MayGoOn places p b

-- Each place has its flags, or none at all.
pub record AreHeads (places : List Place) (tables : List (List Bool)) : Type 0 where
  pub count : length tables ≡ length places
  pub tell : (p : ℕ) → p < length places → 0 < length (slice_index_or tables p []) → TellsHeads places p (slice_index_or tables p [])

-- The flags that code has.
abbrev pub flags_in : {Y : Type 0} → List (Vec Bool Y) → List (List Bool)
flags_in vs = map (λ v. v.items) vs

-- If walks end at match places alone, none begins from p at a position at which none may go on over
-- the byte ahead.
abbrev pub HeadsLaw : Type 0
HeadsLaw = (places : List Place) (t : Text) (hi p i b : ℕ) (ends : Pair → Bool) (passed : List Pair) →
    ((n : Pair) → IsTrue (ends n) → (k : ℕ) × (place_at places n.0 ≡ accept k)) → slice_get (ahead t hi i) 0 ≡ Some b → ¬ MayGoOn places p b →
    HasNoWalk (ways places t hi) (λ n. IsTrue (ends n)) passed ((p, i) ∷ [])
