-- Only proofs use this file.
-- First-byte sets: how the places reached from one are listed, and their flags.
use Rattle.std.specs.Prelude.{◌≡◌, ℕ, ◌<◌, ◌≤◌, ◌⊎◌, Bool, false, ◌||◌, List, [], ◌++◌, length, slice_index_or}
use Rattle.std.specs.List.{Contains, list_any}
use Rattle.rc_program.specs.Program.{Place, place_at}
use Rattle.rc_program.specs.Heads.{silent, Reaches, may_take}

-- The places listed, once those of `ns` are listed that weren't.
pub record Opens (ns old new : List ℕ) : Type 0 where
  pub kept : (extra : List ℕ) × (new ≡ old ++ extra) × ((q : ℕ) → Contains extra q → Contains ns q)
  pub has : (q : ℕ) → Contains ns q → Contains new q

-- The places listed, once those are listed to which p leads silently, unless p has flags.
abbrev pub OpensPast : List Place → List (List Bool) → ℕ → List ℕ → List ℕ → Type 0
OpensPast places tables p old new =
    (0 < length (slice_index_or tables p []) → new ≡ old)
    × (length (slice_index_or tables p []) ≡ 0 → Opens (silent (place_at places p)) old new)

-- So far: what is reached silently from those of the first `next` places listed that have no flags
-- is listed.
pub record AreOpened (places : List Place) (tables : List (List Bool)) (p next : ℕ) (opened : List ℕ) : Type 0 where
  pub starts : Contains opened p
  pub reached : (q : ℕ) → Contains opened q → Reaches places p q
  pub within : next ≤ length opened
  pub closed : (k m : ℕ) → k < next → length (slice_index_or tables (slice_index_or opened k 0) []) ≡ 0 →
      Contains (silent (place_at places (slice_index_or opened k 0))) m → Contains opened m

-- q is reached from a place listed that has flags.
abbrev pub IsPast : List Place → List (List Bool) → List ℕ → ℕ → Type 0
IsPast places tables opened q = (m : ℕ) × Contains opened m × (0 < length (slice_index_or tables m [])) × Reaches places m q

-- The places are reached from p. Each other place that is, is reached from one that has flags.
pub record AreReached (places : List Place) (tables : List (List Bool)) (p : ℕ) (opened : List ℕ) : Type 0 where
  pub reached : (q : ℕ) → Contains opened q → Reaches places p q
  pub listed : (q : ℕ) → Reaches places p q → Contains opened q ⊎ IsPast places tables opened q

-- The place takes the byte, or its flags say so.
abbrev pub takes : List Place → List (List Bool) → ℕ → ℕ → Bool
takes places tables q b = slice_index_or (slice_index_or tables q []) b false || may_take (place_at places q) b

-- One of the places takes the byte.
abbrev pub any_takes : List Place → List (List Bool) → List ℕ → ℕ → Bool
any_takes places tables opened b = list_any (λ q. takes places tables q b) opened

-- The flags say which bytes these places take.
pub record AreFlags (places : List Place) (tables : List (List Bool)) (opened : List ℕ) (flags : List Bool) : Type 0 where
  pub whole : length flags ≡ 256
  pub exact : (b : ℕ) → b < 256 → slice_index_or flags b false ≡ any_takes places tables opened b

-- Below `limit`, each flag is the one from before, or else the test.
abbrev pub AreJoined : ℕ → (ℕ → Bool) → List Bool → List Bool → Type 0
AreJoined limit test old new = (b : ℕ) → b < limit → slice_index_or new b false ≡ (slice_index_or old b false || test b)
