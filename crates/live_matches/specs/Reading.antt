-- Reading a list of matches by their places.
use Rattle.std.specs.Prelude.{◌≡◌, ℕ, ◌-◌, ◌<◌, ◌≤◌, Bool, false, ◌&&◌, ◌||◌, List, drop, length, take, if◌then◌else◌, nat_eq, nat_le, nat_lt, Option, None, Some, slice_get}
use Rattle.rc_text.specs.Found.{Found}
use Rattle.rc_text.specs.declared.types.Span.{Span}
use Rattle.live_matches.specs.Live.{listed}
use Rattle.live_matches.specs.declared.iter.LiveMatchesIter.{LiveMatchesIter}

-- The match is there, and begins before the place.
abbrev pub begins_before : ℕ → Option Found → Bool
begins_before at None = false
begins_before at (Some m) = nat_lt m.start at

-- The matches before index k begin before the place, and all others there or later.
pub record IsCut (at : ℕ) (ms : List Found) (k : ℕ) : Type 0 where
  pub inside : k ≤ length ms
  pub before : (i : ℕ) (m : Found) → slice_get ms i ≡ Some m → i < k → m.start < at
  pub after : (i : ℕ) (m : Found) → slice_get ms i ≡ Some m → k ≤ i → at ≤ m.start

-- The first match that begins at the place or later.
abbrev pub IsNextFrom : ℕ → List Found → Option Found → Type 0
IsNextFrom at ms r = (k : ℕ) × IsCut at ms k × (r ≡ slice_get ms k)

-- The last match that begins before the place.
abbrev pub IsLastBefore : ℕ → List Found → Option Found → Type 0
IsLastBefore at ms r = (k : ℕ) × IsCut at ms k
    × (r ≡ (if nat_eq k 0 then None else slice_get ms (k - 1)))

-- The match lies in the window, or ends after its start and begins before its end. So it has a byte
-- in the window, or it is empty and lies in it or at one of its ends.
abbrev pub touches : Span → Found → Bool
touches window m = (nat_le window.start m.start && nat_le m.end window.end)
    || (nat_lt window.start m.end && nat_lt m.start window.end)

-- The match is there, and ends at the place or before.
abbrev pub ends_by : ℕ → Option Found → Bool
ends_by at None = false
ends_by at (Some m) = nat_le m.end at

-- The first k matches end before a window that begins at the place, and no others do.
pub record IsAbove (at : ℕ) (ms : List Found) (k : ℕ) : Type 0 where
  pub before : (i : ℕ) (m : Found) → slice_get ms i ≡ Some m → i < k →
      (m.start < at) × (m.end ≤ at)
  pub after : (i : ℕ) (m : Found) → slice_get ms i ≡ Some m → k ≤ i → m.start < at → at < m.end

-- All matches after the first k begin after a window that ends at the place, and no others do.
pub record IsDownTo (at : ℕ) (ms : List Found) (k : ℕ) : Type 0 where
  pub before : (i : ℕ) (m : Found) → slice_get ms i ≡ Some m → i < k → at ≤ m.start → m.end ≤ at
  pub after : (i : ℕ) (m : Found) → slice_get ms i ≡ Some m → k ≤ i →
      (at ≤ m.start) × (at < m.end)

-- The matches that an iterator has left.
abbrev pub matches_left : LiveMatchesIter → List Found
matches_left it = take (it.end - it.next) (drop it.next (listed it.live.now))
