-- Law of byte programs: they have the walks of their programs, and each of their edges reads one
-- byte at most.
use Rattle.std.specs.Prelude.{◌≡◌, ◌↔◌, ℕ, ◌≤◌, ◌<◌, ◌+◌, ◌*◌, List, [], ◌∷◌, length, Bool, IsTrue, None, All}
use Rattle.rc_pattern.specs.Re.{Re}
use Rattle.rc_pattern.specs.WellFormed.{HasBounds}
use Rattle.rc_pattern.specs.Weight.{list_weight}
use Rattle.rc_pattern.specs.declared.hir.Look.{Look}
use Rattle.rc_program.specs.Program.{Place, scalar, accept, place_at, is_match_place, Way, stays, reads, ways_out, program}
use Rattle.rc_program.specs.Laws.{IsClosed, heaviness}
use Rattle.rc_program.specs.Sought.{IsRunnable}
use Rattle.rc_program.specs.Answer.{Search, answer, groups, next_of, ends, last_of}
use Rattle.rc_text.specs.Found.{Found}
use Rattle.rc_walks.specs.Walks.{Pair, IsWalk}
use Rattle.rc_walks.specs.Tries.{walk_by}
use Rattle.std.specs.Option.{option_map}
use Rattle.rc_program.specs.Greatest.{IsSpelledIn, greatest}
use Rattle.rc_utf8.specs.Bytes.{bytes_of}

-- The same search over the byte program.
abbrev pub by_bytes : Search → Search
by_bytes s = record s { places = bytes_of s.places }

-- The way reads at most one byte.
abbrev pub IsOfOneByte : Way → Type 0
IsOfOneByte (stays q) = Unit {0}
IsOfOneByte (reads n q) = n ≡ 1

-- The place reads no scalars.
abbrev pub IsBytePlace : Place → Type 0
IsBytePlace (scalar rs n) = ⊥
IsBytePlace _ = Unit {0}

-- The walk leads from place k at x to the match place of pattern p at j.
pub record IsWalkFrom (s : Search) (k x p j : ℕ) (w : List Pair) : Type 0 where
  pub is_walk : IsWalk (next_of s) (λ n. IsTrue (is_match_place None (place_at s.places n.0))) [] ((k, x) ∷ []) w
  pub pattern : place_at s.places (last_of w).0 ≡ accept p
  pub position : (last_of w).1 ≡ j

-- The law of byte programs.
pub record ByteProgramLaw : Type 0 where
  -- A search over the byte program gives the same match,
  pub same_answer : (s : Search) → IsClosed s.places → answer (by_bytes s) ≡ answer s
  -- with the same slots,
  pub same_groups : (s : Search) (n : ℕ) → IsClosed s.places → groups (by_bytes s) n ≡ groups s n
  -- and the same greatest span,
  pub same_greatest : (s : Search) → IsClosed s.places → greatest (by_bytes s) ≡ greatest s
  -- and the same spans are spelled.
  pub same_spans : (s : Search) (m : Found) → IsClosed s.places → IsSpelledIn (by_bytes s) m ↔ IsSpelledIn s m
  -- From each place of the program, as a pattern's entry, its walks lead to the same match places
  -- at the same positions,
  pub same_walks : (s : Search) → IsClosed s.places → (k x p j : ℕ) → k < length s.places → x ≤ s.hi →
      ((w : List Pair) × IsWalkFrom (by_bytes s) k x p j w) ↔ ((w : List Pair) × IsWalkFrom s k x p j w)
  -- and the first of those that may end ends where the program's does.
  pub same_from : (s : Search) → IsClosed s.places → (k x : ℕ) → k < length s.places → x ≤ s.hi →
      option_map last_of (walk_by (next_of (by_bytes s)) (ends (by_bytes s)) (length (bytes_of s.places) * (s.hi + 1)) [] (k, x))
      ≡ option_map last_of (walk_by (next_of s) (ends s) (length s.places * (s.hi + 1)) [] (k, x))
  -- A place that reads no scalars keeps its number.
  pub kept : (places : List Place) (k : ℕ) → k < length places → IsBytePlace (place_at places k) → place_at (bytes_of places) k ≡ place_at places k
  -- The match places are those of the program.
  pub match_places : (places : List Place) (k p : ℕ) → (place_at (bytes_of places) k ≡ accept p) ↔ (place_at places k ≡ accept p)
  -- No place reads scalars.
  pub no_scalars : (places : List Place) → All IsBytePlace (bytes_of places)
  -- No way out of a place reads more than one byte.
  pub by_one : (places : List Place) (test : Look → Bool) (bytes : List ℕ) →
      All (λ q. All IsOfOneByte (ways_out test bytes q)) (bytes_of places)
  pub closed : (places : List Place) → IsClosed places → IsClosed (bytes_of places)
  -- If an engine may run over the program, it may run over the byte program: that is entered at
  -- place 0 too.
  pub runnable : (places : List Place) → IsRunnable places → IsRunnable (bytes_of places)
  -- No place is lost.
  pub longer : (places : List Place) → length places ≤ length (bytes_of places)
  -- It has no more places than the program weighs.
  pub light : (places : List Place) → length (bytes_of places) ≤ heaviness places
  pub small : (hs : List Re) → All HasBounds hs → length (bytes_of (program hs)) ≤ list_weight hs
