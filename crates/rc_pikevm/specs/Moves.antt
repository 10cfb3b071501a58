-- Only proofs use this file.
-- Transitions: how a thread goes on from a place that it enters.
use Rattle.std.specs.Prelude.{◌≡◌, ℕ, ◌+◌, ◌<◌, ◌≤◌, [], ◌∷◌, Bool, true, false, IsTrue, Option, Some, None}
use Rattle.rc_text.specs.Text.{Searched, high}
use Rattle.rc_walks.specs.Walks.{Pair}
use Rattle.rc_program.specs.Columns.{column_at}
use Rattle.rc_program.specs.Program.{Place, slot, accept, place_at}
use Rattle.rc_program.specs.Answer.{Search, only}
use Rattle.rc_pikevm.specs.Sights.{Sight, sight_of, ends, next_of}
use Rattle.rc_program.specs.Sought.{anchoring_of, search_over}
use Rattle.rc_program.specs.Places.{places_of}
use Rattle.rc_program.specs.declared.program.Program.{Program}
use Rattle.rc_pikevm.specs.Trace.{Trace, note}
use Rattle.rc_pikevm.specs.declared.spot.Course.{Course}
use Rattle.rc_pikevm.specs.declared.moves.Move.{Move}
use Rattle.rc_pikevm.specs.declared.moves.Move.TheVariants.{Fork, Save, Matches, Stays, Reads, DeadEnd}

-- A search as a pass sees it: without its starts, and without what is passed over.
abbrev pub seen : Program → Searched → Search
seen p input = search_over (places_of p.places.items) p.terminator false input

-- The view that a pass by the course has of an input.
abbrev pub seen_by : Course → Searched → Sight
seen_by course input = sight_of (seen course.program.now input)

-- The bound and the allowed pattern are those of the input.
pub record IsSetting (course : Course) (input : Searched) : Type 0 where
  pub bound : course.hi ≡ high input
  pub allowed : course.pattern ≡ only (anchoring_of input.anchored)

-- Nothing is noted there, and no walk ends.
pub record IsPlain (s : Sight) (n : Pair) : Type 0 where
  pub silent : (h : Trace) → note s.places h n ≡ h
  pub on : ends s n ≡ false

-- The move is the one that the pair has.
abbrev pub IsMove : Sight → Pair → Move → Type 0
IsMove s n (Fork a b) = (next_of s n ≡ (a, n.1) ∷ (b, n.1) ∷ []) × IsPlain s n
IsMove s n (Save j m) = (k : ℕ) × (place_at s.places n.0 ≡ slot k m) × (j ≡ column_at s.places n.0)
IsMove s n (Matches p) = (place_at s.places n.0 ≡ accept p) × IsTrue (ends s n)
IsMove s n (Stays m) = (next_of s n ≡ (m, n.1) ∷ []) × IsPlain s n
IsMove s n (Reads m to) = (next_of s n ≡ (m, to) ∷ []) × IsPlain s n × (n.1 < to) × (to ≤ n.1 + 4) × (to ≤ s.hi)
IsMove s n DeadEnd = (next_of s n ≡ []) × (ends s n ≡ false)

-- If the pair's place is this one, the move is that one.
abbrev pub IsMoveAt : Sight → Pair → Place → Move → Type 0
IsMoveAt s n place move = place_at s.places n.0 ≡ place → IsMove s n move

-- The move if the test allows it.
abbrev pub moving : Move → Bool → Move
moving move true = move
moving move false = DeadEnd

-- On to the place and the position, if there is one.
abbrev pub reading : ℕ → Option ℕ → Move
reading n None = DeadEnd
reading n (Some to) = Reads n to

-- The pattern of a walk that ends by the move.
abbrev pub ended_by : Move → Option ℕ
ended_by (Matches p) = Some p
ended_by move = None
