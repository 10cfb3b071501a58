-- For worked rows: how far a plain search reads that tries the starts, and from each the ways in
-- order, until it has the preferred match.
use Rattle.std.specs.Prelude.{ℕ, zero, suc, ◌+◌, ◌*◌, Bool, true, false, ◌&&◌, List, [], ◌∷◌, length, max, if◌then◌else◌}
use Rattle.rc_walks.specs.Walks.{Pair}
use Rattle.rc_walks.specs.Tries.{is_in}
use Rattle.rc_text.specs.Text.{is_boundary}
use Rattle.rc_program.specs.Program.{place_at}
use Rattle.rc_program.specs.Answer.{Search, ends, next_of, start_count}
use Rattle.rc_program.specs.Matches.{from_on}
use Rattle.rc_reach.specs.Reads.{sight}

-- What was tried: how many bytes were read, and where a walk ended, if one did.
pub record Tried : Type 0 where
  pub read : ℕ
  pub found : Bool
  pub end : ℕ

abbrev pub nothing_tried : Tried
nothing_tried = record { read = 0; found = false; end = 0 }

-- The second, if the first found nothing.
abbrev pub or_else : Tried → Tried → Tried
or_else a b = if a.found then a else record { read = max a.read b.read; found = b.found; end = b.end }

abbrev pub read_to : ℕ → Tried → Tried
read_to k a = record { read = max k a.read; found = a.found; end = a.end }

abbrev pub try_ways : (Pair → Tried) → List Pair → Tried
try_ways try [] = nothing_tried
try_ways try (n ∷ from) = or_else (try n) (try_ways try from)

abbrev pub try_from : Search → ℕ → List Pair → Pair → Tried
try_from s zero passed n = nothing_tried
try_from s (suc most) passed n =
    if is_in n passed then nothing_tried
    else if ends s n then record { read = n.1; found = true; end = n.1 }
    else read_to (n.1 + sight (place_at s.places n.0)) (try_ways (try_from s most (n ∷ passed)) (next_of s n))

-- If matches may be passed over, the byte at the end of a walk is read.
abbrev pub unless_passed : Search → Tried → Tried
unless_passed s a =
    if a.found && s.passes_over then record { read = max a.read (a.end + 1); found = is_boundary s.text.content a.end; end = a.end } else a

abbrev pub try_start : Search → ℕ → Tried
try_start s x = unless_passed s (try_from s (length s.places * (s.hi + 1)) [] (0, x))

abbrev pub try_starts : Search → ℕ → ℕ → Tried
try_starts s zero x = nothing_tried
try_starts s (suc n) x = or_else (try_start s x) (try_starts s n (x + 1))

-- Without a match the upper bound was seen.
abbrev pub reach_of_tried : Search → Tried → ℕ
reach_of_tried s a = if a.found then a.read else max a.read (s.hi + 1)

abbrev pub reach_of : Search → ℕ
reach_of s = reach_of_tried s (try_starts s (start_count s) s.lo)

abbrev pub reach_from : Search → ℕ → ℕ
reach_from s k = reach_of (from_on s k)
