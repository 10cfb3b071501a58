-- An input, its bounds and its boundaries.
use Rattle.std.specs.Prelude.{◌≡◌, ℕ, ◌+◌, ◌-◌, ◌<◌, ◌≤◌, ◌⊎◌, ◌||◌, min, max, if◌then◌else◌, nat_lt, nat_le, List, [], length, drop, Bool, true, Option, Some, None, slice_get, slice_range, slice_index}
use Rattle.rc_text.specs.declared.types.Span.{Span}
use Rattle.rc_text.specs.declared.types.Anchored.{Anchored}

-- An input as contracts see it.
pub record Searched : Type 0 where
  -- all bytes
  pub content : List ℕ
  -- the chunk that is shown, and where it begins
  pub chunk : List ℕ
  pub offset : ℕ
  -- the place in the content
  pub position : ℕ
  pub span : Span
  pub slice : Span
  pub anchored : Anchored
  pub earliest : Bool

-- What may change from s to t.

-- the shown chunk and the position alone
pub record Keeps (s t : Searched) : Type 0 where
  pub content : t.content ≡ s.content
  pub span : t.span ≡ s.span
  pub slice : t.slice ≡ s.slice
  pub anchored : t.anchored ≡ s.anchored
  pub earliest : t.earliest ≡ s.earliest

-- the shown chunk alone
abbrev pub Stays : Searched → Searched → Type 0
Stays s t = Keeps s t × (t.position ≡ s.position)

-- the shown chunk, the position, the span and the slice
pub record KeepsText (s t : Searched) : Type 0 where
  pub content : t.content ≡ s.content
  pub anchored : t.anchored ≡ s.anchored
  pub earliest : t.earliest ≡ s.earliest

-- Positions.

-- the shown chunk has the byte p
pub record ShowsByte (s : Searched) (p : ℕ) : Type 0 where
  pub low : s.offset ≤ p
  pub high : p < s.offset + length s.chunk

-- where a new input's span ends: at the total, or at the greatest usize where it is unknown
abbrev pub end_by_total : Option ℕ → ℕ
end_by_total None = 18446744073709551615
end_by_total (Some n) = n

-- It went to p: it stands there, in the chunk with that byte, or at the content's end.
pub record GoesTo (s t : Searched) (p : ℕ) : Type 0 where
  pub position : t.position ≡ min p (length s.content)
  pub there : p < length s.content → ShowsByte t p

-- It did not move.
pub record IsUnmoved (s t : Searched) : Type 0 where
  pub position : t.position ≡ s.position
  pub chunk : t.chunk ≡ s.chunk
  pub offset : t.offset ≡ s.offset

-- Where it stands once the span goes from start to end.
pub record Placed (s t : Searched) (start end : ℕ) : Type 0 where
  -- from below the new start it goes to that start
  pub below : s.position < start → GoesTo s t start
  -- else, where the old span was not done, it goes from above the new end to that end
  pub above : start ≤ s.position → s.span.start ≤ s.span.end → end < s.position → GoesTo s t end
  -- else it does not move
  pub done : start ≤ s.position → s.span.end < s.span.start → IsUnmoved s t
  pub inside : start ≤ s.position → s.position ≤ end → IsUnmoved s t

-- Bounds.

-- where a search begins
abbrev pub low : Searched → ℕ
low s = max s.span.start s.slice.start

-- where it ends
abbrev pub high : Searched → ℕ
high s = min (min s.span.end s.slice.end) (length s.content)

-- where the slice's bytes end
abbrev pub slice_end : Searched → ℕ
slice_end s = min s.slice.end (length s.content)

-- Boundaries.

-- p is the end, or the byte there may begin a character
abbrev pub IsBoundary : List ℕ → ℕ → Type 0
IsBoundary content p = (p ≡ length content) ⊎ ((p < length content) × ((slice_index content p ≤ 127) ⊎ (192 ≤ slice_index content p)))

-- the byte may begin a character, or there is none
abbrev pub begins_scalar : Option ℕ → Bool
begins_scalar None = true
begins_scalar (Some byte) = nat_le byte 127 || nat_le 192 byte

-- the same as a test: up to the end it is true exactly where p is a boundary, and past it always
abbrev pub is_boundary : List ℕ → ℕ → Bool
is_boundary content p = begins_scalar (slice_get content p)

-- What stands around a position.

-- the slice's bytes before p
abbrev pub bytes_before : Searched → ℕ → List ℕ
bytes_before s p = slice_range s.content s.slice.start p

-- the slice's bytes from p on
abbrev pub bytes_after : Searched → ℕ → List ℕ
bytes_after s p = slice_range s.content p (slice_end s)

-- the last n of the bytes, or all where there are fewer
abbrev pub last_bytes : ℕ → List ℕ → List ℕ
last_bytes n bytes = drop (length bytes - n) bytes

-- p is outside the slice
abbrev pub is_outside : Searched → ℕ → Bool
is_outside s p = nat_lt p s.slice.start || nat_lt s.slice.end p

-- four bytes before p, or the slice's start
abbrev pub around_start : Searched → ℕ → ℕ
around_start s p = max s.slice.start (p - 4)

-- four bytes after p, or the end of the slice's bytes
abbrev pub around_end : Searched → ℕ → ℕ
around_end s p = min (p + 4) (slice_end s)

-- the slice's bytes from four before p to four after it, and none where p is outside
abbrev pub around_bytes_at : Searched → ℕ → List ℕ
around_bytes_at s p = if is_outside s p then [] else slice_range s.content (around_start s p) (around_end s p)

-- the place of p among them
abbrev pub around_place_at : Searched → ℕ → ℕ
around_place_at s p = if is_outside s p then 0 else p - around_start s p
