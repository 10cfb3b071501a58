-- The bytes of spans.
use Rattle.std.specs.Prelude.{ℕ, List, [], Option, Some, None, slice_range}
use Rattle.rc_text.specs.declared.types.Span.{Span}

-- the bytes of a span; none where there is no span
abbrev pub bytes_in : List ℕ → Option Span → List ℕ
bytes_in content None = []
bytes_in content (Some s) = slice_range content s.start s.end
