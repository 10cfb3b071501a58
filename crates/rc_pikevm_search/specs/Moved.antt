-- Inputs: what may change of one while a list of matches is made.
use Rattle.std.specs.Prelude.{◌≡◌}
use Rattle.rc_text.specs.Text.{Searched}

-- From s to t, only the shown chunk, the position and the start of the span change.
pub record IsMoved (s t : Searched) : Type 0 where
  pub content : t.content ≡ s.content
  pub end : t.span.end ≡ s.span.end
  pub slice : t.slice ≡ s.slice
  pub anchored : t.anchored ≡ s.anchored
  pub earliest : t.earliest ≡ s.earliest
