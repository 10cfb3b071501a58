-- Haystacks: what a search sees of a content.
use Rattle.std.specs.Prelude.{ℕ, Bool, List, slice_range}
use Rattle.rc_pattern.specs.declared.hir.Look.{Look}
use Rattle.rc_program.specs.Looks.{Side, side_before, side_after, holds_between}

-- The content, the bounds of the slice that assertions see, whose end is at most the content's
-- length, and the line terminator.
pub record Text : Type 0 where
  pub content : List ℕ
  pub slice_start : ℕ
  pub slice_end : ℕ
  pub terminator : ℕ

-- The slice's bytes before p.
abbrev pub behind : Text → ℕ → List ℕ
behind t p = slice_range t.content t.slice_start p

-- The slice's bytes from p on.
abbrev pub beyond : Text → ℕ → List ℕ
beyond t p = slice_range t.content p t.slice_end

abbrev pub before_at : Text → ℕ → Side
before_at t p = side_before (behind t p)

abbrev pub after_at : Text → ℕ → Side
after_at t p = side_after (beyond t p)

-- The assertion holds at p.
abbrev pub holds : Text → Look → ℕ → Bool
holds t l p = holds_between t.terminator (before_at t p) (after_at t p) l

-- The bytes that a walk may read from p on, if no walk goes past hi.
abbrev pub ahead : Text → ℕ → ℕ → List ℕ
ahead t hi p = slice_range t.content p hi
