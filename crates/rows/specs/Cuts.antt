-- Only proofs use this file.
-- Cuts: what a cut shows is what its cursor shows.
use Rattle.rc_text.specs.declared.chunks.ChunkCursor.{ChunkCursor}
use Rattle.rows.specs.declared.cursors.Recut.{Recut}
use Rattle.rows.specs.declared.cursors.Cut.{Cut}
use Rattle.rows.specs.declared.cursors.Cut.TheVariants.{Anew, List}

-- what one of two functions gives, by which cursor the cut has
abbrev pub by_cursor : {A : Type 0} → (Recut → A) → (ChunkCursor → A) → Cut → A
by_cursor f g (Anew cursor) = f cursor
by_cursor f g (List cursor) = g cursor
