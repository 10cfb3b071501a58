-- Lines that are read piece by piece. Lines end in the byte `t`.
use Rattle.std.specs.Prelude.{◌≡◌, ◌≢◌, ◌≤◌, ◌<◌, ◌⊎◌, ℕ, List, [], ◌∷◌, ◌++◌, Option, Some, length, slice_index, true}
use Rattle.grep_lines.specs.Lines.{lines}
use Rattle.grep_lines.specs.Selected.{TakesLine}
use Rattle.grep_lines.specs.declared.pieces.Begun.{Begun}
use Rattle.grep_lines.specs.declared.pieces.Begun.TheVariants.{End, Long, Whole}
use Rattle.grep_lines.specs.declared.pieces.Behind.{Behind}
use Rattle.grep_lines.specs.declared.pieces.Behind.TheVariants.{More, Terminator, End as TheEnd}
use Rattle.grep_lines.specs.declared.pieces.Piece.{Piece}

-- No line ends in the bytes.
abbrev pub EndsNone : (terminator : ℕ) → List ℕ → Type 0
EndsNone t bytes = (k : ℕ) → k < length bytes → slice_index bytes k ≢ t

-- The bytes are the first ones of a line, and `left` holds those after them.
pub record BeginsLine (t : ℕ) (text bytes : List ℕ) (left : Option (List ℕ)) : Type 0 where
  pub rest : List ℕ
  pub known : left ≡ Some rest
  pub split : text ≡ bytes ++ rest
  pub free : EndsNone t bytes

-- So many bytes of a line were read, and at least one.
pub record IsLong (most : ℕ) (bytes : List ℕ) : Type 0 where
  pub some : 0 < length bytes
  pub many : most ≤ length bytes

-- A line was begun: there is none, or these are its bytes, or the first ones of a long line.
abbrev pub Begins : (terminator most : ℕ) (text line : List ℕ) (left : Option (List ℕ)) → Begun → Type 0
Begins t most text line left End = (lines t text ≡ []) × (line ≡ []) × (left ≡ Some text)
Begins t most text line left Whole = TakesLine t text true line left
Begins t most text line left Long = BeginsLine t text line left × IsLong most line

-- What is told was told these bytes more.
abbrev pub Told : (before after : List ℕ → Type 0) → List ℕ → Type 0
Told before after piece = (bytes : List ℕ) → before bytes → after (bytes ++ piece)

-- The text begins with the piece, and has the rest behind it.
abbrev pub SplitsAt : (terminator : ℕ) (text piece rest : List ℕ) → Behind → Type 0
SplitsAt t text piece rest More = text ≡ piece ++ rest
SplitsAt t text piece rest Terminator = text ≡ piece ++ t ∷ rest
SplitsAt t text piece rest TheEnd = (text ≡ piece) × (rest ≡ [])

-- The next piece of a line was told, and `left` holds what is behind it.
pub record TellsPiece (t : ℕ) (before after : List ℕ → Type 0) (text : List ℕ) (left : Option (List ℕ)) (p : Piece) : Type 0 where
  pub piece : List ℕ
  pub told : Told before after piece
  pub counted : p.len ≡ length piece
  pub free : EndsNone t piece
  pub rest : List ℕ
  pub known : left ≡ Some rest
  pub split : SplitsAt t text piece rest p.behind

-- The rest of a line was told, so many bytes, and `left` holds the lines behind it.
pub record TellsRest (t : ℕ) (before after : List ℕ → Type 0) (text : List ℕ) (left : Option (List ℕ)) (len : ℕ) : Type 0 where
  pub piece : List ℕ
  pub told : Told before after piece
  pub counted : len ≡ length piece
  pub free : EndsNone t piece
  pub rest : List ℕ
  pub known : left ≡ Some rest
  pub split : (text ≡ piece ++ t ∷ rest) ⊎ ((text ≡ piece) × (rest ≡ []))
