-- What stands in the span of a fault of the full grammar, as its own relations read it: from a text up to a rest of it.
use Rattle.std.specs.Prelude.{◌≡◌, ◌⊎◌, ◌<◌, ◌≤◌, ℕ, Bool, ◌∷◌, ◌++◌}
use Rattle.rc_tokens.specs.Text.{Characters}
use Rattle.rc_tokens.specs.declared.tokens.Assertion.{Assertion}
use Rattle.rc_tokens.specs.declared.tokens.Escape.TheVariants as says
use Rattle.rc_full_escapes.specs.Escapes.{IsEscape}
use Rattle.rc_full_escapes.specs.declared.escapes.FullEscape.TheVariants.{Stated}
use Rattle.rc_full_lists.specs.Parts.{GoesOn, IsAtom}
use Rattle.rc_full_lists.specs.declared.parts.Atom.{Atom}
use Rattle.rc_full_lists.specs.declared.parts.Atom.TheVariants.{Code, Set}
use Rattle.rc_full_lists.specs.declared.parts.Settings.{Settings}
use Rattle.rc_full_parser.specs.Marks as mark
use Rattle.rc_full_parser.specs.Marks.{IsMark}
use Rattle.rc_full_parser.specs.declared.marks.MarkSettings.{MarkSettings}
use Rattle.rc_full_parser.specs.declared.marks.Piece.{Piece}
use Rattle.rc_full_parser.specs.declared.marks.Piece.TheVariants as piece

-- an escape that asserts something
pub record EscapesAssertion (text rest : Characters) : Type 0 where
  pub octal : Bool
  pub assertion : Assertion
  pub escape : IsEscape octal text (Stated (says.Assertion assertion)) rest

-- a character past ASCII, plain or escaped
pub record ReadsPastAscii (text rest : Characters) : Type 0 where
  pub c : ℕ
  pub past : 128 ≤ c
  pub written : (text ≡ c ∷ rest) ⊎ ((octal : Bool) × IsEscape octal text (Stated (says.Character c)) rest)

-- two atoms of a list, with a hyphen between that goes on with a range, and of which this is so
pub record ReadsRange (Related : Atom → Atom → Type 0) (text rest : Characters) : Type 0 where
  pub settings : Settings
  pub low : Atom
  pub high : Atom
  pub behind : Characters
  pub from : Characters
  pub reads_low : IsAtom settings text low behind
  pub goes_on : GoesOn settings behind from
  pub reads_high : IsAtom settings from high rest
  pub related : Related low high

abbrev pub IsSetAtom : Atom → Type 0
IsSetAtom (Code n) = ⊥
IsSetAtom (Set i) = Unit {0}

-- one is a class
abbrev pub HasSetAtom : Atom → Atom → Type 0
HasSetAtom low high = IsSetAtom low ⊎ IsSetAtom high

-- the code of the first is above that of the last
abbrev pub IsCodeAbove : Atom → Atom → Type 0
IsCodeAbove (Code low) (Code high) = high < low
IsCodeAbove (Code low) (Set i) = ⊥
IsCodeAbove (Set i) high = ⊥

-- no single character, and no assertion
abbrev pub IsSetPiece : Piece → Type 0
IsSetPiece (piece.Character c) = ⊥
IsSetPiece (piece.Byte b) = Unit {0}
IsSetPiece (piece.Set i) = Unit {0}
IsSetPiece piece.Dot = Unit {0}
IsSetPiece (piece.Asserts a) = ⊥

-- a mark that is `.`, a byte `\xHH`, a Perl class or a property
pub record ReadsPiece (text rest : Characters) : Type 0 where
  pub settings : MarkSettings
  pub piece : Piece
  pub is_set : IsSetPiece piece
  pub reads : IsMark settings text (mark.stands piece) rest

-- from a `[` up to a `]`
pub record AreBrackets (text rest : Characters) : Type 0 where
  pub inside : Characters
  pub written : text ≡ 91 ∷ (inside ++ 93 ∷ rest)

abbrev pub ReadsSet : Characters → Characters → Type 0
ReadsSet text rest = ReadsPiece text rest ⊎ AreBrackets text rest
