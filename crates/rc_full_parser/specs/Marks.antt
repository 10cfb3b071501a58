-- The marks of which the text of a pattern is made, from left to right.
use Rattle.std.specs.Prelude.{◌≡◌, ℕ, Bool, true, false, ◌∷◌, ◌++◌, Option, Some, None, encode_utf8_all, if◌then◌else◌}
use Rattle.rc_tokens.specs.Text.{Characters, ◌>>◌, is_at, is_empty, each}
use Rattle.rc_tokens.specs.Marks.{is_special, bounds}
use Rattle.rc_tokens.specs.Said.{Start, Capturing, Named, Flagged}
use Rattle.rc_tokens.specs.Lexer.{is_before, past}
use Rattle.rc_tokens.specs.declared.tokens.Bounds.{Bounds}
use Rattle.rc_tokens.specs.declared.tokens.Escape.TheVariants as says
use Rattle.rc_tokens.specs.declared.tokens.Assertion.TheVariants.{Caret, Dollar}
use Rattle.rc_full_tokens.specs.Front.{is_not}
use Rattle.rc_full_tokens.specs.Counts.{IsCount}
use Rattle.rc_full_tokens.specs.Flags.{flag_changes, no_change}
use Rattle.rc_full_tokens.specs.Names.{is_group_name}
use Rattle.rc_full_tokens.specs.declared.flags.FlagChange.{FlagChange}
use Rattle.rc_full_escapes.specs.Escapes.{IsEscape}
use Rattle.rc_full_escapes.specs.declared.escapes.FullEscape.{FullEscape}
use Rattle.rc_full_escapes.specs.declared.escapes.FullEscape.TheVariants as escapes
use Rattle.rc_full_lists.specs.declared.items.Item.TheVariants as item
use Rattle.rc_full_parser.specs.declared.marks.MarkSettings.{MarkSettings}
use Rattle.rc_full_parser.specs.declared.marks.Piece.{Piece}
use Rattle.rc_full_parser.specs.declared.marks.Piece.TheVariants as piece

pub data Mark : Type 0 where
  bar : Mark
  closes : Mark
  -- flags from here to the end of the group
  sets : FlagChange → Mark
  -- how a group opens, and what its flags say of x
  opens : Start → Option Bool → Mark
  repeats : Bounds → Mark
  -- the `[` of a list
  brackets : Mark
  stands : Piece → Mark

-- what an escape is among the pieces; properties are of characters
abbrev pub piece_of : Bool → FullEscape → Option Piece
piece_of unicode (escapes.Stated (says.Character c)) = Some (piece.Character c)
piece_of unicode (escapes.Stated (says.Byte b)) = Some (piece.Byte b)
piece_of unicode (escapes.Stated (says.Perl p)) = Some (piece.Set (item.Perl p))
piece_of unicode (escapes.Stated (says.Assertion a)) = Some (piece.Asserts a)
piece_of unicode (escapes.Property p) = unicode >> Some (piece.Set (item.Property p))

-- the least and the greatest number of times
pub data IsAmount (empty_min : Bool) : Characters → ℕ → Option ℕ → Characters → Type 0 where
  any : (t : Characters) → IsAmount empty_min (42 ∷ t) 0 None t
  some : (t : Characters) → IsAmount empty_min (43 ∷ t) 1 None t
  maybe : (t : Characters) → IsAmount empty_min (63 ∷ t) 0 (Some 1) t
  counted : (t u : Characters) (min : ℕ) (max : Option ℕ) → IsCount empty_min t min max u → IsAmount empty_min (123 ∷ t) min max u

module _ (s : MarkSettings) where
  -- The first mark of a text in front of which no gap stands, and the rest.
  pub data IsMark : Characters → Mark → Characters → Type 0 where
    branch : (t : Characters) → IsMark (124 ∷ t) bar t
    close : (t : Characters) → IsMark (41 ∷ t) closes t
    setting : (f t : Characters) (to : FlagChange) → each (is_before 41 58) f ≡ true → is_empty f ≡ false → flag_changes true no_change f ≡ Some to →
        IsMark (40 ∷ 63 ∷ (f ++ 41 ∷ t)) (sets to) t
    capturing : (t : Characters) → is_at 63 t ≡ false → IsMark (40 ∷ t) (opens Capturing None) t
    -- `(?P<name>`, or without the `P`
    naming : (p : Bool) (name t : Characters) → each (is_not 62) name ≡ true → is_group_name name ≡ true →
        IsMark (40 ∷ 63 ∷ (if p then 80 ∷ 60 ∷ (name ++ 62 ∷ t) else 60 ∷ (name ++ 62 ∷ t))) (opens (Named (encode_utf8_all name)) None) t
    flagging : (f t : Characters) (to : FlagChange) → each (is_before 41 58) f ≡ true → flag_changes true no_change f ≡ Some to →
        IsMark (40 ∷ 63 ∷ (f ++ 58 ∷ t)) (opens (Flagged to.stated) to.ignore_whitespace) t
    -- a `?` that follows at once makes it lazy
    repeating : (t u : Characters) (min : ℕ) (max : Option ℕ) → IsAmount s.empty_min t min max u →
        IsMark t (repeats (bounds (is_at 63 u) min max)) (past 63 u)
    bracket : (t : Characters) → IsMark (91 ∷ t) brackets t
    escaped : (t u : Characters) (e : FullEscape) (k : Piece) → IsEscape s.octal t e u → piece_of s.unicode e ≡ Some k → IsMark t (stands k) u
    dot : (t : Characters) → IsMark (46 ∷ t) (stands piece.Dot) t
    caret : (t : Characters) → IsMark (94 ∷ t) (stands (piece.Asserts Caret)) t
    dollar : (t : Characters) → IsMark (36 ∷ t) (stands (piece.Asserts Dollar)) t
    character : (c : ℕ) (t : Characters) → is_special c ≡ false → IsMark (c ∷ t) (stands (piece.Character c)) t
