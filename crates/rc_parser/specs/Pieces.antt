-- What a mark that stands alone is read as.
use Rattle.std.specs.Prelude.{ℕ, ◌+◌, Bool, true, false, not, ◌&&◌, ◌||◌, nat_le, nat_lt, List, [], ◌∷◌, Option, Some, if◌then◌else◌, min, encode_utf8_all}
use Rattle.rc_pattern.specs.Re.{Re, Range, byte_in, char_in, look}
use Rattle.rc_pattern.specs.Meaning.{literal_of}
use Rattle.rc_pattern.specs.Dots.{dot_of}
use Rattle.rc_pattern.specs.declared.hir.Look.{Look}
use Rattle.rc_pattern.specs.declared.hir.Look.TheVariants.{Start, End, StartLF, EndLF, StartCRLF, EndCRLF, WordAscii, WordAsciiNegate, WordUnicode, WordUnicodeNegate, WordStartAscii, WordEndAscii, WordStartUnicode, WordEndUnicode, WordStartHalfAscii, WordEndHalfAscii, WordStartHalfUnicode, WordEndHalfUnicode}
use Rattle.rc_pattern.specs.declared.hir.dots.Dot.{Dot}
use Rattle.rc_pattern.specs.declared.hir.dots.Dot.TheVariants.{AnyChar, AnyByte, AnyCharExcept, AnyByteExcept, AnyCharExceptCRLF, AnyByteExceptCRLF}
use Rattle.rc_tokens.specs.Text.{◌>>=◌, ◌>>◌, is_letter}
use Rattle.rc_tokens.specs.Classes.{class_of, perl_ranges, list_ranges, has_high}
use Rattle.rc_tokens.specs.Said as sense
use Rattle.rc_tokens.specs.declared.tokens.Assertion.{Assertion}
use Rattle.rc_tokens.specs.declared.tokens.Assertion.TheVariants as says
use Rattle.rc_parser.specs.Settings.{Settings}
use Rattle.rc_parser.specs.declared.flags.Flags.{Flags}

-- a pattern, and how deep it is nested
pub record Subpattern : Type 0 where
  pub re : Re
  pub depth : ℕ

abbrev pub leaf : Re → Subpattern
leaf re = record { re = re; depth = 0 }

-- A greater limit is read as 250.
abbrev pub depth_limit : Settings → ℕ
depth_limit s = min 250 s.nest_limit

abbrev pub line : Flags → Look → Look → Look → Look
line f whole lf crlf = if not f.multi_line then whole else if f.crlf then crlf else lf

abbrev pub word : Flags → Look → Look → Look
word f unicode ascii = if f.unicode then unicode else ascii

abbrev pub look_of : Flags → Assertion → Look
look_of f says.Caret = line f Start StartLF StartCRLF
look_of f says.Dollar = line f End EndLF EndCRLF
look_of f says.TextStart = Start
look_of f says.TextEnd = End
look_of f says.Boundary = word f WordUnicode WordAscii
look_of f says.NotBoundary = word f WordUnicodeNegate WordAsciiNegate
look_of f says.WordStart = word f WordStartUnicode WordStartAscii
look_of f says.WordEnd = word f WordEndUnicode WordEndAscii
look_of f says.WordStartHalf = word f WordStartHalfUnicode WordStartHalfAscii
look_of f says.WordEndHalf = word f WordEndHalfUnicode WordEndHalfAscii

module _ (s : Settings) where
  -- one level more, within the limit
  abbrev pub deeper : Re → ℕ → Option Subpattern
  deeper re depth = nat_lt depth (depth_limit s) >> Some (record { re = re; depth = depth + 1 })

  -- With `utf8` on no byte of 128 or more is read.
  abbrev pub set_re : Flags → List Range → Option Re
  set_re f rs = if f.unicode then Some (char_in rs) else (not (s.utf8 && has_high rs) >> Some (byte_in rs))

  abbrev pub char_re : Flags → ℕ → Option Re
  char_re f c =
      if f.case_insensitive && is_letter c then set_re f (class_of f.unicode true false ((c, c) ∷ []))
      else Some (literal_of (encode_utf8_all (c ∷ [])))

  abbrev pub byte_re : Flags → ℕ → Option Re
  byte_re f b = if not f.unicode && nat_le 128 b then (not s.utf8 >> Some (literal_of (b ∷ []))) else char_re f b

  abbrev pub dot_kind : Flags → Dot
  dot_kind f =
      if f.dot_matches_new_line then (if f.unicode then AnyChar else AnyByte)
      else if f.crlf then (if f.unicode then AnyCharExceptCRLF else AnyByteExceptCRLF)
      else (if f.unicode then AnyCharExcept s.line_terminator else AnyByteExcept s.line_terminator)

  -- A dot of bytes holds bytes of 128 and more. A dot of characters can't leave out a byte of 128 or more.
  abbrev pub has_dot : Flags → Bool
  has_dot f = if f.unicode then f.dot_matches_new_line || f.crlf || nat_lt s.line_terminator 128 else not s.utf8

  abbrev pub sense_part : Flags → sense.Sense → Option Subpattern
  sense_part f (sense.Character c) = char_re f c >>= λ re. Some (leaf re)
  sense_part f (sense.Byte b) = byte_re f b >>= λ re. Some (leaf re)
  sense_part f sense.Dot = has_dot f >> Some (leaf (dot_of (dot_kind f)))
  sense_part f (sense.PerlClass p) = set_re f (perl_ranges f.unicode p) >>= λ re. Some (leaf re)
  sense_part f (sense.Asserts a) = Some (leaf (look (look_of f a)))
  sense_part f (sense.Members negated bracket ms) = list_ranges f.unicode bracket ms >>= λ rs.
      set_re f (class_of f.unicode f.case_insensitive negated rs) >>= λ re. deeper re 0
