-- What stands in the span of a fault, by its kind.
use Rattle.std.specs.Prelude.{◌≡◌, ◌≢◌, ◌⊎◌, ℕ, suc, ◌+◌, ◌^◌, ◌<◌, ◌≤◌, Bool, true, false, ◌||◌, ◌==◌, List, [], ◌∷◌, ◌++◌, length, take, drop, chars, slice_get, Some, encode_utf8_all}
use Rattle.std.specs.Char.{is_ascii_alphabetic, is_ascii_hexdigit}
use Rattle.rc_tokens.specs.Text.{Characters, each, is_digit_of, value_from}
use Rattle.rc_tokens.specs.Said.{Sense, Character as a_character, Byte as a_byte, Dot, PerlClass, Asserts, Members}
use Rattle.rc_tokens.specs.Marks.{Atom, Escape, Piece, escape_says, is_name, member_of, piece_says, written_atom, written_escape, written_piece}
use Rattle.rc_tokens.specs.declared.tokens.Assertion.{Assertion}
use Rattle.rc_tokens.specs.declared.tokens.Escape.TheVariants as says
use Rattle.rc_tokens.specs.declared.tokens.Member.{Member}
use Rattle.rc_tokens.specs.declared.tokens.Member.TheVariants.{Character, Byte, Hyphen, Perl}
use Rattle.rc_parser.specs.declared.config.Grammar.{Grammar}
use Rattle.rc_parser.specs.declared.config.Grammar.TheVariants.{Stated, Full}
use Rattle.rc_full_tokens.specs.Names.{is_group_name}
use Rattle.rc_explain.specs.Full.{EscapesAssertion, HasSetAtom, IsCodeAbove, ReadsPastAscii, ReadsRange, ReadsSet}
use Rattle.rc_explain.specs.declared.faults.Fault.{Fault}
use Rattle.rc_explain.specs.declared.faults.FaultKind.{FaultKind}
use Rattle.rc_explain.specs.declared.faults.FaultKind.TheVariants as kinds

-- the character c stands there
abbrev pub Stands : Characters → ℕ → ℕ → Type 0
Stands text at c = slice_get text at ≡ Some c

-- these characters stand there, one behind another
abbrev pub AreAt : Characters → ℕ → Characters → Type 0
AreAt text at [] = Unit {0}
AreAt text at (c ∷ cs) = Stands text at c × AreAt text (suc at) cs

-- the span is these characters
pub record Is (cs text : Characters) (start end : ℕ) : Type 0 where
  pub here : AreAt text start cs
  pub ends : end ≡ start + length cs

-- the span begins with c, and these characters behind it
pub record Begins (c : ℕ) (cs text : Characters) (start end : ℕ) : Type 0 where
  pub here : AreAt text start (c ∷ cs)
  pub ends : start < end

-- the span is one character that passes the test
pub record IsOne (test : ℕ → Bool) (text : Characters) (start end : ℕ) : Type 0 where
  pub c : ℕ
  pub here : Stands text start c
  pub passes : test c ≡ true
  pub alone : end ≡ suc start

-- the span is one character that doesn't
pub record IsOther (test : ℕ → Bool) (text : Characters) (start end : ℕ) : Type 0 where
  pub c : ℕ
  pub here : Stands text start c
  pub fails : test c ≡ false
  pub alone : end ≡ suc start

abbrev pub IsNone : ℕ → Characters → Type 0
IsNone c [] = Unit {0}
IsNone c (d ∷ ds) = (c ≢ d) × IsNone c ds

-- the span is one character that is none of these
pub record IsNoneOf (cs text : Characters) (start end : ℕ) : Type 0 where
  pub c : ℕ
  pub here : Stands text start c
  pub none : IsNone c cs
  pub alone : end ≡ suc start

-- the span is such a text
pub record IsSuch (Such : Characters → Type 0) (text : Characters) (start end : ℕ) : Type 0 where
  pub cs : Characters
  pub such : Such cs
  pub here : Is cs text start end

-- the span is the name of a group, between `<` and `>`
pub record IsNamed (Names : Characters → Bool) (text : Characters) (start end : ℕ) : Type 0 where
  pub opener : ℕ
  pub name : Characters
  pub named : Names name ≡ true
  pub here : AreAt text opener (60 ∷ (name ++ 62 ∷ []))
  pub starts : start ≡ suc opener
  pub ends : end ≡ start + length name

-- digits whose number doesn't fit 32 bits
pub record IsLarge (cs : Characters) : Type 0 where
  pub digits : each (is_digit_of 10) cs ≡ true
  pub large : 2 ^ 32 ≤ value_from 10 0 cs

-- the text of an escape that asserts something
pub record IsAssertion (cs : Characters) : Type 0 where
  pub escape : Escape
  pub assertion : Assertion
  pub says : escape_says escape ≡ Some (says.Assertion assertion)
  pub written : cs ≡ written_escape escape

-- it is no single character, and no assertion
abbrev pub IsSet : Sense → Type 0
IsSet (a_character c) = ⊥
IsSet (a_byte b) = Unit {0}
IsSet Dot = Unit {0}
IsSet (PerlClass p) = Unit {0}
IsSet (Asserts a) = ⊥
IsSet (Members negated bracket ms) = Unit {0}

-- the text of `.`, a byte `\xHH`, a Perl class or a list
pub record IsAtom (cs : Characters) : Type 0 where
  pub piece : Piece
  pub sense : Sense
  pub says : piece_says piece ≡ Some sense
  pub set : IsSet sense
  pub written : cs ≡ written_piece piece

-- the code of a member
abbrev pub HasCode : Member → ℕ → Type 0
HasCode (Character c) n = c ≡ n
HasCode (Byte b) n = b ≡ n
HasCode Hyphen n = ⊥
HasCode (Perl p) n = ⊥

-- a character past ASCII, or no single one
abbrev pub IsUncoded : Member → Type 0
IsUncoded (Character c) = 128 ≤ c
IsUncoded (Byte b) = ⊥
IsUncoded Hyphen = Unit {0}
IsUncoded (Perl p) = Unit {0}

abbrev pub IsPerl : Member → Type 0
IsPerl (Character c) = ⊥
IsPerl (Byte b) = ⊥
IsPerl Hyphen = ⊥
IsPerl (Perl p) = Unit {0}

-- the text of a member of a list: a character past ASCII
pub record IsPastAscii (cs : Characters) : Type 0 where
  pub atom : Atom
  pub c : ℕ
  pub says : member_of atom ≡ Some (Character c)
  pub past : 128 ≤ c
  pub written : cs ≡ written_atom atom

-- the text of two members of a list with a `-` between them, of which this is so
pub record AreRange (Related : Member → Member → Type 0) (cs : Characters) : Type 0 where
  pub first : Atom
  pub last : Atom
  pub low : Member
  pub high : Member
  pub low_says : member_of first ≡ Some low
  pub high_says : member_of last ≡ Some high
  pub related : Related low high
  pub written : cs ≡ written_atom first ++ 45 ∷ written_atom last

-- one is a Perl class
abbrev pub HasPerl : Member → Member → Type 0
HasPerl low high = IsPerl low ⊎ IsPerl high

-- the code of the first is above that of the last
pub record IsAbove (low high : Member) : Type 0 where
  pub a : ℕ
  pub b : ℕ
  pub low_code : HasCode low a
  pub high_code : HasCode high b
  pub above : b < a

-- the letter of a flag that can be set: one of `imsRUu`, and in the full grammar `x`
abbrev pub is_flag : Grammar → ℕ → Bool
is_flag Stated c = c == 105 || c == 109 || c == 115 || c == 82 || c == 85 || c == 117
is_flag Full c = c == 105 || c == 109 || c == 115 || c == 82 || c == 85 || c == 117 || c == 120

-- a character with which a name may begin
abbrev pub begins_name : ℕ → Bool
begins_name c = is_ascii_alphabetic c || c == 95

-- what may stand in a span
pub data Shape : Type 1 where
  -- these characters
  exactly : Characters → Shape
  -- this character at its beginning, and these behind it
  begins : ℕ → Characters → Shape
  -- one character that passes the test
  one : (ℕ → Bool) → Shape
  -- one that doesn't
  other : (ℕ → Bool) → Shape
  -- one that is none of these
  none_of : Characters → Shape
  -- such a text
  such : (Characters → Type 0) → Shape
  -- the name of a group, which passes the test
  named : (Characters → Bool) → Shape
  either : Shape → Shape → Shape
  -- one character or more, from a text to a rest of it that are so related
  read : (Characters → Characters → Type 0) → Shape
  -- no part of the text alone
  nothing : Shape

abbrev pub Has : Shape → Characters → ℕ → ℕ → Type 0
Has (exactly cs) t s e = Is cs t s e
Has (begins c cs) t s e = Begins c cs t s e
Has (one test) t s e = IsOne test t s e
Has (other test) t s e = IsOther test t s e
Has (none_of cs) t s e = IsNoneOf cs t s e
Has (such P) t s e = IsSuch P t s e
Has (named Names) t s e = IsNamed Names t s e
Has (either a b) t s e = Has a t s e ⊎ Has b t s e
Has (read Reads) t s e = (s < e) × (e ≤ length t) × Reads (drop s t) (drop e t)
Has nothing t s e = ⊥

-- the first in a text of the stated grammar, the second in one of the full grammar
abbrev pub by_grammar : Grammar → Shape → Shape → Shape
by_grammar Stated stated full = stated
by_grammar Full stated full = full

-- such a part, in a text of the stated grammar alone
abbrev pub in_stated : Grammar → Shape → Shape
in_stated Stated shape = shape
in_stated Full shape = nothing

-- such a part, in a text of the full grammar alone
abbrev pub in_full : Grammar → Shape → Shape
in_full Stated shape = nothing
in_full Full shape = shape

-- what stands in the span of a fault, by its kind, save for a pattern that nests too deeply
abbrev pub shape_of : Grammar → FaultKind → Shape
shape_of g kinds.UnclosedGroup = exactly (40 ∷ [])
shape_of g kinds.UnopenedGroup = exactly (41 ∷ [])
shape_of g kinds.UnknownGroup = begins 40 []
-- `(?=`, `(?!`, `(?<=` or `(?<!`
shape_of g kinds.LookAround = either (exactly (40 ∷ 63 ∷ 61 ∷ [])) (either (exactly (40 ∷ 63 ∷ 33 ∷ [])) (either (exactly (40 ∷ 63 ∷ 60 ∷ 61 ∷ [])) (exactly (40 ∷ 63 ∷ 60 ∷ 33 ∷ []))))
shape_of g kinds.MissingFlags = begins 40 []
-- none of `imsRUux-:)`
shape_of g kinds.UnknownFlag = none_of (105 ∷ 109 ∷ 115 ∷ 82 ∷ 85 ∷ 117 ∷ 120 ∷ 45 ∷ 58 ∷ 41 ∷ [])
shape_of g kinds.VerboseFlag = in_stated g (exactly (120 ∷ []))
shape_of g kinds.RepeatedFlag = one (is_flag g)
shape_of g kinds.RepeatedNegation = exactly (45 ∷ [])
shape_of g kinds.DanglingNegation = exactly (45 ∷ [])
-- `<>`
shape_of g kinds.EmptyName = exactly (60 ∷ 62 ∷ [])
shape_of g kinds.NameCharacter = other begins_name
shape_of g kinds.UnclosedName = exactly (60 ∷ [])
shape_of g kinds.DuplicateName = by_grammar g (named is_name) (named is_group_name)
-- it begins with one of `*+?{`
shape_of g kinds.RepetitionOfNothing = either (begins 42 []) (either (begins 43 []) (either (begins 63 []) (begins 123 [])))
shape_of g kinds.UncountedRepetition = exactly (123 ∷ [])
shape_of g kinds.UnclosedRepetition = exactly (123 ∷ [])
shape_of g kinds.LargeNumber = such IsLarge
shape_of g kinds.BoundsOutOfOrder = begins 123 []
shape_of g kinds.UnclosedList = exactly (91 ∷ [])
-- `[]` or `[^]`
shape_of g kinds.EmptyList = either (exactly (91 ∷ 93 ∷ [])) (exactly (91 ∷ 94 ∷ 93 ∷ []))
shape_of g kinds.NestedList = in_stated g (exactly (91 ∷ []))
-- `[:`
shape_of g kinds.PosixClass = in_stated g (exactly (91 ∷ 58 ∷ []))
-- `&&`, `~~` or `--`
shape_of g kinds.SetOperation = in_stated g (either (exactly (38 ∷ 38 ∷ [])) (either (exactly (126 ∷ 126 ∷ [])) (exactly (45 ∷ 45 ∷ []))))
shape_of g kinds.AssertionInList = by_grammar g (such IsAssertion) (read EscapesAssertion)
shape_of g kinds.ClassInRange = by_grammar g (such (AreRange HasPerl)) (read (ReadsRange HasSetAtom))
shape_of g kinds.RangeOutOfOrder = by_grammar g (such (AreRange IsAbove)) (read (ReadsRange IsCodeAbove))
shape_of g kinds.MemberPastAscii = by_grammar g (such IsPastAscii) (read ReadsPastAscii)
shape_of g kinds.DanglingBackslash = exactly (92 ∷ [])
shape_of g kinds.UnknownEscape = begins 92 []
-- `\p` or `\P`
shape_of g kinds.UnicodeClass = in_stated g (either (begins 92 (112 ∷ [])) (begins 92 (80 ∷ [])))
shape_of g kinds.UnknownProperty = in_full g (either (begins 92 (112 ∷ [])) (begins 92 (80 ∷ [])))
shape_of g kinds.UnknownPropertyValue = in_full g (either (begins 92 (112 ∷ [])) (begins 92 (80 ∷ [])))
shape_of g kinds.PropertyOfBytes = in_full g (either (begins 92 (112 ∷ [])) (begins 92 (80 ∷ [])))
-- `\`, or `(?P=`
shape_of g kinds.Backreference = either (begins 92 []) (exactly (40 ∷ 63 ∷ 80 ∷ 61 ∷ []))
shape_of g kinds.HexadecimalDigit = either (begins 92 []) (other is_ascii_hexdigit)
shape_of g kinds.NoScalar = begins 92 []
shape_of g kinds.UnclosedBrace = exactly (123 ∷ [])
-- `\b{`
shape_of g kinds.UnknownBoundary = begins 92 (98 ∷ 123 ∷ [])
shape_of g kinds.NotUtf8 = by_grammar g (such IsAtom) (read ReadsSet)
shape_of g kinds.LineTerminator = exactly (46 ∷ [])
shape_of g kinds.NestedTooDeeply = nothing

abbrev pub HasShape : Grammar → FaultKind → Characters → ℕ → ℕ → Type 0
HasShape g kind t s e = Has (shape_of g kind) t s e

-- What stands from the character `start` up to `end`, by the grammar and the kind of fault. A pattern that
-- nests too deeply is shown from its start, or from a `(`.
abbrev pub Shows : Grammar → FaultKind → Characters → ℕ → ℕ → Type 0
Shows g kinds.NestedTooDeeply t s e = (s ≡ 0) ⊎ Stands t s 40
Shows g kind t s e = HasShape g kind t s e

-- the byte at which the character with this number begins, and the text's end past the last
abbrev pub byte_of : Characters → ℕ → ℕ
byte_of text n = length (encode_utf8_all (take n text))

-- the fault's span is that of characters that show its kind
pub record IsShown (grammar : Grammar) (fault : Fault) (text : List ℕ) : Type 0 where
  pub from : ℕ
  pub to : ℕ
  pub starts : fault.span.start ≡ byte_of (chars text) from
  pub ends : fault.span.end ≡ byte_of (chars text) to
  pub shown : Shows grammar fault.kind (chars text) from to
