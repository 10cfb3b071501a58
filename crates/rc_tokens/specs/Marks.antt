-- The marks of which the text of a pattern is made: how each is written, and what it says.
use Rattle.std.specs.Prelude.{◌≡◌, ℕ, ◌^◌, Bool, true, false, not, ◌&&◌, ◌||◌, ◌==◌, nat_le, nat_lt, List, [], ◌∷◌, ◌++◌, length, Option, Some, None, if◌then◌else◌, codes, encode_utf8_all}
use Rattle.rc_tokens.specs.Text.{Characters, ◌>>=◌, ◌>>◌, is_at, is_empty, each, same_text, has_twice, is_letter, is_digit, number, is_scalar}
use Rattle.rc_tokens.specs.Said.{Sense, Character, Byte, Dot, PerlClass, Asserts, Members, Start, Capturing, Named, Flagged, Said, Stands, Bar, Setting, Opens, Closes, Repeats}
use Rattle.rc_tokens.specs.declared.tokens.Set.{Set}
use Rattle.rc_tokens.specs.declared.tokens.Set.TheVariants.{Digits, Spaces, Words}
use Rattle.rc_tokens.specs.declared.tokens.Assertion.TheVariants.{Caret, Dollar, TextStart, TextEnd, Boundary, NotBoundary, WordStart, WordEnd, WordStartHalf, WordEndHalf}
use Rattle.rc_tokens.specs.declared.tokens.Escape.TheVariants as says
use Rattle.rc_tokens.specs.declared.tokens.Escape as escapes
use Rattle.rc_tokens.specs.declared.tokens.Member.{Member}
use Rattle.rc_tokens.specs.declared.tokens.Member.TheVariants as member
use Rattle.rc_tokens.specs.declared.tokens.Change.{Change}
use Rattle.rc_tokens.specs.declared.tokens.Bounds.{Bounds}

-- ---- marks

-- how often, as it is written
pub data Amount : Type 0 where
  -- `*`
  any : Amount
  -- `+`
  some : Amount
  -- `?`
  maybe : Amount
  -- `{n}`
  exactly : Characters → Amount
  -- `{n,}`
  from : Characters → Amount
  -- `{n,m}`
  between : Characters → Characters → Amount

-- an amount, and whether a `?` follows it
pub record Operator : Type 0 where
  pub amount : Amount
  pub lazy : Bool

-- what begins with `\`
pub data Escape : Type 0 where
  -- `\c`
  short : ℕ → Escape
  -- `\xHH`, `\uHHHH`, `\UHHHHHHHH`
  fixed : ℕ → Characters → Escape
  -- `\c{..}`
  braced : ℕ → Characters → Escape

-- what stands in a list
pub data Atom : Type 0 where
  plain : ℕ → Atom
  escaped : Escape → Atom

-- a mark that stands alone
pub data Piece : Type 0 where
  -- one that stands for itself
  character : ℕ → Piece
  -- `.`, `^`, `$`
  dot : Piece
  caret : Piece
  dollar : Piece
  escape : Escape → Piece
  -- with `^` or without, with a `]` that comes first or without, and what follows up to the closing `]`
  brackets : Bool → Bool → List Atom → Piece

-- how a group opens
pub data Opening : Type 0 where
  -- `(`
  capturing : Opening
  -- `(?P<name>`, or without the `P`
  naming : Bool → Characters → Opening
  -- `(?f:`
  flagging : Characters → Opening

pub data Mark : Type 0 where
  stands : Piece → Mark
  -- `|`
  bar : Mark
  -- `(?f)`
  setting : Characters → Mark
  opens : Opening → Mark
  -- `)`
  closes : Mark
  repeats : Operator → Mark

-- ---- how they are written

abbrev pub written_amount : Amount → Characters
written_amount any = codes "*"
written_amount some = codes "+"
written_amount maybe = codes "?"
written_amount (exactly n) = 123 ∷ (n ++ codes "}")
written_amount (from n) = 123 ∷ (n ++ codes ",}")
written_amount (between n m) = 123 ∷ (n ++ 44 ∷ (m ++ codes "}"))

abbrev pub written_escape : Escape → Characters
written_escape (short c) = 92 ∷ c ∷ []
written_escape (fixed c ds) = 92 ∷ c ∷ ds
written_escape (braced c t) = 92 ∷ c ∷ 123 ∷ (t ++ codes "}")

abbrev pub written_atom : Atom → Characters
written_atom (plain c) = c ∷ []
written_atom (escaped e) = written_escape e

abbrev pub written_atoms : List Atom → Characters
written_atoms [] = []
written_atoms (a ∷ xs) = written_atom a ++ written_atoms xs

abbrev pub written_if : Bool → ℕ → Characters
written_if true c = c ∷ []
written_if false c = []

abbrev pub written_piece : Piece → Characters
written_piece (character c) = c ∷ []
written_piece dot = codes "."
written_piece caret = codes "^"
written_piece dollar = codes "$"
written_piece (escape e) = written_escape e
written_piece (brackets negated bracket xs) = 91 ∷ (written_if negated 94 ++ (written_if bracket 93 ++ (written_atoms xs ++ codes "]")))

abbrev pub written_opening : Opening → Characters
written_opening capturing = codes "("
written_opening (naming true name) = 40 ∷ 63 ∷ 80 ∷ 60 ∷ (name ++ codes ">")
written_opening (naming false name) = 40 ∷ 63 ∷ 60 ∷ (name ++ codes ">")
written_opening (flagging f) = 40 ∷ 63 ∷ (f ++ codes ":")

abbrev pub written : Mark → Characters
written (stands p) = written_piece p
written bar = codes "|"
written (setting f) = 40 ∷ 63 ∷ (f ++ codes ")")
written (opens o) = written_opening o
written closes = codes ")"
written (repeats o) = written_amount o.amount ++ written_if o.lazy 63

-- ---- what they say; `None` where it is no mark

-- one of `\.+*?()|[{^$`
abbrev pub is_special : ℕ → Bool
is_special c = c == 92 || c == 46 || c == 43 || c == 42 || c == 63 || c == 40 || c == 41 || c == 124 || c == 91 || c == 123 || c == 94 || c == 36

abbrev pub bounds : Bool → ℕ → Option ℕ → Bounds
bounds lazy min max = record { min = min; max = max; lazy = lazy }

abbrev pub count : Characters → Option ℕ
count = number 10 (2 ^ 32)

abbrev pub bounds_of : Bool → Amount → Option Bounds
bounds_of lazy any = Some (bounds lazy 0 None)
bounds_of lazy some = Some (bounds lazy 1 None)
bounds_of lazy maybe = Some (bounds lazy 0 (Some 1))
bounds_of lazy (exactly n) = count n >>= λ min. Some (bounds lazy min (Some min))
bounds_of lazy (from n) = count n >>= λ min. Some (bounds lazy min None)
bounds_of lazy (between n m) = count n >>= λ min. count m >>= λ max. nat_le min max >> Some (bounds lazy min (Some max))

abbrev pub unchanged : Change
unchanged = record { case_insensitive = None; multi_line = None; dot_matches_new_line = None; crlf = None; swap_greed = None; unicode = None }

-- a flag is set or cleared at most once
abbrev pub once : Bool → Option Bool → Option Bool
once on None = Some on
once on (Some b) = None

-- the letters are `i`, `m`, `s`, `R`, `U` and `u`
abbrev pub letter_change : ℕ → Bool → Change → Option Change
letter_change c on to =
    if c == 105 then (once on to.case_insensitive >>= λ b. Some (record to { case_insensitive = Some b }))
    else if c == 109 then (once on to.multi_line >>= λ b. Some (record to { multi_line = Some b }))
    else if c == 115 then (once on to.dot_matches_new_line >>= λ b. Some (record to { dot_matches_new_line = Some b }))
    else if c == 82 then (once on to.crlf >>= λ b. Some (record to { crlf = Some b }))
    else if c == 85 then (once on to.swap_greed >>= λ b. Some (record to { swap_greed = Some b }))
    else if c == 117 then (once on to.unicode >>= λ b. Some (record to { unicode = Some b }))
    else None

-- Flags are set up to the `-`, and cleared after it. No flag stands twice, and the `-` isn't last.
abbrev pub change_of : Bool → Change → Characters → Option Change
change_of on to [] = Some to
change_of on to (c ∷ f) =
    if c == 45 then ((on && not (is_empty f)) >> change_of false to f)
    else (letter_change c on to >>= λ next. change_of on next f)

-- the flags of a setting: one or more
abbrev pub flags_of : Characters → Option Change
flags_of [] = None
flags_of (c ∷ f) = change_of true unchanged (c ∷ f)

-- a letter or `_`, and then letters, digits, `_`, `.`, `[` and `]`
abbrev pub begins_name : ℕ → Bool
begins_name c = is_letter c || c == 95

abbrev pub goes_on_name : ℕ → Bool
goes_on_name c = is_letter c || is_digit c || c == 95 || c == 46 || c == 91 || c == 93

abbrev pub is_name : Characters → Bool
is_name [] = false
is_name (c ∷ t) = begins_name c && each goes_on_name t

abbrev pub perl : Set → Bool → escapes.Escape
perl set negated = says.Perl (record { set = set; negated = negated })

-- an ASCII character that is no letter, digit, `<` or `>`
abbrev pub is_punctuation : ℕ → Bool
is_punctuation c = nat_lt c 128 && not (is_letter c || is_digit c || c == 60 || c == 62)

-- the escapes of one character: `\a`, `\f`, `\t`, `\n`, `\r`, `\v`, Perl classes, assertions, and punctuation
abbrev pub short_says : ℕ → Option (escapes.Escape)
short_says c =
    if c == 97 then Some (says.Character 7)
    else if c == 102 then Some (says.Character 12)
    else if c == 116 then Some (says.Character 9)
    else if c == 110 then Some (says.Character 10)
    else if c == 114 then Some (says.Character 13)
    else if c == 118 then Some (says.Character 11)
    else if c == 100 then Some (perl Digits false)
    else if c == 115 then Some (perl Spaces false)
    else if c == 119 then Some (perl Words false)
    else if c == 68 then Some (perl Digits true)
    else if c == 83 then Some (perl Spaces true)
    else if c == 87 then Some (perl Words true)
    else if c == 65 then Some (says.Assertion TextStart)
    else if c == 122 then Some (says.Assertion TextEnd)
    else if c == 98 then Some (says.Assertion Boundary)
    else if c == 66 then Some (says.Assertion NotBoundary)
    else if c == 60 then Some (says.Assertion WordStart)
    else if c == 62 then Some (says.Assertion WordEnd)
    else is_punctuation c >> Some (says.Character c)

-- the scalar that the digits write
abbrev pub scalar_says : Characters → Option (escapes.Escape)
scalar_says ds = number 16 0x110000 ds >>= λ c. is_scalar c >> Some (says.Character c)

-- `x`, `u` and `U` take two, four and eight digits
abbrev pub fixed_says : ℕ → Characters → Option (escapes.Escape)
fixed_says c ds =
    if c == 120 then ((length ds == 2) >> (number 16 256 ds >>= λ b. Some (says.Byte b)))
    else if c == 117 then (length ds == 4) >> scalar_says ds
    else (c == 85 && length ds == 8) >> scalar_says ds

-- the assertion of `\b{name}`
abbrev pub boundary_says : Characters → Option (escapes.Escape)
boundary_says name =
    if same_text name (codes "start") then Some (says.Assertion WordStart)
    else if same_text name (codes "end") then Some (says.Assertion WordEnd)
    else if same_text name (codes "start-half") then Some (says.Assertion WordStartHalf)
    else same_text name (codes "end-half") >> Some (says.Assertion WordEndHalf)

-- `x`, `u`, `U`
abbrev pub takes_scalar : ℕ → Bool
takes_scalar c = c == 120 || c == 117 || c == 85

abbrev pub escape_says : Escape → Option (escapes.Escape)
escape_says (short c) = short_says c
escape_says (fixed c ds) = fixed_says c ds
escape_says (braced c t) = if c == 98 then boundary_says t else takes_scalar c >> scalar_says t

-- An escape in a list is no assertion.
abbrev pub escaped_member : escapes.Escape → Option Member
escaped_member (says.Character c) = Some (member.Character c)
escaped_member (says.Byte b) = Some (member.Byte b)
escaped_member (says.Perl p) = Some (member.Perl p)
escaped_member (says.Assertion a) = None

-- A `-` is a hyphen, and `[`, `\` and `]` don't stand for themselves.
abbrev pub plain_member : ℕ → Option Member
plain_member c = if c == 45 then Some member.Hyphen else not (c == 91 || c == 92 || c == 93) >> Some (member.Character c)

abbrev pub member_of : Atom → Option Member
member_of (plain c) = plain_member c
member_of (escaped e) = escape_says e >>= escaped_member

abbrev pub members_of : List Atom → Option (List Member)
members_of [] = Some []
members_of (a ∷ xs) = member_of a >>= λ m. members_of xs >>= λ ms. Some (m ∷ ms)

-- A list isn't empty, one that isn't negated doesn't begin with `^`, and neither `&&` nor `~~` stands in it.
abbrev pub is_list : Bool → Bool → Characters → Bool
is_list negated bracket t =
    (bracket || not (is_empty t)) && (negated || bracket || not (is_at 94 t)) && not (has_twice 38 t) && not (has_twice 126 t)

abbrev pub sense : escapes.Escape → Sense
sense (says.Character c) = Character c
sense (says.Byte b) = Byte b
sense (says.Perl p) = PerlClass p
sense (says.Assertion a) = Asserts a

abbrev pub piece_says : Piece → Option Sense
piece_says (character c) = not (is_special c) >> Some (Character c)
piece_says dot = Some Dot
piece_says caret = Some (Asserts Caret)
piece_says dollar = Some (Asserts Dollar)
piece_says (escape e) = escape_says e >>= λ s. Some (sense s)
piece_says (brackets negated bracket xs) =
    is_list negated bracket (written_atoms xs) >> (members_of xs >>= λ ms. Some (Members negated bracket ms))

abbrev pub opening_says : Opening → Option Start
opening_says capturing = Some Capturing
opening_says (naming p name) = is_name name >> Some (Named (encode_utf8_all name))
opening_says (flagging f) = change_of true unchanged f >>= λ to. Some (Flagged to)

abbrev pub said : Mark → Option Said
said (stands p) = piece_says p >>= λ s. Some (Stands s)
said bar = Some Bar
said (setting f) = flags_of f >>= λ to. Some (Setting to)
said (opens o) = opening_says o >>= λ s. Some (Opens s)
said closes = Some Closes
said (repeats o) = bounds_of o.lazy o.amount >>= λ b. Some (Repeats b)

-- ---- texts of marks

-- a `{` that no digit follows
abbrev pub is_brace_name : Characters → Bool
is_brace_name [] = false
is_brace_name (c ∷ []) = c == 123
is_brace_name (c ∷ d ∷ t) = c == 123 && not (is_digit d)

-- What follows would belong to the mark: a `?` after `(` or after an operator without one, and a `{` that begins
-- no count after `\b`.
abbrev pub takes_more : Mark → Characters → Bool
takes_more (opens capturing) t = is_at 63 t
takes_more (repeats o) t = not o.lazy && is_at 63 t
takes_more (stands (escape (short c))) t = c == 98 && is_brace_name t
takes_more _ t = false

-- the text is the marks, written one after another
abbrev pub AreMarks : List Mark → Characters → Type 0
AreMarks [] t = t ≡ []
AreMarks (m ∷ ms) t = (rest : Characters) × (t ≡ written m ++ rest) × (takes_more m rest ≡ false) × AreMarks ms rest

-- the text begins with a mark that says k, and u is what follows
abbrev pub BeginsWithMark : Characters → Said → Characters → Type 0
BeginsWithMark t k u = (m : Mark) × (said m ≡ Some k) × (t ≡ written m ++ u) × (takes_more m u ≡ false)
