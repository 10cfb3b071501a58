-- The first mark of a text, in the order in which the reader of marks tests.
use Rattle.std.specs.Prelude.{ℕ, zero, suc, Bool, true, false, not, ◌&&◌, ◌||◌, ◌==◌, nat_le, List, [], ◌∷◌, drop, take, length, Option, Some, None, if◌then◌else◌, encode_utf8_all}
use Rattle.rc_tokens.specs.Text.{Characters, ◌>>=◌, ◌>>◌, is_at, is_digit}
use Rattle.rc_tokens.specs.Said.{Character, Dot, Asserts, Members, Capturing, Named, Flagged, Said, Stands, Bar, Setting, Opens, Closes, Repeats}
use Rattle.rc_tokens.specs.Marks.{count, bounds, unchanged, change_of, flags_of, letter_change, is_name, short_says, fixed_says, boundary_says, scalar_says, takes_scalar, is_brace_name, escaped_member, plain_member, is_list, sense}
use Rattle.rc_tokens.specs.declared.tokens.Assertion.TheVariants.{Caret, Dollar}
use Rattle.rc_tokens.specs.declared.tokens.Escape as escapes
use Rattle.rc_tokens.specs.declared.tokens.Member.{Member}
use Rattle.rc_tokens.specs.declared.tokens.Change.{Change}

-- the longest front of characters that pass the test, and the rest
abbrev pub run : (ℕ → Bool) → Characters → Characters
run test [] = []
run test (c ∷ t) = if test c then c ∷ run test t else []

abbrev pub after_run : (ℕ → Bool) → Characters → Characters
after_run test [] = []
after_run test (c ∷ t) = if test c then after_run test t else c ∷ t

-- neither of the two characters
abbrev pub is_before : ℕ → ℕ → ℕ → Bool
is_before d e c = not (c == d || c == e)

-- the text after a character that may stand there
abbrev pub past : ℕ → Characters → Characters
past d t = if is_at d t then drop 1 t else t

-- ---- operators

abbrev pub repeats_then : Characters → ℕ → Option ℕ → Said × Characters
repeats_then t min max = (Repeats (bounds (is_at 63 t) min max), past 63 t)

abbrev pub second : ℕ → Characters → Characters → Option (Said × Characters)
second min m t = count m >>= λ max. (is_at 125 t && nat_le min max) >> Some (repeats_then (drop 1 t) min (Some max))

-- after the digits `n` of the first number
abbrev pub counts : Characters → Characters → Option (Said × Characters)
counts n t = count n >>= λ min.
    if is_at 125 t then Some (repeats_then (drop 1 t) min (Some min))
    else if not (is_at 44 t) then None
    else if is_at 125 (drop 1 t) then Some (repeats_then (drop 1 (drop 1 t)) min None)
    else second min (run is_digit (drop 1 t)) (after_run is_digit (drop 1 t))

-- ---- openings

-- what one character of a text of flags changes, and whether flags are set after it
abbrev pub flag : ℕ → Bool → Bool → Change → Option (Bool × Change)
flag c is_last on to =
    if c == 45 then ((on && not is_last) >> Some (false, to)) else (letter_change c on to >>= λ next. Some (on, next))

abbrev pub flags_then : Characters → Characters → Option (Said × Characters)
flags_then f t =
    if is_at 41 t then (flags_of f >>= λ to. Some (Setting to, drop 1 t))
    else if is_at 58 t then (change_of true unchanged f >>= λ to. Some (Opens (Flagged to), drop 1 t))
    else None

abbrev pub name_then : Characters → Characters → Option (Said × Characters)
name_then name t = (is_at 62 t && is_name name) >> Some (Opens (Named (encode_utf8_all name)), drop 1 t)

-- after `(?`
abbrev pub group : Characters → Option (Said × Characters)
group t =
    if is_at 80 t then (is_at 60 (drop 1 t) >> name_then (run (is_before 62 62) (drop 1 (drop 1 t))) (after_run (is_before 62 62) (drop 1 (drop 1 t))))
    else if is_at 60 t then name_then (run (is_before 62 62) (drop 1 t)) (after_run (is_before 62 62) (drop 1 t))
    else flags_then (run (is_before 41 58) t) (after_run (is_before 41 58) t)

-- after `(`
abbrev pub opening : Characters → Option (Said × Characters)
opening t = if is_at 63 t then group (drop 1 t) else Some (Opens Capturing, t)

-- ---- escapes

abbrev pub opens_brace : ℕ → Characters → Bool
opens_brace c t = (takes_scalar c && is_at 123 t) || (c == 98 && is_brace_name t)

abbrev pub in_brace : ℕ → Characters → Option (escapes.Escape)
in_brace c t = if c == 98 then boundary_says t else scalar_says t

abbrev pub brace_then : ℕ → Characters → Characters → Option (escapes.Escape × Characters)
brace_then c inner t = is_at 125 t >> (in_brace c inner >>= λ s. Some (s, drop 1 t))

abbrev pub fixed_then : ℕ → ℕ → Characters → Option (escapes.Escape × Characters)
fixed_then c n t = fixed_says c (take n t) >>= λ s. Some (s, drop n t)

abbrev pub short_then : ℕ → Characters → Option (escapes.Escape × Characters)
short_then c t = short_says c >>= λ s. Some (s, t)

-- after `\` and c
abbrev pub escape_at : ℕ → Characters → Option (escapes.Escape × Characters)
escape_at c t =
    if opens_brace c t then brace_then c (run (is_before 125 125) (drop 1 t)) (after_run (is_before 125 125) (drop 1 t))
    else if c == 120 then fixed_then c 2 t
    else if c == 117 then fixed_then c 4 t
    else if c == 85 then fixed_then c 8 t
    else short_then c t

-- after `\`
abbrev pub lex_escape : Characters → Option (escapes.Escape × Characters)
lex_escape [] = None
lex_escape (c ∷ t) = escape_at c t

-- ---- lists

-- the text up to a `]` before which no `\` stands, where `past_slash` says that one stands before the first character
abbrev pub inner : Bool → Characters → Characters
inner past_slash [] = []
inner true (c ∷ t) = c ∷ inner false t
inner false (c ∷ t) = if c == 93 then [] else c ∷ inner (c == 92) t

abbrev pub after_inner : Bool → Characters → Characters
after_inner past_slash [] = []
after_inner true (c ∷ t) = after_inner false t
after_inner false (c ∷ t) = if c == 93 then c ∷ t else after_inner (c == 92) t

abbrev pub escaped_then : Option (escapes.Escape × Characters) → Option (Member × Characters)
escaped_then o = o >>= λ r. escaped_member r.0 >>= λ m. Some (m, r.1)

abbrev pub plain_then : ℕ → Characters → Option (Member × Characters)
plain_then c t = plain_member c >>= λ m. Some (m, t)

abbrev pub member_at : ℕ → Characters → Option (Member × Characters)
member_at c t = if c == 92 then escaped_then (lex_escape t) else plain_then c t

-- the first member of a list's text
abbrev pub lex_member : Characters → Option (Member × Characters)
lex_member [] = None
lex_member (c ∷ t) = member_at c t

-- all members, of which there are at most n
abbrev pub lex_members : ℕ → Characters → Option (List Member)
lex_members n [] = Some []
lex_members zero (c ∷ t) = None
lex_members (suc n) (c ∷ t) = lex_member (c ∷ t) >>= λ r. lex_members n r.1 >>= λ ms. Some (r.0 ∷ ms)

abbrev pub list_then : Bool → Bool → Characters → Characters → Option (Said × Characters)
list_then negated bracket t rest =
    (is_at 93 rest && is_list negated bracket t) >> (lex_members (length t) t >>= λ ms. Some (Stands (Members negated bracket ms), drop 1 rest))

abbrev pub list_inside : Bool → Bool → Characters → Option (Said × Characters)
list_inside negated bracket t = list_then negated bracket (inner false t) (after_inner false t)

-- after `[`
abbrev pub list : Characters → Option (Said × Characters)
list t = list_inside (is_at 94 t) (is_at 93 (past 94 t)) (past 93 (past 94 t))

-- ---- all marks

abbrev pub piece_then : Option (escapes.Escape × Characters) → Option (Said × Characters)
piece_then o = o >>= λ r. Some (Stands (sense r.0), r.1)

-- the first mark of a text that begins with c
abbrev pub lex_at : ℕ → Characters → Option (Said × Characters)
lex_at c t =
    if c == 124 then Some (Bar, t)
    else if c == 41 then Some (Closes, t)
    else if c == 40 then opening t
    else if c == 42 then Some (repeats_then t 0 None)
    else if c == 43 then Some (repeats_then t 1 None)
    else if c == 63 then Some (repeats_then t 0 (Some 1))
    else if c == 123 then counts (run is_digit t) (after_run is_digit t)
    else if c == 91 then list t
    else if c == 92 then piece_then (lex_escape t)
    else if c == 46 then Some (Stands Dot, t)
    else if c == 94 then Some (Stands (Asserts Caret), t)
    else if c == 36 then Some (Stands (Asserts Dollar), t)
    else Some (Stands (Character c), t)

-- what the first mark says, and the rest
abbrev pub lex : Characters → Option (Said × Characters)
lex [] = None
lex (c ∷ t) = lex_at c t
