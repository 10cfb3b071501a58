-- Only proofs use this file.
-- The first mark of a text, in the order in which its reader tests.
use Rattle.std.specs.Prelude.{ℕ, true, not, ◌&&◌, ◌==◌, [], ◌∷◌, drop, Option, Some, None, encode_utf8_all, if◌then◌else◌}
use Rattle.rc_tokens.specs.Text.{Characters, ◌>>=◌, ◌>>◌, is_at, is_empty}
use Rattle.rc_tokens.specs.Marks.{bounds}
use Rattle.rc_tokens.specs.Said.{Capturing, Named, Flagged}
use Rattle.rc_tokens.specs.Lexer.{run, after_run, is_before, past}
use Rattle.rc_tokens.specs.declared.tokens.Assertion.TheVariants.{Caret, Dollar}
use Rattle.rc_full_tokens.specs.Front.{is_not}
use Rattle.rc_full_tokens.specs.Counted.{read_count}
use Rattle.rc_full_tokens.specs.Flags.{flag_changes, no_change}
use Rattle.rc_full_tokens.specs.Names.{is_group_name}
use Rattle.rc_full_escapes.specs.Escaped.{read_escape}
use Rattle.rc_full_parser.specs.declared.marks.MarkSettings.{MarkSettings}
use Rattle.rc_full_parser.specs.declared.marks.Piece.TheVariants.{Character, Dot, Asserts}
use Rattle.rc_full_parser.specs.Marks.{Mark, bar, closes, sets, opens, repeats, brackets, stands, piece_of}

abbrev pub Found : Type 0
Found = Option (Mark × Characters)

-- behind the flags
abbrev pub flags_then : Characters → Characters → Found
flags_then f t =
    if is_at 41 t then (not (is_empty f) >> (flag_changes true no_change f >>= λ to. Some (sets to, drop 1 t)))
    else (is_at 58 t >> (flag_changes true no_change f >>= λ to. Some (opens (Flagged to.stated) to.ignore_whitespace, drop 1 t)))

-- behind the name
abbrev pub name_then : Characters → Characters → Found
name_then name t = (is_at 62 t && is_group_name name) >> Some (opens (Named (encode_utf8_all name)) None, drop 1 t)

-- behind `<`
abbrev pub named : Characters → Found
named t = name_then (run (is_not 62) t) (after_run (is_not 62) t)

-- behind `(?`
abbrev pub group : Characters → Found
group t =
    if is_at 80 t then is_at 60 (drop 1 t) >> named (drop 1 (drop 1 t))
    else if is_at 60 t then named (drop 1 t)
    else flags_then (run (is_before 41 58) t) (after_run (is_before 41 58) t)

-- behind `(`
abbrev pub opening : Characters → Found
opening t = if is_at 63 t then group (drop 1 t) else Some (opens Capturing None, t)

-- behind an amount
abbrev pub repeats_then : Characters → ℕ → Option ℕ → Found
repeats_then t min max = Some (repeats (bounds (is_at 63 t) min max), past 63 t)

-- behind `{`
abbrev pub count_then : MarkSettings → Characters → Found
count_then s t = read_count s.empty_min t >>= λ r. repeats_then r.1 r.0.0 r.0.1

-- the text from the `\` on
abbrev pub escape_then : MarkSettings → Characters → Found
escape_then s t = read_escape s.octal t >>= λ r. piece_of s.unicode r.0 >>= λ k. Some (stands k, r.1)

abbrev pub mark_at : MarkSettings → ℕ → Characters → Found
mark_at s c t =
    if c == 124 then Some (bar, t)
    else if c == 41 then Some (closes, t)
    else if c == 40 then opening t
    else if c == 42 then repeats_then t 0 None
    else if c == 43 then repeats_then t 1 None
    else if c == 63 then repeats_then t 0 (Some 1)
    else if c == 123 then count_then s t
    else if c == 91 then Some (brackets, t)
    else if c == 92 then escape_then s (c ∷ t)
    else if c == 46 then Some (stands Dot, t)
    else if c == 94 then Some (stands (Asserts Caret), t)
    else if c == 36 then Some (stands (Asserts Dollar), t)
    else Some (stands (Character c), t)

abbrev pub read_mark : MarkSettings → Characters → Found
read_mark s [] = None
read_mark s (c ∷ t) = mark_at s c t
