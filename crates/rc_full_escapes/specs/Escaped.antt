-- Only proofs use this file.
-- The escape at the front of a text, in the order in which its reader tests.
use Rattle.std.specs.Prelude.{ℕ, Bool, true, false, not, ◌&&◌, ◌==◌, [], ◌∷◌, take, drop, length, Option, Some, None, if◌then◌else◌}
use Rattle.rc_tokens.specs.Text.{Characters, ◌>>=◌, ◌>>◌, is_at}
use Rattle.rc_tokens.specs.Said as said
use Rattle.rc_tokens.specs.Lexer.{run, after_run, lex}
use Rattle.rc_tokens.specs.declared.tokens.Escape as stated
use Rattle.rc_tokens.specs.declared.tokens.Escape.TheVariants as says
use Rattle.rc_tokens.specs.declared.tokens.Assertion.TheVariants.{Boundary}
use Rattle.rc_full_tokens.specs.Front.{is_not}
use Rattle.rc_full_escapes.specs.declared.escapes.FullEscape.{FullEscape}
use Rattle.rc_full_escapes.specs.declared.escapes.FullEscape.TheVariants.{Stated}
use Rattle.rc_full_escapes.specs.Escapes.{is_octal, octal_says, opens_name, property_says}

abbrev pub Found : Type 0
Found = Option (FullEscape × Characters)

-- the escape that a mark of the stated grammar is
abbrev pub stated_of : said.Said → Option (stated.Escape)
stated_of (said.Stands (said.Character c)) = Some (says.Character c)
stated_of (said.Stands (said.Byte b)) = Some (says.Byte b)
stated_of (said.Stands (said.PerlClass p)) = Some (says.Perl p)
stated_of (said.Stands (said.Asserts a)) = Some (says.Assertion a)
stated_of _ = None

-- from the `\` on
abbrev pub read_stated : Characters → Found
read_stated t = lex t >>= λ r. stated_of r.0 >>= λ s. Some (Stated s, r.1)

abbrev pub octal_front : Characters → Characters
octal_front t = run is_octal (take 3 t)

abbrev pub read_octal : Characters → Found
read_octal t = octal_says (octal_front t) >>= λ s. Some (Stated s, drop (length (octal_front t)) t)

abbrev pub named_then : Bool → Characters → Characters → Found
named_then negated name t = is_at 125 t >> (property_says negated name >>= λ e. Some (e, drop 1 t))

abbrev pub property_at : Bool → ℕ → Characters → Found
property_at negated c t =
    if c == 123 then named_then negated (run (is_not 125) t) (after_run (is_not 125) t)
    else property_says negated (c ∷ []) >>= λ e. Some (e, t)

-- behind `\p` or `\P`
abbrev pub read_property : Bool → Characters → Found
read_property negated [] = None
read_property negated (c ∷ t) = property_at negated c t

-- `\` and c, and then t
abbrev pub escape_at : Bool → ℕ → Characters → Found
escape_at octal c t =
    if c == 112 then read_property false t
    else if c == 80 then read_property true t
    else if octal && is_octal c then read_octal (c ∷ t)
    else if (c == 98) && not (opens_name t) then Some (Stated (says.Assertion Boundary), t)
    else read_stated (92 ∷ c ∷ t)

abbrev pub escape_behind : Bool → Characters → Found
escape_behind octal [] = None
escape_behind octal (c ∷ t) = escape_at octal c t

-- the text from the `\` on
abbrev pub read_escape : Bool → Characters → Found
read_escape octal t = is_at 92 t >> escape_behind octal (drop 1 t)
