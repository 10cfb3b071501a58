-- Texts of flags: those of the stated grammar, and x.
use Rattle.std.specs.Prelude.{ℕ, Bool, false, not, ◌&&◌, ◌==◌, [], ◌∷◌, Option, Some, None, if◌then◌else◌}
use Rattle.rc_tokens.specs.Text.{Characters, ◌>>=◌, ◌>>◌, is_empty}
use Rattle.rc_tokens.specs.Marks.{once, letter_change, unchanged}
use Rattle.rc_full_tokens.specs.declared.flags.FlagChange.{FlagChange}

abbrev pub no_change : FlagChange
no_change = record { stated = unchanged; ignore_whitespace = None }

-- what one letter sets or clears
abbrev pub flag_change : ℕ → Bool → FlagChange → Option FlagChange
flag_change c on to =
    if c == 120 then (once on to.ignore_whitespace >>= λ b. Some (record to { ignore_whitespace = Some b }))
    else (letter_change c on to.stated >>= λ next. Some (record to { stated = next }))

-- Flags are set up to the `-`, and cleared behind it. No flag stands twice, and the `-` isn't last.
abbrev pub flag_changes : Bool → FlagChange → Characters → Option FlagChange
flag_changes on to [] = Some to
flag_changes on to (c ∷ f) =
    if c == 45 then ((on && not (is_empty f)) >> flag_changes false to f)
    else (flag_change c on to >>= λ next. flag_changes on next f)

-- one character of the text of flags as a step: whether flags are set behind it, and what is changed
abbrev pub flag : ℕ → Bool → Bool → FlagChange → Option (Bool × FlagChange)
flag c is_last on to =
    if c == 45 then ((on && not is_last) >> Some (false, to)) else (flag_change c on to >>= λ next. Some (on, next))
