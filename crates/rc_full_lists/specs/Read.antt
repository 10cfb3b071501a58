-- Only proofs use this file.
-- The first part of the text between brackets, in the order in which its reader tests.
use Rattle.std.specs.Prelude.{◌≡◌, ℕ, Bool, true, false, ◌&&◌, ◌||◌, ◌==◌, nat_le, List, [], ◌∷◌, drop, Option, Some, None, MatchOption, if◌then◌else◌}
use Rattle.std.specs.Borrow.{Bor}
use Rattle.rc_tokens.specs.Text.{Characters, ◌>>=◌, ◌>>◌, is_at}
use Rattle.rc_tokens.specs.Classes.{code_of}
use Rattle.rc_tokens.specs.Lexer.{run, after_run}
use Rattle.rc_tokens.specs.declared.tokens.Member.TheVariants as member
use Rattle.rc_class_names.specs.Posix.{posix_named}
use Rattle.rc_full_tokens.specs.Front.{is_not}
use Rattle.rc_full_tokens.specs.Skips.{behind_gaps}
use Rattle.rc_full_escapes.specs.Escaped.{read_escape}
use Rattle.rc_full_lists.specs.declared.parts.Settings.{Settings}
use Rattle.rc_full_lists.specs.declared.parts.Atom.{Atom}
use Rattle.rc_full_lists.specs.declared.parts.Atom.TheVariants.{Code, Set}
use Rattle.rc_full_lists.specs.declared.parts.Part.{Part}
use Rattle.rc_full_lists.specs.declared.parts.Part.TheVariants as part
use Rattle.rc_full_lists.specs.declared.parts.Operation.{Operation}
use Rattle.rc_full_lists.specs.declared.items.Item.{Item}
use Rattle.rc_full_lists.specs.declared.items.Item.TheVariants as item
use Rattle.rc_full_lists.specs.Parts.{operator_at, atom_of, posix_item}

abbrev pub passed : Bool → Characters → Characters
passed verbose t = if verbose then behind_gaps false t else t

-- ---- `[:name:]`

-- behind the name
abbrev pub posix_then : Bool → Characters → Characters → Option (Item × Characters)
posix_then negated name t =
    (is_at 58 t && is_at 93 (drop 1 t)) >> (posix_named name >>= λ class. Some (posix_item negated class, drop 2 t))

abbrev pub posix_name : Bool → Characters → Option (Item × Characters)
posix_name negated t = posix_then negated (run (is_not 58) t) (after_run (is_not 58) t)

abbrev pub read_posix : Characters → Option (Item × Characters)
read_posix t =
    (is_at 91 t && is_at 58 (drop 1 t))
    >> (if is_at 94 (drop 1 (drop 1 t)) then posix_name true (drop 1 (drop 1 (drop 1 t))) else posix_name false (drop 1 (drop 1 t)))

-- ---- atoms

abbrev pub atom_at : Settings → ℕ → Characters → Option (Atom × Characters)
atom_at s c t =
    if c == 92 then (read_escape s.octal (c ∷ t) >>= λ r. atom_of s.unicode r.0 >>= λ a. Some (a, r.1))
    else (code_of s.unicode (member.Character c) >>= λ n. Some (Code n, t))

abbrev pub read_atom : Settings → Characters → Option (Atom × Characters)
read_atom s [] = None
read_atom s (c ∷ t) = atom_at s c t

-- behind a hyphen
abbrev pub high_at : Characters → Option Characters
high_at t = if is_at 93 t || is_at 45 t then None else Some t

abbrev pub goes_on : Bool → Characters → Option Characters
goes_on verbose t = is_at 45 (passed verbose t) >> high_at (passed verbose (drop 1 (passed verbose t)))

-- ---- parts

abbrev pub Found : Type 0
Found = Option (Part × Characters)

abbrev pub codes : ℕ → ℕ → Part
codes low high = part.Has (item.Codes (record { start = low; end = high }))

abbrev pub ends_range : ℕ → Atom × Characters → Found
ends_range low (Code high, t) = nat_le low high >> Some (codes low high, t)
ends_range low (Set i, t) = None

abbrev pub ranged : Settings → ℕ → Characters → Option Characters → Found
ranged s c t None = Some (codes c c, t)
ranged s c t (Some v) = read_atom s v >>= ends_range c

abbrev pub alone : Item → Characters → Option Characters → Found
alone i t None = Some (part.Has i, t)
alone i t (Some v) = None

abbrev pub atom_then : Settings → Atom × Characters → Found
atom_then s (Code c, t) = ranged s c t (goes_on s.verbose t)
atom_then s (Set i, t) = alone i t (goes_on s.verbose t)

-- at a bracket that opens
abbrev pub bracket_at : Characters → Option (Item × Characters) → Found
bracket_at t None = Some (part.Opens, drop 1 t)
bracket_at t (Some r) = Some (part.Has r.0, r.1)

abbrev pub plain_at : Settings → Characters → Option Operation → Found
plain_at s t (Some o) = Some (part.Operates o, drop 2 t)
plain_at s t None = read_atom s t >>= atom_then s

abbrev pub read_part : Settings → Characters → Found
read_part s t =
    if is_at 93 t then Some (part.Closes, drop 1 t)
    else if is_at 91 t then bracket_at t (read_posix t)
    else plain_at s t (operator_at t)

-- the reader found what the definition gives
abbrev pub Reads : {A : Type 0} → Option (A × Bor (List ℕ)) → Option (A × Characters) → Type 0
Reads r o = MatchOption r (o ≡ None) (λ p. o ≡ Some (p.0, p.1.now))
