-- The parts of which the text between brackets is made, from left to right.
use Rattle.std.specs.Prelude.{◌≡◌, ℕ, ◌≤◌, Bool, true, false, not, ◌&&◌, ◌||◌, ◌==◌, ◌∷◌, ◌++◌, drop, Option, Some, None, is_none, if◌then◌else◌}
use Rattle.rc_tokens.specs.Text.{Characters, ◌>>=◌, ◌>>◌, is_at, each}
use Rattle.rc_tokens.specs.Classes.{code_of}
use Rattle.rc_tokens.specs.declared.tokens.Escape.TheVariants as says
use Rattle.rc_tokens.specs.declared.tokens.Member.TheVariants as member
use Rattle.rc_class_names.specs.Posix.{posix_named}
use Rattle.rc_class_names.specs.declared.posix.Posix.{Posix}
use Rattle.rc_full_tokens.specs.Gaps.{Gaps}
use Rattle.rc_full_escapes.specs.Escapes.{IsEscape}
use Rattle.rc_full_escapes.specs.declared.escapes.FullEscape.{FullEscape}
use Rattle.rc_full_escapes.specs.declared.escapes.FullEscape.TheVariants as escapes
use Rattle.rc_full_lists.specs.declared.parts.Settings.{Settings}
use Rattle.rc_full_lists.specs.declared.parts.Atom.{Atom}
use Rattle.rc_full_lists.specs.declared.parts.Atom.TheVariants.{Code, Set}
use Rattle.rc_full_lists.specs.declared.parts.Part.{Part}
use Rattle.rc_full_lists.specs.declared.parts.Part.TheVariants as part
use Rattle.rc_full_lists.specs.declared.parts.Operation.{Operation}
use Rattle.rc_full_lists.specs.declared.parts.Operation.TheVariants.{Intersection, Difference, SymmetricDifference}
use Rattle.rc_full_lists.specs.declared.items.Item.{Item}
use Rattle.rc_full_lists.specs.declared.items.Item.TheVariants as item

-- under the flag x white space and comments are passed over, without it nothing
abbrev pub Passes : Bool → Characters → Characters → Type 0
Passes true t u = Gaps t u
Passes false t u = t ≡ u

abbrev pub twice : ℕ → Characters → Bool
twice c t = is_at c t && is_at c (drop 1 t)

-- the text begins with `&&`, `--` or `~~`
abbrev pub operator_at : Characters → Option Operation
operator_at t =
    if twice 38 t then Some Intersection
    else if twice 45 t then Some Difference
    else twice 126 t >> Some SymmetricDifference

-- neither a bracket nor an operator begins the text
abbrev pub begins_atom : Characters → Bool
begins_atom t = not (is_at 91 t) && (not (is_at 93 t) && is_none (operator_at t))

-- what an escape is in a list: a code, or a set; an assertion is neither, and properties are of characters
abbrev pub atom_of : Bool → FullEscape → Option Atom
atom_of unicode (escapes.Stated (says.Perl p)) = Some (Set (item.Perl p))
atom_of unicode (escapes.Stated (says.Character c)) = code_of unicode (member.Character c) >>= λ n. Some (Code n)
atom_of unicode (escapes.Stated (says.Byte b)) = code_of unicode (member.Byte b) >>= λ n. Some (Code n)
atom_of unicode (escapes.Stated (says.Assertion a)) = None
atom_of unicode (escapes.Property p) = unicode >> Some (Set (item.Property p))

-- `[:name:]`, or `[:^name:]` for the others
abbrev pub posix_item : Bool → Posix → Item
posix_item negated class = if negated then item.NotPosix class else item.Posix class

pub data IsPosix : Characters → Item → Characters → Type 0 where
  posix : (negated : Bool) (name u : Characters) (class : Posix) → each (λ c. not (c == 58)) name ≡ true → posix_named name ≡ Some class →
      IsPosix (91 ∷ 58 ∷ (if negated then 94 ∷ (name ++ 58 ∷ 93 ∷ u) else name ++ 58 ∷ 93 ∷ u)) (posix_item negated class) u

abbrev pub IsNoPosix : Characters → Type 0
IsNoPosix t = (i : Item) (u : Characters) → IsPosix t i u → ⊥

module _ (s : Settings) where
  -- one code, plain or escaped, or a set
  pub data IsAtom : Characters → Atom → Characters → Type 0 where
    plain : (c n : ℕ) (t : Characters) → (c == 92) ≡ false → code_of s.unicode (member.Character c) ≡ Some n → IsAtom (c ∷ t) (Code n) t
    escaped : (t u : Characters) (e : FullEscape) (a : Atom) → IsEscape s.octal t e u → atom_of s.unicode e ≡ Some a → IsAtom t a u

  -- a hyphen goes on with a range: what follows it, v, begins neither with `]` nor with another hyphen
  pub record GoesOn (t v : Characters) : Type 0 where
    pub at : Characters
    pub sign : Passes s.verbose t (45 ∷ at)
    pub behind : Passes s.verbose at v
    pub high : (is_at 93 v || is_at 45 v) ≡ false

  abbrev pub StandsAlone : Characters → Type 0
  StandsAlone t = (v : Characters) → GoesOn t v → ⊥

  -- The first part of a text in front of which no gap stands, and the rest.
  pub data IsPart : Characters → Part → Characters → Type 0 where
    closes : (t : Characters) → IsPart (93 ∷ t) part.Closes t
    operates : (t : Characters) (o : Operation) → operator_at t ≡ Some o → IsPart t (part.Operates o) (drop 2 t)
    names : (t u : Characters) (i : Item) → IsPosix t i u → IsPart t (part.Has i) u
    opens : (t : Characters) → IsNoPosix (91 ∷ t) → IsPart (91 ∷ t) part.Opens t
    range : (t a b u : Characters) (low high : ℕ) → begins_atom t ≡ true → IsAtom t (Code low) a → GoesOn a b → IsAtom b (Code high) u → low ≤ high →
        IsPart t (part.Has (item.Codes (record { start = low; end = high }))) u
    single : (t u : Characters) (c : ℕ) → begins_atom t ≡ true → IsAtom t (Code c) u → StandsAlone u →
        IsPart t (part.Has (item.Codes (record { start = c; end = c }))) u
    set : (t u : Characters) (i : Item) → begins_atom t ≡ true → IsAtom t (Set i) u → StandsAlone u → IsPart t (part.Has i) u
