-- Exact literals: patterns that are lists of needles.
use Rattle.std.specs.Prelude.{◌≡◌, ℕ, ◌+◌, ◌≤◌, List, [], ◌∷◌, ◌++◌, Option, Some, None, option_map, replicate, slice_get, length}
use Rattle.rc_text.specs.Text.{Searched}
use Rattle.rc_pattern.specs.Re.{Re, literal, alt, none}
use Rattle.rc_walks.specs.Walks.{Pair}
use Rattle.rc_program.specs.Text.{Text}
use Rattle.rc_program.specs.Spells.{SpelledBy}
use Rattle.rc_program.specs.Program.{accept, place_at, program}
use Rattle.rc_program.specs.Answer.{Search, answer, only, IsFirstFrom, HasNoWalkFrom, last_of}
use Rattle.rc_program.specs.Sought.{Sought, search_for}
use Rattle.rc_needles.specs.declared.hit.Hit.{Hit}
use Rattle.rc_needles.specs.Needles.{StandsAt, IsFirstAt, NoneAt}
use Rattle.rc_literals.specs.Answers.{Owned, literal_answer, needles_for, owner_for}

-- Each text that a pattern spells begins with a needle.
abbrev pub Covers : Text → List Re → List (List ℕ) → Type 0
Covers t hs needles = (p i j : ℕ) → SpelledBy t 0 hs p i j →
    (k : ℕ) × (needle : List ℕ) × (slice_get needles k ≡ Some needle) × StandsAt t.content needle i × (i + length needle ≤ j)

-- Within the bounds, a needle of the allowed patterns occurs at a start exactly if a walk begins
-- there, and the first needle that occurs there is the text of the first walk, which is of its
-- owner.
pub record IsExact (s : Search) (o : Owned) : Type 0 where
  pub first : (x : ℕ) (h : Hit) → x ≤ s.hi → IsFirstAt (needles_for (only s.anchoring) o) s.text.content s.hi x h →
      (w : List Pair) × IsFirstFrom s x w × ((last_of w).1 ≡ h.end)
      × (place_at s.places (last_of w).0 ≡ accept (owner_for (only s.anchoring) o h.number))
  pub none : (x : ℕ) → x ≤ s.hi → NoneAt (needles_for (only s.anchoring) o) s.text.content s.hi x → HasNoWalkFrom s x

-- The bytes of a literal that isn't empty.
abbrev pub literal_bytes : Re → Option (List ℕ)
literal_bytes (literal (b ∷ bs)) = Some (b ∷ bs)
literal_bytes _ = None

-- One more needle, if there is one.
abbrev pub before : Option (List ℕ) → Option (List (List ℕ)) → Option (List (List ℕ))
before None needles = None
before (Some needle) needles = option_map (λ ws. needle ∷ ws) needles

-- The bytes of the members of an alternation, if each is a literal that isn't empty.
abbrev pub member_literals : Re → Option (List (List ℕ))
member_literals none = Some []
member_literals (alt a rest) = before (literal_bytes a) (member_literals rest)
member_literals _ = None

-- The bytes of a literal that isn't empty, or of the members of an alternation of such literals;
-- nothing for other patterns.
abbrev pub literals_of : Re → Option (List (List ℕ))
literals_of (literal (b ∷ bs)) = Some ((b ∷ bs) ∷ [])
literals_of (alt a rest) = member_literals (alt a rest)
literals_of _ = None

-- The needles that pattern p owns, before those of the patterns after it.
abbrev pub before_owned : ℕ → Option (List (List ℕ)) → Option Owned → Option Owned
before_owned p None rest = None
before_owned p (Some ws) None = None
before_owned p (Some ws) (Some o) = Some (record { needles = ws ++ o.needles; owners = replicate (length ws) p ++ o.owners })

-- The literals of patterns, one pattern after another, if each pattern is a literal or an
-- alternation of literals. The first pattern has the number p.
abbrev pub owned_from : ℕ → List Re → Option Owned
owned_from p [] = Some (record { needles = []; owners = [] })
owned_from p (h ∷ hs) = before_owned p (literals_of h) (owned_from (p + 1) hs)

-- The same, if there is a pattern.
abbrev pub exact_needles : List Re → Option Owned
exact_needles [] = None
exact_needles (h ∷ hs) = owned_from 0 (h ∷ hs)

-- The law of patterns each of which is a literal, or an alternation of literals.
pub record LiteralLaw : Type 0 where
  pub covers : (hs : List Re) (o : Owned) (t : Text) → exact_needles hs ≡ Some o → Covers t hs o.needles
  pub exact : (hs : List Re) (o : Owned) (s : Search) → exact_needles hs ≡ Some o → s.places ≡ program hs → IsExact s o
  -- Their answers are those of a search for the needles.
  pub answers : (hs : List Re) (o : Owned) (q : Sought) (s : Searched) → exact_needles hs ≡ Some o → q.patterns ≡ hs →
      answer (search_for q s) ≡ literal_answer o s
