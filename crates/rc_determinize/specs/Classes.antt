-- Byte classes: which bytes a program can tell apart.
use Rattle.std.specs.Prelude.{◌≡◌, ℕ, ◌+◌, ◌<◌, Bool, false, ◌&&◌, ◌||◌, List, [], ◌∷◌, length, Some, nat_le, nat_eq, slice_index, slice_index_or, if◌then◌else◌}
use Rattle.std.specs.List.{list_any}
use Rattle.rc_pattern.specs.Re.{Range}
use Rattle.rc_program.specs.Looks.{differ}
use Rattle.rc_program.specs.Program.{Place}
use Rattle.rc_determinize.specs.declared.sides.Seen.{Seen}
use Rattle.rc_determinize.specs.declared.sides.Asked.{Asked}
use Rattle.rc_determinize.specs.Sides.{told, ranges_of, AreAlike}
use Rattle.rc_determinize.specs.Steps.{IsByBytes}

abbrev pub is_within : Range → ℕ → Bool
is_within r b = nat_le r.0 b && nat_le b r.1

-- The range contains one of the byte and the next, but not both.
abbrev pub parts : ℕ → Range → Bool
parts b r = differ (is_within r b) (is_within r (b + 1))

-- Some range of the places does.
abbrev pub are_parted : List Place → ℕ → Bool
are_parted [] b = false
are_parted (q ∷ qs) b = list_any (parts b) (ranges_of q) || are_parted qs b

-- The flags say of which bytes some range of the places does.
abbrev pub ArePartedAt : List Place → List Bool → Type 0
ArePartedAt places flags = (b : ℕ) → b < 255 → slice_index_or flags b false ≡ are_parted places b

-- The facts about the two are different: those about lines, or those about words.
abbrev pub is_other_line : Seen → Seen → Bool
is_other_line x y =
    differ x.edge y.edge || (differ x.terminator y.terminator || (differ x.line_feed y.line_feed || differ x.carriage_return y.carriage_return))

abbrev pub is_other_word : Seen → Seen → Bool
is_other_word x y = differ x.word y.word || (differ x.letter y.letter || differ x.broken y.broken)

abbrev pub is_other : Seen → Seen → Bool
is_other x y = is_other_line x y || is_other_word x y

-- Some place or some assertion of the program may tell the byte and the next apart, or only one of
-- the two may be read.
abbrev pub is_border : List Place → Asked → ℕ → ℕ → Bool
is_border places needs terminator b =
    are_parted places b || is_other (told needs terminator (Some b)) (told needs terminator (Some (b + 1))) || (needs.unicode && nat_eq b 127)

-- The class of each byte; a class ends only at a border.
pub record AreClasses (places : List Place) (needs : Asked) (terminator : ℕ) (classes : List ℕ) : Type 0 where
  pub size : length classes ≡ 256
  pub first : slice_index classes 0 ≡ 0
  pub next : (b : ℕ) → b < 255 → slice_index classes (b + 1) ≡ (if is_border places needs terminator b then slice_index classes b + 1 else slice_index classes b)

-- Each byte is a class of its own.
pub record AreSingle (classes : List ℕ) : Type 0 where
  pub size : length classes ≡ 256
  pub own : (b : ℕ) → b < 256 → slice_index classes b ≡ b

-- Bytes of the same class are alike.
abbrev pub TellsAlike : List Place → Asked → ℕ → List ℕ → Type 0
TellsAlike places needs terminator classes =
    (b c : ℕ) → b < 256 → c < 256 → slice_index classes b ≡ slice_index classes c → AreAlike places needs terminator b c

-- The law of byte classes.
pub record ClassLaw : Type 0 where
  pub alike : (places : List Place) (needs : Asked) (terminator : ℕ) (classes : List ℕ) → IsByBytes places →
      AreClasses places needs terminator classes → TellsAlike places needs terminator classes
  pub single : (places : List Place) (needs : Asked) (terminator : ℕ) (classes : List ℕ) → AreSingle classes → TellsAlike places needs terminator classes
