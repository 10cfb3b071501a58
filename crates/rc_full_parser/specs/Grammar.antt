-- What the text of a pattern is read as, by the full grammar.
use Rattle.std.specs.Prelude.{◌≡◌, ℕ, Bool, true, false, [], Option, Some, None}
use Rattle.rc_pattern.specs.Re.{Re, empty}
use Rattle.rc_tokens.specs.Text.{Characters}
use Rattle.rc_tokens.specs.Said.{Start}
use Rattle.rc_tokens.specs.declared.tokens.Bounds.{Bounds}
use Rattle.rc_parser.specs.Settings.{Settings, first_flags}
use Rattle.rc_parser.specs.Pieces.{Subpattern, leaf}
use Rattle.rc_parser.specs.Grammar.{Level, begin, add, switched, set_flags, end_branch, whole, repeated_once, inside, tie, closed}
use Rattle.rc_parser.specs.Machine.{settled}
use Rattle.rc_parser.specs.declared.flags.Flags.{Flags}
use Rattle.rc_class_sets.specs.Sets.{CodeSet}
use Rattle.rc_full_tokens.specs.declared.flags.FlagChange.{FlagChange}
use Rattle.rc_full_lists.specs.declared.parts.Settings as lists
use Rattle.rc_full_lists.specs.Parts.{Passes}
use Rattle.rc_full_lists.specs.Lists.{IsList}
use Rattle.rc_full_parser.specs.declared.marks.MarkSettings.{MarkSettings}
use Rattle.rc_full_parser.specs.declared.marks.Piece.{Piece}
use Rattle.rc_full_parser.specs.Marks as mark
use Rattle.rc_full_parser.specs.Marks.{IsMark}
use Rattle.rc_full_parser.specs.Pieces.{IsPiece, IsListPart}

-- Where the reading of a body stands: as in the stated grammar, whether the flag x holds, and the item
-- before this place, which an operator may follow.
pub record Place : Type 0 where
  pub level : Level
  pub verbose : Bool
  pub last : Option Subpattern

abbrev pub flags : Place → Flags
flags p = p.level.flags

-- with the item before it, which no operator follows
abbrev pub here : Place → Level
here p = settled p.last p.level

abbrev pub at : Level → Bool → Option Subpattern → Place
at l x last = record { level = l; verbose = x; last = last }

abbrev pub behind : Subpattern → Place → Place
behind q p = at (here p) p.verbose (Some q)

abbrev pub with_flags : FlagChange → Place → Place
with_flags to p = at (add (leaf empty) (record (here p) { flags = set_flags to.stated (flags p) })) (switched p.verbose to.ignore_whitespace) None

-- behind a group that ends at e
abbrev pub behind_group : Subpattern → Place → Place → Place
behind_group q e p = at (record (here p) { groups = (here e).groups; names = (here e).names }) p.verbose (Some q)

module _ (s : Settings) where
  abbrev pub mark_settings : Place → MarkSettings
  mark_settings p = record { unicode = (flags p).unicode; octal = s.octal; empty_min = s.empty_min }

  abbrev pub list_settings : Place → lists.Settings
  list_settings p = record { unicode = (flags p).unicode; verbose = p.verbose; octal = s.octal }

  -- the mark behind the gaps at a place
  pub record Begins (p : Place) (t : Characters) (k : mark.Mark) (u : Characters) : Type 0 where
    pub front : Characters
    pub gaps : Passes p.verbose t front
    pub is_mark : IsMark (mark_settings p) front k u

  -- A body from left to right, from one place with this text before it to another with that: up to the
  -- `)` of its group if it is `in_group`, else to the end of the text.
  pub data Items : Bool → Place → Characters → Place → Characters → Type 0 where
    ends : (p : Place) (t : Characters) → Passes p.verbose t [] → Items false p t p []
    closes : (p : Place) (t u : Characters) → Begins p t mark.closes u → Items true p t p u
    bars : (in_group : Bool) (p end : Place) (t u v : Characters) (l : Level) → Begins p t mark.bar u → end_branch s (here p) ≡ Some l →
        Items in_group (at l p.verbose None) u end v → Items in_group p t end v
    sets : (in_group : Bool) (p end : Place) (t u v : Characters) (to : FlagChange) → Begins p t (mark.sets to) u →
        Items in_group (with_flags to p) u end v → Items in_group p t end v
    repeats : (in_group : Bool) (p end : Place) (t u v : Characters) (b : Bounds) (q r : Subpattern) → Begins p t (mark.repeats b) u → p.last ≡ Some q →
        repeated_once s (flags p) b q ≡ Some r → Items in_group (at p.level p.verbose (Some r)) u end v → Items in_group p t end v
    stands : (in_group : Bool) (p end : Place) (t u v : Characters) (k : Piece) (q : Subpattern) → Begins p t (mark.stands k) u →
        IsPiece s (flags p) k q → Items in_group (behind q p) u end v → Items in_group p t end v
    list : (in_group : Bool) (p end : Place) (t u v w : Characters) (c : CodeSet) (depth : ℕ) (q : Subpattern) → Begins p t mark.brackets u →
        IsList (list_settings p) (flags p).case_insensitive u c depth v → IsListPart s (flags p) c depth q →
        Items in_group (behind q p) v end w → Items in_group p t end w
    group : (in_group : Bool) (p e end : Place) (t u v w : Characters) (k : Start) (x : Option Bool) (from : Level) (body q : Subpattern) →
        Begins p t (mark.opens k x) u → inside k (here p) ≡ Some from → Items true (at from (switched p.verbose x) None) u e v →
        whole s (here e) ≡ Some body → closed s (tie k (here p)) body ≡ Some q →
        Items in_group (behind_group q e p) v end w → Items in_group p t end w

  -- before a pattern
  abbrev pub fresh : Place
  fresh = at (begin (first_flags s) 0 []) s.ignore_whitespace None

  -- The text is read as `re`.
  pub record Reads (text : Characters) (re : Re) : Type 0 where
    pub end : Place
    pub is_read : Items false fresh text end []
    pub depth : ℕ
    pub is_whole : whole s (here end) ≡ Some (record { re = re; depth = depth })
