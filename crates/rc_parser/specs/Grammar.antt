-- What the text of a pattern is read as.
use Rattle.std.specs.Prelude.{◌≡◌, ℕ, ◌+◌, Bool, false, not, ◌||◌, nat_le, List, [], ◌∷◌, ◌++◌, Option, Some, None, map, max, length, if◌then◌else◌}
use Rattle.rc_pattern.specs.Re.{Re, empty, repeat, capture}
use Rattle.rc_pattern.specs.Meaning.{concat_of, alternation_of}
use Rattle.rc_tokens.specs.Text.{Characters, ◌>>=◌, ◌>>◌, same_text}
use Rattle.rc_tokens.specs.Marks.{Operator, Piece, Opening, Mark, stands, bar, setting, opens, closes, repeats, piece_says, opening_says, flags_of, bounds_of, AreMarks}
use Rattle.rc_tokens.specs.Said.{Start, Capturing, Named, Flagged}
use Rattle.rc_tokens.specs.declared.tokens.Change.{Change}
use Rattle.rc_tokens.specs.declared.tokens.Bounds.{Bounds}
use Rattle.rc_parser.specs.Settings.{Settings, first_flags}
use Rattle.rc_parser.specs.Pieces.{Subpattern, leaf, deeper, sense_part}
use Rattle.rc_parser.specs.declared.flags.Flags.{Flags}

-- What stands between two parentheses, or the whole of a pattern.
pub data Body : Type 0 where
  ends : Body
  -- the end of one branch, and the branches after it
  bars : Body → Body
  sets : Characters → Body → Body
  -- a mark that stands alone, its operators, and what follows
  piece : Piece → List Operator → Body → Body
  -- a group, its operators, and what follows
  group : Opening → Body → List Operator → Body → Body

-- the marks of a body, from left to right
abbrev pub marks : Body → List Mark
marks ends = []
marks (bars b) = bar ∷ marks b
marks (sets f b) = setting f ∷ marks b
marks (piece x os b) = stands x ∷ (map repeats os ++ marks b)
marks (group o inner os b) = opens o ∷ (marks inner ++ closes ∷ (map repeats os ++ marks b))

-- some parts, and how deep the deepest is
pub record Parts : Type 0 where
  pub res : List Re
  pub deepest : ℕ

abbrev pub no_parts : Parts
no_parts = record { res = []; deepest = 0 }

abbrev pub with_part : Subpattern → Parts → Parts
with_part p ps = record { res = ps.res ++ p.re ∷ []; deepest = max ps.deepest p.depth }

-- Where the reading of a body stands: the flags that hold, how many groups are opened so far in the whole
-- pattern, their names, the branches that have ended, and the items of the branch under way.
pub record Level : Type 0 where
  pub flags : Flags
  pub groups : ℕ
  pub names : List (List ℕ)
  pub branches : Parts
  pub items : Parts

abbrev pub begin : Flags → ℕ → List (List ℕ) → Level
begin flags groups names = record { flags = flags; groups = groups; names = names; branches = no_parts; items = no_parts }

abbrev pub add : Subpattern → Level → Level
add p l = record l { items = with_part p l.items }

abbrev pub switched : Bool → Option Bool → Bool
switched b None = b
switched b (Some c) = c

abbrev pub set_flags : Change → Flags → Flags
set_flags to f = record {
  case_insensitive = switched f.case_insensitive to.case_insensitive;
  multi_line = switched f.multi_line to.multi_line;
  dot_matches_new_line = switched f.dot_matches_new_line to.dot_matches_new_line;
  crlf = switched f.crlf to.crlf;
  swap_greed = switched f.swap_greed to.swap_greed;
  unicode = switched f.unicode to.unicode;
}

abbrev pub is_named : List ℕ → List (List ℕ) → Bool
is_named name [] = false
is_named name (other ∷ names) = same_text name other || is_named name names

-- the level inside a group
abbrev pub inside : Start → Level → Option Level
inside Capturing l = Some (begin l.flags (l.groups + 1) l.names)
inside (Named name) l = not (is_named name l.names) >> Some (begin l.flags (l.groups + 1) (l.names ++ name ∷ []))
inside (Flagged to) l = Some (begin (set_flags to l.flags) l.groups l.names)

-- the number and the name of a group that captures
abbrev pub Tie : Type 0
Tie = Option (ℕ × Option (List ℕ))

-- Groups are numbered in the order of their opening.
abbrev pub tie : Start → Level → Tie
tie Capturing l = Some (l.groups + 1, None)
tie (Named name) l = Some (l.groups + 1, Some name)
tie (Flagged to) l = None

abbrev pub tied : Tie → Re → Re
tied None re = re
tied (Some t) re = capture t.0 t.1 re

module _ (s : Settings) where
  -- the parts joined: two or more are a level of their own
  abbrev pub join : (List Re → Re) → Parts → Option Subpattern
  join all ps = if nat_le (length ps.res) 1 then Some (record { re = all ps.res; depth = ps.deepest }) else deeper s (all ps.res) ps.deepest

  abbrev pub end_branch : Level → Option Level
  end_branch l = join concat_of l.items >>= λ branch. Some (record l { branches = with_part branch l.branches; items = no_parts })

  -- the body as one part
  abbrev pub whole : Level → Option Subpattern
  whole l = end_branch l >>= λ l'. join alternation_of l'.branches

  -- a `?` turns greed round, and so does the flag `U`
  abbrev pub repeated_once : Flags → Bounds → Subpattern → Option Subpattern
  repeated_once f b p = deeper s (repeat b.min b.max (if b.lazy then f.swap_greed else not f.swap_greed) p.re) p.depth

  abbrev pub repeated : Flags → List Operator → Subpattern → Option Subpattern
  repeated f [] p = Some p
  repeated f (o ∷ os) p = bounds_of o.lazy o.amount >>= λ b. repeated_once f b p >>= λ q. repeated f os q

  -- the group around a body
  abbrev pub closed : Tie → Subpattern → Option Subpattern
  closed t p = deeper s (tied t p.re) p.depth

  -- reads a body from left to right; the flags of the outside come back after a group
  abbrev pub reads : Level → Body → Option Level
  reads l ends = Some l
  reads l (bars b) = end_branch l >>= λ l'. reads l' b
  reads l (sets f b) = flags_of f >>= λ to. reads (add (leaf empty) (record l { flags = set_flags to l.flags })) b
  reads l (piece x os b) = piece_says x >>= λ k. sense_part s l.flags k >>= λ p. repeated l.flags os p >>= λ q. reads (add q l) b
  reads l (group o inner os b) =
      opening_says o >>= λ k. inside k l >>= λ start. reads start inner >>= λ end. whole end >>= λ body. closed (tie k l) body >>= λ p.
      repeated l.flags os p >>= λ q. reads (add q (record l { groups = end.groups; names = end.names })) b

-- The text is a body that is read as `re`.
pub record Reads (s : Settings) (text : Characters) (re : Re) : Type 0 where
  pub body : Body
  pub is_written : AreMarks (marks body) text
  pub end : Level
  pub is_read : reads s (begin (first_flags s) 0 []) body ≡ Some end
  pub depth : ℕ
  pub is_whole : whole s end ≡ Some (record { re = re; depth = depth })
