-- Only proofs use this file.
-- A reader that goes from mark to mark.
use Rattle.std.specs.Prelude.{◌≡◌, ℕ, ◌≤◌, Bool, List, [], ◌∷◌, Option, Some, None}
use Rattle.rc_tokens.specs.Text.{Characters, ◌>>=◌}
use Rattle.rc_tokens.specs.Said as said
use Rattle.rc_parser.specs.Settings.{Settings}
use Rattle.rc_parser.specs.Pieces.{Subpattern, depth_limit}
use Rattle.rc_parser.specs.Grammar.{switched}
use Rattle.rc_parser.specs.Machine as stated
use Rattle.rc_parser.specs.Machine.{Work, work, settled, take_said, finish}
use Rattle.rc_class_sets.specs.Sets.{CodeSet}
use Rattle.rc_full_lists.specs.Parts.{Passes}
use Rattle.rc_full_lists.specs.Read.{passed}
use Rattle.rc_full_lists.specs.Lists.{IsList}
use Rattle.rc_full_parser.specs.Marks as mark
use Rattle.rc_full_parser.specs.Marks.{Mark}
use Rattle.rc_full_parser.specs.Pieces.{IsPiece, IsListPart}
use Rattle.rc_full_parser.specs.Grammar.{Place, flags, at, list_settings, Begins}

-- What the reader of the stated grammar keeps, whether the flag x holds, and whether it holds around each
-- group that is open, from the inside out.
pub record State : Type 0 where
  pub work : Work
  pub verbose : Bool
  pub around : List Bool

abbrev pub state : Work → Bool → List Bool → State
state w x xs = record { work = w; verbose = x; around = xs }

-- the place where the reader stands
abbrev pub place : State → Place
place m = at m.work.level m.verbose m.work.last

-- with one more item, which an operator may follow
abbrev pub appended : Subpattern → State → State
appended q m = record m { work = work (settled m.work.last m.work.level) (Some q) m.work.outer }

module _ (s : Settings) where
  -- behind a `)`
  abbrev pub shut : Work → List Bool → Option State
  shut w [] = None
  shut w (x ∷ xs) = take_said s said.Closes w >>= λ v. Some (state v x xs)

  -- a mark that is no item by itself
  abbrev pub take_mark : Mark → State → Option State
  take_mark mark.bar m = take_said s said.Bar m.work >>= λ w. Some (state w m.verbose m.around)
  take_mark mark.closes m = shut m.work m.around
  take_mark (mark.sets to) m = take_said s (said.Setting to.stated) m.work >>= λ w. Some (state w (switched m.verbose to.ignore_whitespace) m.around)
  take_mark (mark.opens k x) m = take_said s (said.Opens k) m.work >>= λ w. Some (state w (switched m.verbose x) (m.verbose ∷ m.around))
  take_mark (mark.repeats b) m = take_said s (said.Repeats b) m.work >>= λ w. Some (state w m.verbose m.around)
  take_mark mark.brackets m = None
  take_mark (mark.stands k) m = None

  abbrev pub Takes : Mark → State → Characters → State → Characters → Type 0
  Takes k m t n u = (take_mark k m ≡ Some n) × (t ≡ u)

  -- One mark, which the text follows: the state before it, the one behind it, and the rest.
  abbrev pub Moves : Mark → State → Characters → State → Characters → Type 0
  Moves mark.bar m t n u = Takes mark.bar m t n u
  Moves mark.closes m t n u = Takes mark.closes m t n u
  Moves (mark.sets to) m t n u = Takes (mark.sets to) m t n u
  Moves (mark.opens k x) m t n u = Takes (mark.opens k x) m t n u
  Moves (mark.repeats b) m t n u = Takes (mark.repeats b) m t n u
  Moves mark.brackets m t n u = (c : CodeSet) × (depth : ℕ) × (q : Subpattern)
      × IsList (list_settings s (place m)) (flags (place m)).case_insensitive t c depth u × IsListPart s (flags (place m)) c depth q × (appended q m ≡ n)
  Moves (mark.stands k) m t n u = (q : Subpattern) × IsPiece s (flags (place m)) k q × (appended q m ≡ n) × (t ≡ u)

  -- the marks of the text lead from here to this pattern
  pub data Leads : State → Characters → Subpattern → Type 0 where
    ends : (m : State) (t : Characters) (body : Subpattern) → Passes m.verbose t [] → finish s (settled m.work.last m.work.level) m.work.outer ≡ Some body →
        Leads m t body
    goes : (m n : State) (t u v : Characters) (k : Mark) (body : Subpattern) → Begins s (place m) t k u → Moves k m u n v → Leads n v body → Leads m t body

  -- before a pattern
  abbrev pub start : State
  start = state (stated.fresh s) s.ignore_whitespace []

  -- One mark, with the list that it opens and the gaps behind it.
  abbrev pub Steps : State → Characters → State → Characters → Type 0
  Steps m t n v = (k : Mark) × (u : Characters) × (w : Characters) × Begins s (place m) t k u × Moves k m u n w × (v ≡ passed n.verbose w)

  -- the marks of the text lead to no pattern within the limit
  abbrev pub Refuses : State → Characters → Type 0
  Refuses m t = (p : Subpattern) → Leads m t p → p.depth ≤ depth_limit s → ⊥
