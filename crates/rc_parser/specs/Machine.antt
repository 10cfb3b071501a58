-- What a reader that goes from mark to mark keeps.
use Rattle.std.specs.Prelude.{◌≡◌, List, [], ◌∷◌, Option, Some, None}
use Rattle.rc_pattern.specs.Re.{empty}
use Rattle.rc_tokens.specs.Text.{Characters, ◌>>=◌}
use Rattle.rc_tokens.specs.Marks.{Mark, said, AreMarks}
use Rattle.rc_tokens.specs.Said.{Said, Stands, Bar, Setting, Opens, Closes, Repeats}
use Rattle.rc_parser.specs.Settings.{Settings, first_flags}
use Rattle.rc_parser.specs.Pieces.{Subpattern, leaf, sense_part}
use Rattle.rc_parser.specs.Grammar.{Level, Tie, begin, add, set_flags, end_branch, whole, repeated_once, inside, tie, closed}

-- a level outside, with the group that it waits for
abbrev pub Outside : Type 0
Outside = Tie × Level

-- The innermost level, the last item where an operator may follow, and the levels outside.
pub record Work : Type 0 where
  pub level : Level
  pub last : Option Subpattern
  pub outer : List Outside

abbrev pub settled : Option Subpattern → Level → Level
settled None l = l
settled (Some p) l = add p l

abbrev pub work : Level → Option Subpattern → List Outside → Work
work l last outer = record { level = l; last = last; outer = outer }

-- The names go to the level inside, and come back from it.
abbrev pub nameless : Level → Level
nameless l = record l { names = [] }

module _ (s : Settings) where
  abbrev pub close : Level → List Outside → Option Work
  close l [] = None
  close l (f ∷ outer) = whole s l >>= λ body. closed s f.0 body >>= λ p.
      Some (work (record (f.1) { groups = l.groups; names = l.names }) (Some p) outer)

  -- every mark but an operator
  abbrev pub step : Said → Level → List Outside → Option Work
  step (Stands k) l outer = sense_part s l.flags k >>= λ p. Some (work l (Some p) outer)
  step Bar l outer = end_branch s l >>= λ l'. Some (work l' None outer)
  step (Setting to) l outer = Some (work (add (leaf empty) (record l { flags = set_flags to l.flags })) None outer)
  step (Opens k) l outer = inside k l >>= λ start. Some (work start None ((tie k l, nameless l) ∷ outer))
  step Closes l outer = close l outer
  step (Repeats b) l outer = None

  abbrev pub take_said : Said → Work → Option Work
  take_said (Repeats b) w = w.last >>= λ p. repeated_once s w.level.flags b p >>= λ q. Some (work w.level (Some q) w.outer)
  take_said (Stands k) w = step (Stands k) (settled w.last w.level) w.outer
  take_said Bar w = step Bar (settled w.last w.level) w.outer
  take_said (Setting to) w = step (Setting to) (settled w.last w.level) w.outer
  take_said (Opens k) w = step (Opens k) (settled w.last w.level) w.outer
  take_said Closes w = step Closes (settled w.last w.level) w.outer

  abbrev pub finish : Level → List Outside → Option Subpattern
  finish l [] = whole s l
  finish l (f ∷ outer) = None

  abbrev pub run_marks : Work → List Mark → Option Subpattern
  run_marks w [] = finish (settled w.last w.level) w.outer
  run_marks w (m ∷ ms) = said m >>= λ k. take_said k w >>= λ v. run_marks v ms

-- Some marks of the text lead from this work to the part p.
abbrev pub Has : Settings → Work → Characters → Subpattern → Type 0
Has s w t p = (ms : List Mark) × AreMarks ms t × (run_marks s w ms ≡ Some p)

-- the reader of a whole pattern, before its first mark
abbrev pub fresh : Settings → Work
fresh s = work (begin (first_flags s) 0 []) None []
