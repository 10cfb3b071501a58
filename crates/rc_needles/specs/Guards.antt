-- Prefilters: needles without which no walk begins.
use Rattle.std.specs.Prelude.{ℕ, ◌≤◌, Bool, List}
use Rattle.rc_text.specs.Text.{Searched, high}
use Rattle.rc_program.specs.Program.{Place}
use Rattle.rc_program.specs.Answer.{HasNoWalkFrom}
use Rattle.rc_program.specs.Sought.{search_over}
use Rattle.rc_needles.specs.Needles.{NoneAt}

-- No walk of the program begins at a position where no needle occurs.
abbrev pub Guards : List Place → ℕ → List (List ℕ) → Type 0
Guards places terminator needles = (over : Bool) (s : Searched) (x : ℕ) → x ≤ high s → NoneAt needles s.content (high s) x →
    HasNoWalkFrom (search_over places terminator over s) x
