-- Why a search ends without an answer.
use Rattle.std.specs.Prelude.{ℕ, ◌+◌, ◌≤◌, List}
use Rattle.rc_text.specs.Text.{Searched}
use Rattle.rc_text.specs.declared.types.MatchError.{MatchError}
use Rattle.rc_text.specs.declared.types.MatchError.TheVariants.{Quit, GaveUp}
use Rattle.rc_pattern.specs.Re.{Re}
use Rattle.rc_program.specs.Answer.{Search}
use Rattle.rc_program.specs.Matches.{from_on}
use Rattle.rc_program.specs.Sought.{Sought, search_for}
use Rattle.rc_dfa_search.specs.Faults.{MayQuit}

-- the search quit at a byte; it is never given up
abbrev pub HasQuit : List Re → Search → MatchError → Type 0
HasQuit hs s (Quit b p) = MayQuit hs s b p
HasQuit hs s (GaveUp p memory) = ⊥

-- a search of the input ended so
abbrev pub IsFaultOf : Sought → Searched → MatchError → Type 0
IsFaultOf q i e = HasQuit q.patterns (search_for q i) e

-- the search of the input for a next match ended so: the one from its span's start on, or the one from a byte later
pub record IsNextFault (q : Sought) (i : Searched) (e : MatchError) : Type 0 where
  pub start : ℕ
  pub near : (i.span.start ≤ start) × (start ≤ i.span.start + 1)
  pub fault : HasQuit q.patterns (from_on (search_for q i) start) e
