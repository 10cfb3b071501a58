-- Only proofs use this file.
-- Prefilters: searches from where the first match may begin.
use Rattle.std.specs.Prelude.{◌≡◌, ℕ, Bool, false, IsTrue, List, slice_index_or}
use Rattle.rc_text.specs.declared.types.Anchored.{Anchored}
use Rattle.rc_text.specs.declared.types.Anchored.TheVariants.{No}
use Rattle.rc_program.specs.Answer.{Search, at_start}
use Rattle.rc_program.specs.Heads.{MayGoOn}
use Rattle.rc_program.specs.Program.{Place}
use Rattle.rc_dfa_search.specs.Leftmost.{IsLeftmost}
use Rattle.rc_dfa_search.specs.declared.search.Aim.{Aim}

-- The search for a match that begins at x.
abbrev pub starting_at : ℕ → Search → Search
starting_at x s = record s { lo = x; anchoring = at_start }

-- No walk goes on from p over a byte that has a flag.
abbrev pub TellsOthers : List Place → ℕ → List Bool → Type 0
TellsOthers places p flags = (b : ℕ) → IsTrue (slice_index_or flags b false) → ¬ MayGoOn places p b

-- A match that begins where the search does is the one that it returns: the search is leftmost, any
-- match isn't enough, and it isn't anchored.
pub record MayBeginThere (aim : Aim) (anchored : Anchored) : Type 0 where
  pub kind : IsLeftmost aim.kind
  pub late : aim.earliest ≡ false
  pub free : anchored ≡ No
