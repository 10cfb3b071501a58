-- Only proofs use this file.
-- What the values of the readers stand for.
use Rattle.std.specs.Prelude.{◌≡◌, ◌⊎◌, reverse, Result, MatchResult}
use Rattle.rc_tokens.specs.declared.refusal.Refusal.{Refusal}
use Rattle.rc_tokens.specs.declared.refusal.Refusal.TheVariants.{Memory}
use Rattle.rc_tokens.specs.View.{start_of}
use Rattle.rc_parser.specs.Settings.{Settings, settings_of}
use Rattle.rc_parser.specs.View as stated
use Rattle.rc_full_parser.specs.declared.marks.Mark as code
use Rattle.rc_full_parser.specs.declared.marks.Mark.TheVariants as mark
use Rattle.rc_full_parser.specs.declared.reader.Reader as reader
use Rattle.rc_full_parser.specs.Machine.{State, state}
use Rattle.rc_full_parser.specs.Marks.{Mark, bar, closes, sets, opens, repeats, brackets, stands}

abbrev pub mark_of : code.Mark → Mark
mark_of mark.Bar = bar
mark_of mark.Closes = closes
mark_of (mark.Sets to) = sets to
mark_of (mark.Opens o x) = opens (start_of o) x
mark_of (mark.Repeats b) = repeats b
mark_of mark.Brackets = brackets
mark_of (mark.Stands k) = stands k

-- the result is as P says, or memory ran out, or nothing is as P says
abbrev pub Gives : {A B : Type 0} → Result A Refusal → (B → Type 0) → (A → B) → Type 0
Gives {B = B} r P view = MatchResult r (λ a. P (view a)) (λ e. (e ≡ Memory) ⊎ ((b : B) → P b → ⊥))

abbrev pub settings_at : reader.Reader → Settings
settings_at r = settings_of r.work.config

abbrev pub state_of : reader.Reader → State
state_of r = state (stated.state r.work) r.verbose (reverse r.around.items)
