-- Only proofs use this file.
-- Prefilters: by which literals a search may go.
use Rattle.std.specs.Prelude.{◌≡◌, ℕ, Bool, List}
use denote.Struct.Props.{props}
use Rattle.rc_text.specs.Text.{Searched}
use Rattle.rc_program.specs.Program.{Place}
use Rattle.rc_program.specs.Answer.{answer}
use Rattle.rc_program.specs.Sought.{search_over}
use Rattle.rc_needles.specs.Guards.{Guards}
use Rattle.rc_needles.specs.Prefilters.{needles_of}
use Rattle.rc_literals.specs.Answers.{Owned, literal_answer, owned_of}
use Rattle.rc_pikevm_search.specs.declared.literals.Literals.{Literals}
use Rattle.rc_pikevm_search.specs.declared.literals.Literals.TheVariants.{Absent, Guarded, Exact}

-- A search for the needles finds the answer.
abbrev pub AreAnswers : List Place → ℕ → Bool → Owned → Type 0
AreAnswers places terminator over o = (s : Searched) → answer (search_over places terminator over s) ≡ literal_answer o s

-- A search of these places may go by it.
abbrev pub MayGoBy : List Place → ℕ → Bool → Literals → Type 0
MayGoBy places terminator over Absent = Unit {0}
MayGoBy places terminator over (Guarded p) = Guards places terminator (needles_of p)
MayGoBy places terminator over (Exact n) = Guards places terminator (needles_of n.prefilter) × AreAnswers places terminator over (owned_of n)

-- It is a fact: there is at most one proof of it.
pub MayGoBy-is_fact : (places : List Place) (terminator : ℕ) (over : Bool) (literals : Literals) → IsProp (MayGoBy places terminator over literals)
MayGoBy-is_fact places terminator over Absent = hlevel props
MayGoBy-is_fact places terminator over (Guarded p) = hlevel props
MayGoBy-is_fact places terminator over (Exact n) = hlevel props
