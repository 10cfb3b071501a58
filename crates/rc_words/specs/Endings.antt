-- Only proofs use this file.
-- Words: where they end that begin at one position.
use Rattle.std.specs.Prelude.{◌≡◌, ℕ}
use Rattle.rc_program.specs.Text.{Text}
use Rattle.rc_words.specs.Words.{Between, IsEnded}
use Rattle.rc_words.specs.declared.search.Ending.{Ending}
use Rattle.rc_words.specs.declared.search.Ending.TheVariants.{Nowhere, Once, Several}

-- A word may end at j.
abbrev pub MayEndAt : Ending → ℕ → Type 0
MayEndAt Nowhere j = ⊥
MayEndAt (Once e) j = j ≡ e
MayEndAt Several j = Unit {0}

-- If a word ends at one position alone, a literal from i with the second assertion behind it does.
abbrev pub EndsWhere : Between → Text → ℕ → ℕ → Ending → Type 0
EndsWhere b t hi i Nowhere = Unit {0}
EndsWhere b t hi i (Once e) = IsEnded b t hi i e
EndsWhere b t hi i Several = Unit {0}
