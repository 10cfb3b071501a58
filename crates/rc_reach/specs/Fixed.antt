-- Fixed answers: which bytes of a whole content fix what is found, also after an edit moved it.
use Rattle.std.specs.Prelude.{◌≡◌, ℕ, ◌+◌, ◌≤◌, List, length, take}
use Rattle.rc_text.specs.declared.types.MatchKind.{MatchKind}
use Rattle.rc_program.specs.Answer.{Search}
use Rattle.rc_reach.specs.Edits.{edited}
use Rattle.rc_reach.specs.Live.{found_by}

-- Each content that is the same below r has the same match from k on.
abbrev pub IsFixed : MatchKind → Search → List ℕ → ℕ → ℕ → Type 0
IsFixed kind s content r k = (other : List ℕ) → take r other ≡ take r content →
    found_by kind s other k ≡ found_by kind s content k

-- A reach moves with its match if the content gets no shorter.
abbrev pub FixedLaw : Type 0
FixedLaw = (kind : MatchKind) (s : Search) (content bytes : List ℕ) (a b d r k : ℕ) →
    a ≤ b → b ≤ length content → a + length bytes ≡ b + d → b + 4 ≤ k → b ≤ r →
    IsFixed kind s content r k → IsFixed kind s (edited content a b bytes) (r + d) (k + d)
