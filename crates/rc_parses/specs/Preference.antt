-- Preference: which match plain patterns give, by the patterns alone, without places, ways or
-- walks.
use Rattle.std.specs.Prelude.{◌≡◌, ℕ, ◌<◌, ◌≤◌, ◌⊎◌, Bool, false, not, ◌||◌, All, List, MatchOption, Option, IsTrue}
use Rattle.rc_text.specs.Found.{Found}
use Rattle.rc_text.specs.Text.{Searched, low, high, is_boundary}
use Rattle.rc_pattern.specs.Re.{Re}
use Rattle.rc_pattern.specs.Properties.{is_plain}
use Rattle.rc_program.specs.Answer.{only, is_anchored}
use Rattle.rc_program.specs.Sought.{Sought, anchoring_of, text_of, passes_over}
use Rattle.rc_parses.specs.Parses.{Parse, IsCandidate, IsLeastParse}

-- No pattern repeats what may be empty.
abbrev pub ArePlain : List Re → Type 0
ArePlain hs = All (λ h. IsTrue (is_plain h)) hs

-- A parse from x that ends at the upper bound or earlier, by a pattern that is searched for.
abbrev pub IsParseFrom : Sought → Searched → ℕ → Parse → Type 0
IsParseFrom q s = IsCandidate (text_of q.terminator s) (high s) (only (anchoring_of s.anchored)) q.patterns

-- The one that comes before each other one.
abbrev pub IsLeastFrom : Sought → Searched → ℕ → Parse → Type 0
IsLeastFrom q s = IsLeastParse (text_of q.terminator s) (high s) (only (anchoring_of s.anchored)) q.patterns

abbrev pub HasNoParseFrom : Sought → Searched → ℕ → Type 0
HasNoParseFrom q s x = (p : Parse) → ¬ IsParseFrom q s x p

-- A match may begin here: within the bounds, and at the lower bound alone if the search is
-- anchored.
abbrev pub MayBegin : Searched → ℕ → Type 0
MayBegin s x = (low s ≤ x) × (x ≤ high s) × (IsTrue (is_anchored (anchoring_of s.anchored)) → x ≡ low s)

-- The parse ends on a boundary, if matches that end off one are passed over.
abbrev pub ends_well : Sought → Searched → Parse → Bool
ends_well q s p = not (passes_over q) || is_boundary s.content p.end

-- The start gives no match: no parse begins there, or the least one is passed over.
abbrev pub IsPassedBy : Sought → Searched → ℕ → Type 0
IsPassedBy q s x = HasNoParseFrom q s x ⊎ ((p : Parse) × IsLeastFrom q s x p × (ends_well q s p ≡ false))

-- The least parse of the least start that gives a match.
pub record IsPreferred (q : Sought) (s : Searched) (x : ℕ) (p : Parse) : Type 0 where
  pub is_start : MayBegin s x
  pub is_least : IsLeastFrom q s x p
  pub allowed : IsTrue (ends_well q s p)
  pub none_before : (y : ℕ) → MayBegin s y → y < x → IsPassedBy q s y

-- The match that a parse from x is.
abbrev pub match_by : ℕ → Parse → Found
match_by x p = record { pattern = p.pattern; start = x; end = p.end }

-- The match is the preferred parse; there is none if no start gives one.
abbrev pub IsPreferredMatch : Sought → Searched → Option Found → Type 0
IsPreferredMatch q s o = MatchOption o
    ((x : ℕ) → MayBegin s x → IsPassedBy q s x)
    (λ m. (p : Parse) × IsPreferred q s m.start p × (m ≡ match_by m.start p))
