-- Which codes a class has.
use Rattle.std.specs.Prelude.{◌≡◌, ◌↔◌, ℕ, suc, ◌+◌, ◌≤◌, ◌⊎◌, Bool, true, false, List, [], ◌∷◌}
use Rattle.rc_pattern.specs.Re.{Range}
use Rattle.rc_tokens.specs.Classes.{next, is_code, class_of, perl_ranges, set_ranges, AreCodes}
use Rattle.rc_tokens.specs.declared.tokens.Perl.{Perl}

-- the code stands in the range
abbrev pub In : Range → ℕ → Type 0
In r c = (r.0 ≤ c) × (c ≤ r.1)

-- the code stands in one of the ranges
abbrev pub Has : List Range → ℕ → Type 0
Has [] c = ⊥
Has (r ∷ rs) c = In r c ⊎ Has rs c

-- the ranges stand in order, none begins below n, and between neighbours a code is left out
abbrev pub InOrder : Bool → ℕ → List Range → Type 0
InOrder u n [] = Unit {0}
InOrder u n (r ∷ rs) = (n ≤ r.0) × (r.0 ≤ r.1) × InOrder u (suc (next u r.1)) rs

-- d is the other case of c, and both are ASCII letters
abbrev pub IsOtherCase : ℕ → ℕ → Type 0
IsOtherCase c d = ((65 ≤ c) × (c ≤ 90) × (d ≡ c + 32)) ⊎ ((97 ≤ c) × (c ≤ 122) × (d + 32 ≡ c))

-- the code is written, or where letters are folded its other case is
abbrev pub IsWritten : Bool → List Range → ℕ → Type 0
IsWritten false rs c = Has rs c
IsWritten true rs c = Has rs c ⊎ ((d : ℕ) × IsOtherCase c d × Has rs d)

-- where the class is negated, it isn't
abbrev pub IsMember : Bool → Bool → List Range → ℕ → Type 0
IsMember false fold rs c = IsWritten fold rs c
IsMember true fold rs c = IsWritten fold rs c → ⊥

-- what holds of the class of ranges of codes, as they are written
pub record MembersLaw : Type 0 where
  -- a code is in the class exactly where it is a member
  pub members : (u fold negated : Bool) (rs : List Range) (c : ℕ) → AreCodes u rs → is_code u c ≡ true → Has (class_of u fold negated rs) c ↔ IsMember negated fold rs c
  -- so it is with a Perl class
  pub perl : (u : Bool) (p : Perl) (c : ℕ) → is_code u c ≡ true → Has (perl_ranges u p) c ↔ IsMember p.negated false (set_ranges p.set) c
  pub in_order : (u fold negated : Bool) (rs : List Range) → AreCodes u rs → InOrder u 0 (class_of u fold negated rs)
