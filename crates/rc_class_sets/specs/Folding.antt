-- Simple case folding of sets of characters, and of the ASCII letters of sets of bytes.
use Rattle.std.specs.Prelude.{◌≡◌, ◌↔◌, ℕ, ◌+◌, ◌-◌, Bool, true, false, ◌&&◌, ◌||◌, ◌==◌, nat_le, IsTrue, if◌then◌else◌}
use Rattle.std.specs.List.{list_any}
use Rattle.unicode.specs.CaseFolding.{simple_fold, fold_pairs}
use Rattle.rc_class_sets.specs.Sets.{CodeSet, union, intersection, difference, symmetric_difference, complement}

-- the other case of an ASCII letter; anything else is itself
abbrev pub other_case : ℕ → ℕ
other_case c = if nat_le 65 c && nat_le c 90 then c + 32 else if nat_le 97 c && nat_le c 122 then c - 32 else c

-- The codes of a set and all that fold with them: characters by the pairs of one simple case
-- folding, bytes by the two cases of ASCII letters.
abbrev pub folded : Bool → CodeSet → CodeSet
folded true p c = p c || list_any (λ (pair : ℕ × ℕ). (pair.1 == c) && p pair.0) fold_pairs
folded false p c = p c || p (other_case c)

abbrev pub folded_if : Bool → Bool → CodeSet → CodeSet
folded_if fold unicode p = if fold then folded unicode p else p

abbrev pub complement_if : Bool → CodeSet → CodeSet
complement_if negated p = if negated then complement p else p

-- An item of a list: it is folded first, and then stands for the other codes if it says so itself.
abbrev pub item : Bool → Bool → Bool → CodeSet → CodeSet
item unicode fold negated p = complement_if negated (folded_if fold unicode p)

-- Folding brings each character with the same simple case folding, and no other.
abbrev pub FoldLaw : Type 0
FoldLaw = (p : CodeSet) (c : ℕ) → IsTrue (folded true p c) ↔ ((d : ℕ) × (simple_fold d ≡ simple_fold c) × IsTrue (p d))

-- of characters that fold together, the set has all or none
abbrev pub IsClosed : CodeSet → Type 0
IsClosed p = (c d : ℕ) → simple_fold c ≡ simple_fold d → p c ≡ p d

-- Set operations keep closed what was folded, so to fold their results again changes nothing.
pub record FoldOrderLaw : Type 0 where
  pub of_folded : (p : CodeSet) → IsClosed (folded true p)
  pub of_union : (p q : CodeSet) → IsClosed p → IsClosed q → IsClosed (union p q)
  pub of_intersection : (p q : CodeSet) → IsClosed p → IsClosed q → IsClosed (intersection p q)
  pub of_difference : (p q : CodeSet) → IsClosed p → IsClosed q → IsClosed (difference p q)
  pub of_symmetric_difference : (p q : CodeSet) → IsClosed p → IsClosed q → IsClosed (symmetric_difference p q)
  pub of_complement : (p : CodeSet) → IsClosed p → IsClosed (complement p)
  pub again : (p : CodeSet) (c : ℕ) → IsClosed p → folded true p c ≡ p c
