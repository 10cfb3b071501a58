-- A set of assertions.
use Rattle.std.specs.Prelude.{◌≡◌, Bool, List, [], ◌∷◌, map, nat_eq}
use Rattle.std.specs.Int.{bit_at}
use Rattle.std.specs.List.{filter, list_any, range_with_len}
use Rattle.rc_pattern.specs.Properties.{look_number, same_look}
use Rattle.rc_pattern.specs.declared.hir.Look.{Look}
use Rattle.rc_pattern.specs.declared.hir.Look.TheVariants.{Start, End, StartLF, EndLF, StartCRLF, EndCRLF, WordAscii, WordAsciiNegate, WordUnicode, WordUnicodeNegate, WordStartAscii, WordEndAscii, WordStartUnicode, WordEndUnicode, WordStartHalfAscii, WordEndHalfAscii, WordStartHalfUnicode, WordEndHalfUnicode}
use Rattle.rc_pattern.specs.declared.hir.look_set.LookSet.{LookSet}
use Rattle.rc_pattern.specs.declared.hir.look_set.LookSetIter.{LookSetIter}

-- the set has the assertion
abbrev pub has : LookSet → Look → Bool
has s k = nat_eq (bit_at s.bits (look_number k)) 1

-- the set has the assertions that pass the test, and no other
abbrev pub HasOnly : LookSet → (Look → Bool) → Type 0
HasOnly s test = (k : Look) → has s k ≡ test k

-- all assertions, in the order of their numbers
abbrev pub all_looks : List Look
all_looks =
    Start ∷ End ∷ StartLF ∷ EndLF ∷ StartCRLF ∷ EndCRLF ∷ WordAscii ∷ WordAsciiNegate ∷ WordUnicode ∷ WordUnicodeNegate ∷
    WordStartAscii ∷ WordEndAscii ∷ WordStartUnicode ∷ WordEndUnicode ∷
    WordStartHalfAscii ∷ WordEndHalfAscii ∷ WordStartHalfUnicode ∷ WordEndHalfUnicode ∷ []

-- the assertions of the set, in that order
abbrev pub looks_of : LookSet → List Look
looks_of s = filter (has s) all_looks

-- those that an iterator has left
abbrev pub looks_left : LookSetIter → List Look
looks_left i = filter (has i.set) i.left.now

pub record LookSetLaw : Type 0 where
  -- a set is its assertions
  pub same : (a b : LookSet) → ((k : Look) → has a k ≡ has b k) → a ≡ b
  -- an assertion stands in its list exactly where the set has it
  pub listed : (s : LookSet) (k : Look) → list_any (same_look k) (looks_of s) ≡ has s k
  -- all assertions are these, each once, by their numbers
  pub in_order : map look_number all_looks ≡ range_with_len 0 18
