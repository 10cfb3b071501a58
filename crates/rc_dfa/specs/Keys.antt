-- Only proofs use this file.
-- State interning: the keys by which states are looked up.
use Rattle.std.specs.Prelude.{◌≡◌, ℕ, ◌+◌, ◌*◌, Bool, is_some, List, ◌∷◌, Option, Some, None, slice_get, map, Vec, if◌then◌else◌}
use Rattle.std.specs.Global.{Global}
use Rattle.std.specs.Option.{unwrap_or}
use Rattle.std.specs.Ordering.{nat_cmp}
use Rattle.std.specs.Cmp.Lexicographic.{slice_cmp}
use Rattle.std.specs.BTreeMap.{BTreeMap, get_by}
use Rattle.rc_determinize.specs.States.{State}

-- The number with one more binary digit.
abbrev pub with_bit : Bool → ℕ → ℕ
with_bit bit rest = if bit then 2 * rest + 1 else 2 * rest

-- All booleans of a state, as a number.
unfoldable pub facts_of : State → ℕ
facts_of s =
    with_bit s.beside.edge (with_bit s.beside.terminator (with_bit s.beside.word
    (with_bit s.beside.line_feed (with_bit s.beside.carriage_return (with_bit s.beside.letter (with_bit s.beside.broken
    (with_bit s.goes_on (with_bit (is_some s.matched) 0))))))))

-- A list of numbers that no other state has.
abbrev pub key_of : State → List ℕ
key_of s = facts_of s ∷ unwrap_or s.matched 0 ∷ s.list

abbrev pub Numbers : Type 0
Numbers = BTreeMap (Vec ℕ Global) ℕ

-- The number that the key has.
abbrev pub number_of : Numbers → List ℕ → Option ℕ
number_of numbers key = get_by (λ k. slice_cmp nat_cmp key k.items) numbers

-- The state isn't there.
abbrev pub IsAbsent : List State → State → Type 0
IsAbsent states s = (id : ℕ) → slice_get states id ≡ Some s → ⊥

-- The result is the state's number, or the state isn't there.
abbrev pub IsFound : List State → State → Option ℕ → Type 0
IsFound states s None = IsAbsent states s
IsFound states s (Some id) = slice_get states id ≡ Some s

-- Each state has its index as its number, and no other key has one.
pub record AreNumbered (states : List State) (numbers : Numbers) : Type 0 where
  pub found : (key : Vec ℕ Global) (id : ℕ) → number_of numbers key.items ≡ Some id → slice_get (map key_of states) id ≡ Some key.items
  pub kept : (key : Vec ℕ Global) (id : ℕ) → slice_get (map key_of states) id ≡ Some key.items → number_of numbers key.items ≡ Some id
