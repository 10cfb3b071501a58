-- Only proofs use this file.
-- One-pass programs: from a place, at most one way leads on over a byte.
use Rattle.std.specs.Prelude.{◌≡◌, ℕ, ◌<◌, true, List, [], ◌∷◌}
use Rattle.std.specs.List.{Contains}
use Rattle.rc_program.specs.Program.{Place, slot, accept, reads, place_at, ways_out}
use Rattle.rc_program.specs.Heads.{silent}

-- The slots that were named, once the place is left: the last first.
abbrev pub named : Place → List ℕ → List ℕ
named (slot k n) ks = k ∷ ks
named q ks = ks

-- An epsilon path leads from q, where the slots ks were named, to m, where the slots js were,
-- whatever assertions say.
pub data Leads (places : List Place) : List ℕ → ℕ → List ℕ → ℕ → Type 0 where
  here : {ks : List ℕ} {q : ℕ} → Leads places ks q ks q
  on : {ks js : List ℕ} {q m : ℕ} (n : ℕ) → Contains (silent (place_at places q)) n → Leads places (named (place_at places q) ks) n js m →
      Leads places ks q js m

-- The place reads the byte, an ASCII one, and leads to n.
abbrev pub Takes : Place → ℕ → ℕ → Type 0
Takes q b n = Contains (ways_out (λ l. true) (b ∷ []) q) (reads 1 n)

-- The place q is entered first, or after a byte.
pub data IsEntered (places : List Place) : ℕ → Type 0 where
  at_first : IsEntered places 0
  by_byte : {q : ℕ} (m b : ℕ) → Takes (place_at places m) b q → IsEntered places q

-- Over an ASCII byte, and to a match place, at most one way leads from q, whatever assertions say.
pub record IsOnePass (places : List Place) (q : ℕ) : Type 0 where
  pub over : (b : ℕ) → b < 128 → (js ks : List ℕ) (l m i n : ℕ) → Leads places [] q js l → Takes (place_at places l) b i →
      Leads places [] q ks m → Takes (place_at places m) b n → (js ≡ ks) × (i ≡ n)
  pub ends : (js ks : List ℕ) (l m p r : ℕ) → Leads places [] q js l → place_at places l ≡ accept p →
      Leads places [] q ks m → place_at places m ≡ accept r → js ≡ ks
