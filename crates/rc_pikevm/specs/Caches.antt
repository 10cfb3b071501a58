-- Caches: what callers see of one.
use Rattle.std.specs.Prelude.{◌≡◌, ℕ, ◌+◌, ◌*◌, ◌<◌, ◌≤◌, List, [], ◌∷◌, length, refl}
use Rattle.std.specs.Coded.{Coded, code_by, coded×, coded_ℕ, coded_list}
use Rattle.rc_program.specs.Program.{Place}
use Rattle.rc_pikevm.specs.Readers.{reader_count}

pub record Made : Type 0 where
  -- How many places programs have for which it is made.
  pub places : ℕ
  -- How many threads there is room for at each of two positions.
  pub threads : ℕ
  -- How many columns the rows of slots have at most for which it is made.
  pub columns : ℕ
  -- How many places the last pass of the last search entered.
  pub insertions : ℕ
  -- How many elements each of its lists has room for.
  pub room : List ℕ

abbrev pub made_code : Coded Made
made_code =
    code_by (ℕ × (ℕ × (ℕ × (ℕ × List ℕ)))) (coded× coded_ℕ (coded× coded_ℕ (coded× coded_ℕ (coded× coded_ℕ (coded_list coded_ℕ)))))
    (λ m. (m.places, (m.threads, (m.columns, (m.insertions, m.room)))))
    (λ p. record { places = p.0; threads = p.1.0; columns = p.1.1.0; insertions = p.1.1.1.0; room = p.1.1.1.1 }) (λ _. refl)

-- The room that it takes: of the threads of two positions and of their slots; of the places entered
-- and of their indexes; of the closure's stack; and of two rows of slots.
abbrev pub room_for : ℕ → ℕ → ℕ → List ℕ
room_for places threads columns =
    threads ∷ (threads * columns) ∷ threads ∷ (threads * columns) ∷ places ∷ places ∷ (places + 1) ∷ columns ∷ columns ∷ []

-- The cache is made for programs of as many places as this one has, of which no more read, and for
-- rows of so many columns or more.
abbrev pub IsCacheFor : List Place → ℕ → Made → Type 0
IsCacheFor places columns cache = (cache.places ≡ length places) × (reader_count places < cache.threads) × (columns ≤ cache.columns)
