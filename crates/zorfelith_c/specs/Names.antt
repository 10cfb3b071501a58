-- What a status tells of patterns and groups: 0, it was written; 5, there is none; 6, the name is longer than its place; 7, the name isn't
-- UTF-8. No other comes where the handle is full, and each comes exactly if that is so.
use Rattle.std.specs.Prelude.{◌≡◌, ℕ, zero, suc, ◌<◌, ◌≤◌, ◌⊎◌, List, IsUtf8, length, take, Some, None}
use Rattle.rc_text.specs.Limits.{greatest_pattern}
use Rattle.rc_captures.specs.Names.{group_len, to_index, to_name}
use Rattle.api_meta.specs.Views.{regex_names}
use Rattle.api_meta.specs.declared.regex.Regex.{Regex}

-- no pattern can have this number
abbrev pub IsPast : ℕ → Type 0
IsPast pattern = greatest_pattern < pattern

-- a pattern can have it
abbrev pub IsNumber : ℕ → Type 0
IsNumber pattern = pattern ≤ greatest_pattern

-- what a status means: `done` of 0, `absent` of 5, `short` of 6, and `broken` of 7
abbrev pub TellsAs : (done absent short broken : Type 0) → ℕ → Type 0
TellsAs done absent short broken zero = done
TellsAs done absent short broken (suc zero) = ⊥
TellsAs done absent short broken (suc (suc zero)) = ⊥
TellsAs done absent short broken (suc (suc (suc zero))) = ⊥
TellsAs done absent short broken (suc (suc (suc (suc zero)))) = ⊥
TellsAs done absent short broken (suc (suc (suc (suc (suc zero))))) = absent
TellsAs done absent short broken (suc (suc (suc (suc (suc (suc zero)))))) = short
TellsAs done absent short broken (suc (suc (suc (suc (suc (suc (suc zero))))))) = broken
TellsAs done absent short broken (suc (suc (suc (suc (suc (suc (suc (suc n)))))))) = ⊥

-- how many groups a pattern has, the whole match among them
abbrev pub TellsCount : Regex → ℕ → ℕ → ℕ → Type 0
TellsCount r pattern status count = TellsAs (IsNumber pattern × (count ≡ group_len (regex_names r) pattern)) (IsPast pattern) ⊥ ⊥ status

-- the name stands in the first bytes of its place
pub record IsWritten (r : Regex) (pattern group : ℕ) (name : List ℕ) (len : ℕ) : Type 0 where
  pub numbered : IsNumber pattern
  pub named : to_name (regex_names r) pattern group ≡ Some (take len name)
  pub fits : len ≤ length name

-- the name is longer than its place
pub record IsCut (r : Regex) (pattern group : ℕ) (name : List ℕ) (len : ℕ) : Type 0 where
  pub numbered : IsNumber pattern
  pub text : List ℕ
  pub named : to_name (regex_names r) pattern group ≡ Some text
  pub needed : len ≡ length text
  pub longer : length name < len

-- the name of a group
abbrev pub TellsName : Regex → ℕ → ℕ → ℕ → List ℕ → ℕ → Type 0
TellsName r pattern group status name len =
    TellsAs (IsWritten r pattern group name len) (IsPast pattern ⊎ (to_name (regex_names r) pattern group ≡ None))
    (IsCut r pattern group name len) ⊥ status

-- the number of the first group of a name
abbrev pub TellsNumber : Regex → ℕ → List ℕ → ℕ → ℕ → Type 0
TellsNumber r pattern name status number =
    TellsAs (IsNumber pattern × IsUtf8 name × (to_index (regex_names r) pattern name ≡ Some number))
    (IsPast pattern ⊎ (IsUtf8 name × (to_index (regex_names r) pattern name ≡ None))) ⊥ (IsNumber pattern × ¬ IsUtf8 name) status
