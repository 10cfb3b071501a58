-- Counts of a repetition: `{n}`, `{n,}`, `{n,m}` and, where it is set, `{,n}`.
use Rattle.std.specs.Prelude.{◌≡◌, ◌≤◌, ℕ, Bool, true, ◌∷◌, ◌++◌, Option, Some, None}
use Rattle.unicode.specs.Binary.{is_white_space}
use Rattle.rc_tokens.specs.Text.{Characters, each}
use Rattle.rc_tokens.specs.Marks.{count}

abbrev pub is_blank : Characters → Bool
is_blank = each is_white_space

-- the text is a number, with white space around it or without
pub record IsNumber (t : Characters) (n : ℕ) : Type 0 where
  pub front : Characters
  pub digits : Characters
  pub behind : Characters
  pub written : t ≡ front ++ (digits ++ behind)
  pub blank_front : is_blank front ≡ true
  pub value : count digits ≡ Some n
  pub blank_behind : is_blank behind ≡ true

-- behind `{`: the least number of times, the greatest (`None` without bound), and the rest behind `}`
pub data IsCount (empty_min : Bool) : Characters → ℕ → Option ℕ → Characters → Type 0 where
  exactly : (a u : Characters) (n : ℕ) → IsNumber a n → IsCount empty_min (a ++ 125 ∷ u) n (Some n) u
  from : (a u : Characters) (n : ℕ) → IsNumber a n → IsCount empty_min (a ++ 44 ∷ 125 ∷ u) n None u
  between : (a b u : Characters) (n m : ℕ) → IsNumber a n → IsNumber b m → n ≤ m →
      IsCount empty_min (a ++ 44 ∷ (b ++ 125 ∷ u)) n (Some m) u
  up_to : (a b u : Characters) (m : ℕ) → empty_min ≡ true → is_blank a ≡ true → IsNumber b m →
      IsCount empty_min (a ++ 44 ∷ (b ++ 125 ∷ u)) 0 (Some m) u
