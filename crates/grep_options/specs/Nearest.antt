-- The option that a word comes nearest to.
use Rattle.std.specs.Prelude.{◌≡◌, ℕ, ◌<◌, ◌≤◌, ◌++◌, ◌∷◌, All, List, Option, None, Some, chars, length, map, nat_eq}
use Rattle.strsim.specs.Edits.{levenshtein_row}
use Rattle.grep_options.specs.declared.table.Entry.{Entry}

-- the long names of the options
abbrev pub names_of : List Entry → List (List ℕ)
names_of table = map (λ e. e.name.now) table

-- how many letters are put in, left out or changed between the two texts
abbrev pub distance : List ℕ → List ℕ → ℕ
distance a b = levenshtein_row nat_eq (chars a) (chars b) (length (chars b))

-- The first of the names with the least distance from the text, which is less than the limit; or no distance is.
abbrev pub IsNearest : (limit : ℕ) → (names : List (List ℕ)) → (text : List ℕ) → Option (List ℕ) → Type 0
IsNearest limit names text None = All (λ n. limit ≤ distance text n) names
IsNearest limit names text (Some near) =
    (before behind : List (List ℕ)) × (names ≡ before ++ near ∷ behind) × (distance text near < limit)
    × All (λ n. distance text near < distance text n) before × All (λ n. distance text near ≤ distance text n) behind
