-- Only proofs use this file.
-- What stands after a `$`.
use Rattle.std.specs.Prelude.{◌≡◌, ℕ, List, [], ◌∷◌, ◌++◌}
use Rattle.chunk_replace.specs.Template.{Item, IsMarked, IsReference}

-- The word stands for the one item.
pub record Refers (word : List ℕ) (items : List Item) : Type 0 where
  pub item : Item
  pub one : items ≡ item ∷ []
  pub refers : IsReference item word

abbrev pub IsNoReference : List ℕ → Type 0
IsNoReference word = (i : Item) → ¬ IsReference i word

-- The text begins with the mark of the one item.
pub record Marks (text : List ℕ) (items : List Item) (rest : List ℕ) : Type 0 where
  pub item : Item
  pub one : items ≡ item ∷ []
  pub mark : List ℕ
  pub marked : IsMarked item mark
  pub split : text ≡ mark ++ rest

abbrev pub IsUnmarked : List ℕ → Type 0
IsUnmarked text = (i : Item) (mark rest : List ℕ) → IsMarked i mark → ¬ (text ≡ mark ++ rest)
