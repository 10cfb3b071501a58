-- What holds of all templates.
use Rattle.std.specs.Prelude.{◌≡◌, ℕ, List}
use Rattle.chunk_replace.specs.Template.{IsReadAs, IsRefusedAt, Item}

-- A text is read in one way, or is refused at one place.
pub record TemplateLaw : Type 0 where
  pub alone : (text : List ℕ) (xs ys : List Item) → IsReadAs xs text → IsReadAs ys text → xs ≡ ys
  pub refused : (text : List ℕ) (at : ℕ) (xs : List Item) → IsRefusedAt text at → ¬ IsReadAs xs text
  pub place : (text : List ℕ) (i j : ℕ) → IsRefusedAt text i → IsRefusedAt text j → i ≡ j
