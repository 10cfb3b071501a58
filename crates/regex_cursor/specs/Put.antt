-- What was put into a writer.
use Rattle.std.specs.Prelude.{◌≡◌, ℕ, List, ◌++◌, Option, Result, MatchResult}
use Rattle.std.specs.Io.KnownBytes.{Appends}

-- The known bytes of a writer grew by a beginning of these bytes.
pub record AppendsBeginning (old new : Option (List ℕ)) (bytes : List ℕ) : Type 0 where
  pub done : List ℕ
  pub rest : List ℕ
  pub split : bytes ≡ done ++ rest
  pub appended : Appends old new done

-- They grew by these bytes; after an error, by a beginning of them.
abbrev pub Puts : {T E : Type 0} → Result T E → Option (List ℕ) → Option (List ℕ) → List ℕ → Type 0
Puts r old new bytes = MatchResult r (λ _. Appends old new bytes) (λ _. AppendsBeginning old new bytes)
