-- Regexes that find and replace the same.
use Rattle.std.specs.Prelude.{◌≡◌, ℕ, List, length}
use Rattle.api_meta.specs.declared.regex.Regex.{Regex}
use Rattle.chunk_replace.specs.Replaced.{matches_of, replaced_by}
use Rattle.chunk_replace.specs.Template.{Item}

-- Two regexes find and replace the same in each text.
abbrev pub ReplaceAlike : Regex → Regex → Type 0
ReplaceAlike r s = (items : List Item) (text : List ℕ) →
    (replaced_by r items text ≡ replaced_by s items text) × (length (matches_of r text) ≡ length (matches_of s text))
