-- Only proofs use this file.
-- Ranges that stand in the order of where they begin, joined in one pass.
use Rattle.std.specs.Prelude.{Bool, nat_lt, List, [], ◌∷◌, if◌then◌else◌, max}
use Rattle.rc_pattern.specs.Re.{Range}
use Rattle.rc_tokens.specs.Classes.{next}

-- a range, and ranges that begin no earlier
abbrev pub merges : Bool → Range → List Range → List Range
merges unicode r [] = r ∷ []
merges unicode r (q ∷ qs) = if nat_lt (next unicode r.1) q.0 then r ∷ merges unicode q qs else merges unicode (r.0, max r.1 q.1) qs

abbrev pub merged : Bool → List Range → List Range
merged unicode [] = []
merged unicode (r ∷ rs) = merges unicode r rs
