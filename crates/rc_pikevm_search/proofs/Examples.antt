-- The needles that are exactly the texts of patterns, run on worked rows.
use Rattle.std.proofs.Common.{◌≡◌, [], ◌∷◌, Some, None, refl, codes}
use Rattle.rc_pattern.specs.Re.{Re, literal, capture}
use Rattle.rc_pattern.specs.Meaning.{alt_all}
use Rattle.rc_literals.specs.Answers.{Owned, own_needles}
use Rattle.rc_literals.specs.Literals.{exact_needles}

abbrev ab : Re
ab = literal (codes "ab")

abbrev bc : Re
bc = literal (codes "bc")

-- `ab`
one_word : exact_needles (ab ∷ []) ≡ Some (record { needles = codes "ab" ∷ []; owners = 0 ∷ [] })
one_word = refl

-- `ab|bc`
members : exact_needles (alt_all (ab ∷ bc ∷ []) ∷ []) ≡ Some (record { needles = codes "ab" ∷ codes "bc" ∷ []; owners = 0 ∷ 0 ∷ [] })
members = refl

-- `(ab)`
no_group : exact_needles (capture 1 None ab ∷ []) ≡ None
no_group = refl

-- the patterns `ab` and `bc`
two_patterns : exact_needles (ab ∷ bc ∷ []) ≡ Some (record { needles = codes "ab" ∷ codes "bc" ∷ []; owners = 0 ∷ 1 ∷ [] })
two_patterns = refl

-- the patterns `bc`, `ab|bc` and `bc`: each keeps the needle that it shares
shared : exact_needles (bc ∷ alt_all (ab ∷ bc ∷ []) ∷ bc ∷ []) ≡
    Some (record { needles = codes "bc" ∷ codes "ab" ∷ codes "bc" ∷ codes "bc" ∷ []; owners = 0 ∷ 1 ∷ 1 ∷ 2 ∷ [] })
shared = refl

-- and those of pattern 1 are its own
own : own_needles 1 (0 ∷ 1 ∷ 1 ∷ 2 ∷ []) (codes "bc" ∷ codes "ab" ∷ codes "bc" ∷ codes "bc" ∷ []) ≡ codes "ab" ∷ codes "bc" ∷ []
own = refl

-- the patterns `ab` and the empty literal
one_empty : exact_needles (ab ∷ literal [] ∷ []) ≡ None
one_empty = refl

no_pattern : exact_needles [] ≡ None
no_pattern = refl

-- the empty literal
no_empty_text : exact_needles (literal [] ∷ []) ≡ None
no_empty_text = refl
