-- A pattern that isn't well-formed.
use Rattle.std.proofs.Common.{◌≡◌, ℕ, ◌<◌, List, map, length, get_or, sym}
use Rattle.std.specs.Prelude.{All}
use Rattle.std.proofs.lemmas.List.{get_or-map, length-map}
use Rattle.std.proofs.lemmas.List.Elements.{All-get_or}
use Rattle.rc_pattern.specs.Meaning.{meaning}
use Rattle.rc_pattern.specs.WellFormed.{IsWellFormed}
use Rattle.rc_pattern.specs.declared.hir.Hir.{Hir}

-- the patterns of which one isn't well-formed aren't all so
pub one_unsound : (xs : List Hir) (i : ℕ) (x : Hir) → i < length xs → x ≡ get_or xs i x → ¬ IsWellFormed (meaning x) → ¬ All IsWellFormed (map meaning xs)
one_unsound xs i x inside is bad all =
    bad (rw (sym is) at (rw (get_or-map meaning xs i x (meaning x) inside) at
    (All-get_or IsWellFormed (map meaning xs) i (meaning x) (rw (length-map xs meaning) inside) all)))
