-- A memo with no marks.
use Rattle.std.proofs.Common.{◌≡◌, ℕ, ◌<◌, None, Some, replicate, sym, subst, ◌∙◌}
use Rattle.std.proofs.lemmas.List.{get_or-replicate, length-replicate}
use Rattle.std.proofs.lemmas.Option.{get_or_from_slice_get, none-some, slice_get_within}
use Rattle.std.specs.List.{slice_get}

pub none_in : {A : Type 0} (n i : ℕ) (k : A) → ¬ (slice_get (replicate n None) i ≡ Some (Some k))
none_in n i k is =
    let within = slice_get_within (replicate n None) i (Some k) is in
    let lt = subst (λ x. i < x) (length-replicate n None) within in
    none-some k (sym (get_or-replicate n i None None lt) ∙ get_or_from_slice_get (replicate n None) i (Some k) None is)
