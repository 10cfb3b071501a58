-- A page that is read.
use Rattle.std.proofs.Common.{◌≡◌, ◌∙◌, ℕ, List, [], ◌++◌, ap, append-nil, arith, drop, drop_of_length-le, length, take, take_all}

-- a page once it was read into is what was read into
pub page_is : (n : ℕ) (new old : List ℕ) → length new ≡ length old → n ≡ length old → take n (new ++ drop (length new) old) ≡ new
page_is n new old long full =
    let past : drop (length new) old ≡ [] = drop_of_length-le old (omega arith) in
    ap (λ l. take n (new ++ l)) past ∙ ap (take n) (append-nil new) ∙ take_all n new (omega arith)
