-- A ring of entries: the first n are those after the gap, and behind them are those before it.
use Rattle.std.proofs.Common.{◌≡◌, ℕ, zero, suc, ◌≤◌, List, [], ◌∷◌, ◌++◌, length, take, drop, sym, ap, ap₂, ◌∙◌, refl, arith}
use Rattle.std.proofs.lemmas.List.{drop_at, length-take-le, take_at}
use Rattle.live_matches.specs.Entry.{Entry}
use Rattle.live_matches.specs.declared.sides.Kept.{Kept}
use Rattle.live_matches.specs.Entries.{TwoSides, entries_of}

-- what the ring has on both sides
abbrev pub sides : ℕ → List Kept → TwoSides
sides n xs = record { before = drop n xs; after = entries_of (take n xs) }

-- a ring that has none after the gap
none_after : (n : ℕ) (xs : List Kept) → entries_of (take n xs) ≡ [] → drop n xs ≡ xs
none_after zero xs e = refl
none_after (suc n) [] e = refl
none_after (suc n) (x ∷ xs) e = let h = ap length e in absurd (omega (arith, h))

-- those after the gap of one ring, and behind them another ring
joined : (n : ℕ) (ns xs : List Kept) → n ≤ length ns →
    sides n (take n ns ++ xs) ≡ record { before = xs; after = entries_of (take n ns) }
joined n ns xs h =
    let l = length-take-le n ns h in
    ap₂ (λ (b a : List Kept). record { before = b; after = entries_of a }) (drop_at (take n ns) xs n l) (take_at (take n ns) xs n l)

-- so a list gets what another has after its gap
pub taken : (n m : ℕ) (ns xs ys : List Kept) (was next : TwoSides) → ys ≡ take n ns ++ xs → n ≤ length ns →
    sides m xs ≡ record { before = was.before; after = [] } → sides n ns ≡ next → sides n ys ≡ record { before = was.before; after = next.after }
taken n m ns xs ys was next items within left right =
    let all : xs ≡ was.before = sym (none_after m xs (ap (λ (s : TwoSides). s.after) left)) ∙ ap (λ (s : TwoSides). s.before) left in
    ap (sides n) items ∙ joined n ns xs within
    ∙ ap₂ (λ (b : List Kept) (a : List Entry). record { before = b; after = a }) all (ap (λ (s : TwoSides). s.after) right)
