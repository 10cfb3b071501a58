-- Entries that depend on where the text ends.
use Rattle.std.proofs.Common.{◌≡◌, ℕ, zero, suc, ◌+◌, Bool, false, ◌||◌, List, [], ◌∷◌, Option, drop, sym, ap, subst, arith}
use Rattle.std.specs.List.{list_any, slice_get}
use Rattle.std.specs.Prelude.{MatchOption}
use Rattle.live_matches.specs.Entry.{Entry}
use Rattle.live_matches.specs.Entries.{Gapped, all_of, is_open}

-- a test of the one at k, and of those after it
rest_at : {X : Type 0} (p : X → Bool) (xs : List X) (k : ℕ) (b : Bool) →
    MatchOption (slice_get xs k) (b ≡ false) (λ x. b ≡ p x) → list_any p (drop k xs) ≡ (b || list_any p (drop (suc k) xs))
rest_at p [] zero b is = sym (ap (λ c. c || false) is)
rest_at p [] (suc k) b is = sym (ap (λ c. c || false) is)
rest_at p (x ∷ xs) zero b is = ap (λ c. c || list_any p xs) (sym is)
rest_at p (x ∷ xs) (suc k) b is = rest_at p xs k b is

pub open_at : (g : Gapped) (k n : ℕ) (o : Option Entry) (b : Bool) → n ≡ g.len → o ≡ slice_get (all_of g) k →
    MatchOption o (b ≡ false) (λ e. b ≡ is_open n e) →
    list_any (is_open g.len) (drop k (all_of g)) ≡ (b || list_any (is_open g.len) (drop (k + 1) (all_of g)))
open_at g k n o b len got is =
    let at = subst (λ r. MatchOption r (b ≡ false) (λ e. b ≡ is_open n e)) got is in
    let told = subst (λ m. MatchOption (slice_get (all_of g) k) (b ≡ false) (λ e. b ≡ is_open m e)) len at in
    let next : suc k ≡ k + 1 = omega arith in
    subst (λ i. list_any (is_open g.len) (drop k (all_of g)) ≡ (b || list_any (is_open g.len) (drop i (all_of g)))) next
    (rest_at (is_open g.len) (all_of g) k b told)
