-- Sets of patterns as lists of marks.
use Rattle.std.proofs.Common.{◌≡◌, ℕ, zero, suc, ◌+◌, ◌<◌, ◌≤◌, ◌⊎◌, Bool, true, false, true≢false, List, [], ◌∷◌, length, set, replicate, slice_get, Some, ap, sym, refl, arith, inl, inr}
use Rattle.std.proofs.lemmas.Option.{none-some, same_Some}
use Rattle.rc_pattern_set.specs.Sets.{Has, members_from}

pub no_members : (n k : ℕ) → length (members_from n (replicate k false)) ≡ 0
no_members n zero = refl
no_members n (suc k) = no_members (n + 1) k

pub none_in : (k p : ℕ) → ¬ Has (replicate k false) p
none_in zero p h = none-some true h
none_in (suc k) zero h = true≢false (sym (same_Some false true h))
none_in (suc k) (suc p) h = none_in k p h

pub few_members : (n : ℕ) (marks : List Bool) → length (members_from n marks) ≤ length marks
few_members n [] = omega arith
few_members n (true ∷ marks) = let h = few_members (n + 1) marks in omega (arith, h)
few_members n (false ∷ marks) = let h = few_members (n + 1) marks in omega (arith, h)

-- there is room for one that is no member
pub fewer_members : (n : ℕ) (marks : List Bool) (i : ℕ) → slice_get marks i ≡ Some false → length (members_from n marks) < length marks
fewer_members n [] i h = absurd (none-some false h)
fewer_members n (true ∷ marks) zero h = absurd (true≢false (same_Some true false h))
fewer_members n (false ∷ marks) zero h = let f = few_members (n + 1) marks in omega (arith, f)
fewer_members n (true ∷ marks) (suc i) h = let f = fewer_members (n + 1) marks i h in omega (arith, f)
fewer_members n (false ∷ marks) (suc i) h = let f = fewer_members (n + 1) marks i h in omega (arith, f)

pub one_more : (n : ℕ) (marks : List Bool) (i : ℕ) → slice_get marks i ≡ Some false →
    length (members_from n (set marks i true)) ≡ length (members_from n marks) + 1
one_more n [] i h = absurd (none-some false h)
one_more n (true ∷ marks) zero h = absurd (true≢false (same_Some true false h))
one_more n (false ∷ marks) zero h = omega arith
one_more n (true ∷ marks) (suc i) h = let e = one_more (n + 1) marks i h in omega (arith, e)
one_more n (false ∷ marks) (suc i) h = one_more (n + 1) marks i h

-- a member of the set with the pattern i
pub has_set : (marks : List Bool) (i p : ℕ) → Has (set marks i true) p → (p ≡ i) ⊎ Has marks p
has_set [] i p h = inr h
has_set (m ∷ marks) zero zero h = inl refl
has_set (m ∷ marks) zero (suc p) h = inr h
has_set (m ∷ marks) (suc i) zero h = inr h
has_set (m ∷ marks) (suc i) (suc p) h = more (has_set marks i p h)
  where
    more : (p ≡ i) ⊎ Has marks p → (suc p ≡ suc i) ⊎ Has marks p
    more (inl e) = inl (ap suc e)
    more (inr k) = inr k

pub set_has : (marks : List Bool) (i : ℕ) → i < length marks → Has (set marks i true) i
set_has [] i h = absurd (omega (arith, h))
set_has (m ∷ marks) zero h = refl
set_has (m ∷ marks) (suc i) h = set_has marks i (omega (arith, h))

pub set_keeps : (marks : List Bool) (i p : ℕ) → Has marks p → Has (set marks i true) p
set_keeps [] i p h = h
set_keeps (m ∷ marks) zero zero h = refl
set_keeps (m ∷ marks) zero (suc p) h = h
set_keeps (m ∷ marks) (suc i) zero h = h
set_keeps (m ∷ marks) (suc i) (suc p) h = set_keeps marks i p h

-- where it is beyond the list, or a member already, nothing changes
pub set_beyond : (marks : List Bool) (i : ℕ) → length marks ≤ i → set marks i true ≡ marks
set_beyond [] i h = refl
set_beyond (m ∷ marks) zero h = absurd (omega (arith, h))
set_beyond (m ∷ marks) (suc i) h = ap (λ ms. m ∷ ms) (set_beyond marks i (omega (arith, h)))

pub set_member : (marks : List Bool) (i : ℕ) → Has marks i → set marks i true ≡ marks
set_member [] i h = refl
set_member (m ∷ marks) zero h = ap (λ b. b ∷ marks) (sym (same_Some m true h))
set_member (m ∷ marks) (suc i) h = ap (λ ms. m ∷ ms) (set_member marks i h)
