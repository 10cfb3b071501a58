-- The pairs that were entered at a position.
use Rattle.std.proofs.Common.{◌≡◌, ℕ, ◌⊎◌, List, [], ◌∷◌, ◌++◌, map, reverse, inl, inr, ⊎_elim, sym, ap, ◌∙◌}
use Rattle.std.proofs.lemmas.List.{reverse-append}
use Rattle.rc_walks.specs.Walks.{Pair, IsIn}
use Rattle.rc_pikevm.specs.Sparse.{Has}
use Rattle.rc_pikevm.specs.Passing.{pairs}
use Rattle.rc_pikevm.specs.declared.growth.Frame.{Frame}
use Rattle.rc_pikevm.specs.declared.growth.Frame.TheVariants.{Explore}

pub reverse-first : {X : Type 0} (x : X) (xs : List X) → reverse (x ∷ xs) ≡ reverse xs ++ x ∷ []
reverse-first x xs = reverse-append (x ∷ []) xs

pub reverse-push : {X : Type 0} (xs : List X) (x : X) → reverse (xs ++ x ∷ []) ≡ x ∷ reverse xs
reverse-push xs x = reverse-append xs (x ∷ [])

has_parts : (xs ys : List ℕ) (p : ℕ) → Has (xs ++ ys) p → Has xs p ⊎ Has ys p
has_parts [] ys p h = inr h
has_parts (x ∷ xs) ys p h = ⊎_elim (λ e. inl (inl e)) (λ q. ⊎_elim (λ a. inl (inr a)) (λ b. inr b) (has_parts xs ys p q)) h

has_left : (xs ys : List ℕ) (p : ℕ) → Has xs p → Has (xs ++ ys) p
has_left [] ys p h = absurd h
has_left (x ∷ xs) ys p h = ⊎_elim (λ e. inl e) (λ q. inr (has_left xs ys p q)) h

has_right : (xs ys : List ℕ) (p : ℕ) → Has ys p → Has (xs ++ ys) p
has_right [] ys p h = h
has_right (x ∷ xs) ys p h = inr (has_right xs ys p h)

has_reverse : (xs : List ℕ) (p : ℕ) → Has xs p → Has (reverse xs) p
has_reverse [] p h = h
has_reverse (x ∷ xs) p h =
    rw (reverse-first x xs) (⊎_elim (λ e. has_right (reverse xs) (x ∷ []) p (inl e)) (λ q. has_left (reverse xs) (x ∷ []) p (has_reverse xs p q)) h)

has_from_reverse : (xs : List ℕ) (p : ℕ) → Has (reverse xs) p → Has xs p
has_from_reverse [] p h = h
has_from_reverse (x ∷ xs) p h =
    ⊎_elim (λ q. inr (has_from_reverse xs p q)) (λ q. ⊎_elim (λ e. inl e) (λ never. absurd never) q)
    (has_parts (reverse xs) (x ∷ []) p (rw (reverse-first x xs) at h))

in_map : (at p : ℕ) (xs : List ℕ) → Has xs p → IsIn (p, at) (map (λ q. (q, at)) xs)
in_map at p [] h = absurd h
in_map at p (x ∷ xs) h = ⊎_elim (λ e. inl (ap (λ q. (q, at)) e)) (λ r. inr (in_map at p xs r)) h

has_from_map : (at p : ℕ) (xs : List ℕ) → IsIn (p, at) (map (λ q. (q, at)) xs) → Has xs p
has_from_map at p [] h = absurd h
has_from_map at p (x ∷ xs) h = ⊎_elim (λ e. inl (ap (λ (n : Pair). n.0) e)) (λ r. inr (has_from_map at p xs r)) h

all_at_map : (at : ℕ) (k : Pair) (xs : List ℕ) → IsIn k (map (λ q. (q, at)) xs) → k.1 ≡ at
all_at_map at k [] h = absurd h
all_at_map at k (x ∷ xs) h = ⊎_elim (λ e. ap (λ (n : Pair). n.1) (sym e)) (λ r. all_at_map at k xs r) h

pub has_pairs : (at p : ℕ) (items : List ℕ) → Has items p → IsIn (p, at) (pairs at items)
has_pairs at p items h = in_map at p (reverse items) (has_reverse items p h)

pub pairs_has : (at p : ℕ) (items : List ℕ) → IsIn (p, at) (pairs at items) → Has items p
pairs_has at p items h = has_from_reverse items p (has_from_map at p (reverse items) h)

pub pairs_at : (at : ℕ) (items : List ℕ) (k : Pair) → IsIn k (pairs at items) → k.1 ≡ at
pairs_at at items k h = all_at_map at k (reverse items) h

pub pairs_push : (at p : ℕ) (items : List ℕ) → pairs at (items ++ p ∷ []) ≡ (p, at) ∷ pairs at items
pairs_push at p items = ap (map (λ q. (q, at))) (reverse-push items p)

-- the frame on top of the stack
pub popped : (items rest : List Frame) (frame : Frame) (place : ℕ) → items ≡ rest ++ frame ∷ [] → frame ≡ Explore place →
    reverse items ≡ Explore place ∷ reverse rest
popped items rest frame place e is = ap reverse e ∙ reverse-push rest frame ∙ ap (λ f. f ∷ reverse rest) is
