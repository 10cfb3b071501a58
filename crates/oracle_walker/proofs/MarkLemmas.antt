-- The marks of the places on the stack.
use Rattle.std.proofs.Common.{◌≡◌, ◌≢◌, ℕ, ◌<◌, ◌≤◌, List, [], ◌∷◌, ◌++◌, reverse, length, map, inl, inr, sym, ap, ap₂, ◌∙◌, subst, arith, Option, Some, None, ⊎_elim, slice_index_or, slice_set, replicate}
use Rattle.std.proofs.lemmas.Bool.{cases_eq, cases_lt}
use Rattle.std.proofs.lemmas.List.{length-set, length-replicate, get_or_past, get_or-replicate, get_or-set_same, get_or-set_other, set-get_or, set-set}
use Rattle.std.proofs.lemmas.Option.{none-some, same_Some}
use Rattle.rc_walks.specs.Walks.{Pair, IsIn}
use Rattle.oracle_walker.specs.Frames.{pair_of, IsMarked, fresh_frame}
use Rattle.oracle_walker.specs.declared.frames.Frame.{Frame}
use Rattle.oracle_walker.proofs.StepLemmas.{AreUpTo, Rise, on_top, later_up_to}

abbrev pub mark_at : List (Option ℕ) → ℕ → Option ℕ
mark_at marks p = slice_index_or marks p None

pub marked_length : (n : ℕ) (marks : List (Option ℕ)) (fs : List Frame) → IsMarked n marks fs → length marks ≡ n
marked_length n marks [] h = ap length h ∙ length-replicate n None
marked_length n marks (f ∷ fs) h =
    sym (length-set marks f.place f.before) ∙ marked_length n (slice_set marks f.place f.before) fs h.2

no_mark : (n p : ℕ) → mark_at (replicate n None) p ≡ None
no_mark n p =
    ⊎_elim
    (λ l. get_or-replicate n p None None l)
    (λ g. let none : Option ℕ = None in
    let long = length-replicate n none in
    get_or_past (replicate n None) p None (omega (arith, g, long)))
    (cases_lt p n)

-- what is marked is on the stack
pub on_stack : (n : ℕ) (marks : List (Option ℕ)) (fs : List Frame) (p q : ℕ) → IsMarked n marks fs → mark_at marks p ≡ Some q →
    IsIn (p, q) (map pair_of fs)
on_stack n marks [] p q h e = absurd (none-some q (sym (no_mark n p) ∙ sym (ap (λ xs. mark_at xs p) h) ∙ e))
on_stack n marks (f ∷ fs) p q h e =
    ⊎_elim
    (λ same. inl (ap₂ (λ x y. (x, y)) same (same_Some f.position q (sym h.1 ∙ ap (mark_at marks) same ∙ e))))
    (λ other. inr (on_stack n (slice_set marks f.place f.before) fs p q h.2
    (get_or-set_other marks f.place p f.before None (λ x. other (sym x)) ∙ e)))
    (cases_eq f.place p)

up_to_in : (at : ℕ) (fs : List Frame) (p q : ℕ) → AreUpTo at fs → IsIn (p, q) (map pair_of fs) → q ≤ at
up_to_in at [] p q a h = absurd h
up_to_in at (f ∷ fs) p q a h =
    ⊎_elim (λ (e : pair_of f ≡ (p, q)). let s : f.position ≡ q = ap (λ (n : Pair). n.1) e in omega (arith, s, a.0)) (λ i. up_to_in at fs p q a.1 i) h

-- a pair on the stack is marked, where no frame stands past its position
pub is_marked : (n : ℕ) (marks : List (Option ℕ)) (fs : List Frame) (low p q : ℕ) → IsMarked n marks fs → Rise low fs → AreUpTo q fs →
    IsIn (p, q) (map pair_of fs) → mark_at marks p ≡ Some q
is_marked n marks [] low p q h r a i = absurd i
is_marked n marks (f ∷ fs) low p q h r a i =
    ⊎_elim
    (λ (e : pair_of f ≡ (p, q)). ap (mark_at marks) (sym (ap (λ (m : Pair). m.0) e)) ∙ h.1 ∙ ap Some (ap (λ (m : Pair). m.1) e))
    (λ j. ⊎_elim
    (λ same. let up = up_to_in f.position fs p q r.1 j in
    let s : f.position ≡ q = omega (arith, up, a.0) in
    ap (mark_at marks) (sym same) ∙ h.1 ∙ ap Some s)
    (λ other. sym (get_or-set_other marks f.place p f.before None (λ x. other (sym x)))
    ∙ is_marked n (slice_set marks f.place f.before) fs low p q h.2 r.2 a.1 j)
    (cases_eq f.place p))
    i

pub enters : (n : ℕ) (marks : List (Option ℕ)) (fs : List Frame) (p q : ℕ) → p < n → IsMarked n marks fs →
    IsMarked n (slice_set marks p (Some q)) (fresh_frame p q (mark_at marks p) ∷ fs)
enters n marks fs p q l h =
    let long = marked_length n marks fs h in (
      l,
      get_or-set_same marks p (Some q) None (omega (arith, l, long)),
      subst (λ xs. IsMarked n xs fs) (sym (set-set marks p (Some q) (mark_at marks p) ∙ set-get_or marks p None)) h,
    )

-- the uppermost frame is the last of the stack
pub top_marked : (n : ℕ) (marks : List (Option ℕ)) (items rest : List Frame) (f : Frame) → items ≡ rest ++ f ∷ [] →
    IsMarked n marks (reverse items) → IsMarked n marks (f ∷ reverse rest)
top_marked n marks items rest f e h = subst (λ fs. IsMarked n marks fs) (on_top items rest f e) h

pub own_marked : (n : ℕ) (marks : List (Option ℕ)) (fs : List Frame) → IsMarked n marks fs → IsMarked (length marks) marks fs
own_marked n marks fs h = subst (λ k. IsMarked k marks fs) (sym (marked_length n marks fs h)) h

-- marks that follow on others are of as many places
pub still_marked : (n : ℕ) (old marks : List (Option ℕ)) (was fs : List Frame) → IsMarked n old was → IsMarked (length old) marks fs →
    IsMarked n marks fs
still_marked n old marks was fs w h = subst (λ k. IsMarked k marks fs) (marked_length n old was w) h

-- a pair whose place has another mark is not on the stack
pub new_on_stack : (n : ℕ) (marks : List (Option ℕ)) (f : Frame) (fs : List Frame) (low p q : ℕ) → IsMarked n marks (f ∷ fs) →
    Rise low (f ∷ fs) → f.position ≤ q → mark_at marks p ≢ Some q → ¬ IsIn (p, q) (map pair_of (f ∷ fs))
new_on_stack n marks f fs low p q h r l e i =
    e (is_marked n marks (f ∷ fs) low p q h r (l, later_up_to f.position q fs l r.1) i)
