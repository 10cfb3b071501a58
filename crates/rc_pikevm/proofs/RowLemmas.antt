-- Threads over a list of heads and a table of cells.
use Rattle.std.proofs.Common.{◌≡◌, ℕ, zero, suc, ◌+◌, ◌*◌, ◌<◌, ◌≤◌, List, [], ◌∷◌, ◌++◌, length, take, drop, get_or, refl, ◌∙◌, ap, arith, Option, Some, slice_get, drop-drop, length-drop}
use Rattle.std.proofs.lemmas.List.{take-append-le, take_all}
use Rattle.rc_pikevm.specs.declared.threads.BareThread.{BareThread}
use Rattle.rc_pikevm.specs.Threads.{thread_of, threads_of}

pub length-threads_of : (width : ℕ) (heads : List BareThread) (cells : List (Option ℕ)) → length (threads_of width heads cells) ≡ length heads
length-threads_of width [] cells = refl
length-threads_of width (head ∷ heads) cells = ap suc (length-threads_of width heads (drop width cells))

pub slice_get-threads_of : (width : ℕ) (heads : List BareThread) (cells : List (Option ℕ)) (k : ℕ) (d : BareThread) → k < length heads →
    slice_get (threads_of width heads cells) k ≡ Some (thread_of (get_or heads k d) (take width (drop (k * width) cells)))
slice_get-threads_of width [] cells k d h = absurd (omega arith)
slice_get-threads_of width (head ∷ heads) cells zero d h = let e : 0 * width ≡ 0 = omega arith in rw e
slice_get-threads_of width (head ∷ heads) cells (suc k) d h =
    let e : suc k * width ≡ width + k * width = omega arith in
    rw (e, ← drop-drop (k * width) width cells) (slice_get-threads_of width heads (drop width cells) k d (omega arith))

drop_left : (n : ℕ) (xs ys : List (Option ℕ)) → n ≤ length xs → drop n (xs ++ ys) ≡ drop n xs ++ ys
drop_left zero xs ys h = cc
drop_left (suc n) [] ys h = absurd (omega arith)
drop_left (suc n) (x ∷ xs) ys h = drop_left n xs ys (omega arith)

pub threads_of_append : (width : ℕ) (heads : List BareThread) (cells row : List (Option ℕ)) (head : BareThread) →
    length cells ≡ length heads * width → length row ≡ width →
    threads_of width (heads ++ head ∷ []) (cells ++ row) ≡ threads_of width heads cells ++ thread_of head row ∷ []
threads_of_append width [] [] row head len wide = ap (λ r. thread_of head r ∷ []) (take_all width row (omega arith))
threads_of_append width [] (cell ∷ cells) row head len wide = absurd (let z : 0 * width ≡ 0 = omega arith in omega (arith, z, len))
threads_of_append width (first ∷ heads) cells row head len wide =
    let e : suc (length heads) * width ≡ width + length heads * width = omega arith in
    let enough : width ≤ length cells = omega (arith, e, len) in
    rw (take-append-le width cells row enough, drop_left width cells row enough)
    (ap (λ rest. thread_of first (take width cells) ∷ rest)
    (threads_of_append width heads (drop width cells) row head (length-drop width cells ∙ omega (arith, e, len)) wide))
