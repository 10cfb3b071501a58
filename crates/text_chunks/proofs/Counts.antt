-- How many bytes chunks have, and how a pile counts them.
use Rattle.std.proofs.Common.{◌≡◌, ◌∙◌, ◌+◌, ◌<◌, ◌≤◌, ℕ, List, [], ◌∷◌, ◌++◌, ap, arith, get_or, length, length-append, refl, reverse, sym, take, drop}
use Rattle.std.specs.Borrow.{Bor}
use Rattle.std.proofs.lemmas.Grind.{flat_map-append}
use Rattle.std.proofs.lemmas.List.{append-nil, reverse-append, take-append-drop, take-take, take_more}
use Rattle.rc_text.specs.Joined.{joined}

-- the number of bytes of chunks
abbrev pub bytes : List (Bor (List ℕ)) → ℕ
bytes xs = length (joined xs)

pub bytes-append : (xs ys : List (Bor (List ℕ))) → bytes (xs ++ ys) ≡ bytes xs + bytes ys
bytes-append xs ys = ap length (flat_map-append (λ c. c.now) xs ys) ∙ length-append (joined xs) (joined ys)

pub bytes-push : (xs : List (Bor (List ℕ))) (c : Bor (List ℕ)) → bytes (xs ++ c ∷ []) ≡ bytes xs + length c.now
bytes-push xs c = bytes-append xs (c ∷ []) ∙ ap (λ n. bytes xs + n) (ap length (append-nil c.now))

pub bytes-parts : (i : ℕ) (xs : List (Bor (List ℕ))) → bytes xs ≡ bytes (take i xs) + bytes (drop i xs)
bytes-parts i xs = ap bytes (sym (take-append-drop i xs)) ∙ bytes-append (take i xs) (drop i xs)

-- turned over, they have as many
pub bytes-reverse : (xs : List (Bor (List ℕ))) → bytes (reverse xs) ≡ bytes xs
bytes-reverse [] = refl
bytes-reverse (x ∷ xs) =
    let turned : bytes (reverse (x ∷ xs)) ≡ bytes (reverse xs ++ x ∷ []) = ap bytes (reverse-append (x ∷ []) xs) in
    turned ∙ bytes-push (reverse xs) x ∙ omega (arith, bytes-reverse xs, length-append x.now (joined xs))

-- the first chunks have no more bytes than more of them
pub bytes-more : (i j : ℕ) (xs : List (Bor (List ℕ))) → i ≤ j → bytes (take i xs) ≤ bytes (take j xs)
bytes-more i j xs h = omega (arith, bytes-parts i (take j xs), ap bytes (take-take i j xs h))

-- one chunk and those before it have no more bytes than all
pub bytes-item : (i : ℕ) (xs : List (Bor (List ℕ))) (d : Bor (List ℕ)) → i < length xs → bytes (take i xs) + length (get_or xs i d).now ≤ bytes xs
bytes-item i xs d h =
    omega (arith, bytes-push (take i xs) (get_or xs i d), ap bytes (take_more xs i d h), bytes-parts (i + 1) xs)
