-- A list with a gap from g to r: what moves and edits of the gap leave.
use Rattle.std.proofs.Common.{◌≡◌, ℕ, ◌+◌, ◌-◌, ◌≤◌, List, ◌++◌, length, take, drop, min, ap, ◌∙◌, sym, subst, append_assoc, arith, length-drop, length-append}
use Rattle.std.proofs.lemmas.List.{drop-drop, drop-take, drop_at, drop_min, length-take-le, take-append-drop, take-append-le, take-take, take_at}
use Rattle.std.proofs.lemmas.List.Edits.{drop-paste, take-paste}
use Rattle.std.proofs.Math.Seq.{paste}

-- the gap moves on by m
pub on_by : (xs : List ℕ) (g k m : ℕ) → g + k + m ≤ length xs →
    take (g + m) (paste xs g (drop (g + k) xs) m) ++ drop (g + k + m) (paste xs g (drop (g + k) xs) m) ≡ take g xs ++ drop (g + k) xs
on_by xs g k m le =
    let back = drop (g + k) xs in
    let ys = paste xs g back m in
    let room : m ≤ length back = omega (arith, length-drop (g + k) xs) in
    let front : take (g + m) ys ≡ take g xs ++ take m back = take-paste xs g back m (omega arith) room in
    let swap : g + k + m ≡ g + m + k = omega arith in
    let behind : drop (g + k + m) ys ≡ drop m back =
    ap (λ n. drop n ys) swap ∙ sym (drop-drop k (g + m) ys) ∙ ap (drop k) (drop-paste xs g back m (omega arith) room)
    ∙ drop-drop k (g + m) xs ∙ ap (λ n. drop n xs) (sym swap) ∙ sym (drop-drop m (g + k) xs) in
    ap (λ zs. zs ++ drop (g + k + m) ys) front ∙ ap (λ zs. (take g xs ++ take m back) ++ zs) behind
    ∙ append_assoc (take g xs) (take m back) (drop m back) ∙ ap (λ zs. take g xs ++ zs) (take-append-drop m back)

-- the same, where the parts are known by equations
pub moved_on : (xs ys : List ℕ) (g r a m n : ℕ) → ys ≡ paste xs g (drop r xs) n → n ≡ m → g ≤ r → a ≡ g + m → r + m ≤ length xs →
    take a ys ++ drop (r + m) ys ≡ take g xs ++ drop r xs
moved_on xs ys g r a m n copied count le at within =
    let zs = paste xs g (drop r xs) m in
    let Moved : ℕ → Type 0 = λ q. take (g + m) (paste xs g (drop q xs) m) ++ drop (q + m) (paste xs g (drop q xs) m) ≡ take g xs ++ drop q xs in
    let split : g + (r - g) ≡ r = omega arith in
    ap (λ ws. take a ws ++ drop (r + m) ws) (copied ∙ ap (λ k. paste xs g (drop r xs) k) count)
    ∙ ap (λ q. take q zs ++ drop (r + m) zs) at
    ∙ subst Moved split (on_by xs g (r - g) m (omega arith))

-- a beginning in two parts
take_sum : (a m : ℕ) (xs : List ℕ) → take (a + m) xs ≡ take a xs ++ take m (drop a xs)
take_sum a m xs =
    sym (take-append-drop a (take (a + m) xs))
    ∙ ap (λ zs. zs ++ drop a (take (a + m) xs)) (take-take a (a + m) xs (omega arith))
    ∙ ap (λ zs. take a xs ++ zs) (drop-take a m xs)

-- the gap moves back by m: to a, and its end to d
pub back_by : (xs : List ℕ) (a m d : ℕ) → a ≤ d → d + m ≤ length xs →
    take a (paste xs d (drop a xs) m) ++ drop d (paste xs d (drop a xs) m) ≡ take (a + m) xs ++ drop (d + m) xs
back_by xs a m d le within =
    let p = take d xs in
    let q = take m (drop a xs) in
    let r = drop (d + m) xs in
    let sized : length p ≡ d = length-take-le d xs (omega arith) in
    let begun : take a ((p ++ q) ++ r) ≡ take a xs =
    take-append-le a (p ++ q) r (omega (arith, length-append p q, sized)) ∙ take-append-le a p q (omega (arith, sized)) ∙ take-take a d xs le in
    let ended : drop d ((p ++ q) ++ r) ≡ q ++ r = ap (drop d) (append_assoc p q r) ∙ drop_at p (q ++ r) d sized in
    ap (λ zs. zs ++ drop d ((p ++ q) ++ r)) begun ∙ ap (λ zs. take a xs ++ zs) ended
    ∙ sym (append_assoc (take a xs) q r) ∙ ap (λ zs. zs ++ r) (sym (take_sum a m xs))

-- bytes that are written into the gap
pub written : (xs bytes : List ℕ) (g r n : ℕ) → n ≡ length bytes → g + n ≤ r → r ≤ length xs →
    take (g + n) (take g xs ++ bytes ++ drop (g + n) xs) ++ drop r (take g xs ++ bytes ++ drop (g + n) xs)
    ≡ take g (take g xs ++ drop r xs) ++ bytes ++ drop g (take g xs ++ drop r xs)
written xs bytes g r n e le within =
    let f = take g xs in
    let rest = drop (g + n) xs in
    let sized : length f ≡ g = length-take-le g xs (omega arith) in
    let long : length (f ++ bytes) ≡ g + n = omega (arith, length-append f bytes, sized, e) in
    let split : g + n + (r - (g + n)) ≡ r = omega arith in
    let begun : take (g + n) (f ++ bytes ++ rest) ≡ f ++ bytes = take_at (f ++ bytes) rest (g + n) long in
    let ended : drop r (f ++ bytes ++ rest) ≡ drop r xs =
    ap (λ k. drop k (f ++ bytes ++ rest)) (sym split) ∙ sym (drop-drop (r - (g + n)) (g + n) (f ++ bytes ++ rest))
    ∙ ap (drop (r - (g + n))) (drop_at (f ++ bytes) rest (g + n) long) ∙ drop-drop (r - (g + n)) (g + n) xs ∙ ap (λ k. drop k xs) split in
    ap (λ zs. zs ++ drop r (f ++ bytes ++ rest)) begun ∙ ap (λ zs. f ++ bytes ++ zs) ended
    ∙ ap (λ zs. zs ++ bytes ++ drop r xs) (sym (take_at f (drop r xs) g sized))
    ∙ ap (λ zs. take g (f ++ drop r xs) ++ bytes ++ zs) (sym (drop_at f (drop r xs) g sized))

-- n elements after the gap are gone
pub cut : (xs : List ℕ) (g r n : ℕ) → g ≤ r → r ≤ length xs →
    take g xs ++ drop (min (r + n) (length xs)) xs ≡ take g (take g xs ++ drop r xs) ++ drop (g + n) (take g xs ++ drop r xs)
cut xs g r n le within =
    let f = take g xs in
    let sized : length f ≡ g = length-take-le g xs (omega arith) in
    let ended : drop (g + n) (f ++ drop r xs) ≡ drop (min (r + n) (length xs)) xs =
    sym (drop-drop n g (f ++ drop r xs)) ∙ ap (drop n) (drop_at f (drop r xs) g sized) ∙ drop-drop n r xs ∙ sym (drop_min (r + n) xs) in
    ap (λ zs. zs ++ drop (min (r + n) (length xs)) xs) (sym (take_at f (drop r xs) g sized))
    ∙ ap (λ zs. take g (f ++ drop r xs) ++ zs) (sym ended)
