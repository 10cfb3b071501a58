-- How many digits numbers have.
use Rattle.std.proofs.Common.{◌≡◌, ℕ, ◌+◌, ◌/◌, ◌%◌, ◌<◌, ◌≤◌, ◌^◌, [], ◌∷◌, ◌++◌, length, List, ap, sym, arith, ◌∙◌, append_assoc}
use Rattle.std.specs.Fmt.{decimal}
use Rattle.std.proofs.lemmas.Fmt.{decimal_digit, decimal_step, length-decimal-le}
use Rattle.std.proofs.lemmas.List.{length-append}

pub decimal_few : (n : ℕ) → n < 2 ^ 64 → length (decimal n) ≤ 20
decimal_few n small = length-decimal-le 20 n (omega arith) (omega (arith, small)) small

pub decimal_of_one : (n : ℕ) → n < 10 → length (decimal n) ≡ 1
decimal_of_one n small = ap (λ (ds : List ℕ). length ds) (decimal_digit n small)

-- one digit more than without the last
pub decimal_longer : (n : ℕ) → 10 ≤ n → n < 2 ^ 64 → length (decimal n) ≡ length (decimal (n / 10)) + 1
decimal_longer n large small = ap (λ (ds : List ℕ). length ds) (decimal_step n large small) ∙ length-append (decimal (n / 10)) ((48 + n % 10) ∷ [])

-- the digits but the last, and then the last
pub decimal_after : (n : ℕ) (front before after : List ℕ) → 10 ≤ n → n < 2 ^ 64 → before ≡ front ++ decimal (n / 10) →
    after ≡ before ++ (48 + n % 10) ∷ [] → after ≡ front ++ decimal n
decimal_after n front before after large small e f =
    f ∙ ap (λ (l : List ℕ). l ++ (48 + n % 10) ∷ []) e ∙ append_assoc front (decimal (n / 10)) ((48 + n % 10) ∷ [])
    ∙ ap (λ (l : List ℕ). front ++ l) (sym (decimal_step n large small))
