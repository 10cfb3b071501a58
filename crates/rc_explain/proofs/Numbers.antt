-- Digits and the numbers that they write.
use Rattle.std.proofs.Common.{◌≡◌, ◌+◌, ◌*◌, ◌^◌, ◌<◌, ◌≤◌, ℕ, Bool, true, [], ◌∷◌, ◌++◌, arith, length-append, min, refl, subst}
use Rattle.std.specs.Char.{digit_value}
use Rattle.std.proofs.lemmas.Bool.{and_parts, lt-ltb}
use Rattle.rc_tokens.specs.Text.{Characters, each, is_digit_of, value_from}
use Rattle.rc_explain.specs.Reading.{IsNumber}
use Rattle.rc_explain.specs.Shown.{IsLarge, IsSuch, Stands}
use Rattle.rc_explain.proofs.Tokens.{at_joined}

value_more : (cs : Characters) (n c : ℕ) → value_from 10 n (cs ++ c ∷ []) ≡ value_from 10 n cs * 10 + digit_value c
value_more [] n c = refl
value_more (d ∷ cs) n c = value_more cs (n * 10 + digit_value d) c

each_more : (test : ℕ → Bool) (cs : Characters) (c : ℕ) → each test cs ≡ true → test c ≡ true → each test (cs ++ c ∷ []) ≡ true
each_more test [] c h e = rw e refl
each_more test (d ∷ cs) c h e = let (first, rest) = and_parts (test d) (each test cs) h in rw first (each_more test cs c rest e)

pub no_digits : (t : Characters) (s : ℕ) → IsNumber t s s 0
no_digits t s = record { digits = []; are_digits = refl; here = record { here = tt; ends = omega arith }; value = refl }

-- one digit more
pub digit_more : (t : Characters) (s e c n next : ℕ) → IsNumber t s e n → Stands t e c → digit_value c < 10 →
    next ≡ min (min (n * 10) 18446744073709551615 + digit_value c) 18446744073709551615 → IsNumber t s (e + 1) next
digit_more t s e c n next h at digit is =
    let ends = h.here.ends in
    let value = h.value in
    let more = value_more h.digits 0 c in
    let long = length-append h.digits (c ∷ []) in
    record {
      digits = h.digits ++ c ∷ [];
      are_digits = each_more (is_digit_of 10) h.digits c h.are_digits (lt-ltb (digit_value c) 10 digit);
      here = record {
        here = at_joined h.digits (c ∷ []) t s h.here.here (subst (λ k. Stands t k c) ends at, tt);
        ends = omega (arith, ends, long);
      };
      value = rw more (omega (arith, value, is));
    }

-- digits whose number is above 32 bits
pub large_at : (t : Characters) (s e n : ℕ) → IsNumber t s e n → 2 ^ 32 ≤ n → IsSuch IsLarge t s e
large_at t s e n h large =
    let value = h.value in
    record { cs = h.digits; such = record { digits = h.are_digits; large = omega (arith, value, large) }; here = h.here }
