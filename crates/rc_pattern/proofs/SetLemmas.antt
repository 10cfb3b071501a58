-- A set of assertions is its assertions.
use Rattle.std.proofs.Common.{◌≡◌, ℕ, ◌+◌, ◌^◌, ◌<◌, ◌≤◌, ⊎_elim, Bool, true, false, ◌&&◌, ◌||◌, List, [], ◌∷◌, length, nat_eq, cond, sym, ap, ap₂, ◌∙◌, refl, subst, arith}
use Rattle.std.specs.Int.{bit_at}
use Rattle.std.specs.List.{filter, list_any}
use Rattle.std.specs.Coded.{le_prop}
use Rattle.std.proofs.lemmas.Bool.{cases_eq}
use Rattle.std.proofs.lemmas.Bool.Decides.{nat_tests}
use Rattle.std.proofs.lemmas.Nat.Bits.{bit_at-lt, same_from_bits_below}
use Rattle.rc_pattern.specs.declared.hir.Look.{Look}
use Rattle.rc_pattern.specs.declared.hir.Look.TheVariants.{Start, End, StartLF, EndLF, StartCRLF, EndCRLF, WordAscii, WordAsciiNegate, WordUnicode, WordUnicodeNegate, WordStartAscii, WordEndAscii, WordStartUnicode, WordEndUnicode, WordStartHalfAscii, WordEndHalfAscii, WordStartHalfUnicode, WordEndHalfUnicode}
use Rattle.rc_pattern.specs.declared.hir.look_set.LookSet.{LookSet}
use Rattle.rc_pattern.specs.Properties.{look_number, same_look}
use Rattle.rc_pattern.specs.LookSets.{has, all_looks, looks_of, LookSetLaw}

-- the assertions have these numbers, one after another
abbrev Run : List Look → ℕ → Type 0
Run [] n = Unit {0}
Run (k ∷ ks) n = (look_number k ≡ n) × Run ks (n + 1)

numbered : (ks : List Look) (n i : ℕ) → Run ks n → n ≤ i → i < n + length ks → (k : Look) × (look_number k ≡ i)
numbered [] n i run from below = absurd (omega (arith, from, below))
numbered (k ∷ ks) n i run from below =
    ⊎_elim (λ e. (k, run.0 ∙ e)) (λ ne. numbered ks (n + 1) i run.1 (omega (arith, from, ne)) (omega (arith, below))) (cases_eq n i)

-- each number below 18 is that of an assertion
look_of : (i : ℕ) → i < 18 → (k : Look) × (look_number k ≡ i)
look_of i below =
    numbered all_looks 0 i
    (refl, (refl, (refl, (refl, (refl, (refl, (refl, (refl, (refl, (refl, (refl, (refl, (refl, (refl, (refl, (refl, (refl, (refl, tt))))))))))))))))))
    (omega arith) below

same_bit : (x y : ℕ) → x < 2 → y < 2 → nat_eq x 1 ≡ nat_eq y 1 → x ≡ y
same_bit x y h k e = grind (arith, nat_tests)

alike_at : (a b : LookSet) → ((k : Look) → has a k ≡ has b k) → (i : ℕ) → i < 18 → bit_at a.bits i ≡ bit_at b.bits i
alike_at a b alike i below =
    let k = look_of i below in
    let e = subst (λ z. nat_eq (bit_at a.bits z) 1 ≡ nat_eq (bit_at b.bits z) 1) k.1 (alike k.0) in
    same_bit (bit_at a.bits i) (bit_at b.bits i) (bit_at-lt a.bits i) (bit_at-lt b.bits i) e

abbrev set_of : (n : ℕ) → n < 2 ^ 18 → LookSet
set_of n h = record { bits = n; small = h }

same_sets : (n m : ℕ) (h : n < 2 ^ 18) (k : m < 2 ^ 18) → n ≡ m → set_of n h ≡ set_of m k
same_sets n m h k e = subst (λ z. (l : z < 2 ^ 18) → set_of n h ≡ set_of z l) e (λ l. ap (set_of n) (le_prop h l)) k

same : (a b : LookSet) → ((k : Look) → has a k ≡ has b k) → a ≡ b
same a b alike = same_sets a.bits b.bits a.small b.small (same_from_bits_below 18 a.bits b.bits a.small b.small (alike_at a b alike))

and_true : (b : Bool) → (b && true) ≡ b
and_true true = refl
and_true false = refl

and_false : (b : Bool) → (b && false) ≡ false
and_false true = refl
and_false false = refl

or_false : (b : Bool) → (b || false) ≡ b
or_false true = refl
or_false false = refl

any_cond : (q : Look → Bool) (b : Bool) (k : Look) (ks : List Look) (z : Bool) → list_any q ks ≡ z →
    list_any q (cond b (k ∷ ks) ks) ≡ ((q k && b) || z)
any_cond q true k ks z e = ap₂ (λ x y. x || y) (sym (and_true (q k))) e
any_cond q false k ks z e = e ∙ ap (λ x. x || z) (sym (and_false (q k)))

any_filter : (q test : Look → Bool) (ks : List Look) → list_any q (filter test ks) ≡ list_any (λ k. q k && test k) ks
any_filter q test [] = refl
any_filter q test (k ∷ ks) = any_cond q (test k) k (filter test ks) (list_any (λ k. q k && test k) ks) (any_filter q test ks)

only_one : (test : Look → Bool) (k : Look) → list_any (λ l. same_look k l && test l) all_looks ≡ test k
only_one test Start = or_false (test Start)
only_one test End = or_false (test End)
only_one test StartLF = or_false (test StartLF)
only_one test EndLF = or_false (test EndLF)
only_one test StartCRLF = or_false (test StartCRLF)
only_one test EndCRLF = or_false (test EndCRLF)
only_one test WordAscii = or_false (test WordAscii)
only_one test WordAsciiNegate = or_false (test WordAsciiNegate)
only_one test WordUnicode = or_false (test WordUnicode)
only_one test WordUnicodeNegate = or_false (test WordUnicodeNegate)
only_one test WordStartAscii = or_false (test WordStartAscii)
only_one test WordEndAscii = or_false (test WordEndAscii)
only_one test WordStartUnicode = or_false (test WordStartUnicode)
only_one test WordEndUnicode = or_false (test WordEndUnicode)
only_one test WordStartHalfAscii = or_false (test WordStartHalfAscii)
only_one test WordEndHalfAscii = or_false (test WordEndHalfAscii)
only_one test WordStartHalfUnicode = or_false (test WordStartHalfUnicode)
only_one test WordEndHalfUnicode = or_false (test WordEndHalfUnicode)

listed : (s : LookSet) (k : Look) → list_any (same_look k) (looks_of s) ≡ has s k
listed s k = any_filter (same_look k) (has s) all_looks ∙ only_one (has s) k

pub look_set_law : LookSetLaw
look_set_law = record {
  same = same;
  listed = listed;
  in_order = refl;
}
