-- The ends of a class's ranges.
use Rattle.std.proofs.Common.{◌≡◌, ℕ, ◌+◌, ◌<◌, ◌≤◌, ◌⊎◌, Bool, true, false, List, [], ◌∷◌, Some, length, drop, get_or, nat_lt, refl, subst, arith}
use Rattle.rc_pattern.specs.Re.{Range}
use Rattle.rc_tokens.specs.ClassView.{pair, pairs}
use Rattle.rc_tokens.specs.Text.{is_letter}
use Rattle.rc_tokens.specs.Classes.{AreCodes, class_of, list_ranges}
use Rattle.rc_tokens.specs.declared.classes.CodeRange.{CodeRange}
use Rattle.rc_tokens.specs.declared.tokens.Member.{Member}
use Rattle.rc_tokens.proofs.ClassLemmas.{class_codes, list_codes, letter_codes, code_is}
use Rattle.rc_tokens.proofs.ClassSteps.{from_at}

codes_from : (u : Bool) (rs : List CodeRange) (i : ℕ) (q : CodeRange) → i < length rs → q ≡ get_or rs i q → AreCodes u (pairs (drop i rs)) → AreCodes u (pair q ∷ pairs (drop (i + 1) rs))
codes_from u rs i q h e g = subst (AreCodes u) (from_at rs i q h e) g

pub codes_more : (u : Bool) (rs : List CodeRange) (i : ℕ) (q : CodeRange) → i < length rs → q ≡ get_or rs i q → AreCodes u (pairs (drop i rs)) → AreCodes u (pairs (drop (i + 1) rs))
codes_more u rs i q h e g = (codes_from u rs i q h e g).3

pub codes_at_true : (rs : List CodeRange) (i : ℕ) (q : CodeRange) → i < length rs → q ≡ get_or rs i q → AreCodes true (pairs (drop i rs)) →
    ((q.start < 0xD800) ⊎ ((0xE000 ≤ q.start) × (q.start < 0x110000))) × ((q.end < 0xD800) ⊎ ((0xE000 ≤ q.end) × (q.end < 0x110000)))
codes_at_true rs i q h e g = let k = codes_from true rs i q h e g in (code_is true q.start k.0, code_is true q.end k.1)

pub codes_at_false : (rs : List CodeRange) (i : ℕ) (q : CodeRange) → i < length rs → q ≡ get_or rs i q → AreCodes false (pairs (drop i rs)) → (q.start < 256) × (q.end < 256)
codes_at_false rs i q h e g = let k = codes_from false rs i q h e g in (code_is false q.start k.0, code_is false q.end k.1)

pub letter_small : (c : ℕ) → is_letter c ≡ true → c < 128
letter_small c h = go (nat_lt c 128) refl
  where
    go : (b : Bool) → nat_lt c 128 ≡ b → c < 128
    go true e = grind (arith, e)
    go false e = absurd (big e)
      where
        big : nat_lt c 128 ≡ false → ⊥
        big e = grind (arith, e, h)

pub letter_code : (u : Bool) (c : ℕ) → is_letter c ≡ true → AreCodes u ((c, c) ∷ [])
letter_code u c h = letter_codes u c (letter_small c h)

pub letter_class : (u : Bool) (c : ℕ) → is_letter c ≡ true → AreCodes u (class_of u true false ((c, c) ∷ []))
letter_class u c h = class_codes u true false ((c, c) ∷ []) (letter_code u c h)

pub list_class : (u fold negated bracket : Bool) (ms : List Member) (rs : List Range) → list_ranges u bracket ms ≡ Some rs → AreCodes u (class_of u fold negated rs)
list_class u fold negated bracket ms rs h = class_codes u fold negated rs (list_codes u bracket ms rs h)
