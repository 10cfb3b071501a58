-- Texts that are parted at a sign, and the ranges of POSIX classes.
use Rattle.std.proofs.Common.{◌≡◌, ℕ, zero, suc, ◌+◌, ◌-◌, ◌<◌, ◌≤◌, Bool, true, false, ◌&&◌, nat_eq, nat_le, nat_lt, List, [], ◌∷◌, ◌++◌, length, take, drop, find, slice_index_or, length-drop, Option, Some, None, refl, sym, ap, ◌∙◌, arith, true≢false, not-suc-le-zero, le_of_suc-le-suc}
use Rattle.std.specs.List.{starts_with, list_all}
use Rattle.std.proofs.lemmas.Bool.{and_parts, ltb-true}
use Rattle.std.proofs.lemmas.List.{drop_more}
use Rattle.rc_pattern.specs.Re.{Range}
use Rattle.rc_tokens.specs.Text.{Characters, ◌>>=◌}
use Rattle.rc_tokens.specs.Classes.{AreCodes}
use Rattle.rc_tokens.proofs.TextLemmas.{take_few}
use Rattle.rc_tokens.proofs.ClassLemmas.{le_true, if_elim, letter_codes}
use Rattle.rc_class_names.specs.declared.posix.Posix.{Posix}
use Rattle.rc_class_names.specs.declared.posix.Posix.TheVariants.{Alnum, Alpha, Ascii, Blank, Cntrl, Digit, Graph, Lower, Print, Punct, Space, Upper, Word, Xdigit}
use Rattle.rc_class_names.specs.Posix.{posix_ranges}
use Rattle.rc_class_names.specs.Properties.{parted_at}

-- ---- texts

-- what was found behind a front
abbrev pub led : Characters → Option (Characters × Characters) → Option (Characters × Characters)
led front None = None
led front (Some p) = Some (front ++ p.0, p.1)

led_more : (c : ℕ) (front : Characters) (o : Option (Characters × Characters)) → led (c ∷ front) o ≡ led (c ∷ []) (led front o)
led_more c front None = refl
led_more c front (Some p) = refl

led_nil : (o : Option (Characters × Characters)) → led [] o ≡ o
led_nil None = refl
led_nil (Some p) = refl

one_more : (c : ℕ) (o : Option (Characters × Characters)) → (o >>= λ p. Some (c ∷ p.0, p.1)) ≡ led (c ∷ []) o
one_more c None = refl
one_more c (Some p) = refl

passed : (sign : Characters) (c : ℕ) (t : Characters) → starts_with nat_eq (c ∷ t) sign ≡ false → parted_at sign (c ∷ t) ≡ led (c ∷ []) (parted_at sign t)
passed sign c t miss =
    if_elim (λ o. o ≡ led (c ∷ []) (parted_at sign t)) (starts_with nat_eq (c ∷ t) sign) (Some ([], drop (length sign) (c ∷ t)))
    (parted_at sign t >>= λ p. Some (c ∷ p.0, p.1)) (λ y. absurd (true≢false (sym y ∙ miss))) (λ _. one_more c (parted_at sign t))

here : (sign : Characters) (c : ℕ) (t : Characters) → starts_with nat_eq (c ∷ t) sign ≡ true → parted_at sign (c ∷ t) ≡ Some ([], drop (length sign) (c ∷ t))
here sign c t hit =
    if_elim (λ o. o ≡ Some ([], drop (length sign) (c ∷ t))) (starts_with nat_eq (c ∷ t) sign) (Some ([], drop (length sign) (c ∷ t)))
    (parted_at sign t >>= λ p. Some (c ∷ p.0, p.1)) (λ _. refl) (λ n. absurd (true≢false (sym hit ∙ n)))

pub parted_step : (sign t : Characters) (i : ℕ) → i < length t → starts_with nat_eq (drop i t) sign ≡ false
    → led (take i t) (parted_at sign (drop i t)) ≡ led (take (suc i) t) (parted_at sign (drop (suc i) t))
parted_step sign [] i lt miss = absurd (not-suc-le-zero lt)
parted_step sign (c ∷ t) zero lt miss = led_nil _ ∙ passed sign c t miss
parted_step sign (c ∷ t) (suc i) lt miss =
    led_more c (take i t) _ ∙ ap (led (c ∷ [])) (parted_step sign t i (le_of_suc-le-suc lt) miss) ∙ sym (led_more c (take (suc i) t) _)

pub parted_here : (sign t : Characters) (i : ℕ) → i < length t → starts_with nat_eq (drop i t) sign ≡ true
    → led (take i t) (parted_at sign (drop i t)) ≡ Some (take i t, drop (i + length sign) t)
parted_here sign [] i lt hit = absurd (not-suc-le-zero lt)
parted_here sign (c ∷ t) zero lt hit =
    let same : 0 + length sign ≡ length sign = omega arith in
    led_nil _ ∙ here sign c t hit ∙ ap (λ n. Some ([], drop n (c ∷ t))) (sym same)
parted_here sign (c ∷ t) (suc i) lt hit =
    let same : suc i + length sign ≡ suc (i + length sign) = omega arith in
    led_more c (take i t) _ ∙ ap (led (c ∷ [])) (parted_here sign t i (le_of_suc-le-suc lt) hit)
    ∙ ap (λ n. Some (c ∷ take i t, drop n (c ∷ t))) (sym same)

pub parted_none : (sign t : Characters) (i : ℕ) → length t ≤ i → led (take i t) (parted_at sign (drop i t)) ≡ None
parted_none sign [] zero le = refl
parted_none sign [] (suc i) le = refl
parted_none sign (c ∷ t) zero le = absurd (not-suc-le-zero le)
parted_none sign (c ∷ t) (suc i) le = led_more c (take i t) _ ∙ ap (led (c ∷ [])) (parted_none sign t i (le_of_suc-le-suc le))

-- what `&text[n..]` is
pub rest_whole : (t : Characters) (n : ℕ) → take (length t - n) (drop n t) ≡ drop n t
rest_whole t n = let same = length-drop n t in take_few (drop n t) (length t - n) (omega (arith, same))

-- ---- a search in a list

find_miss : {X : Type 0} (test : X → Bool) (x : X) (xs : List X) → test x ≡ false → find test (x ∷ xs) ≡ find test xs
find_miss test x xs miss = if_elim (λ o. o ≡ find test xs) (test x) (Some x) (find test xs) (λ y. absurd (true≢false (sym y ∙ miss))) (λ _. refl)

pub find_step : {X : Type 0} (test : X → Bool) (xs : List X) (i : ℕ) (d : X) → i < length xs → test (slice_index_or xs i d) ≡ false → find test (drop i xs) ≡ find test (drop (i + 1) xs)
find_step test xs i d lt miss = ap (find test) (drop_more xs i d lt) ∙ find_miss test (slice_index_or xs i d) (drop (i + 1) xs) miss

-- ---- POSIX classes

abbrev are_ascii : List Range → Bool
are_ascii rs = list_all (λ (r : Range). nat_le r.0 r.1 && nat_lt r.1 128) rs

ascii_codes : (u : Bool) (rs : List Range) → are_ascii rs ≡ true → AreCodes u rs
ascii_codes u [] h = tt
ascii_codes u (r ∷ rs) h =
    let parts = and_parts (nat_le r.0 r.1 && nat_lt r.1 128) (are_ascii rs) h in
    let ends = and_parts (nat_le r.0 r.1) (nat_lt r.1 128) parts.0 in
    let low = le_true r.0 r.1 ends.0 in
    let high = ltb-true r.1 128 ends.1 in
    ((letter_codes u r.0 (omega (arith, low, high))).0, (letter_codes u r.1 high).0, low, ascii_codes u rs parts.1)

posix_ascii : (class : Posix) → are_ascii (posix_ranges class) ≡ true
posix_ascii Alnum = refl
posix_ascii Alpha = refl
posix_ascii Ascii = refl
posix_ascii Blank = refl
posix_ascii Cntrl = refl
posix_ascii Digit = refl
posix_ascii Graph = refl
posix_ascii Lower = refl
posix_ascii Print = refl
posix_ascii Punct = refl
posix_ascii Space = refl
posix_ascii Upper = refl
posix_ascii Word = refl
posix_ascii Xdigit = refl

pub posix_codes : (u : Bool) (class : Posix) → AreCodes u (posix_ranges class)
posix_codes u class = ascii_codes u (posix_ranges class) (posix_ascii class)
