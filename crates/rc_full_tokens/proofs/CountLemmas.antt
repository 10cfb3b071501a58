-- The reader of counts finds exactly the counts.
use Rattle.std.proofs.Common.{◌≡◌, ℕ, zero, suc, ◌+◌, ◌^◌, ◌<◌, ◌≤◌, ⊎_elim, Bool, true, false, not, ◌&&◌, nat_le, nat_lt, [], ◌∷◌, ◌++◌, Option, Some, None, drop, refl, ap, sym, subst, ◌∙◌, append_assoc, arith, true≢false, if◌then◌else◌}
use Rattle.std.proofs.lemmas.Option.{none-some}
use Rattle.std.proofs.lemmas.Bool.{and_parts, cases_lt, ltb-true}
use Rattle.std.specs.Char.{digit_value}
use Rattle.std.proofs.lemmas.Str.Parse.{digit_from_value}
use Rattle.unicode.specs.Binary.{is_white_space}
use Rattle.unicode.proofs.PropsComputing.{ucd_props}
use Rattle.rc_tokens.specs.Text.{Characters, ◌>>=◌, ◌>>◌, is_at, is_digit, is_digit_of, each, number, value_from}
use Rattle.rc_tokens.specs.Marks.{count}
use Rattle.rc_tokens.specs.Lexer.{run, after_run}
use Rattle.rc_tokens.proofs.StepLemmas.{some_parts, guard_parts, pair_parts, at_splits, run_splits, other_code}
use Rattle.rc_tokens.proofs.RunLemmas.{run_stops, after_stops}
use Rattle.rc_tokens.proofs.ClassLemmas.{le_true, if_elim}
use Rattle.rc_full_tokens.specs.Counts.{is_blank, IsNumber, IsCount, exactly, from, between, up_to}
use Rattle.rc_full_tokens.specs.Counted.{blanks_passed, digits_then, read_number, second, counted_from, read_count}

-- ---- runs

pub each_run : (test : ℕ → Bool) (t : Characters) → each test (run test t) ≡ true
each_run test [] = refl
each_run test (c ∷ t) = if_elim (λ x. each test x ≡ true) (test c) (c ∷ run test t) [] (λ e. rw e (each_run test t)) (λ _. refl)

-- no character at the front passes the test
abbrev pub Ends : (ℕ → Bool) → Characters → Type 0
Ends test [] = Unit {0}
Ends test (c ∷ t) = test c ≡ false

pub run_ends : (test : ℕ → Bool) (f u : Characters) → each test f ≡ true → Ends test u → run test (f ++ u) ≡ f
run_ends test [] [] h e = refl
run_ends test [] (c ∷ u) h e = run_stops test c u e
run_ends test (c ∷ f) u h e = let parts = and_parts (test c) (each test f) h in rw parts.0 (ap (λ s. c ∷ s) (run_ends test f u parts.1 e))

pub after_ends : (test : ℕ → Bool) (f u : Characters) → each test f ≡ true → Ends test u → after_run test (f ++ u) ≡ u
after_ends test [] [] h e = refl
after_ends test [] (c ∷ u) h e = after_stops test c u e
after_ends test (c ∷ f) u h e = let parts = and_parts (test c) (each test f) h in rw parts.0 (after_ends test f u parts.1 e)

-- ---- few characters, one by one

abbrev pub up : ℕ → ℕ → Characters
up zero s = []
up (suc n) s = s ∷ up n (suc s)

-- what is seen of each of n characters from s on
pub all_up : (p : ℕ → Bool) (n s c : ℕ) → each p (up n s) ≡ true → s ≤ c → c < n + s → p c ≡ true
all_up p zero s c h a b = absurd (omega (arith, a, b))
all_up p (suc n) s c h a b =
    let parts = and_parts (p s) (each p (up n (suc s))) h in
    ⊎_elim (λ l. all_up p n (suc s) c parts.1 l (omega (arith, b)))
    (λ g. let e : s ≡ c = omega (arith, a, g) in subst (λ x. p x ≡ true) e parts.0) (cases_lt s c)

not_true : (b : Bool) → not b ≡ true → b ≡ false
not_true true h = absurd (true≢false (sym h))
not_true false h = refl

digits_solid : each (λ c. not (is_white_space c)) (up 10 48) ≡ true
unfolding ucd_props
digits_solid = refl

digit_solid : (c : ℕ) → is_digit c ≡ true → is_white_space c ≡ false
digit_solid c h =
    let parts = and_parts (nat_le 48 c) (nat_le c 57) h in
    let a = le_true 48 c parts.0 in let b = le_true c 57 parts.1 in
    not_true (is_white_space c) (all_up (λ c. not (is_white_space c)) 10 48 c digits_solid a (omega (arith, b)))

comma_solid : is_white_space 44 ≡ false
unfolding ucd_props
comma_solid = refl

brace_solid : is_white_space 125 ≡ false
unfolding ucd_props
brace_solid = refl

-- ---- numbers

blank_digit : (c : ℕ) → is_white_space c ≡ true → is_digit c ≡ false
blank_digit c w = go (is_digit c) refl
  where
    go : (b : Bool) → is_digit c ≡ b → b ≡ false
    go true e = absurd (true≢false (sym w ∙ digit_solid c e))
    go false e = refl

le_yes : (a b : ℕ) → a ≤ b → nat_le a b ≡ true
le_yes a b h = grind (arith, h)

decimal : (c : ℕ) → is_digit_of 10 c ≡ true → is_digit c ≡ true
decimal c h = let r = digit_from_value c (ltb-true (digit_value c) 10 h) in rw (le_yes 48 c r.0) (rw (le_yes c 57 r.1) refl)

each_wider : (test wide : ℕ → Bool) (t : Characters) → ((c : ℕ) → test c ≡ true → wide c ≡ true) → each test t ≡ true → each wide t ≡ true
each_wider test wide [] g h = refl
each_wider test wide (c ∷ t) g h = let parts = and_parts (test c) (each test t) h in rw (g c parts.0) (each_wider test wide t g parts.1)

pub number_each : (radix limit : ℕ) (t : Characters) (n : ℕ) → number radix limit t ≡ Some n → each (is_digit_of radix) t ≡ true
number_each radix limit [] n h = absurd (none-some n h)
number_each radix limit (d ∷ ds) n h =
    let (both, _) = guard_parts (each (is_digit_of radix) (d ∷ ds) && nat_lt (value_from radix 0 (d ∷ ds)) limit) (Some (value_from radix 0 (d ∷ ds))) n h in
    (and_parts (each (is_digit_of radix) (d ∷ ds)) (nat_lt (value_from radix 0 (d ∷ ds)) limit) both).0

count_digits : (n : Characters) (k : ℕ) → count n ≡ Some k → each is_digit n ≡ true
count_digits n k h = each_wider (is_digit_of 10) is_digit n decimal (number_each 10 (2 ^ 32) n k h)

-- behind the digits: white space, and then a character that is neither
behind_digits : (behind : Characters) (d : ℕ) (u : Characters) → is_blank behind ≡ true → is_digit d ≡ false → Ends is_digit (behind ++ d ∷ u)
behind_digits [] d u h e = e
behind_digits (c ∷ b) d u h e = blank_digit c (and_parts (is_white_space c) (is_blank b) h).0

before_digits : (digits rest : Characters) (n : ℕ) → count digits ≡ Some n → Ends is_white_space (digits ++ rest)
before_digits [] rest n h = absurd (none-some n h)
before_digits (c ∷ ds) rest n h = digit_solid c (and_parts (is_digit c) (each is_digit ds) (count_digits (c ∷ ds) n h)).0

digits_again : (digits behind : Characters) (n d : ℕ) (u : Characters) → count digits ≡ Some n → is_blank behind ≡ true →
    is_digit d ≡ false → is_white_space d ≡ false → digits_then (digits ++ (behind ++ d ∷ u)) ≡ Some (n, d ∷ u)
digits_again digits behind n d u v b e w =
    let ends = behind_digits behind d u b e in
    let all = count_digits digits n v in
    ap (λ x. count x >>= λ n. Some (n, blanks_passed (after_run is_digit (digits ++ (behind ++ d ∷ u))))) (run_ends is_digit digits (behind ++ d ∷ u) all ends)
    ∙ ap (λ x. count digits >>= λ n. Some (n, blanks_passed x)) (after_ends is_digit digits (behind ++ d ∷ u) all ends)
    ∙ ap (λ x. count digits >>= λ n. Some (n, x)) (after_ends is_white_space behind (d ∷ u) b w)
    ∙ rw v refl

number_again : (a : Characters) (n d : ℕ) (u : Characters) → IsNumber a n → is_digit d ≡ false → is_white_space d ≡ false →
    read_number (a ++ d ∷ u) ≡ Some (n, d ∷ u)
number_again a n d u is e w =
    ap (λ x. read_number (x ++ d ∷ u)) is.written
    ∙ ap read_number (append_assoc is.front (is.digits ++ is.behind) (d ∷ u) ∙ ap (λ x. is.front ++ x) (append_assoc is.digits is.behind (d ∷ u)))
    ∙ ap digits_then (after_ends is_white_space is.front (is.digits ++ (is.behind ++ d ∷ u)) is.blank_front (before_digits is.digits (is.behind ++ d ∷ u) n is.value))
    ∙ digits_again is.digits is.behind n d u is.value is.blank_behind e w

-- a number at the front of t, and v behind it
record Found (t : Characters) (n : ℕ) (v : Characters) : Type 0 where
  number : Characters
  is_number : IsNumber number n
  splits : t ≡ number ++ v

number_sound : (t : Characters) (n : ℕ) (v : Characters) → read_number t ≡ Some (n, v) → Found t n v
number_sound t n v h =
    let at = blanks_passed t in
    let front = run is_white_space t in
    let digits = run is_digit at in
    let left = after_run is_digit at in
    let behind = run is_white_space left in
    let (k, is, rest) = some_parts (count digits) (λ n. Some (n, blanks_passed left)) (n, v) h in
    let (same, tail) = pair_parts k n (blanks_passed left) v rest in
    record {
      number = front ++ (digits ++ behind);
      is_number = record {
        front = front;
        digits = digits;
        behind = behind;
        written = refl;
        blank_front = each_run is_white_space t;
        value = is ∙ ap Some same;
        blank_behind = each_run is_white_space left;
      };
      splits = run_splits is_white_space t ∙ ap (λ x. front ++ x) (run_splits is_digit at
          ∙ ap (λ x. digits ++ x) (run_splits is_white_space left ∙ ap (λ x. behind ++ x) tail) ∙ sym (append_assoc digits behind v))
          ∙ sym (append_assoc front (digits ++ behind) v);
    }

-- ---- counts

second_sound : (min : ℕ) (t : Characters) (n : ℕ) (max : Option ℕ) (u : Characters) → second min t ≡ Some ((n, max), u) →
    (b : Characters) × (m : ℕ) × IsNumber b m × (t ≡ b ++ 125 ∷ u) × (min ≤ m) × (n ≡ min) × (max ≡ Some m)
second_sound min t n max u h =
    let (r, read, rest) = some_parts (read_number t) (λ r. (is_at 125 r.1 && nat_le min r.0) >> Some ((min, Some r.0), drop 1 r.1)) ((n, max), u) h in
    let (both, made) = guard_parts (is_at 125 r.1 && nat_le min r.0) (Some ((min, Some r.0), drop 1 r.1)) ((n, max), u) rest in
    let (closed, least) = and_parts (is_at 125 r.1) (nat_le min r.0) both in
    let (bounds, tail) = pair_parts (min, Some r.0) (n, max) (drop 1 r.1) u made in
    let found = number_sound t r.0 r.1 read in (
      found.number,
      r.0,
      found.is_number,
      found.splits ∙ ap (λ x. found.number ++ x) (at_splits 125 r.1 closed ∙ ap (λ x. 125 ∷ x) tail),
      le_true min r.0 least,
      sym (ap (λ x. x.0) bounds),
      sym (ap (λ x. x.1) bounds),
    )

abbrev without_bound : Option ℕ
without_bound = None

counted_sound : (e : Bool) (a : Characters) (min : ℕ) (t : Characters) (n : ℕ) (max : Option ℕ) (u : Characters) → IsNumber a min →
    counted_from min t ≡ Some ((n, max), u) → IsCount e (a ++ t) n max u
counted_sound e a min t n max u is h = go (is_at 125 t) (is_at 44 t) (is_at 125 (drop 1 t)) refl refl refl h
  where
    as_given : {t' : Characters} {max' : Option ℕ} → t ≡ t' → min ≡ n → max' ≡ max → IsCount e (a ++ t') min max' u → IsCount e (a ++ t) n max u
    as_given {t'} {max'} x y z c = subst (λ t. IsCount e (a ++ t) n max u) (sym x) (subst (λ n. IsCount e (a ++ t') n max u) y (subst (λ m. IsCount e (a ++ t') min m u) z c))

    go : (x y z : Bool) → is_at 125 t ≡ x → is_at 44 t ≡ y → is_at 125 (drop 1 t) ≡ z →
        (if x then Some ((min, Some min), drop 1 t) else if not y then None else if z then Some ((min, None), drop 1 (drop 1 t)) else second min (drop 1 t))
        ≡ Some ((n, max), u) → IsCount e (a ++ t) n max u
    go true y z closed _ _ h =
        let (bounds, tail) = pair_parts (min, Some min) (n, max) (drop 1 t) u h in
        as_given (at_splits 125 t closed ∙ ap (λ x. 125 ∷ x) tail) (ap (λ x. x.0) bounds) (ap (λ x. x.1) bounds) (exactly a u min is)
    go false false z _ _ _ h = absurd (none-some ((n, max), u) h)
    go false true true _ comma closed h =
        let (bounds, tail) = pair_parts (min, without_bound) (n, max) (drop 1 (drop 1 t)) u h in
        as_given (at_splits 44 t comma ∙ ap (λ x. 44 ∷ x) (at_splits 125 (drop 1 t) closed ∙ ap (λ x. 125 ∷ x) tail))
        (ap (λ x. x.0) bounds) (ap (λ x. x.1) bounds) (from a u min is)
    go false true false _ comma _ h =
        let (b, m, is_m, splits, least, same, most) = second_sound min (drop 1 t) n max u h in
        as_given (at_splits 44 t comma ∙ ap (λ x. 44 ∷ x) splits) (sym same) (sym most) (between a b u min m is is_m least)

pub count_sound : (e : Bool) (t : Characters) (n : ℕ) (max : Option ℕ) (u : Characters) → read_count e t ≡ Some ((n, max), u) → IsCount e t n max u
count_sound e t n max u h = go (e && is_at 44 (blanks_passed t)) refl h
  where
    go : (b : Bool) → (e && is_at 44 (blanks_passed t)) ≡ b →
        (if b then second 0 (drop 1 (blanks_passed t)) else (read_number t >>= λ r. counted_from r.0 r.1)) ≡ Some ((n, max), u) → IsCount e t n max u
    go true is h =
        let (on, comma) = and_parts e (is_at 44 (blanks_passed t)) is in
        let (b, m, is_m, splits, least, same, most) = second_sound 0 (drop 1 (blanks_passed t)) n max u h in
        let front = run is_white_space t in
        subst (λ t. IsCount e t n max u) (sym (run_splits is_white_space t ∙ ap (λ x. front ++ x) (at_splits 44 (blanks_passed t) comma ∙ ap (λ x. 44 ∷ x) splits)))
        (subst (λ n. IsCount e (front ++ 44 ∷ (b ++ 125 ∷ u)) n max u) (sym same) (subst (λ m. IsCount e (front ++ 44 ∷ (b ++ 125 ∷ u)) 0 m u) (sym most)
        (up_to front b u m on (each_run is_white_space t) is_m)))
    go false _ h =
        let (r, read, rest) = some_parts (read_number t) (λ r. counted_from r.0 r.1) ((n, max), u) h in
        let found = number_sound t r.0 r.1 read in
        subst (λ t. IsCount e t n max u) (sym found.splits) (counted_sound e found.number r.0 r.1 n max u found.is_number rest)

second_again : (min m : ℕ) (b u : Characters) → IsNumber b m → min ≤ m → second min (b ++ 125 ∷ u) ≡ Some ((min, Some m), u)
second_again min m b u is least =
    ap (λ o. o >>= λ r. (is_at 125 r.1 && nat_le min r.0) >> Some ((min, Some r.0), drop 1 r.1)) (number_again b m 125 u is refl brace_solid)
    ∙ rw (le_yes min m least) refl

-- a number stands first, and no comma
no_comma : (e : Bool) (a : Characters) (n : ℕ) (u : Characters) → IsNumber a n → (e && is_at 44 (blanks_passed (a ++ u))) ≡ false
no_comma e a n u is =
    ap (λ x. e && is_at 44 (blanks_passed x)) (ap (λ x. x ++ u) is.written ∙ append_assoc is.front (is.digits ++ is.behind) u
    ∙ ap (λ x. is.front ++ x) (append_assoc is.digits is.behind u))
    ∙ ap (λ x. e && is_at 44 x) (after_ends is_white_space is.front (is.digits ++ (is.behind ++ u)) is.blank_front (before_digits is.digits (is.behind ++ u) n is.value))
    ∙ ap (λ x. e && x) (first is.digits is.value) ∙ and_no e
  where
    and_no : (b : Bool) → (b && false) ≡ false
    and_no true = refl
    and_no false = refl

    first : (digits : Characters) → count digits ≡ Some n → is_at 44 (digits ++ (is.behind ++ u)) ≡ false
    first [] h = absurd (none-some n h)
    first (c ∷ ds) h = other_code is_digit c 44 refl (and_parts (is_digit c) (each is_digit ds) (count_digits (c ∷ ds) n h)).0

first_again : (e : Bool) (a : Characters) (n d : ℕ) (u : Characters) → IsNumber a n → is_digit d ≡ false → is_white_space d ≡ false →
    read_count e (a ++ d ∷ u) ≡ counted_from n (d ∷ u)
first_again e a n d u is x y = rw (no_comma e a n (d ∷ u) is) (ap (λ o. o >>= λ r. counted_from r.0 r.1) (number_again a n d u is x y))

-- a number doesn't begin with `}`
no_brace : (b u : Characters) (m : ℕ) → IsNumber b m → is_at 125 (b ++ u) ≡ false
no_brace b u m is = ap (λ x. is_at 125 (x ++ u)) is.written ∙ ap (is_at 125) (append_assoc is.front (is.digits ++ is.behind) u) ∙ blank_first is.front is.blank_front
  where
    digit_first : (digits v : Characters) → count digits ≡ Some m → is_at 125 ((digits ++ v) ++ u) ≡ false
    digit_first [] v h = absurd (none-some m h)
    digit_first (c ∷ ds) v h = other_code is_digit c 125 refl (and_parts (is_digit c) (each is_digit ds) (count_digits (c ∷ ds) m h)).0

    blank_first : (front : Characters) → is_blank front ≡ true → is_at 125 (front ++ ((is.digits ++ is.behind) ++ u)) ≡ false
    blank_first [] h = digit_first is.digits is.behind is.value
    blank_first (c ∷ f) h = other_code is_white_space c 125 brace_solid (and_parts (is_white_space c) (is_blank f) h).0

pub count_again : (e : Bool) (t : Characters) (n : ℕ) (max : Option ℕ) (u : Characters) → IsCount e t n max u → read_count e t ≡ Some ((n, max), u)
count_again e _ _ _ _ (exactly a u n is) = first_again e a n 125 u is refl brace_solid
count_again e _ _ _ _ (from a u n is) = first_again e a n 44 (125 ∷ u) is refl comma_solid
count_again e _ _ _ _ (between a b u n m is is_m least) =
    first_again e a n 44 (b ++ 125 ∷ u) is refl comma_solid ∙ rw (no_brace b (125 ∷ u) m is_m) (second_again n m b u is_m least)
count_again e _ _ _ _ (up_to a b u m on blank is_m) =
    ap (λ x. if e && is_at 44 x then second 0 (drop 1 x) else (read_number (a ++ 44 ∷ (b ++ 125 ∷ u)) >>= λ r. counted_from r.0 r.1))
    (after_ends is_white_space a (44 ∷ (b ++ 125 ∷ u)) blank comma_solid)
    ∙ rw on (second_again 0 m b u is_m (omega arith))
