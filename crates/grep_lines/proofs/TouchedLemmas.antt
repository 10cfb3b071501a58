-- Only proofs use this file.
-- Spans that are left as lines are read, and the first of them.
use Rattle.std.proofs.Common.{ℕ, ◌≡◌, ◌<◌, ◌≤◌, ◌+◌, ◌∙◌, ◌∷◌, [], ◌&&◌, ◌||◌, ◌⊎◌, inl, inr, Bool, false, true, List, IfSome, Some, ap, arith, cond, refl, sym, length, nat_lt}
use Rattle.std.specs.Prelude.{nat_le, slice_get}
use Rattle.std.proofs.lemmas.Option.{none-some, same_Some}
use Rattle.std.proofs.lemmas.Bool.{and_from, and_left, and_parts, and_right, cases_lt, cond-false, cond-true, le-leb, le-ltb, leb-true, lt-leb, lt-ltb, ltb-false, ltb-true, or_from, or_left}
use Rattle.rc_text.specs.declared.types.Span.{Span}
use Rattle.grep_lines.specs.Touched.{are_from, behind, is_touched, left_at, touches}

-- the first span doesn't end before the place
pub stays : (place : ℕ) (s : Span) (rest spans : List Span) → spans ≡ s ∷ rest → nat_lt place (behind s) ≡ true → spans ≡ left_at place spans
stays place s rest spans is h = is ∙ sym (cond-true (nat_lt place (behind s)) (s ∷ rest) (left_at place rest) h) ∙ sym (ap (left_at place) is)

-- it does
pub passed : (place : ℕ) (s : Span) (rest spans : List Span) → spans ≡ s ∷ rest → nat_lt place (behind s) ≡ false → left_at place spans ≡ left_at place rest
passed place s rest spans is h = ap (left_at place) is ∙ cond-false (nat_lt place (behind s)) (s ∷ rest) (left_at place rest) h

-- spans that end before a line don't touch it
pub left_touch : (place : ℕ) (line : List ℕ) (spans : List Span) → is_touched (left_at place spans) place line ≡ is_touched spans place line
left_touch place line [] = refl
left_touch place line (s ∷ rest) = by (left_touch place line rest) (nat_lt place (behind s)) refl
  where
    by : is_touched (left_at place rest) place line ≡ is_touched rest place line → (b : Bool) → nat_lt place (behind s) ≡ b →
        is_touched (cond b (s ∷ rest) (left_at place rest)) place line ≡ (touches place line s || is_touched rest place line)
    by same true h = refl
    by same false h = same ∙ sym (ap (λ b. b || is_touched rest place line) (and_right (nat_lt s.start (place + length line + 1)) (nat_lt place (behind s)) h))

-- spans that end before a place end before a later one
pub left_again : (place p : ℕ) (spans : List Span) → place ≤ p → left_at p (left_at place spans) ≡ left_at p spans
left_again place p [] le = refl
left_again place p (s ∷ rest) le = by (left_again place p rest le) (nat_lt place (behind s)) refl
  where
    by : left_at p (left_at place rest) ≡ left_at p rest → (b : Bool) → nat_lt place (behind s) ≡ b →
        left_at p (cond b (s ∷ rest) (left_at place rest)) ≡ cond (nat_lt p (behind s)) (s ∷ rest) (left_at p rest)
    by same true h = refl
    by same false h =
        let past : behind s ≤ p = omega (arith, ltb-false place (behind s) h, le) in
        same ∙ sym (cond-false (nat_lt p (behind s)) (s ∷ rest) (left_at p rest) (le-ltb p (behind s) past))

-- the first of them doesn't end before it
pub left_first : (place : ℕ) (spans : List Span) → IfSome (slice_get (left_at place spans) 0) (λ s. place < behind s)
left_first place [] = tt
left_first place (s ∷ rest) = by (left_first place rest) (nat_lt place (behind s)) refl
  where
    by : IfSome (slice_get (left_at place rest) 0) (λ s. place < behind s) → (b : Bool) → nat_lt place (behind s) ≡ b →
        IfSome (slice_get (cond b (s ∷ rest) (left_at place rest)) 0) (λ s. place < behind s)
    by later true h = ltb-true place (behind s) h
    by later false h = later

-- they are in order
pub left_ordered : (place k : ℕ) (spans : List Span) → are_from k spans ≡ true → are_from 0 (left_at place spans) ≡ true
left_ordered place k [] h = refl
left_ordered place k (s ∷ rest) h =
    let ordered : are_from s.start rest ≡ true = (and_parts (nat_le k s.start) (are_from s.start rest) h).1 in
    by ordered (left_ordered place s.start rest ordered) (nat_lt place (behind s))
  where
    by : are_from s.start rest ≡ true → are_from 0 (left_at place rest) ≡ true → (b : Bool) → are_from 0 (cond b (s ∷ rest) (left_at place rest)) ≡ true
    by ordered later true = and_from (nat_le 0 s.start) (are_from s.start rest) (le-leb 0 s.start (omega arith)) ordered
    by ordered later false = later

-- spans behind a line don't touch it
none_behind : (k place : ℕ) (line : List ℕ) (spans : List Span) → are_from k spans ≡ true → place + length line < k → is_touched spans place line ≡ false
none_behind k place line [] h lt = refl
none_behind k place line (s ∷ rest) h lt =
    let parts = and_parts (nat_le k s.start) (are_from s.start rest) h in
    let far : k ≤ s.start = leb-true k s.start parts.0 in
    or_from (touches place line s) (is_touched rest place line)
    (and_left (nat_lt s.start (place + length line + 1)) (nat_lt place (behind s)) (le-ltb s.start (place + length line + 1) (omega (arith, far, lt))))
    (none_behind s.start place line rest parts.1 (omega (arith, far, lt)))

-- a span more is in order
order_more : (from : ℕ) (s : Span) (rest : List Span) → from ≤ s.start → are_from from (s ∷ rest) ≡ are_from s.start rest
order_more from s rest le = ap (λ b. b && are_from s.start rest) (le-leb from s.start le)

-- it isn't
order_none : (from : ℕ) (s : Span) (rest : List Span) → s.start < from → are_from from (s ∷ rest) ≡ false
order_none from s rest lt = ap (λ b. b && are_from s.start rest) (lt-leb from s.start lt)

pub order_step : (from : ℕ) (s : Span) (rest spans : List Span) → spans ≡ s ∷ rest → from ≤ s.start → are_from from spans ≡ are_from s.start rest
order_step from s rest spans is le = ap (are_from from) is ∙ order_more from s rest le

pub order_stop : (from : ℕ) (s : Span) (rest spans : List Span) → spans ≡ s ∷ rest → s.start < from → are_from from spans ≡ false
order_stop from s rest spans is lt = ap (are_from from) is ∙ order_none from s rest lt

-- a line is touched where the first span that doesn't end before it begins in it
first_of : (place : ℕ) (line : List ℕ) (s : Span) (rest : List Span) → are_from s.start rest ≡ true → place < behind s →
    is_touched (s ∷ rest) place line ≡ nat_le s.start (place + length line)
first_of place line s rest ordered first = by (cases_lt (place + length line) s.start)
  where
    by : (place + length line < s.start) ⊎ (s.start ≤ place + length line) → is_touched (s ∷ rest) place line ≡ nat_le s.start (place + length line)
    by (inl far) =
        or_from (touches place line s) (is_touched rest place line) (and_left (nat_lt s.start (place + length line + 1)) (nat_lt place (behind s)) (le-ltb s.start (place + length line + 1) (omega (arith, far))))
        (none_behind s.start place line rest ordered far)
        ∙ sym (lt-leb s.start (place + length line) far)
    by (inr near) =
        or_left (touches place line s) (is_touched rest place line)
        (and_from (nat_lt s.start (place + length line + 1)) (nat_lt place (behind s)) (lt-ltb s.start (place + length line + 1) (omega (arith, near))) (lt-ltb place (behind s) first))
        ∙ sym (le-leb s.start (place + length line) near)

pub first_tells : (place : ℕ) (line : List ℕ) (s : Span) (spans : List Span) → slice_get spans 0 ≡ Some s → are_from 0 spans ≡ true →
    IfSome (slice_get spans 0) (λ s. place < behind s) → is_touched spans place line ≡ nat_le s.start (place + length line)
first_tells place line s [] is ordered first = absurd (none-some s is)
first_tells place line s (t ∷ rest) is ordered first =
    first_of place line t rest (and_parts (nat_le 0 t.start) (are_from t.start rest) ordered).1 first ∙ ap (λ (x : Span). nat_le x.start (place + length line)) (same_Some t s is)
