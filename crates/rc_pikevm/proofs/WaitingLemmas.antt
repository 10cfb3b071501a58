-- How many threads wait: no more than there are places that read.
use Rattle.std.proofs.Common.{◌≡◌, ◌≢◌, ℕ, zero, suc, ◌+◌, ◌-◌, ◌*◌, ◌<◌, ◌≤◌, List, [], ◌∷◌, ◌++◌, map, drop, inl, inr, ⊎_elim, sym, subst, ap, ap₂, ◌∙◌, refl, arith, Bool, true, false, ◌&&◌, ◌||◌, true≢false, Option, Some, None, if◌then◌else◌, nat_eq, nat_le, nat_lt, ne_eqb, eq-eqb, slice_range}
use Rattle.std.proofs.lemmas.Bool.{and_parts, cases_Bool, leb-true, lt-leb, le-ltb}
use Rattle.std.proofs.lemmas.List.{drop-drop, drop-take}
use Rattle.std.proofs.lemmas.Option.{none-some, same_Some}
use lib.Utf8.{scalar as is_scalar}
use Rattle.rc_walks.specs.Walks.{Pair}
use Rattle.rc_program.specs.Program.{Place, choice, byte, branch, scalar, guard, slot, accept, Way, stays, reads, branch_ways, in_ranges, over_scalar, pair_at, place_at}
use Rattle.rc_program.specs.Scalars.{continues, in_bytes, of_two, of_three, of_four, scalar_at}
use Rattle.rc_program.specs.Text.{Text, ahead, holds}
use Rattle.rc_pikevm.specs.Readers as readers
use Rattle.rc_pikevm.specs.Readers.{count_of, reader_count}
use Rattle.rc_pikevm.specs.Sights.{Sight}
use Rattle.rc_pikevm.specs.Sparse.{Has}
use Rattle.rc_pikevm.specs.Waiting.{given, is_among, reaches, reads_scalar, still, sum_without}

-- WEIGHTS OF PLACES

same_without : (t u : ℕ → Bool) (weight : Place → ℕ) (places : List Place) → ((k : ℕ) → u k ≡ t k) →
    sum_without u weight places ≡ sum_without t weight places
same_without t u weight [] same = refl
same_without t u weight (q ∷ qs) same =
    ap₂ (λ b r. (if b then 0 else weight q) + r) (same 0)
    (same_without (λ k. t (suc k)) (λ k. u (suc k)) weight qs (λ k. same (suc k)))

-- a place more is left out
one_less : (t u : ℕ → Bool) (weight : Place → ℕ) (places : List Place) (p : ℕ) → weight (choice []) ≡ 0 → t p ≡ false → u p ≡ true →
    ((k : ℕ) → k ≢ p → u k ≡ t k) → sum_without u weight places + weight (place_at places p) ≤ sum_without t weight places
one_less t u weight [] p light out in_ same = omega (arith, light)
one_less t u weight (q ∷ qs) zero light out in_ same =
    let e = same_without (λ k. t (suc k)) (λ k. u (suc k)) weight qs (λ k. same (suc k) (λ z. let f : suc k ≡ 0 = z in absurd (omega (arith, f)))) in
    rw (out, in_) (omega (arith, e))
one_less t u weight (q ∷ qs) (suc p) light out in_ same =
    let ih = one_less (λ k. t (suc k)) (λ k. u (suc k)) weight qs p light out in_
    (λ k ne. same (suc k) (λ z. ne (let f : suc k ≡ suc p = z in omega (arith, f)))) in
    let e : u 0 ≡ t 0 = same 0 (λ z. let f : 0 ≡ suc p = z in absurd (omega (arith, f))) in
    rw e (omega (arith, ih))

-- the sum is no more than a count of places, each of which weighs one at most
sum_counts : (test : ℕ → Bool) (weight : Place → ℕ) (other counted : Place → Bool) (places : List Place) →
    ((q : Place) → weight q + (if other q then 1 else 0) ≤ (if counted q then 1 else 0)) →
    sum_without test weight places + count_of other places ≤ count_of counted places
sum_counts test weight other counted [] each = omega arith
sum_counts test weight other counted (q ∷ qs) each =
    let ih = sum_counts (λ k. test (suc k)) weight other counted qs each in
    head (test 0) (other q) (counted q) (weight q) (sum_without (λ k. test (suc k)) weight qs) (count_of other qs) (count_of counted qs) (each q) ih
  where
    head : (t o c : Bool) (w sum a b : ℕ) → w + (if o then 1 else 0) ≤ (if c then 1 else 0) → sum + a ≤ b →
        (if t then 0 else w) + sum + (if o then 1 + a else a) ≤ (if c then 1 + b else b)
    head true true true w sum a b h ih = omega (arith, h, ih)
    head true true false w sum a b h ih = absurd (omega (arith, h))
    head true false true w sum a b h ih = omega (arith, ih)
    head true false false w sum a b h ih = omega (arith, ih)
    head false true true w sum a b h ih = omega (arith, h, ih)
    head false true false w sum a b h ih = absurd (omega (arith, h))
    head false false true w sum a b h ih = omega (arith, h, ih)
    head false false false w sum a b h ih = omega (arith, h, ih)

no_sum : (test : ℕ → Bool) (weight : Place → ℕ) (places : List Place) → ((q : Place) → weight q ≡ 0) → sum_without test weight places ≡ 0
no_sum test weight [] each = refl
no_sum test weight (q ∷ qs) each =
    let ih = no_sum (λ k. test (suc k)) weight qs each in rw (each q, ih) (none (test 0))
  where
    none : (b : Bool) → (if b then 0 else 0) + 0 ≡ 0
    none true = refl
    none false = refl

-- PLACES THAT WERE ENTERED

not_among : (items : List ℕ) (p : ℕ) → ¬ Has items p → is_among items p ≡ false
not_among [] p fresh = refl
not_among (q ∷ qs) p fresh = rw (ne_eqb q p (λ e. fresh (inl e)), not_among qs p (λ h. fresh (inr h))) refl

pushed_among : (items : List ℕ) (p : ℕ) → is_among (items ++ p ∷ []) p ≡ true
pushed_among [] p = rw (eq-eqb p p refl) refl
pushed_among (q ∷ qs) p = rw (pushed_among qs p) (⊎_elim (λ t. rw t refl) (λ f. rw f refl) (cases_Bool (nat_eq q p)))

others_among : (items : List ℕ) (p k : ℕ) → k ≢ p → is_among (items ++ p ∷ []) k ≡ is_among items k
others_among [] p k ne = rw (ne_eqb p k (λ e. ne (sym e))) refl
others_among (q ∷ qs) p k ne = ap (λ b. nat_eq q k || b) (others_among qs p k ne)

-- a place is entered
pub still_entered : (s : Sight) (at q : ℕ) (entered : List ℕ) (p : ℕ) → ¬ Has entered p →
    still s at q (entered ++ p ∷ []) + given s at q (place_at s.places p) ≤ still s at q entered
still_entered s at q entered p fresh =
    one_less (is_among entered) (is_among (entered ++ p ∷ [])) (given s at q) s.places p refl (not_among entered p fresh) (pushed_among entered p)
    (λ k ne. others_among entered p k ne)

-- WHAT A PLACE GIVES

one_reach : (q : ℕ) (ms : List Pair) → reaches q ms ≤ 1
one_reach q [] = omega arith
one_reach q (m ∷ ms) = ⊎_elim (λ t. rw t (omega arith)) (λ f. rw f (one_reach q ms)) (cases_Bool (nat_le q m.1))

none_stays : (q at : ℕ) (ns : List ℕ) → at < q → reaches q (map (pair_at at) (map stays ns)) ≡ 0
none_stays q at [] past = refl
none_stays q at (n ∷ ns) past = rw (lt-leb q at past) (none_stays q at ns past)

none_branches : (q at b : ℕ) (ts : List ((ℕ × ℕ) × ℕ)) → at + 1 < q → reaches q (map (pair_at at) (branch_ways b ts)) ≡ 0
none_branches q at b [] past = refl
none_branches q at b (t ∷ ts) past =
    ⊎_elim (λ is. rw is (rw (lt-leb q (at + 1) past) (none_branches q at b ts past))) (λ not. rw not (none_branches q at b ts past))
    (cases_Bool (nat_le t.0.0 b && nat_le b t.0.1))

-- the scalar ahead ends before q
none_scalar : (q at : ℕ) (rs : List (ℕ × ℕ)) (n : ℕ) (o : Option (ℕ × ℕ)) → ((c : ℕ × ℕ) → o ≡ Some c → at + c.1 < q) →
    reaches q (map (pair_at at) (over_scalar rs n o)) ≡ 0
none_scalar q at rs n None short = refl
none_scalar q at rs n (Some c) short =
    ⊎_elim (λ is. rw is (rw (lt-leb q (at + c.1) (short c refl)) refl)) (λ not. rw not refl) (cases_Bool (in_ranges rs c.0))

module _ (s : Sight) (at q : ℕ) where
  abbrev bytes : List ℕ
  bytes = ahead s.text s.hi at

  abbrev IsShort : Type 0
  IsShort = (c : ℕ × ℕ) → scalar_at bytes ≡ Some c → at + c.1 < q

  given_byte : (rs : List (ℕ × ℕ)) (n : ℕ) (bs : List ℕ) → at + 1 < q →
      reaches q (map (pair_at at) (Rattle.rc_program.specs.Program.over_byte (λ b. if in_ranges rs b then reads 1 n ∷ [] else []) bs)) ≡ 0
  given_byte rs n [] past = refl
  given_byte rs n (b ∷ bs) past =
      ⊎_elim (λ is. rw is (rw (lt-leb q (at + 1) past) refl)) (λ not. rw not refl) (cases_Bool (in_ranges rs b))

  given_branch : (ts : List ((ℕ × ℕ) × ℕ)) (bs : List ℕ) → at + 1 < q →
      reaches q (map (pair_at at) (Rattle.rc_program.specs.Program.over_byte (λ b. branch_ways b ts) bs)) ≡ 0
  given_branch ts [] past = refl
  given_branch ts (b ∷ bs) past = none_branches q at b ts past

  given_guard : (b : Bool) (n : ℕ) → at < q → reaches q (map (pair_at at) (if b then stays n ∷ [] else [])) ≡ 0
  given_guard true n past = none_stays q at (n ∷ []) past
  given_guard false n past = refl

  -- threads wait past the next byte only where a scalar is ahead that is as long
  given_past : (place : Place) → at + 1 < q → IsShort → given s at q place ≡ 0
  given_past (choice ns) past short = none_stays q at ns (omega (arith, past))
  given_past (byte rs n) past short = given_byte rs n bytes past
  given_past (branch ts) past short = given_branch ts bytes past
  given_past (scalar rs n) past short = none_scalar q at rs n (scalar_at bytes) short
  given_past (guard l n) past short = given_guard (holds s.text l at) n (omega (arith, past))
  given_past (slot k n) past short = none_stays q at (n ∷ []) (omega (arith, past))
  given_past (accept p) past short = refl

  -- those that wait longer are given by places that read scalars
  given_long : (place : Place) → at + 1 < q → given s at q place + 0 ≤ (if reads_scalar place then 1 else 0)
  given_long (choice ns) past = rw (none_stays q at ns (omega (arith, past))) (omega arith)
  given_long (byte rs n) past = rw (given_byte rs n bytes past) (omega arith)
  given_long (branch ts) past = rw (given_branch ts bytes past) (omega arith)
  given_long (scalar rs n) past = let o = one_reach q (map (pair_at at) (over_scalar rs n (scalar_at bytes))) in omega (arith, o)
  given_long (guard l n) past = rw (given_guard (holds s.text l at) n (omega (arith, past))) (omega arith)
  given_long (slot k n) past = rw (none_stays q at (n ∷ []) (omega (arith, past))) (omega arith)
  given_long (accept p) past = omega arith

  -- where no scalar is ahead, places that read scalars give none
  given_here : (place : Place) → at < q → scalar_at bytes ≡ None →
      given s at q place + (if reads_scalar place then 1 else 0) ≤ (if readers.reads place then 1 else 0)
  given_here (choice ns) past none = rw (none_stays q at ns past) (omega arith)
  given_here (byte rs n) past none = let o = one_reach q (map (pair_at at) (Rattle.rc_program.specs.Program.over_byte (λ b. if in_ranges rs b then reads 1 n ∷ [] else []) bytes)) in omega (arith, o)
  given_here (branch ts) past none = let o = one_reach q (map (pair_at at) (Rattle.rc_program.specs.Program.over_byte (λ b. branch_ways b ts) bytes)) in omega (arith, o)
  given_here (scalar rs n) past none = rw none (omega arith)
  given_here (guard l n) past none = rw (given_guard (holds s.text l at) n past) (omega arith)
  given_here (slot k n) past none = rw (none_stays q at (n ∷ []) past) (omega arith)
  given_here (accept p) past none = omega arith

  -- each gives one at most, if it reads
  given_any : (place : Place) → at < q → given s at q place + 0 ≤ (if readers.reads place then 1 else 0)
  given_any (choice ns) past = rw (none_stays q at ns past) (omega arith)
  given_any (byte rs n) past = let o = one_reach q (map (pair_at at) (Rattle.rc_program.specs.Program.over_byte (λ b. if in_ranges rs b then reads 1 n ∷ [] else []) bytes)) in omega (arith, o)
  given_any (branch ts) past = let o = one_reach q (map (pair_at at) (Rattle.rc_program.specs.Program.over_byte (λ b. branch_ways b ts) bytes)) in omega (arith, o)
  given_any (scalar rs n) past = let o = one_reach q (map (pair_at at) (over_scalar rs n (scalar_at bytes))) in omega (arith, o)
  given_any (guard l n) past = rw (given_guard (holds s.text l at) n past) (omega arith)
  given_any (slot k n) past = rw (none_stays q at (n ∷ []) past) (omega arith)
  given_any (accept p) past = omega arith

  -- WHAT ALL PLACES GIVE

  pub still_here : (entered : List ℕ) → at < q → scalar_at bytes ≡ None →
      still s at q entered + count_of reads_scalar s.places ≤ reader_count s.places
  still_here entered past none =
      sum_counts (is_among entered) (given s at q) reads_scalar readers.reads s.places (λ place. given_here place past none)

  pub still_any : (entered : List ℕ) → at < q → still s at q entered ≤ reader_count s.places
  still_any entered past =
      let c = sum_counts (is_among entered) (given s at q) (λ _. false) readers.reads s.places (λ place. given_any place past) in omega (arith, c)

  pub still_long : (entered : List ℕ) → at + 1 < q → still s at q entered ≤ count_of reads_scalar s.places
  still_long entered past =
      let c = sum_counts (is_among entered) (given s at q) (λ _. false) reads_scalar s.places (λ place. given_long place past) in omega (arith, c)

  pub still_past : (entered : List ℕ) → at + 1 < q → IsShort → still s at q entered ≡ 0
  still_past entered past short = no_sum (is_among entered) (given s at q) s.places (λ place. given_past place past short)

-- SCALARS

if_some : {X : Type 0} (b : Bool) (o : Option X) (y : X) → (if b then o else None) ≡ Some y → (b ≡ true) × (o ≡ Some y)
if_some true o y e = (refl, e)
if_some false o y e = absurd (none-some y e)

in_bytes_count : (count least c : ℕ) (s : ℕ × ℕ) → in_bytes count least c ≡ Some s → s.1 ≡ count
in_bytes_count count least c s e =
    let p = if_some (nat_le least c && is_scalar c) (Some (c, count)) s e in
    ap (λ (z : ℕ × ℕ). z.1) (sym (same_Some (c, count) s p.1))

-- no scalar begins with a continuation byte
not_begun : (b : ℕ) (bs : List ℕ) → continues b ≡ true → scalar_at (b ∷ bs) ≡ None
not_begun b bs h =
    let p = and_parts (nat_le 128 b) (nat_lt b 192) h in
    rw (le-ltb b 128 (leb-true 128 b p.0), p.1) refl

within_two : (a : ℕ) (bs : List ℕ) (s : ℕ × ℕ) (j : ℕ) → of_two a bs ≡ Some s → suc j < s.1 → scalar_at (drop j bs) ≡ None
within_two a [] s j e l = absurd (none-some s e)
within_two a (b ∷ bs) s j e l =
    let p = if_some (continues b) (in_bytes 2 0x80 (a * 64 + (b - 128))) s e in
    first j (omega (arith, l, in_bytes_count 2 0x80 (a * 64 + (b - 128)) s p.1))
    (not_begun b bs p.0)
  where
    first : (j : ℕ) → j < 1 → scalar_at (b ∷ bs) ≡ None → scalar_at (drop j (b ∷ bs)) ≡ None
    first zero low none = none
    first (suc j) low none = absurd (omega (arith, low))

within_three : (a : ℕ) (bs : List ℕ) (s : ℕ × ℕ) (j : ℕ) → of_three a bs ≡ Some s → suc j < s.1 → scalar_at (drop j bs) ≡ None
within_three a [] s j e l = absurd (none-some s e)
within_three a (b ∷ []) s j e l = absurd (none-some s e)
within_three a (b ∷ c ∷ bs) s j e l =
    let p = if_some (continues b && continues c) (in_bytes 3 0x800 ((a * 64 + (b - 128)) * 64 + (c - 128))) s e in
    let both = and_parts (continues b) (continues c) p.0 in
    first j (omega (arith, l, in_bytes_count 3 0x800 ((a * 64 + (b - 128)) * 64 + (c - 128)) s p.1))
    (not_begun b (c ∷ bs) both.0) (not_begun c bs both.1)
  where
    first : (j : ℕ) → j < 2 → scalar_at (b ∷ c ∷ bs) ≡ None → scalar_at (c ∷ bs) ≡ None → scalar_at (drop j (b ∷ c ∷ bs)) ≡ None
    first zero low x y = x
    first (suc zero) low x y = y
    first (suc (suc j)) low x y = absurd (omega (arith, low))

within_four : (a : ℕ) (bs : List ℕ) (s : ℕ × ℕ) (j : ℕ) → of_four a bs ≡ Some s → suc j < s.1 → scalar_at (drop j bs) ≡ None
within_four a [] s j e l = absurd (none-some s e)
within_four a (b ∷ []) s j e l = absurd (none-some s e)
within_four a (b ∷ c ∷ []) s j e l = absurd (none-some s e)
within_four a (b ∷ c ∷ d ∷ bs) s j e l =
    let code : ℕ = ((a * 64 + (b - 128)) * 64 + (c - 128)) * 64 + (d - 128) in
    let p = if_some (continues b && continues c && continues d) (in_bytes 4 0x1_0000 code) s e in
    let all = and_parts (continues b && continues c) (continues d) p.0 in
    let both = and_parts (continues b) (continues c) all.0 in
    first j (omega (arith, l, in_bytes_count 4 0x1_0000 code s p.1))
    (not_begun b (c ∷ d ∷ bs) both.0) (not_begun c (d ∷ bs) both.1) (not_begun d bs all.1)
  where
    first : (j : ℕ) → j < 3 → scalar_at (b ∷ c ∷ d ∷ bs) ≡ None → scalar_at (c ∷ d ∷ bs) ≡ None → scalar_at (d ∷ bs) ≡ None →
        scalar_at (drop j (b ∷ c ∷ d ∷ bs)) ≡ None
    first zero low x y z = x
    first (suc zero) low x y z = y
    first (suc (suc zero)) low x y z = z
    first (suc (suc (suc j))) low x y z = absurd (omega (arith, low))

-- no scalar begins within another
within_scalar : (bs : List ℕ) (s : ℕ × ℕ) (j : ℕ) → scalar_at bs ≡ Some s → suc j < s.1 → scalar_at (drop (suc j) bs) ≡ None
within_scalar [] s j e l = absurd (none-some s e)
within_scalar (a ∷ bs) s j e l =
    ⊎_elim (λ (low : nat_lt a 128 ≡ true). let one : Some (a, 1) ≡ Some s = rw low at e in
    let n = ap (λ (z : ℕ × ℕ). z.1) (same_Some (a, 1) s one) in absurd (omega (arith, n, l)))
    (λ (h1 : nat_lt a 128 ≡ false). ⊎_elim (λ (none : nat_lt a 192 ≡ true). absurd (none-some s (rw (h1, none) at e)))
    (λ (h2 : nat_lt a 192 ≡ false). ⊎_elim (λ (two : nat_lt a 224 ≡ true). within_two (a - 192) bs s j (rw (h1, h2, two) at e) l)
    (λ (h3 : nat_lt a 224 ≡ false). ⊎_elim (λ (three : nat_lt a 240 ≡ true). within_three (a - 224) bs s j (rw (h1, h2, h3, three) at e) l)
    (λ (h4 : nat_lt a 240 ≡ false). ⊎_elim (λ (four : nat_lt a 248 ≡ true). within_four (a - 240) bs s j (rw (h1, h2, h3, h4, four) at e) l)
    (λ (h5 : nat_lt a 248 ≡ false). absurd (none-some s (rw (h1, h2, h3, h4, h5) at e)))
    (cases_Bool (nat_lt a 248))) (cases_Bool (nat_lt a 240))) (cases_Bool (nat_lt a 224))) (cases_Bool (nat_lt a 192))) (cases_Bool (nat_lt a 128))

ahead_later : (t : Text) (hi at x : ℕ) → at ≤ x → x ≤ hi → ahead t hi x ≡ drop (x - at) (ahead t hi at)
ahead_later t hi at x low high =
    let len : hi - at ≡ (x - at) + (hi - x) = omega (arith, low, high) in
    let there : at + (x - at) ≡ x = omega (arith, low) in
    sym (ap (λ k. drop (x - at) (Rattle.std.proofs.Common.take k (drop at t.content))) len ∙ drop-take (x - at) (hi - x) (drop at t.content)
    ∙ ap (Rattle.std.proofs.Common.take (hi - x)) (drop-drop (x - at) at t.content ∙ ap (λ k. drop k t.content) there))

-- a scalar ahead at one position hides the next ones
pub hidden : (t : Text) (hi at x : ℕ) (s : ℕ × ℕ) → scalar_at (ahead t hi at) ≡ Some s → at < x → x < at + s.1 → x ≤ hi →
    scalar_at (ahead t hi x) ≡ None
hidden t hi at x s e low high within =
    let j : ℕ = x - at - 1 in
    let is : x - at ≡ suc j = omega (arith, low) in
    ap scalar_at (ahead_later t hi at x (omega (arith, low)) within ∙ ap (λ k. drop k (ahead t hi at)) is)
    ∙ within_scalar (ahead t hi at) s j e (omega (arith, is, low, high))
