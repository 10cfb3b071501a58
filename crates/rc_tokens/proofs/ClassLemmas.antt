-- A class has codes as the ends of its ranges, and its ranges ascend.
use Rattle.std.proofs.Common.{◌≡◌, ℕ, zero, suc, ◌+◌, ◌-◌, ◌<◌, ◌≤◌, ◌⊎◌, inl, inr, ⊎_elim, Bool, true, false, ◌&&◌, ◌||◌, ◌==◌, nat_le, nat_lt, List, [], ◌∷◌, ◌++◌, Option, Some, None, length, max, min, refl, ap, sym, subst, ◌∙◌, append-nil, arith, if◌then◌else◌}
use Rattle.std.proofs.lemmas.Option.{none-some, same_Some}
use Rattle.std.proofs.lemmas.Bool.{ltb-true, ltb-false, eqb-true, eqb-false, lt-ltb}
use Rattle.rc_pattern.specs.Re.{Range}
use Rattle.rc_pattern.specs.WellFormed.{AreAscending}
use Rattle.rc_tokens.specs.Text.{◌>>=◌}
use Rattle.rc_tokens.specs.Classes.{shared, lower, upper, folded, next, before, joins, canonical, last_code, gaps, folded_if, class_of, set_ranges, perl_ranges, is_code, code_of, items, led_items, list_ranges, AreCodes}
use Rattle.rc_tokens.specs.Members.{InOrder}
use Rattle.rc_tokens.specs.Items.{Taken, range_end, ranged_to, may_be_itself, ranged, item, more}
use Rattle.rc_tokens.specs.declared.tokens.Set.{Set}
use Rattle.rc_tokens.specs.declared.tokens.Set.TheVariants.{Digits, Spaces, Words}
use Rattle.rc_tokens.specs.declared.tokens.Perl.{Perl}
use Rattle.rc_tokens.specs.declared.tokens.Member.{Member}
use Rattle.rc_tokens.specs.declared.tokens.Member.TheVariants.{Character, Byte, Hyphen}
use Rattle.rc_tokens.specs.declared.tokens.Member.TheVariants as member
use Rattle.rc_tokens.proofs.StepLemmas.{some_parts, guard_parts, and_parts, or_parts}
use Rattle.rc_tokens.proofs.ItemLemmas.{step, item_left, then_more}

-- ---- codes

pub le_true : (a b : ℕ) → nat_le a b ≡ true → a ≤ b
le_true a b h = grind (arith, h)

le_yes : (a b : ℕ) → a ≤ b → nat_le a b ≡ true
le_yes a b h = grind (arith, h)

-- what a code is, in numbers
abbrev pub IsCode : Bool → ℕ → Type 0
IsCode true c = (c < 0xD800) ⊎ ((0xE000 ≤ c) × (c < 0x110000))
IsCode false c = c < 256

pub code_is : (u : Bool) (c : ℕ) → is_code u c ≡ true → IsCode u c
code_is true c h = ⊎_elim (λ l. inl (ltb-true c 0xD800 l))
    (λ g. let (a, b) = and_parts (nat_le 0xE000 c) (nat_lt c 0x110000) g in inr (le_true 0xE000 c a, ltb-true c 0x110000 b))
    (or_parts (nat_lt c 0xD800) (nat_le 0xE000 c && nat_lt c 0x110000) h)
code_is false c h = ltb-true c 256 h

or_right : (a b : Bool) → b ≡ true → (a || b) ≡ true
or_right true b h = refl
or_right false b h = h

is_code_of : (u : Bool) (c : ℕ) → IsCode u c → is_code u c ≡ true
is_code_of true c h = ⊎_elim (λ l. rw (lt-ltb c 0xD800 l) refl)
    (λ g. or_right (nat_lt c 0xD800) (nat_le 0xE000 c && nat_lt c 0x110000) (rw (le_yes 0xE000 c g.0) (rw (lt-ltb c 0x110000 g.1) refl))) h
is_code_of false c h = lt-ltb c 256 h

small_code : (u : Bool) (c : ℕ) → c < 256 → is_code u c ≡ true
small_code true c h = is_code_of true c (inl (omega (arith, h)))
small_code false c h = is_code_of false c h

pub codes_append : (u : Bool) (rs qs : List Range) → AreCodes u rs → AreCodes u qs → AreCodes u (rs ++ qs)
codes_append u [] qs h g = g
codes_append u (r ∷ rs) qs h g = (h.0, h.1, h.2, codes_append u rs qs h.3 g)

one : (u : Bool) (c : ℕ) → is_code u c ≡ true → AreCodes u ((c, c) ∷ [])
one u c h = (h, h, omega arith, tt)

-- ---- folding

pub if_elim : {A : Type 0} (P : A → Type 0) (b : Bool) (x y : A) → (b ≡ true → P x) → (b ≡ false → P y) → P (if b then x else y)
if_elim P true x y f g = f refl
if_elim P false x y f g = g refl

lower_codes : (u : Bool) (r : Range) → AreCodes u (lower (shared 65 90 r))
lower_codes u r = if_elim (λ rs. AreCodes u (lower rs)) (nat_le (max 65 r.0) (min 90 r.1)) ((max 65 r.0, min 90 r.1) ∷ []) []
    (λ h. let l = le_true (max 65 r.0) (min 90 r.1) h in
    (small_code u (max 65 r.0 + 32) (omega (arith, l)), small_code u (min 90 r.1 + 32) (omega (arith, l)), omega (arith, l), tt)) (λ _. tt)

upper_codes : (u : Bool) (r : Range) → AreCodes u (upper (shared 97 122 r))
upper_codes u r = if_elim (λ rs. AreCodes u (upper rs)) (nat_le (max 97 r.0) (min 122 r.1)) ((max 97 r.0, min 122 r.1) ∷ []) []
    (λ h. let l = le_true (max 97 r.0) (min 122 r.1) h in
    (small_code u (max 97 r.0 - 32) (omega (arith, l)), small_code u (min 122 r.1 - 32) (omega (arith, l)), omega (arith, l), tt)) (λ _. tt)

pub folded_codes : (u : Bool) (rs : List Range) → AreCodes u rs → AreCodes u (folded rs)
folded_codes u [] h = tt
folded_codes u (r ∷ rs) h = (
  h.0,
  h.1,
  h.2,
  codes_append u (lower (shared 65 90 r)) (upper (shared 97 122 r) ++ folded rs) (lower_codes u r)
      (codes_append u (upper (shared 97 122 r)) (folded rs) (upper_codes u r) (folded_codes u rs h.3)),
)

-- ---- in order

pub either : (P : ℕ → Type 0) (a b c : ℕ) → (c ≡ a) ⊎ (c ≡ b) → P a → P b → P c
either P a b c h x y = ⊎_elim (λ e. subst P (sym e) x) (λ e. subst P (sym e) y) h

min_one : (a b : ℕ) → (min a b ≡ a) ⊎ (min a b ≡ b)
min_one a b = go (nat_lt a b) refl
  where
    go : (t : Bool) → nat_lt a b ≡ t → (min a b ≡ a) ⊎ (min a b ≡ b)
    go true e = let l = ltb-true a b e in inl (omega (arith, l))
    go false e = let l = ltb-false a b e in inr (omega (arith, l))

pub max_one : (a b : ℕ) → (max a b ≡ a) ⊎ (max a b ≡ b)
max_one a b = go (nat_lt a b) refl
  where
    go : (t : Bool) → nat_lt a b ≡ t → (max a b ≡ a) ⊎ (max a b ≡ b)
    go true e = let l = ltb-true a b e in inr (omega (arith, l))
    go false e = let l = ltb-false a b e in inl (omega (arith, l))

joins_codes : (u : Bool) (r : Range) (rs : List Range) → AreCodes u (r ∷ []) → AreCodes u rs → AreCodes u (joins u r rs)
joins_codes u r [] h g = h
joins_codes u r (q ∷ qs) h g =
    if_elim (AreCodes u) (nat_lt (next u r.1) q.0) (r ∷ q ∷ qs) (if nat_lt (next u q.1) r.0 then q ∷ joins u r qs else joins u (min r.0 q.0, max r.1 q.1) qs)
    (λ _. (h.0, h.1, h.2, g))
    (λ _. if_elim (AreCodes u) (nat_lt (next u q.1) r.0) (q ∷ joins u r qs) (joins u (min r.0 q.0, max r.1 q.1) qs)
    (λ _. (g.0, g.1, g.2, joins_codes u r qs h g.3))
    (λ _. joins_codes u (min r.0 q.0, max r.1 q.1) qs (
      either (λ c. is_code u c ≡ true) r.0 q.0 (min r.0 q.0) (min_one r.0 q.0) h.0 g.0,
      either (λ c. is_code u c ≡ true) r.1 q.1 (max r.1 q.1) (max_one r.1 q.1) h.1 g.1,
      ordered,
      tt,
    ) g.3))
  where
    ordered : min r.0 q.0 ≤ max r.1 q.1
    ordered = let a = h.2 in omega (arith, a)

pub canonical_codes : (u : Bool) (rs : List Range) → AreCodes u rs → AreCodes u (canonical u rs)
canonical_codes u [] h = tt
canonical_codes u (r ∷ rs) h = joins_codes u r (canonical u rs) (h.0, h.1, h.2, tt) (canonical_codes u rs h.3)

pub next_above : (u : Bool) (c : ℕ) → c < next u c
next_above u c = if_elim (λ x. c < x) (u && c == 0xD7FF) 0xE000 (c + 1) (λ e. let (_, b) = and_parts u (c == 0xD7FF) e in let h = eqb-true c 0xD7FF b in omega (arith, h)) (λ _. omega arith)

pub lower_floor : (u : Bool) (m n : ℕ) (rs : List Range) → m ≤ n → InOrder u n rs → InOrder u m rs
lower_floor u m n [] l h = tt
lower_floor u m n (r ∷ rs) l h = (omega (arith, l, h.0), h.1, h.2)

joins_in_order : (u : Bool) (n : ℕ) (r : Range) (rs : List Range) → n ≤ r.0 → r.0 ≤ r.1 → InOrder u n rs → InOrder u n (joins u r rs)
joins_in_order u n r [] a b h = (a, b, tt)
joins_in_order u n r (q ∷ qs) a b h =
    if_elim (InOrder u n) (nat_lt (next u r.1) q.0) (r ∷ q ∷ qs) (if nat_lt (next u q.1) r.0 then q ∷ joins u r qs else joins u (min r.0 q.0, max r.1 q.1) qs)
    (λ e. let l = ltb-true (next u r.1) q.0 e in (a, b, (omega (arith, l), h.1, h.2)))
    (λ _. if_elim (InOrder u n) (nat_lt (next u q.1) r.0) (q ∷ joins u r qs) (joins u (min r.0 q.0, max r.1 q.1) qs)
    (λ e. let l = ltb-true (next u q.1) r.0 e in (h.0, h.1, joins_in_order u (suc (next u q.1)) r qs (omega (arith, l)) b h.2))
    (λ _. joins_in_order u n (min r.0 q.0, max r.1 q.1) qs least ordered
    (lower_floor u n (suc (next u q.1)) qs floor h.2)))
  where
    least : n ≤ min r.0 q.0
    least = let x = h.0 in omega (arith, a, x)

    ordered : min r.0 q.0 ≤ max r.1 q.1
    ordered = omega (arith, b)

    floor : n ≤ suc (next u q.1)
    floor = let x = h.0 in let y = h.1 in let z = next_above u q.1 in omega (arith, x, y, z)

pub canonical_in_order : (u : Bool) (rs : List Range) → AreCodes u rs → InOrder u 0 (canonical u rs)
canonical_in_order u [] h = tt
canonical_in_order u (r ∷ rs) h = joins_in_order u 0 r (canonical u rs) (omega arith) h.2 (canonical_in_order u rs h.3)

ascending : (u : Bool) (m n : ℕ) (rs : List Range) → m ≤ n → InOrder u n rs → AreAscending m rs
ascending u m n [] l h = tt
ascending u m n (r ∷ rs) l h = (omega (arith, l, h.0), h.1, ascending u (r.1 + 1) (suc (next u r.1)) rs (let z = next_above u r.1 in omega (arith, z)) h.2)

-- ---- gaps

last_is : (u : Bool) → IsCode u (last_code u)
last_is true = inr (omega arith, omega arith)
last_is false = omega arith

-- where a gap may begin: at a code, or behind all
abbrev pub IsStart : Bool → ℕ → Type 0
IsStart u c = IsCode u c ⊎ (last_code u < c)

pub next_start : (u : Bool) (c : ℕ) → IsCode u c → IsStart u (next u c)
next_start true c h = if_elim (IsStart true) (c == 0xD7FF) 0xE000 (c + 1) (λ _. inl (inr (omega arith, omega arith)))
    (λ e. let n = eqb-false c 0xD7FF e in ⊎_elim (λ l. inl (inl (omega (arith, l, n)))) (λ (a, b). go (nat_lt c 0x10FFFF) refl a b) h)
  where
    go : (t : Bool) → nat_lt c 0x10FFFF ≡ t → 0xE000 ≤ c → c < 0x110000 → IsStart true (c + 1)
    go true e a b = let l = ltb-true c 0x10FFFF e in inl (inr (omega (arith, a), omega (arith, l)))
    go false e a b = let l = ltb-false c 0x10FFFF e in inr (omega (arith, l))
next_start false c h = go (nat_lt c 255) refl
  where
    go : (t : Bool) → nat_lt c 255 ≡ t → IsStart false (c + 1)
    go true e = let l = ltb-true c 255 e in inl (omega (arith, l))
    go false e = let l = ltb-false c 255 e in inr (omega (arith, l))

pub code_most : (u : Bool) (c : ℕ) → IsCode u c → c ≤ last_code u
code_most true c h = ⊎_elim (λ l. omega (arith, l)) (λ (a, b). omega (arith, b)) h
code_most false c h = omega (arith, h)

pub start_code : (u : Bool) (c d : ℕ) → IsStart u c → d ≤ last_code u → c ≤ d → IsCode u c
start_code u c d h l g = ⊎_elim (λ x. x) (λ x. absurd (omega (arith, x, l, g))) h

-- the code before one that isn't the first, and no start stands between them
pub before_code : (u : Bool) (c s : ℕ) → IsCode u c → IsCode u s → s < c → IsCode u (before u c) × (s ≤ before u c) × (before u c < c)
before_code true c s h g l = if_elim (λ x. IsCode true x × (s ≤ x) × (x < c)) (c == 0xE000) 0xD7FF (c - 1)
    (λ e. let is = eqb-true c 0xE000 e in (inl (omega arith), ⊎_elim (λ a. omega (arith, a)) (λ (a, b). absurd (omega (arith, a, is, l))) g, omega (arith, is)))
    (λ e. let n = eqb-false c 0xE000 e in (⊎_elim (λ a. inl (omega (arith, a))) (λ (a, b). inr (omega (arith, a, n), omega (arith, b))) h, omega (arith, l), omega (arith, l)))
before_code false c s h g l = (omega (arith, h), omega (arith, l), omega (arith, l))

rise : (m n : ℕ) (rs : List Range) → m ≤ n → AreAscending n rs → AreAscending m rs
rise m n [] l h = tt
rise m n (r ∷ rs) l h = (omega (arith, l, h.0), h.1, h.2)

abbrev Fine : Bool → ℕ → List Range → Type 0
Fine u n rs = AreCodes u rs × AreAscending n rs

gaps_fine : (u : Bool) (start : ℕ) (rs : List Range) → IsStart u start → InOrder u start rs → AreCodes u rs → Fine u start (gaps u start rs)
gaps_fine u start [] s h g = if_elim (Fine u start) (nat_le start (last_code u)) ((start, last_code u) ∷ []) []
    (λ e. let l = le_true start (last_code u) e in
    ((is_code_of u start (start_code u start (last_code u) s (omega arith) l), is_code_of u (last_code u) (last_is u), l, tt), (omega arith, l, tt)))
    (λ _. (tt, tt))
gaps_fine u start (r ∷ rs) s h g = go (gaps_fine u (next u r.1) rs (next_start u r.1 last) (lower_floor u (next u r.1) (suc (next u r.1)) rs (omega arith) h.2) g.3)
    (nat_lt start r.0) refl
  where
    first : IsCode u r.0
    first = code_is u r.0 g.0

    last : IsCode u r.1
    last = code_is u r.1 g.1

    go : Fine u (next u r.1) (gaps u (next u r.1) rs) → (b : Bool) → nat_lt start r.0 ≡ b →
        Fine u start ((if b then (start, before u r.0) ∷ [] else []) ++ gaps u (next u r.1) rs)
    go rest true e =
        let l = ltb-true start r.0 e in
        let here = start_code u start r.0 s (code_most u r.0 first) (omega (arith, l)) in
        let (code, low, less) = before_code u r.0 start first here l in
        let above = next_above u r.1 in
        let order = h.1 in (
          (is_code_of u start here, is_code_of u (before u r.0) code, low, rest.0),
          (omega arith, low, rise (before u r.0 + 1) (next u r.1) (gaps u (next u r.1) rs) (omega (arith, less, above, order)) rest.1),
        )
    go rest false e =
        let above = next_above u r.1 in
        let order = h.1 in
        let low = h.0 in
        (rest.0, rise start (next u r.1) (gaps u (next u r.1) rs) (omega (arith, above, order, low)) rest.1)

-- ---- classes

pub fold_codes : (u fold : Bool) (rs : List Range) → AreCodes u rs → AreCodes u (folded_if fold rs)
fold_codes u true rs h = folded_codes u rs h
fold_codes u false rs h = h

pub zero_start : (u : Bool) → IsStart u 0
zero_start true = inl (inl (omega arith))
zero_start false = inl (omega arith)

class_fine : (u fold negated : Bool) (rs : List Range) → AreCodes u rs → Fine u 0 (class_of u fold negated rs)
class_fine u fold true rs h =
    gaps_fine u 0 (canonical u (folded_if fold rs)) (zero_start u) (canonical_in_order u (folded_if fold rs) (fold_codes u fold rs h))
    (canonical_codes u (folded_if fold rs) (fold_codes u fold rs h))
class_fine u fold false rs h = (
  canonical_codes u (folded_if fold rs) (fold_codes u fold rs h),
  ascending u 0 0 (canonical u (folded_if fold rs)) (omega arith) (canonical_in_order u (folded_if fold rs) (fold_codes u fold rs h)),
)

pub class_codes : (u fold negated : Bool) (rs : List Range) → AreCodes u rs → AreCodes u (class_of u fold negated rs)
class_codes u fold negated rs h = (class_fine u fold negated rs h).0

pub class_ascending : (u fold negated : Bool) (rs : List Range) → AreCodes u rs → AreAscending 0 (class_of u fold negated rs)
class_ascending u fold negated rs h = (class_fine u fold negated rs h).1

pub set_codes : (u : Bool) (s : Set) → AreCodes u (set_ranges s)
set_codes true Digits = (refl, refl, omega arith, tt)
set_codes true Spaces = (refl, refl, omega arith, (refl, refl, omega arith, tt))
set_codes true Words = (refl, refl, omega arith, (refl, refl, omega arith, (refl, refl, omega arith, (refl, refl, omega arith, tt))))
set_codes false Digits = (refl, refl, omega arith, tt)
set_codes false Spaces = (refl, refl, omega arith, (refl, refl, omega arith, tt))
set_codes false Words = (refl, refl, omega arith, (refl, refl, omega arith, (refl, refl, omega arith, (refl, refl, omega arith, tt))))

pub perl_codes : (u : Bool) (p : Perl) → AreCodes u (perl_ranges u p)
perl_codes u p = class_codes u false p.negated (set_ranges p.set) (set_codes u p.set)

pub perl_ascending : (u : Bool) (p : Perl) → AreAscending 0 (perl_ranges u p)
perl_ascending u p = class_ascending u false p.negated (set_ranges p.set) (set_codes u p.set)

-- ---- lists

code_of_code : (u : Bool) (m : Member) (c : ℕ) → code_of u m ≡ Some c → is_code u c ≡ true
code_of_code u (Character d) c h =
    let (both, same) = guard_parts ((u || nat_lt d 128) && is_code u d) (Some d) c h in
    ap (is_code u) (sym (same_Some d c same)) ∙ (and_parts (u || nat_lt d 128) (is_code u d) both).1
code_of_code u (Byte b) c h = let (is, same) = guard_parts (is_code u b) (Some b) c h in ap (is_code u) (sym (same_Some b c same)) ∙ is
code_of_code u Hyphen c h = absurd (none-some c h)
code_of_code u (member.Perl p) c h = absurd (none-some c h)

took : (u : Bool) (done d : List Range) (a after : Bool) (ms left : List Member) → ◌≡◌ {A = Option Taken} (Some (done, (a, ms))) (Some (d, (after, left))) → AreCodes u done → AreCodes u d
took u done d a after ms left e h = subst (AreCodes u) (ap (λ (r : Taken). r.0) (same_Some (done, (a, ms)) (d, (after, left)) e)) h

ranged_codes : (u : Bool) (c : ℕ) (ms : List Member) (done d : List Range) (a : Bool) (left : List Member) → is_code u c ≡ true → AreCodes u done →
    ranged u c ms done ≡ Some (d, (a, left)) → AreCodes u d
ranged_codes u c ms done d a left k h e = go (range_end ms) e
  where
    go : (o : Option (Member × List Member)) → ranged_to u c ms done o ≡ Some (d, (a, left)) → AreCodes u d
    go None g = took u (done ++ (c, c) ∷ []) d false a ms left g (codes_append u done ((c, c) ∷ []) h (one u c k))
    go (Some r) g =
        let (high, is, more) = some_parts (code_of u r.0) _ (d, (a, left)) g in
        let (ordered, same) = guard_parts (nat_le c high) _ (d, (a, left)) more in
        took u (done ++ (c, high) ∷ []) d true a r.1 left same (codes_append u done ((c, high) ∷ []) h (k, code_of_code u r.0 high is, le_true c high ordered, tt))

item_codes : (u after : Bool) (m : Member) (ms : List Member) (done d : List Range) (a : Bool) (left : List Member) → AreCodes u done →
    item u after m ms done ≡ Some (d, (a, left)) → AreCodes u d
item_codes u after Hyphen ms done d a left h e =
    let (_, same) = guard_parts (may_be_itself after ms) _ (d, (a, left)) e in
    took u (done ++ (45, 45) ∷ []) d false a ms left same (codes_append u done ((45, 45) ∷ []) h (one u 45 (small_code u 45 (omega arith))))
item_codes u after (member.Perl p) ms done d a left h e = took u (done ++ perl_ranges u p) d false a ms left e (codes_append u done (perl_ranges u p) h (perl_codes u p))
item_codes u after (Character c) ms done d a left h e =
    let (code, is, more) = some_parts (code_of u (Character c)) _ (d, (a, left)) e in ranged_codes u code ms done d a left (code_of_code u (Character c) code is) h more
item_codes u after (Byte b) ms done d a left h e =
    let (code, is, more) = some_parts (code_of u (Byte b)) _ (d, (a, left)) e in ranged_codes u code ms done d a left (code_of_code u (Byte b) code is) h more

more_codes : (n : ℕ) (u after : Bool) (ms : List Member) (done rs : List Range) → length ms ≤ n → AreCodes u done → more u after ms done ≡ Some rs → AreCodes u rs
more_codes n u after [] done rs l h e = subst (AreCodes u) (sym (append-nil done) ∙ same_Some (done ++ []) rs e) h
more_codes zero u after (m ∷ ms) done rs l h e = absurd (omega (arith, l))
more_codes (suc n) u after (m ∷ ms) done rs l h e =
    let (r, is, rest) = some_parts (item u after m ms done) (then_more u) rs (sym (step u after m ms done) ∙ e) in
    let shorter = item_left u after m ms done r.0 r.1.0 r.1.1 is in
    more_codes n u r.1.0 r.1.1 r.0 rs (omega (arith, l, shorter)) (item_codes u after m ms done r.0 r.1.0 r.1.1 h is) rest

itself : (o : Option (List Range)) (rs : List Range) → o ≡ Some rs → (o >>= λ rs. Some ([] ++ rs)) ≡ Some rs
itself None rs h = absurd (none-some rs h)
itself (Some qs) rs h = h

items_codes : (u after : Bool) (ms : List Member) (rs : List Range) → items u after ms ≡ Some rs → AreCodes u rs
items_codes u after ms rs h = more_codes (length ms) u after ms [] rs (omega arith) tt (itself (items u after ms) rs h)

led_codes : (u : Bool) (ms : List Member) (rs : List Range) → led_items u ms ≡ Some rs → AreCodes u rs
led_codes u [] rs h = items_codes u false [] rs h
led_codes u (Hyphen ∷ ms) rs h =
    let (qs, is, same) = some_parts (led_items u ms) (λ rs. Some ((45, 45) ∷ rs)) rs h in
    subst (AreCodes u) (same_Some ((45, 45) ∷ qs) rs same) (codes_append u ((45, 45) ∷ []) qs (one u 45 (small_code u 45 (omega arith))) (led_codes u ms qs is))
led_codes u (Character c ∷ ms) rs h = items_codes u false (Character c ∷ ms) rs h
led_codes u (Byte c ∷ ms) rs h = items_codes u false (Byte c ∷ ms) rs h
led_codes u (member.Perl p ∷ ms) rs h = items_codes u false (member.Perl p ∷ ms) rs h

pub list_codes : (u bracket : Bool) (ms : List Member) (rs : List Range) → list_ranges u bracket ms ≡ Some rs → AreCodes u rs
list_codes u true ms rs h =
    let (qs, is, same) = some_parts (items u true ms) (λ rs. Some ((93, 93) ∷ rs)) rs h in
    subst (AreCodes u) (same_Some ((93, 93) ∷ qs) rs same) (codes_append u ((93, 93) ∷ []) qs (one u 93 (small_code u 93 (omega arith))) (items_codes u true ms qs is))
list_codes u false ms rs h = led_codes u ms rs h

pub letter_codes : (u : Bool) (c : ℕ) → c < 128 → AreCodes u ((c, c) ∷ [])
letter_codes u c h = one u c (small_code u c (omega (arith, h)))
