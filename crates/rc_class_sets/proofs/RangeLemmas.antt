-- A set has one list of ranges that stand in order and don't touch.
use Rattle.std.proofs.Common.{◌≡◌, ◌↔◌, ℕ, suc, ◌+◌, ◌<◌, ◌≤◌, inl, inr, ⊎_elim, Bool, true, false, ◌&&◌, ◌==◌, List, [], ◌∷◌, refl, ap₂, sym, eqb-true, arith}
use Rattle.std.proofs.lemmas.Bool.{cases_lt, lt-ltb}
use Rattle.rc_pattern.specs.Re.{Range}
use Rattle.rc_tokens.specs.Classes.{next, is_code, AreCodes}
use Rattle.rc_tokens.specs.Members.{Has, InOrder}
use Rattle.rc_tokens.proofs.ClassLemmas.{IsCode, code_is, if_elim, next_above, next_start, code_most, start_code}
use Rattle.rc_class_sets.specs.Sets.{RangesLaw}
use Rattle.rc_class_sets.proofs.ScalarLemmas.{low_code, high_code}

code_of : (u : Bool) (c : ℕ) → IsCode u c → is_code u c ≡ true
code_of true c (inl l) = low_code c (omega (arith, l))
code_of true c (inr h) = let low = h.0 in let high = h.1 in high_code c low (omega (arith, high))
code_of false c h = lt-ltb c 256 h

next_low : (u : Bool) (c d : ℕ) → c < d → is_code u d ≡ true → next u c ≤ d
next_low true c d less is =
    if_elim (λ x. x ≤ d) (true && c == 0xD7FF) 0xE000 (c + 1)
    (λ e. let at = eqb-true c 0xD7FF e in ⊎_elim (λ l. absurd (omega (arith, less, at, l))) (λ h. h.0) (code_is true d is))
    (λ _. omega (arith, less))
next_low false c d less is = omega (arith, less)

-- the code behind a range, up to one that is behind it too
next_code : (u : Bool) (c d : ℕ) → is_code u c ≡ true → is_code u d ≡ true → c < d → is_code u (next u c) ≡ true
next_code u c d is at less =
    code_of u (next u c) (start_code u (next u c) d (next_start u c (code_is u c is)) (code_most u d (code_is u d at)) (next_low u c d less at))

above : (u : Bool) (n : ℕ) (rs : List Range) (c : ℕ) → InOrder u n rs → Has rs c → n ≤ c
above u n [] c o h = absurd h
above u n (r ∷ rs) c o h =
    let low = o.0 in let ends = o.1 in let up = next_above u r.1 in
    ⊎_elim (λ at. let first = at.0 in omega (arith, low, first)) (λ t. let rest = above u (suc (next u r.1)) rs c o.2 t in omega (arith, low, ends, up, rest)) h

first_low : (u : Bool) (n : ℕ) (r q : Range) (rs qs : List Range) → AreCodes u (r ∷ rs) → InOrder u n (q ∷ qs)
    → ((c : ℕ) → is_code u c ≡ true → Has (r ∷ rs) c → Has (q ∷ qs) c) → q.0 ≤ r.0
first_low u n r q rs qs codes o to =
    let ends = codes.2 in let own = o.1 in
    above u q.0 (q ∷ qs) r.0 (omega arith, own, o.2) (to r.0 codes.0 (inl (omega arith, ends)))

-- the first range of one list ends no earlier than that of the other
last_low : (u : Bool) (n m : ℕ) (r q : Range) (rs qs : List Range) → AreCodes u (r ∷ rs) → AreCodes u (q ∷ qs) → InOrder u n (r ∷ rs) → r.0 ≡ q.0
    → ((c : ℕ) → is_code u c ≡ true → Has (q ∷ qs) c → Has (r ∷ rs) c) → r.1 < q.1 → ⊥
last_low u n m r q rs qs codes others o start from less =
    let up = next_above u r.1 in let ends = codes.2 in
    let within = next_low u r.1 q.1 less others.1 in
    ⊎_elim (λ at. let high = at.1 in omega (arith, up, high)) (λ t. let rest = above u (suc (next u r.1)) rs (next u r.1) o.2 t in omega (arith, rest))
    (from (next u r.1) (next_code u r.1 q.1 codes.1 others.1 less) (inl (omega (arith, up, ends, start), within)))

-- what the lists have behind their first range
tails : (u : Bool) (n : ℕ) (r q : Range) (rs qs : List Range) → InOrder u n (r ∷ rs) → r.1 ≡ q.1
    → ((c : ℕ) → is_code u c ≡ true → Has (r ∷ rs) c → Has (q ∷ qs) c) → (c : ℕ) → is_code u c ≡ true → Has rs c → Has qs c
tails u n r q rs qs o end to c is h =
    let up = next_above u r.1 in let rest = above u (suc (next u r.1)) rs c o.2 h in
    ⊎_elim (λ at. let high = at.1 in absurd (omega (arith, up, rest, high, end))) (λ t. t) (to c is (inr h))

pub one_list : (u : Bool) (n m : ℕ) (rs qs : List Range) → AreCodes u rs → AreCodes u qs → InOrder u n rs → InOrder u m qs
    → ((c : ℕ) → is_code u c ≡ true → Has rs c ↔ Has qs c) → rs ≡ qs
one_list u n m [] [] k l o p same = refl
one_list u n m [] (q ∷ qs) k l o p same = let ends = l.2 in absurd ((same q.0 l.0).1 (inl (omega arith, ends)))
one_list u n m (r ∷ rs) [] k l o p same = let ends = k.2 in absurd ((same r.0 k.0).0 (inl (omega arith, ends)))
one_list u n m (r ∷ rs) (q ∷ qs) k l o p same =
    let low = first_low u m r q rs qs k p (λ c is. (same c is).0) in
    let high = first_low u n q r qs rs l o (λ c is. (same c is).1) in
    let start : r.0 ≡ q.0 = omega (arith, low, high) in
    let back : q.0 ≡ r.0 = omega (arith, low, high) in
    let end : r.1 ≡ q.1 =
    ⊎_elim (λ less. absurd (last_low u n m r q rs qs k l o start (λ c is. (same c is).1) less))
    (λ more. ⊎_elim (λ less. absurd (last_low u m n q r qs rs l k p back (λ c is. (same c is).0) less)) (λ least. omega (arith, more, least)) (cases_lt q.1 r.1))
    (cases_lt r.1 q.1) in
    ap₂ (λ r rs. r ∷ rs) (λ i. (start i, end i))
    (one_list u (suc (next u r.1)) (suc (next u q.1)) rs qs k.3 l.3 o.2 p.2
    (λ c is. (tails u n r q rs qs o end (λ c is. (same c is).0) c is, tails u m q r qs rs p (sym end) (λ c is. (same c is).1) c is)))

pub ranges_law : RangesLaw
ranges_law u p rs qs a b =
    one_list u 0 0 rs qs a.denote.codes b.denote.codes a.in_order b.in_order
    (λ c is. (λ h. (b.denote.members c is).1 ((a.denote.members c is).0 h), λ h. (a.denote.members c is).1 ((b.denote.members c is).0 h)))
