-- A search for one needle by its failure function.
use Rattle.std.proofs.Common.{◌≡◌, ℕ, zero, suc, ◌+◌, ◌-◌, ◌<◌, ◌≤◌, List, length, length-take, length-drop, true, false, Some, None, sym, ap, subst, ◌∙◌, arith, inl, inr, slice_get, slice_index, slice_range, zero-le}
use Rattle.std.proofs.lemmas.Bool.{cases_lt}
use Rattle.std.proofs.lemmas.Bool.Decides.{nat_tests}
use Rattle.std.proofs.lemmas.List.{ext_get_or}
use Rattle.std.proofs.lemmas.Option.{get_or_from_slice_get}
use Rattle.memchr.specs.Find.{Nowhere, Passes, is_byte}
use Rattle.rc_text.proofs.Ranges.{get_or-slice_range}
use Rattle.rc_needles.specs.declared.hit.Hit.{Hit}
use Rattle.rc_needles.specs.Failures.{HasPrefixAt, GoesOn}
use Rattle.rc_needles.specs.Needles.{stands_within, needle_at, find_needle}
use Rattle.rc_needles.specs.Tables.{numbered}
use Rattle.rc_needles.proofs.FailureLemmas.{fewer, from_same}
use Rattle.rc_needles.proofs.FindLemmas.{NoneBefore, first_found, none_found}
use Rattle.rc_needles.proofs.StandLemmas.{stands_parts, stands_from, false_if_not, none_from, first_here}

-- where the needle stands, all its bytes do
pub has_needle : (content needle : List ℕ) (hi i : ℕ) → stands_within content hi i needle ≡ true → HasPrefixAt content i needle (length needle)
has_needle content needle hi i e j l =
    let same = (stands_parts content hi i needle e).1 in
    sym (get_or-slice_range content i (i + length needle) j 0 (omega (arith, l))) ∙ ap (λ xs. slice_index xs j) same

-- where all its bytes do, it stands
pub stands_by : (content needle : List ℕ) (hi i : ℕ) → hi ≤ length content → i + length needle ≤ hi → HasPrefixAt content i needle (length needle) →
    stands_within content hi i needle ≡ true
stands_by content needle hi i inside within has =
    let long : length (slice_range content i (i + length needle)) ≡ length needle = simp (length-take, length-drop) (omega (arith, inside, within)) in
    stands_from content hi i needle within
    (ext_get_or 0 (slice_range content i (i + length needle)) needle long
    (λ j l. get_or-slice_range content i (i + length needle) j 0 (omega (arith, l, long)) ∙ has j (omega (arith, l, long))))

-- where they don't, the only needle doesn't
none_by : (needles : List (List ℕ)) (content : List ℕ) (hi i : ℕ) → length needles ≡ 1 →
    ¬ HasPrefixAt content i (numbered needles 0) (length (numbered needles 0)) → needle_at needles content hi i ≡ None
none_by needles content hi i one never =
    none_from needles content hi i 0
    (λ k l. let zero : 0 ≡ k = omega (arith, one, l) in
    subst (λ n. stands_within content hi i (numbered needles n) ≡ false) zero
    (false_if_not (stands_within content hi i (numbered needles 0)) (λ e. never (has_needle content (numbered needles 0) hi i e))))

-- it doesn't where a byte of it would stand that it lacks
pub none_by_byte : (content needle : List ℕ) (hi i last b : ℕ) → slice_get content last ≡ Some b →
    Nowhere (Passes (is_byte b) needle) 0 (length needle) → i ≤ last → last < i + length needle → stands_within content hi i needle ≡ false
none_by_byte content needle hi i last b is lacks low high =
    false_if_not (stands_within content hi i needle)
    (λ e. let there : i + (last - i) ≡ last = omega (arith, low) in
    let same : slice_index needle (last - i) ≡ b =
    sym (has_needle content needle hi i e (last - i) (omega (arith, low, high))) ∙ ap (slice_index content) there ∙ get_or_from_slice_get content last b 0 is in
    lacks (last - i) zero-le (omega (arith, low, high)) (grind (arith, nat_tests)))

-- no start up to that byte is one
pub passed_on : (content text needle : List ℕ) (hi from at last b : ℕ) → text ≡ content →
    ((i : ℕ) → from ≤ i → i < at → stands_within content hi i needle ≡ false) → slice_get text last ≡ Some b →
    Nowhere (Passes (is_byte b) needle) 0 (length needle) → at ≤ last → last + 1 ≡ at + length needle →
    ((i : ℕ) → from ≤ i → i < last + 1 → stands_within content hi i needle ≡ false)
passed_on content text needle hi from at last b same before is lacks low long i a z =
    elim (cases_lt i at) [
      | inl l ↦ before i a l
      | inr g ↦ none_by_byte content needle hi i last b (subst (λ t. slice_get t last ≡ Some b) same is) lacks (omega (arith, z)) (omega (arith, g, long))
    ]

-- no needle stands where the only one doesn't
pub none_at_all : (needles : List (List ℕ)) (content needle : List ℕ) (hi i : ℕ) → length needles ≡ 1 → needle ≡ numbered needles 0 →
    stands_within content hi i needle ≡ false → needle_at needles content hi i ≡ None
none_at_all needles content needle hi i one own never =
    none_from needles content hi i 0
    (λ k l. let zero : 0 ≡ k = omega (arith, one, l) in
    subst (λ n. stands_within content hi i (numbered needles n) ≡ false) zero (subst (λ w. stands_within content hi i w ≡ false) own never))

-- how far a search came: the bytes before `at` end with `state` bytes of the needle, and it stands
-- at no start before those
pub record IsReadTo (needles : List (List ℕ)) (content : List ℕ) (hi from at state : ℕ) : Type 0 where
  pub low : from + state ≤ at
  pub has : HasPrefixAt content (at - state) (numbered needles 0) state
  pub none_before : NoneBefore needles content hi from (at - state)

pub read_none : (needles : List (List ℕ)) (content : List ℕ) (hi from : ℕ) → IsReadTo needles content hi from from 0
read_none needles content hi from = record {
  low = omega arith;
  has = λ i l. absurd (omega (arith, l));
  none_before = λ i low high. absurd (omega (arith, low, high));
}

-- on to the next candidate
pub read_moved : (needles : List (List ℕ)) (content : List ℕ) (hi from at state to : ℕ) → IsReadTo needles content hi from at state → at ≤ to →
    (0 < state → to ≡ at) → ((i : ℕ) → at ≤ i → i < to → needle_at needles content hi i ≡ None) → IsReadTo needles content hi from to state
read_moved needles content hi from at zero to read low stays passed =
    let start = read.low in record {
      low = omega (arith, start, low);
      has = λ i l. absurd (omega (arith, l));
      none_before = λ i a b. elim (cases_lt i at) [
        | inl l ↦ read.none_before i a (omega (arith, l))
        | inr g ↦ passed i g (omega (arith, b))
      ];
    }
read_moved needles content hi from at (suc state) to read low stays passed =
    subst (λ x. IsReadTo needles content hi from x (suc state)) (sym (stays (omega arith))) read

-- and on over bytes of a piece
pub read_more : (needles : List (List ℕ)) (content piece : List ℕ) (hi from at state len next : ℕ) → length needles ≡ 1 →
    IsReadTo needles content hi from at state → piece ≡ slice_range content at (at + length piece) → len ≤ length piece →
    GoesOn (numbered needles 0) state piece len next → IsReadTo needles content hi from (at + len) next
read_more needles content piece hi from at state len next one read is within goes =
    let needle = numbered needles 0 in
    let low = read.low in
    let high = goes.high in
    let fits = goes.within in
    let here : at - state + state ≡ at = omega (arith, low) in
    let bytes : HasPrefixAt content (at - state + state) piece len = λ i l.
    ap (λ x. slice_index content (x + i)) here ∙ sym (get_or-slice_range content at (at + length piece) i 0 (omega (arith, l, within)))
    ∙ ap (λ xs. slice_index xs i) (sym is) in
    let to : at - state + (state + len - next) ≡ at + len - next = omega (arith, low, high) in record {
      low = omega (arith, low, high);
      has = from_same content (at - state + (state + len - next)) (at + len - next) needle next to (goes.ends content (at - state) read.has bytes);
      none_before = λ i a b. elim (cases_lt i (at - state)) [
        | inl l ↦ read.none_before i a l
        | inr g ↦
            let d : ℕ = i - (at - state) in
            let start : i ≡ at - state + d = omega (arith, g) in
            none_by needles content hi i one
            (λ all. goes.longest content (at - state) d read.has bytes (omega (arith, g, b, low))
            (fewer content (at - state + d) needle (length needle) (state + len - d) (omega (arith, fits))
            (from_same content i (at - state + d) needle (length needle) start all)))
      ];
    }

-- the whole needle was read
pub read_whole : (needles : List (List ℕ)) (content : List ℕ) (hi from at : ℕ) → length needles ≡ 1 → hi ≤ length content → at ≤ hi →
    IsReadTo needles content hi from at (length (numbered needles 0)) →
    Some (record { start = at - length (numbered needles 0); end = at; number = 0 }) ≡ needle_at needles content hi (at - length (numbered needles 0))
read_whole needles content hi from at one inside within read =
    let needle = numbered needles 0 in
    let low = read.low in
    let end : at - length needle + length needle ≡ at = omega (arith, low) in
    let stands : stands_within content hi (at - length needle) needle ≡ true =
    stands_by content needle hi (at - length needle) inside (omega (arith, end, within)) read.has in
    ap (λ e. let hit : Hit = record { start = at - length needle; end = e; number = 0 } in Some hit) (sym end)
    ∙ first_here needles content hi (at - length needle) 0 (omega (arith, one)) (λ k l m. absurd (omega (arith, l))) stands

-- both steps, over an input that moves
pub read_step : (needles : List (List ℕ)) (content text there piece needle : List ℕ) (hi from at state to len next : ℕ) → length needles ≡ 1 →
    text ≡ content → there ≡ content → needle ≡ numbered needles 0 → IsReadTo needles content hi from at state → at ≤ to → (0 < state → to ≡ at) →
    ((i : ℕ) → at ≤ i → i < to → needle_at needles text hi i ≡ None) → piece ≡ slice_range there to (to + length piece) → len ≤ length piece →
    GoesOn needle state piece len next → IsReadTo needles content hi from (to + len) next
read_step needles content text there piece needle hi from at state to len next one same also own read low stays passed is within goes =
    read_more needles content piece hi from to state len next one
    (read_moved needles content hi from at state to read low stays (λ i a b. subst (λ t. needle_at needles t hi i ≡ None) same (passed i a b)))
    (subst (λ t. piece ≡ slice_range t to (to + length piece)) also is) within (subst (λ w. GoesOn w state piece len next) own goes)

-- the needle is found once it was read whole
pub whole_found : (needles : List (List ℕ)) (content : List ℕ) (hi from at next : ℕ) → length needles ≡ 1 → hi ≤ length content → at ≤ hi →
    next ≡ length (numbered needles 0) → IsReadTo needles content hi from at next →
    Some (record { start = at - next; end = at; number = 0 }) ≡ find_needle needles content from hi
whole_found needles content hi from at next one inside within whole read =
    let low = read.low in
    let hit : Hit = record { start = at - next; end = at; number = 0 } in
    first_found needles content from hi (at - next) hit (omega (arith, low)) (omega (arith, within)) read.none_before
    (subst (λ n. Some (record { start = at - n; end = at; number = 0 }) ≡ needle_at needles content hi (at - n)) (sym whole)
    (read_whole needles content hi from at one inside within (subst (λ n. IsReadTo needles content hi from at n) whole read)))

-- it stands nowhere where the end was read
pub read_to_end : (needles : List (List ℕ)) (content : List ℕ) (hi from at state : ℕ) → length needles ≡ 1 → state < length (numbered needles 0) →
    hi ≤ at → IsReadTo needles content hi from at state → None ≡ find_needle needles content from hi
read_to_end needles content hi from at state one short past read =
    let low = read.low in
    none_found needles content from hi state (at - state)
    (λ k l. let zero : 0 ≡ k = omega (arith, one, l) in subst (λ n. state < length (numbered needles n)) zero short)
    (omega (arith, low, past)) read.none_before
