-- Places of a piece where no needle can stand.
use Rattle.std.proofs.Common.{◌≡◌, ℕ, ◌+◌, ◌-◌, ◌<◌, ◌≤◌, ◌⊎◌, List, length, take, drop, Bool, Option, Some, None, sym, ap, ◌∙◌, arith, inl, inr, slice_index, zero-le, length-take, length-drop, subst}
use Rattle.std.proofs.lemmas.Bool.{cases_lt}
use Rattle.std.proofs.lemmas.Bool.Decides.{nat_tests}
use Rattle.std.proofs.lemmas.List.{get_or-drop, get_or-take}
use Rattle.std.proofs.lemmas.Option.{slice_get-get_or}
use Rattle.std.specs.Option.{unwrap_or}
use Rattle.memchr.specs.Find.{Nowhere, Passes, OccursAt, IsFirstByte, is_byte, is_byte2, is_byte3}
use Rattle.rc_needles.specs.Pairs.{HasBegun}
use Rattle.rc_needles.specs.Tables.{numbered, BeginsWithByte, Agrees, IsRuledOut, AreSome, AreHeads}
use Rattle.rc_needles.specs.Scans.{AllBegin}

-- a needle begins with its first byte
pub begins_itself : (needle : List ℕ) → 0 < length needle → BeginsWithByte needle (slice_index needle 0)
begins_itself needle some = slice_get-get_or needle 0 0 some

-- a needle that agrees begins with the byte
pub agrees_first : (piece needle : List ℕ) (k : ℕ) → 0 < length needle → k < length piece → Agrees piece needle k → BeginsWithByte needle (slice_index piece k)
agrees_first piece needle k some within agrees =
    let z : k + 0 ≡ k = omega arith in
    let e : slice_index piece (k + 0) ≡ slice_index needle 0 = agrees 0 some (omega (arith, within)) in
    begins_itself needle some ∙ ap Some (sym e ∙ ap (slice_index piece) z)

pub ruled_out_by : (needles : List (List ℕ)) (offset : ℕ) (piece : List ℕ) (k : ℕ) → offset ≡ 0 → AreSome needles → k < length piece →
    ((n : ℕ) → n < length needles → ¬ BeginsWithByte (numbered needles n) (slice_index piece k)) → IsRuledOut needles offset piece k
ruled_out_by needles offset piece k zero some within none n l agrees =
    none n l (agrees_first piece (numbered needles n) k (some n l) within (subst (λ o. Agrees piece (drop o (numbered needles n)) k) zero agrees))

-- where the byte doesn't pass the test
pub ruled_out_by_test : (needles : List (List ℕ)) (offset : ℕ) (test : ℕ → Bool) (piece : List ℕ) (k : ℕ) → offset ≡ 0 → AreSome needles →
    AllBegin needles test → k < length piece → slice_index piece k < 256 → ¬ Passes test piece k → IsRuledOut needles offset piece k
ruled_out_by_test needles offset test piece k zero some all within small never =
    ruled_out_by needles offset piece k zero some within (λ n l b. never (all n (slice_index piece k) l small b))

-- before the first byte that passes the test
pub ruled_out_before : (needles : List (List ℕ)) (offset : ℕ) (test : ℕ → Bool) (piece : List ℕ) (r : Option ℕ) (k : ℕ) → offset ≡ 0 →
    AreSome needles → AllBegin needles test → IsFirstByte test piece r → slice_index piece k < 256 → k < unwrap_or r (length piece) →
    IsRuledOut needles offset piece k
ruled_out_before needles offset test piece None k zero some all first small low =
    ruled_out_by_test needles offset test piece k zero some all low small (first k zero-le low)
ruled_out_before needles offset test piece (Some at) k zero some all first small low =
    ruled_out_by_test needles offset test piece k zero some all (let h = first.0.high in omega (arith, h, low)) small (first.0.before k zero-le low)

-- where no needle begins with the byte
pub ruled_out_by_head : (needles : List (List ℕ)) (offset : ℕ) (heads piece : List ℕ) (k : ℕ) → offset ≡ 0 → AreSome needles →
    AreHeads needles 0 heads → k < length piece → slice_index piece k < 256 → length needles ≤ slice_index heads (slice_index piece k) →
    IsRuledOut needles offset piece k
ruled_out_by_head needles offset heads piece k zero some headed within small none =
    ruled_out_by needles offset piece k zero some within
    (λ n l b. (headed (slice_index piece k) small).none_between n zero-le (omega (arith, l, none)) b)

-- where the only needle's bytes from the offset on don't stand
pub ruled_out_by_part : (needles : List (List ℕ)) (offset : ℕ) (rest piece : List ℕ) (k : ℕ) → length needles ≡ 1 →
    rest ≡ drop offset (numbered needles 0) → ¬ Agrees piece rest k → IsRuledOut needles offset piece k
ruled_out_by_part needles offset rest piece k one is never n l agrees =
    let zero : n ≡ 0 = omega (arith, l, one) in
    never (subst (λ w. Agrees piece w k) (sym is) (subst (λ m. Agrees piece (drop offset (numbered needles m)) k) zero agrees))

pub tail_length : (piece : List ℕ) (from : ℕ) → length (take (length piece - from) (drop from piece)) ≡ length piece - from
tail_length piece from = simp (length-take, length-drop) (omega arith)

-- a needle that agrees from a place on agrees with the piece from that place
pub agrees_in_tail : (piece needle : List ℕ) (k : ℕ) → Agrees piece needle k → Agrees (take (length piece - k) (drop k piece)) needle 0
agrees_in_tail piece needle k agrees i l m =
    let inside : k + i < length piece = omega (arith, m, tail_length piece k) in
    let at : k + (0 + i) ≡ k + i = omega arith in
    get_or-take (length piece - k) (drop k piece) (0 + i) 0 (omega (arith, inside)) ∙ get_or-drop k piece (0 + i) 0
    ∙ ap (slice_index piece) at ∙ agrees i l inside

-- where all bytes agree, the first two of them have begun
pub begun : (first second : ℕ) (piece rest : List ℕ) (k : ℕ) → 2 ≤ length rest → first ≡ slice_index rest 0 → second ≡ slice_index rest 1 →
    k < length piece → Agrees piece rest k → HasBegun first second piece k
begun first second piece rest k long one two within agrees =
    let z : k + 0 ≡ k = omega arith in
    record {
      is_first = ap (slice_index piece) (sym z) ∙ agrees 0 (omega (arith, long)) (omega (arith, within)) ∙ sym one;
      is_second = λ l. agrees 1 (omega (arith, long)) l ∙ sym two;
    }

-- where the needle would stand in the piece
pub no_whole : (piece needle : List ℕ) (k : ℕ) → ¬ OccursAt piece needle k → k + length needle ≤ length piece → ¬ Agrees piece needle k
no_whole piece needle k never fits agrees = never (record { fits = fits; reads = λ j l. agrees j l (omega (arith, l, fits)) })

-- a needle that agrees with a piece agrees with what is behind a place, if it begins there
pub agrees_behind : (piece needle : List ℕ) (from k : ℕ) → from ≤ k → Agrees piece needle k →
    Agrees (take (length piece - from) (drop from piece)) needle (k - from)
agrees_behind piece needle from k low agrees i l m =
    let at : from + (k - from + i) ≡ k + i = omega (arith, low) in
    let inside : k + i < length piece = omega (arith, low, m, tail_length piece from) in
    get_or-take (length piece - from) (drop from piece) (k - from + i) 0 (omega (arith, m, tail_length piece from)) ∙ get_or-drop from piece (k - from + i) 0
    ∙ ap (slice_index piece) at ∙ agrees i l inside

-- its first bytes agree too
pub agrees_first_bytes : (piece needle : List ℕ) (n k : ℕ) → Agrees piece needle k → Agrees piece (take n needle) k
agrees_first_bytes piece needle n k agrees i l m =
    let short : i < n = let e = length-take n needle in omega (arith, l, e) in
    let long : i < length needle = let e = length-take n needle in omega (arith, l, e) in
    agrees i long m ∙ sym (get_or-take n needle i 0 short)

-- before its first byte it doesn't agree
pub no_first : (piece needle : List ℕ) (r : Option ℕ) (k : ℕ) → 0 < length needle → IsFirstByte (is_byte (slice_index needle 0)) piece r →
    k < unwrap_or r (length piece) → ¬ Agrees piece needle k
no_first piece needle None k some first low agrees =
    let z : k + 0 ≡ k = omega arith in
    first k zero-le low (let same : slice_index piece k ≡ slice_index needle 0 = ap (slice_index piece) (sym z) ∙ agrees 0 some (omega (arith, low)) in grind (arith, nat_tests))
no_first piece needle (Some at) k some first low agrees =
    let z : k + 0 ≡ k = omega arith in
    let high = first.0.high in
    first.0.before k zero-le low (let same : slice_index piece k ≡ slice_index needle 0 = ap (slice_index piece) (sym z) ∙ agrees 0 some (omega (arith, low, high)) in grind (arith, nat_tests))

-- a byte with which a needle begins has a head
pub head_of : (needles : List (List ℕ)) (heads : List ℕ) (k b : ℕ) → AreHeads needles 0 heads → k < length needles → b < 256 →
    BeginsWithByte (numbered needles k) b → slice_index heads b < length needles
head_of needles heads k b headed l small begins =
    elim (cases_lt k (slice_index heads b)) [
      | inl h ↦ absurd ((headed b small).none_between k zero-le h begins)
      | inr h ↦ omega (arith, l, h)
    ]

-- what holds at b, and at no place from one on up to another, holds at that or later
pub not_skipped : (P : ℕ → Type 0) (from at b : ℕ) → Nowhere P from at → P b → from ≤ b → (b ≡ at) ⊎ (at + 1 ≤ b)
not_skipped P from at b none here low =
    elim (cases_lt b at) [
      | inl h ↦ absurd (none b low h here)
      | inr h ↦ elim (cases_lt at b) [ inl g ↦ inr (omega (arith, g)) | inr g ↦ inl (omega arith) ]
    ]

-- the byte has a head
abbrev pub HasHead : List ℕ → ℕ → ℕ → Type 0
HasHead heads count b = slice_index heads b < count

pub one_begins : (needles : List (List ℕ)) (heads : List ℕ) (count a : ℕ) → count ≡ length needles → AreHeads needles 0 heads →
    Nowhere (HasHead heads count) 0 a → Nowhere (HasHead heads count) (a + 1) 256 → AllBegin needles (is_byte a)
one_begins needles heads count a same headed none last k b l small begins =
    let h : HasHead heads count b = let x = head_of needles heads k b headed l small begins in omega (arith, x, same) in
    elim (not_skipped (HasHead heads count) 0 a b none h zero-le) [
      | inl e ↦ grind (arith, nat_tests)
      | inr g ↦ absurd (last b g small h)
    ]

pub two_begin : (needles : List (List ℕ)) (heads : List ℕ) (count a c : ℕ) → count ≡ length needles → AreHeads needles 0 heads →
    Nowhere (HasHead heads count) 0 a → Nowhere (HasHead heads count) (a + 1) c → Nowhere (HasHead heads count) (c + 1) 256 → AllBegin needles (is_byte2 a c)
two_begin needles heads count a c same headed none second last k b l small begins =
    let h : HasHead heads count b = let x = head_of needles heads k b headed l small begins in omega (arith, x, same) in
    elim (not_skipped (HasHead heads count) 0 a b none h zero-le) [
      | inl e ↦ grind (arith, nat_tests)
      | inr g ↦ elim (not_skipped (HasHead heads count) (a + 1) c b second h g) [
        | inl e ↦ grind (arith, nat_tests)
        | inr f ↦ absurd (last b f small h)
      ]
    ]

pub three_begin : (needles : List (List ℕ)) (heads : List ℕ) (count a c d : ℕ) → count ≡ length needles → AreHeads needles 0 heads →
    Nowhere (HasHead heads count) 0 a → Nowhere (HasHead heads count) (a + 1) c → Nowhere (HasHead heads count) (c + 1) d →
    Nowhere (HasHead heads count) (d + 1) 256 → AllBegin needles (is_byte3 a c d)
three_begin needles heads count a c d same headed none second third last k b l small begins =
    let h : HasHead heads count b = let x = head_of needles heads k b headed l small begins in omega (arith, x, same) in
    elim (not_skipped (HasHead heads count) 0 a b none h zero-le) [
      | inl e ↦ grind (arith, nat_tests)
      | inr g ↦ elim (not_skipped (HasHead heads count) (a + 1) c b second h g) [
        | inl e ↦ grind (arith, nat_tests)
        | inr f ↦ elim (not_skipped (HasHead heads count) (c + 1) d b third h f) [
          | inl e ↦ grind (arith, nat_tests)
          | inr z ↦ absurd (last b z small h)
        ]
      ]
    ]
