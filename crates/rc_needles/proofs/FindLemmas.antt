-- A search over rising starts.
use Rattle.std.proofs.Common.{◌≡◌, ℕ, zero, suc, ◌+◌, ◌-◌, ◌<◌, ◌≤◌, List, [], ◌∷◌, length, true, Option, Some, None, IfSome, sym, ap, subst, ◌∙◌, refl, arith, inl, inr, slice_range, slice_index, drop, take, length-drop}
use Rattle.std.proofs.lemmas.Bool.{cases_lt, cases_Bool}
use Rattle.std.proofs.lemmas.List.{get_or-drop}
use Rattle.std.proofs.lemmas.Option.{none-some, same_Some}
use Rattle.rc_text.proofs.Ranges.{get_or-slice_range}
use Rattle.rc_text.specs.Text.{Searched, Keeps, low}
use Rattle.rc_program.specs.Answer.{first_given}
use Rattle.rc_needles.specs.declared.hit.Hit.{Hit}
use Rattle.rc_needles.specs.Needles.{stands_within, first_from, needle_at, find_needle, prefix_needle}
use Rattle.rc_needles.specs.declared.scan.Scan.{Scan}
use Rattle.rc_needles.specs.declared.scan.Scan.TheVariants.{Needle, FirstBytes, Teddy}
use Rattle.rc_needles.specs.Scans.{IsScanOf}
use Rattle.rc_needles.specs.Tables.{numbered, Agrees, IsRuledOut, AreSome}
use Rattle.rc_needles.specs.Tries.{IsFirstIn}
use Rattle.rc_needles.proofs.RangeLemmas.{range_of_range}
use Rattle.rc_needles.proofs.StandLemmas.{NoneBelow, stands_parts, stands_from, false_if_not, none_from, first_here}

-- a needle that stands agrees, from the offset on, with a piece that its place there is the place k of
stands_agrees : (content piece needle : List ℕ) (hi offset i from k : ℕ) → piece ≡ slice_range content from (from + length piece) →
    i + offset ≡ from + k → stands_within content hi i needle ≡ true → Agrees piece (drop offset needle) k
stands_agrees content piece needle hi offset i from k is at e j l m =
    let same = (stands_parts content hi i needle e).1 in
    let long : offset + j < length needle = let d = length-drop offset needle in omega (arith, l, d) in
    let n : from + (k + j) ≡ i + (offset + j) = omega (arith, at) in
    let left : slice_index piece (k + j) ≡ slice_index content (from + (k + j)) =
    ap (λ xs. slice_index xs (k + j)) is ∙ get_or-slice_range content from (from + length piece) (k + j) 0 (omega (arith, m)) in
    let right : slice_index (slice_range content i (i + length needle)) (offset + j) ≡ slice_index content (i + (offset + j)) =
    get_or-slice_range content i (i + length needle) (offset + j) 0 (omega (arith, long)) in
    left ∙ ap (slice_index content) n ∙ sym right ∙ ap (λ xs. slice_index xs (offset + j)) same ∙ sym (get_or-drop offset needle j 0)

-- where it can't stand by a piece, it doesn't stand in the content
pub none_ruled_out : (needles : List (List ℕ)) (content piece : List ℕ) (hi offset i from k : ℕ) →
    piece ≡ slice_range content from (from + length piece) → i + offset ≡ from + k →
    IsRuledOut needles offset piece k → needle_at needles content hi i ≡ None
none_ruled_out needles content piece hi offset i from k is at out =
    none_from needles content hi i 0
    (λ n l. false_if_not (stands_within content hi i (numbered needles n))
    (λ e. out n l (stands_agrees content piece (numbered needles n) hi offset i from k is at e)))

-- each needle goes on behind the offset
abbrev pub ArePast : List (List ℕ) → ℕ → Type 0
ArePast needles offset = (k : ℕ) → k < length needles → offset < length (numbered needles k)

pub are_past : (needles : List (List ℕ)) (offset : ℕ) (scan : Scan) → AreSome needles → IsScanOf needles offset scan → ArePast needles offset
are_past needles offset (Needle rest) some is k l =
    let zero : 0 ≡ k = omega (arith, l, is.one) in
    let past : offset < length (numbered needles 0) = omega (arith, is.long, ap length is.is, length-drop offset (numbered needles 0)) in
    subst (λ n. offset < length (numbered needles n)) zero past
are_past needles offset (FirstBytes heads) some is k l = let long = some k l in let zero = is.0 in omega (arith, long, zero)
are_past needles offset (Teddy teddy) some is k l = let long = some k l in let zero = is.0 in omega (arith, long, zero)

-- no needle stands whose offset is at the end
pub none_past : (needles : List (List ℕ)) (content : List ℕ) (hi offset i : ℕ) → ArePast needles offset → hi ≤ i + offset →
    needle_at needles content hi i ≡ None
none_past needles content hi offset i longer past =
    none_from needles content hi i 0
    (λ n l. false_if_not (stands_within content hi i (numbered needles n))
    (λ e. let le = (stands_parts content hi i (numbered needles n) e).0 in let long = longer n l in omega (arith, le, long, past)))

-- no start gives one
pub by_none : (gives : ℕ → Option Hit) (n i : ℕ) → ((y : ℕ) → i ≤ y → y < i + n → gives y ≡ None) → first_given gives n i ≡ None
by_none gives zero i h = refl
by_none gives (suc n) i h =
    let e : gives i ≡ None = h i (omega arith) (omega arith) in
    rw e (by_none gives n (i + 1) (λ y a b. h y (omega (arith, a)) (omega (arith, b))))

-- the start x gives the first one
pub by_first : (gives : ℕ → Option Hit) (n i x : ℕ) (hit : Hit) → i ≤ x → x < i + n → ((y : ℕ) → i ≤ y → y < x → gives y ≡ None) →
    gives x ≡ Some hit → first_given gives n i ≡ Some hit
by_first gives zero i x hit low high h e = absurd (omega arith)
by_first gives (suc n) i x hit low high h e =
    elim (cases_lt i x) [
      | inl l ↦
          let f : gives i ≡ None = h i (omega arith) l in
          rw f (by_first gives n (i + 1) x hit (omega (arith, l)) (omega (arith, high)) (λ y a b. h y (omega (arith, a)) b) e)
      | inr g ↦
          let s : x ≡ i = omega arith in
          let f : gives i ≡ Some hit = subst (λ z. gives z ≡ Some hit) s e in rw f refl
    ]

pub first_found : (needles : List (List ℕ)) (content : List ℕ) (lo hi x : ℕ) (hit : Hit) → lo ≤ x → x ≤ hi →
    ((y : ℕ) → lo ≤ y → y < x → needle_at needles content hi y ≡ None) → Some hit ≡ needle_at needles content hi x →
    Some hit ≡ find_needle needles content lo hi
unfolding find_needle
first_found needles content lo hi x hit low high h e =
    sym (by_first (needle_at needles content hi) (hi + 1 - lo) lo x hit low (omega (arith, low, high)) h (sym e))

pub none_found : (needles : List (List ℕ)) (content : List ℕ) (lo hi offset x : ℕ) → ArePast needles offset → hi ≤ x + offset →
    ((y : ℕ) → lo ≤ y → y < x → needle_at needles content hi y ≡ None) → None ≡ find_needle needles content lo hi
unfolding find_needle
none_found needles content lo hi offset x longer past h =
    sym (by_none (needle_at needles content hi) (hi + 1 - lo) lo
    (λ y a b. elim (cases_lt y x) [ inl l ↦ h y a l | inr g ↦ none_past needles content hi offset y longer (omega (arith, g, past)) ]))

pub prefix_is : (needles : List (List ℕ)) (content : List ℕ) (lo hi : ℕ) → needle_at needles content hi lo ≡ prefix_needle needles content lo hi
unfolding prefix_needle
prefix_is needles content lo hi = refl

-- what is found lies within
from_within : (needles : List (List ℕ)) (content : List ℕ) (hi i n : ℕ) (hit : Hit) → AreSome needles →
    first_from content hi i n needles ≡ Some hit → (hit.start ≡ i) × (i < hit.end) × (hit.end ≤ hi)
from_within [] content hi i n hit some e = absurd (none-some hit e)
from_within (w ∷ ws) content hi i n hit some e =
    let o : Option Hit = Some (record { start = i; end = i + length w; number = n }) in
    elim (cases_Bool (stands_within content hi i w)) [
      | inl t ↦
          let is : o ≡ Some hit = rw t at e in
          let same = same_Some _ hit is in
          let le = (stands_parts content hi i w t).0 in
          let long : 0 < length w = some 0 (omega arith) in
          let a : i ≡ hit.start = ap (λ (h : Hit). h.start) same in
          let b : i + length w ≡ hit.end = ap (λ (h : Hit). h.end) same in
          (sym a, omega (arith, b, long), omega (arith, b, le))
      | inr f ↦ from_within ws content hi i (n + 1) hit (λ k l. some (suc k) (omega (arith, l))) (rw f at e)
    ]

pub needle_within : (needles : List (List ℕ)) (content : List ℕ) (hi i : ℕ) (hit : Hit) → AreSome needles →
    Some hit ≡ needle_at needles content hi i → (hit.start ≡ i) × (i < hit.end) × (hit.end ≤ hi)
needle_within needles content hi i hit some e = from_within needles content hi i 0 hit some (sym e)

-- the bounds stay where the input moved
pub same_low : (s t : Searched) → Keeps s t → low t ≡ low s
same_low s t k = rw (k.span, k.slice) refl

-- no needle stands from lo on, below x
abbrev pub NoneBefore : List (List ℕ) → List ℕ → ℕ → ℕ → ℕ → Type 0
NoneBefore needles content hi lo x = (i : ℕ) → lo ≤ i → i < x → needle_at needles content hi i ≡ None

-- no needle stands whose place, the offset behind its start, lies from `from` on, below `to`
abbrev pub NonePlaced : List (List ℕ) → ℕ → List ℕ → ℕ → ℕ → ℕ → Type 0
NonePlaced needles offset content hi from to =
    (i : ℕ) → from ≤ i + offset → i + offset < to → needle_at needles content hi i ≡ None

-- nor at the places of a piece that are ruled out
pub more_placed : (needles : List (List ℕ)) (content piece : List ℕ) (hi offset from at passed : ℕ) →
    NonePlaced needles offset content hi from at → piece ≡ slice_range content at (at + length piece) →
    ((k : ℕ) → k < passed → IsRuledOut needles offset piece k) → NonePlaced needles offset content hi from (at + passed)
more_placed needles content piece hi offset from at passed before is out i low high =
    elim (cases_lt (i + offset) at) [
      | inl l ↦ before i low l
      | inr g ↦
          let k : ℕ = i + offset - at in
          none_ruled_out needles content piece hi offset i at k is (omega (arith, g)) (out k (omega (arith, g, high)))
    ]

-- nor at the places that follow
pub placed_on : (needles : List (List ℕ)) (content text : List ℕ) (hi offset from at to : ℕ) → text ≡ content →
    NonePlaced needles offset content hi from at → NonePlaced needles offset text hi at to → NonePlaced needles offset content hi from to
placed_on needles content text hi offset from at to same before after i low high =
    elim (cases_lt (i + offset) at) [
      | inl l ↦ before i low l
      | inr g ↦ subst (λ t. needle_at needles t hi i ≡ None) same (after i g high)
    ]

-- nor at both
pub placed_behind : (needles : List (List ℕ)) (content text piece : List ℕ) (hi offset from at passed to : ℕ) → text ≡ content →
    NonePlaced needles offset content hi from at → piece ≡ slice_range content at (at + length piece) →
    ((k : ℕ) → k < passed → IsRuledOut needles offset piece k) → NonePlaced needles offset text hi (at + passed) to → NonePlaced needles offset content hi from to
placed_behind needles content text piece hi offset from at passed to same before is out after =
    placed_on needles content text hi offset from (at + passed) to same (more_placed needles content piece hi offset from at passed before is out) after

-- so none stands from the start on up to where the places end
pub starts_passed : (needles : List (List ℕ)) (content : List ℕ) (lo hi offset at place : ℕ) → NoneBefore needles content hi lo at →
    NonePlaced needles offset content hi (at + offset) place → NoneBefore needles content hi lo (place - offset)
starts_passed needles content lo hi offset at place before none i low high =
    elim (cases_lt i at) [
      | inl l ↦ before i low l
      | inr g ↦ none i (omega (arith, g)) (omega (arith, high))
    ]

-- and one more
pub one_more_start : (needles : List (List ℕ)) (content : List ℕ) (lo hi x : ℕ) → NoneBefore needles content hi lo x →
    needle_at needles content hi x ≡ None → NoneBefore needles content hi lo (x + 1)
one_more_start needles content lo hi x before here i low high =
    elim (cases_lt i x) [
      | inl l ↦ before i low l
      | inr g ↦
          let e : x ≡ i = omega arith in subst (λ j. needle_at needles content hi j ≡ None) e here
    ]

pub keeps_on : (a b c : Searched) → Keeps a b → Keeps b c → Keeps a c
keeps_on a b c x y = record {
  content = y.content ∙ x.content;
  span = y.span ∙ x.span;
  slice = y.slice ∙ x.slice;
  anchored = y.anchored ∙ x.anchored;
  earliest = y.earliest ∙ x.earliest;
}

pub if_needle_within : (needles : List (List ℕ)) (content : List ℕ) (hi i : ℕ) (o : Option Hit) → AreSome needles →
    o ≡ needle_at needles content hi i → IfSome o (λ hit. (hit.start ≡ i) × (hit.start < hit.end) × (hit.end ≤ hi))
if_needle_within needles content hi i None some e = tt
if_needle_within needles content hi i (Some hit) some e =
    let r = needle_within needles content hi i hit some e in (r.0, omega (arith, r.0, r.1), r.2)

pub same_at : (needles : List (List ℕ)) (content text : List ℕ) (hi end i j : ℕ) → content ≡ text → hi ≡ end → i ≡ j →
    needle_at needles content hi i ≡ needle_at needles text end j
same_at needles content text hi end i j c h e =
    ap (λ t. needle_at needles t hi i) c ∙ ap (λ z. needle_at needles text z i) h ∙ ap (needle_at needles text end) e

-- below the first needle that stands in a piece none stands
first_in_below : (needles : List (List ℕ)) (content piece : List ℕ) (hi at k number : ℕ) → piece ≡ slice_range content at (at + length piece) →
    IsFirstIn needles piece k number → NoneBelow needles content hi (at + k) number
first_in_below needles content piece hi at k number is first j l m =
    let here : at + k + 0 ≡ at + k = omega arith in
    false_if_not (stands_within content hi (at + k) (numbered needles j))
    (λ e. first.none_earlier j l m (stands_agrees content piece (numbered needles j) hi 0 (at + k) at k is here e))

-- and it stands in the content
first_in_stands : (needles : List (List ℕ)) (content piece : List ℕ) (hi at k number : ℕ) → piece ≡ slice_range content at (at + length piece) →
    at + length piece ≤ hi → IsFirstIn needles piece k number → stands_within content hi (at + k) (numbered needles number) ≡ true
first_in_stands needles content piece hi at k number is within first =
    let long = length (numbered needles number) in
    let n : k + long - k ≡ long = omega arith in
    let read : slice_range piece k (k + long) ≡ slice_range content (at + k) (at + k + long) =
    ap (λ xs. slice_range xs k (k + long)) is ∙ ap (λ m. take m (drop k (slice_range content at (at + length piece)))) n
    ∙ range_of_range content at (length piece) k long first.fits in
    stands_from content hi (at + k) (numbered needles number) (omega (arith, within, first.fits)) (sym read ∙ first.stands)

-- so it is the first at its place
pub first_in_piece : (needles : List (List ℕ)) (content piece : List ℕ) (hi at k number : ℕ) → piece ≡ slice_range content at (at + length piece) →
    at + length piece ≤ hi → number < length needles → IsFirstIn needles piece k number →
    Some (record { start = at + k; end = at + k + length (numbered needles number); number = number }) ≡ needle_at needles content hi (at + k)
first_in_piece needles content piece hi at k number is within l first =
    first_here needles content hi (at + k) number l (first_in_below needles content piece hi at k number is first)
    (first_in_stands needles content piece hi at k number is within first)

-- no needle stands at the places of a piece that are ruled out
pub more_before : (needles : List (List ℕ)) (content piece : List ℕ) (hi lo at passed : ℕ) → NoneBefore needles content hi lo at →
    piece ≡ slice_range content at (at + length piece) → ((k : ℕ) → k < passed → IsRuledOut needles 0 piece k) → NoneBefore needles content hi lo (at + passed)
more_before needles content piece hi lo at passed before is out i low high =
    elim (cases_lt i at) [
      | inl l ↦ before i low l
      | inr g ↦ none_ruled_out needles content piece hi 0 i at (i - at) is (omega (arith, g)) (out (i - at) (omega (arith, g, high)))
    ]
