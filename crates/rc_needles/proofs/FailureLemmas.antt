-- Borders of a needle's prefixes, and how a search goes on by them.
use Rattle.std.proofs.Common.{◌≡◌, ◌≢◌, ℕ, ◌+◌, ◌-◌, ◌<◌, ◌≤◌, List, [], ◌∷◌, ◌++◌, length, length-append, sym, ap, subst, ◌∙◌, arith, inl, inr, slice_index}
use Rattle.std.proofs.lemmas.Bool.{cases_lt}
use Rattle.std.proofs.lemmas.List.{get_or_append_left, get_or_push}
use Rattle.rc_needles.specs.Failures.{HasPrefixAt, IsBorder, IsLongestBorder, IsFailure, AreFailures, GoesOn}

-- fewer bytes
pub fewer : (text : List ℕ) (s : ℕ) (needle : List ℕ) (j k : ℕ) → k ≤ j → HasPrefixAt text s needle j → HasPrefixAt text s needle k
fewer text s needle j k le h i l = h i (omega (arith, l, le))

-- the same start
pub from_same : (text : List ℕ) (s t : ℕ) (needle : List ℕ) (k : ℕ) → s ≡ t → HasPrefixAt text s needle k → HasPrefixAt text t needle k
from_same text s t needle k e h = subst (λ x. HasPrefixAt text x needle k) e h

-- one more byte
pub one_more : (text : List ℕ) (s : ℕ) (needle : List ℕ) (k : ℕ) → HasPrefixAt text s needle k → slice_index text (s + k) ≡ slice_index needle k →
    HasPrefixAt text s needle (k + 1)
one_more text s needle k h e i l =
    elim (cases_lt i k) [
      | inl m ↦ h i m
      | inr g ↦ let same : k ≡ i = omega (arith, g, l) in subst (λ x. slice_index text (s + x) ≡ slice_index needle x) same e
    ]

-- more bytes, those of a piece
pub more_bytes : (text : List ℕ) (s : ℕ) (needle piece : List ℕ) (k n : ℕ) → HasPrefixAt text s needle k → HasPrefixAt text (s + k) piece n →
    ((i : ℕ) → i < n → slice_index piece i ≡ slice_index needle (k + i)) → HasPrefixAt text s needle (k + n)
more_bytes text s needle piece k n h read same i l =
    elim (cases_lt i k) [
      | inl m ↦ h i m
      | inr g ↦
          let a : s + k + (i - k) ≡ s + i = omega (arith, g) in
          let b : k + (i - k) ≡ i = omega (arith, g) in
          let low : i - k < n = omega (arith, g, l) in
          ap (slice_index text) (sym a) ∙ read (i - k) low ∙ same (i - k) low ∙ ap (slice_index needle) b
    ]

-- a text that has the bytes ends with their border
pub has_border : (text : List ℕ) (s : ℕ) (needle : List ℕ) (j k : ℕ) → IsBorder needle j k → HasPrefixAt text s needle j →
    HasPrefixAt text (s + (j - k)) needle k
has_border text s needle j k border h i l =
    let e : s + (j - k) + i ≡ s + (j - k + i) = omega arith in
    ap (slice_index text) e ∙ h (j - k + i) (omega (arith, l, border.short)) ∙ border.repeats i l

-- where a prefix begins in the bytes and ends with them, it is a border
pub border_of : (text : List ℕ) (s : ℕ) (needle : List ℕ) (j k : ℕ) → k < j → HasPrefixAt text s needle j →
    HasPrefixAt text (s + (j - k)) needle k → IsBorder needle j k
border_of text s needle j k short h g = record {
  short = short;
  repeats = λ i l.
      let e : s + (j - k) + i ≡ s + (j - k + i) = omega arith in
      sym (h (j - k + i) (omega (arith, l, short))) ∙ ap (slice_index text) (sym e) ∙ g i l;
}

-- a border's border
pub border_border : (needle : List ℕ) (j k l : ℕ) → IsBorder needle j k → IsBorder needle k l → IsBorder needle j l
border_border needle j k l outer inner = record {
  short = omega (arith, outer.short, inner.short);
  repeats =
      let e : j - k + (k - l) ≡ j - l = omega (arith, outer.short, inner.short) in
      from_same needle (j - k + (k - l)) (j - l) needle l e (has_border needle (j - k) needle k l inner outer.repeats);
}

-- a shorter border is the longer one's
pub inner_border : (needle : List ℕ) (j k l : ℕ) → IsBorder needle j k → IsBorder needle j l → l < k → IsBorder needle k l
inner_border needle j k l outer other short =
    let e : j - l ≡ j - k + (k - l) = omega (arith, outer.short, short) in
    border_of needle (j - k) needle k l short outer.repeats (from_same needle (j - l) (j - k + (k - l)) needle l e other.repeats)

-- the first bytes' failure

pub no_failure : (needle : List ℕ) → IsFailure needle 0 0
no_failure needle = record {
  is_border = λ l. absurd (omega (arith, l));
  differs = λ l. absurd (omega (arith, l));
  longest = λ k border l. let short = border.short in absurd (omega (arith, short));
}

pub no_border : (needle : List ℕ) → IsLongestBorder needle 1 0
no_border needle = record {
  is_border = record { short = omega arith; repeats = λ i l. absurd (omega (arith, l)) };
  longest = λ l border. let short = border.short in omega (arith, short);
}

-- the failure where the longest border goes on alike
pub failure_alike : (needle : List ℕ) (j k r : ℕ) → IsLongestBorder needle j k → IsFailure needle k r → slice_index needle k ≡ slice_index needle j →
    IsFailure needle j r
failure_alike needle j k r border failure alike = record {
  is_border = λ l. border_border needle j k (r - 1) border.is_border (failure.is_border l);
  differs = λ l e. failure.differs l (e ∙ sym alike);
  longest = λ l other low.
      elim (cases_lt l k) [
        | inl less ↦ failure.longest l (inner_border needle j k l border.is_border other less) low ∙ alike
        | inr more ↦
            let high = border.longest l other in
            let same : k ≡ l = omega (arith, more, high) in subst (λ x. slice_index needle x ≡ slice_index needle j) same alike
      ];
}

-- and where it doesn't
pub failure_other : (needle : List ℕ) (j k : ℕ) → IsLongestBorder needle j k → slice_index needle k ≢ slice_index needle j → IsFailure needle j (k + 1)
failure_other needle j k border other =
    let e : k ≡ k + 1 - 1 = omega arith in record {
      is_border = λ l. subst (λ x. IsBorder needle j x) e border.is_border;
      differs = λ l. subst (λ x. slice_index needle x ≢ slice_index needle j) e other;
      longest = λ l more low. let high = border.longest l more in absurd (omega (arith, high, low));
    }

-- a border that a search came to: no longer one goes on by the byte
pub record IsReached (needle : List ℕ) (state byte k : ℕ) : Type 0 where
  pub within : k ≤ state
  pub ends : (text : List ℕ) (s : ℕ) → HasPrefixAt text s needle state → HasPrefixAt text (s + (state - k)) needle k
  pub longest : (text : List ℕ) (s d : ℕ) → HasPrefixAt text s needle state → slice_index text (s + state) ≡ byte → d < state - k →
      ¬ HasPrefixAt text (s + d) needle (state + 1 - d)

pub reached_first : (needle : List ℕ) (state byte : ℕ) → IsReached needle state byte state
reached_first needle state byte = record {
  within = omega arith;
  ends = λ text s h. let e : s ≡ s + (state - state) = omega arith in from_same text s (s + (state - state)) needle state e h;
  longest = λ text s d h at l. absurd (omega (arith, l));
}

-- where another byte follows, none does that is longer than the failure tells
pub none_longer : (needle : List ℕ) (state byte k r : ℕ) → IsReached needle state byte k → slice_index needle k ≢ byte → IsFailure needle k r →
    (text : List ℕ) (s d : ℕ) → HasPrefixAt text s needle state → slice_index text (s + state) ≡ byte → d + r ≤ state →
    ¬ HasPrefixAt text (s + d) needle (state + 1 - d)
none_longer needle state byte k r reached other failure text s d h at low g =
    let within = reached.within in
    elim (cases_lt d (state - k)) [
      | inl less ↦ reached.longest text s d h at less g
      | inr more ↦
          -- the prefix that would go on
          let l : ℕ = state - d in
          let last : s + d + l ≡ s + state = omega (arith, low) in
          let read : slice_index needle l ≡ byte = sym (g l (omega (arith, low))) ∙ ap (slice_index text) last ∙ at in
          elim (cases_lt l k) [
            | inl short ↦
                let from : s + d ≡ s + (state - k) + (k - l) = omega (arith, within, more, low) in
                let border : IsBorder needle k l = border_of text (s + (state - k)) needle k l short (reached.ends text s h)
                (from_same text (s + d) (s + (state - k) + (k - l)) needle l from (fewer text (s + d) needle (state + 1 - d) l (omega (arith, low)) g)) in
                other (sym (failure.longest l border (omega (arith, low))) ∙ read)
            | inr long ↦
                let same : l ≡ k = omega (arith, long, more, within) in other (subst (λ x. slice_index needle x ≡ byte) same read)
          ]
    ]

-- so the search comes to the border that the failure tells
pub reached_next : (needle : List ℕ) (state byte k r : ℕ) → IsReached needle state byte k → slice_index needle k ≢ byte → IsFailure needle k r → 0 < r →
    IsReached needle state byte (r - 1)
reached_next needle state byte k r reached other failure some =
    let border = failure.is_border some in
    let within = reached.within in
    let short = border.short in record {
      within = omega (arith, within, short);
      ends = λ text s h.
          let e : s + (state - k) + (k - (r - 1)) ≡ s + (state - (r - 1)) = omega (arith, within, short) in
          from_same text (s + (state - k) + (k - (r - 1))) (s + (state - (r - 1))) needle (r - 1) e
          (has_border text (s + (state - k)) needle k (r - 1) border (reached.ends text s h));
      longest = λ text s d h at l. none_longer needle state byte k r reached other failure text s d h at (omega (arith, l, some, short, within));
    }

-- one byte that is read
one_read : (text : List ℕ) (at byte : ℕ) → HasPrefixAt text at (byte ∷ []) 1 → slice_index text at ≡ byte
one_read text at byte h = let e : at ≡ at + 0 = omega arith in ap (slice_index text) e ∙ h 0 (omega arith)

-- the border goes on by the byte
pub goes_on_by : (needle : List ℕ) (state byte k : ℕ) → state < length needle → IsReached needle state byte k → slice_index needle k ≡ byte →
    GoesOn needle state (byte ∷ []) 1 (k + 1)
goes_on_by needle state byte k inside reached same =
    let within = reached.within in record {
      within = omega (arith, inside);
      high = omega (arith, within);
      ends = λ text s h read.
          let from : s + (state - k) ≡ s + (state + 1 - (k + 1)) = omega (arith, within) in
          let here : s + (state - k) + k ≡ s + state = omega (arith, within) in
          from_same text (s + (state - k)) (s + (state + 1 - (k + 1))) needle (k + 1) from
          (one_more text (s + (state - k)) needle k (reached.ends text s h)
          (ap (slice_index text) here ∙ one_read text (s + state) byte read ∙ sym same));
      longest = λ text s d h read low. reached.longest text s d h (one_read text (s + state) byte read) (omega (arith, low, within));
    }

-- no border goes on
pub goes_on_by_none : (needle : List ℕ) (state byte k r : ℕ) → state < length needle → IsReached needle state byte k → slice_index needle k ≢ byte →
    IsFailure needle k r → r ≡ 0 → GoesOn needle state (byte ∷ []) 1 0
goes_on_by_none needle state byte k r inside reached other failure none = record {
  within = omega (arith, inside);
  high = omega arith;
  ends = λ text s h read i l. absurd (omega (arith, l));
  longest = λ text s d h read low.
      none_longer needle state byte k r reached other failure text s d h (one_read text (s + state) byte read) (omega (arith, low, none));
}

-- the longest border of one more byte
pub longest_next : (needle : List ℕ) (j k r byte : ℕ) → IsLongestBorder needle j k → byte ≡ slice_index needle j →
    GoesOn needle k (byte ∷ []) 1 r → IsLongestBorder needle (j + 1) r
longest_next needle j k r byte border is next =
    let short = border.is_border.short in
    let high = next.high in
    let here : j - k + k ≡ j = omega (arith, short) in
    let read : HasPrefixAt needle (j - k + k) (byte ∷ []) 1 = λ i l.
    let zero : i ≡ 0 = omega (arith, l) in
    let at : j - k + k + i ≡ j = omega (arith, zero, here) in
    ap (slice_index needle) at ∙ sym is ∙ ap (slice_index (byte ∷ [])) (sym zero) in
    let from : j - k + (k + 1 - r) ≡ j + 1 - r = omega (arith, short, high) in record {
      is_border = record {
        short = omega (arith, short, high);
        repeats = from_same needle (j - k + (k + 1 - r)) (j + 1 - r) needle r from (next.ends needle (j - k) border.is_border.repeats read);
      };
      longest = λ l other.
          let below = other.short in
          elim (cases_lt r l) [
            | inr le ↦ le
            | inl more ↦ elim (cases_lt (k + 1) l) [
              | inl long ↦
                  let start : j + 1 - l ≡ j - (l - 1) = omega (arith, long, below) in
                  let shorter : IsBorder needle j (l - 1) = record {
                    short = omega (arith, below, long);
                    repeats = from_same needle (j + 1 - l) (j - (l - 1)) needle (l - 1) start
                        (fewer needle (j + 1 - l) needle l (l - 1) (omega arith) other.repeats);
                  } in
                  let most = border.longest (l - 1) shorter in absurd (omega (arith, most, long))
              | inr le ↦
                  let start : j + 1 - l ≡ j - k + (k + 1 - l) = omega (arith, le, short, below) in
                  let len : l ≡ k + 1 - (k + 1 - l) = omega (arith, le) in
                  absurd (next.longest needle (j - k) (k + 1 - l) border.is_border.repeats read (omega (arith, le, more))
                  (subst (λ x. HasPrefixAt needle (j - k + (k + 1 - l)) needle x) len
                  (from_same needle (j + 1 - l) (j - k + (k + 1 - l)) needle l start other.repeats)))
            ]
          ];
    }

-- bytes that are the needle's next
pub goes_on_alike : (needle : List ℕ) (state : ℕ) (piece : List ℕ) (n : ℕ) → state + n ≤ length needle →
    ((i : ℕ) → i < n → slice_index piece i ≡ slice_index needle (state + i)) → GoesOn needle state piece n (state + n)
goes_on_alike needle state piece n inside same = record {
  within = inside;
  high = omega arith;
  ends = λ text s h read.
      let from : s ≡ s + (state + n - (state + n)) = omega arith in
      from_same text s (s + (state + n - (state + n))) needle (state + n) from (more_bytes text s needle piece state n h read same);
  longest = λ text s d h read low. absurd (omega (arith, low));
}

-- and one byte more
pub goes_on_next : (needle : List ℕ) (state : ℕ) (piece : List ℕ) (n byte next : ℕ) →
    ((i : ℕ) → i < n → slice_index piece i ≡ slice_index needle (state + i)) → byte ≡ slice_index piece n →
    GoesOn needle (state + n) (byte ∷ []) 1 next → GoesOn needle state piece (n + 1) next
goes_on_next needle state piece n byte next same is more =
    let inside = more.within in
    let top = more.high in record {
      within = omega (arith, inside);
      high = omega (arith, top);
      ends = λ text s h read.
          let from : s + (state + n + 1 - next) ≡ s + (state + (n + 1) - next) = omega arith in
          from_same text (s + (state + n + 1 - next)) (s + (state + (n + 1) - next)) needle next from
          (more.ends text s (whole text s h read) (last text s read));
      longest = λ text s d h read low g.
          let len : state + (n + 1) - d ≡ state + n + 1 - d = omega arith in
          more.longest text s d (whole text s h read) (last text s read) (omega (arith, low)) (subst (λ x. HasPrefixAt text (s + d) needle x) len g);
    }
  where
    whole : (text : List ℕ) (s : ℕ) → HasPrefixAt text s needle state → HasPrefixAt text (s + state) piece (n + 1) → HasPrefixAt text s needle (state + n)
    whole text s h read = more_bytes text s needle piece state n h (fewer text (s + state) piece (n + 1) n (omega arith) read) same

    last : (text : List ℕ) (s : ℕ) → HasPrefixAt text (s + state) piece (n + 1) → HasPrefixAt text (s + (state + n)) (byte ∷ []) 1
    last text s read i l =
        let zero : i ≡ 0 = omega (arith, l) in
        let at : s + (state + n) + i ≡ s + state + n = omega (arith, zero) in
        ap (slice_index text) at ∙ read n (omega arith) ∙ sym is ∙ ap (slice_index (byte ∷ [])) (sym zero)

-- the failure function with one more failure
pub one_more_failure : (needle failures : List ℕ) (at failure : ℕ) → length failures ≡ at → AreFailures needle failures →
    IsFailure needle at failure → AreFailures needle (failures ++ failure ∷ [])
one_more_failure needle failures at failure count are is j l =
    elim (cases_lt j (length failures)) [
      | inl low ↦ subst (λ r. IsFailure needle j r) (sym (get_or_append_left failures (failure ∷ []) 0 j low)) (are j low)
      | inr high ↦
          let long = length-append failures (failure ∷ []) in
          let same : at ≡ j = omega (arith, high, l, long, count) in
          let read : failure ≡ slice_index (failures ++ failure ∷ []) j = sym (get_or_push failures failure 0 j (count ∙ same)) in
          subst (λ r. IsFailure needle j r) read (subst (λ x. IsFailure needle x failure) same is)
    ]
