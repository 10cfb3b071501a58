-- What the first of the starts gives.
use Rattle.std.proofs.Common.{◌≡◌, ℕ, zero, suc, ◌+◌, ◌-◌, ◌<◌, ◌≤◌, List, Option, Some, None, sym, subst, ◌∙◌, refl, arith, inl, inr}
use Rattle.std.specs.Option.{option_or}
use Rattle.std.proofs.lemmas.Bool.{cases_lt}
use Rattle.std.proofs.lemmas.Option.{none-some}
use Rattle.rc_program.specs.Answer.{first_given}
use Rattle.rc_needles.specs.declared.hit.Hit.{Hit}
use Rattle.rc_needles.specs.Needles.{NoneAt, IsFirstNeedle, HasNoNeedle, needle_at, find_needle, NeedleLaw}
use Rattle.rc_needles.proofs.RelationLemmas.{first_to, first_of, none_to, none_of}
use Rattle.rc_needles.proofs.FindLemmas.{by_first, by_none, prefix_is}

-- what is found from i on
pub record Finds (gives : ℕ → Option Hit) (n i : ℕ) (h : Hit) : Type 0 where
  pub low : i ≤ h.start
  pub high : h.start < i + n
  pub here : gives h.start ≡ Some h
  pub none_before : (y : ℕ) → i ≤ y → y < h.start → gives y ≡ None

abbrev AreStarts : (ℕ → Option Hit) → Type 0
AreStarts gives = (x : ℕ) (hit : Hit) → gives x ≡ Some hit → hit.start ≡ x

finds_now : (gives : ℕ → Option Hit) (n i : ℕ) (h : Hit) → AreStarts gives → gives i ≡ Some h → Finds gives (suc n) i h
finds_now gives n i h at e =
    let s = at i h e in record {
      low = omega (arith, s);
      high = omega (arith, s);
      here = subst (λ x. gives x ≡ Some h) (sym s) e;
      none_before = λ y a b. absurd (omega (arith, s, a, b));
    }

finds_later : (gives : ℕ → Option Hit) (n i : ℕ) (h : Hit) → gives i ≡ None → Finds gives n (i + 1) h → Finds gives (suc n) i h
finds_later gives n i h e f = record {
  low = omega (arith, f.low);
  high = omega (arith, f.high);
  here = f.here;
  none_before = λ y a b. elim (cases_lt i y) [
    | inl l ↦ f.none_before y (omega (arith, l)) b
    | inr g ↦ let s : i ≡ y = omega arith in subst (λ x. gives x ≡ None) s e
  ];
}

starts_step : (gives : ℕ → Option Hit) (n i : ℕ) (h : Hit) → AreStarts gives → (first_given gives n (i + 1) ≡ Some h → Finds gives n (i + 1) h) →
    (o : Option Hit) → gives i ≡ o → option_or o (first_given gives n (i + 1)) ≡ Some h → Finds gives (suc n) i h
starts_step gives n i h at more None e r = finds_later gives n i h e (more r)
starts_step gives n i h at more (Some hit) e r = finds_now gives n i h at (e ∙ r)

pub starts_found : (gives : ℕ → Option Hit) (n i : ℕ) (h : Hit) → AreStarts gives → first_given gives n i ≡ Some h → Finds gives n i h
starts_found gives zero i h at e = absurd (none-some h e)
starts_found gives (suc n) i h at e = starts_step gives n i h at (starts_found gives n (i + 1) h at) (gives i) refl e

none_step : (gives : ℕ → Option Hit) (n i : ℕ) → (first_given gives n (i + 1) ≡ None → (y : ℕ) → i + 1 ≤ y → y < i + 1 + n → gives y ≡ None) →
    (o : Option Hit) → gives i ≡ o → option_or o (first_given gives n (i + 1)) ≡ None → (y : ℕ) → i ≤ y → y < i + suc n → gives y ≡ None
none_step gives n i more None e r y a b =
    elim (cases_lt i y) [
      | inl l ↦ more r y (omega (arith, l)) (omega (arith, b))
      | inr g ↦ let s : i ≡ y = omega arith in subst (λ x. gives x ≡ None) s e
    ]
none_step gives n i more (Some hit) e r y a b = absurd (none-some hit (sym r))

pub starts_none : (gives : ℕ → Option Hit) (n i : ℕ) → first_given gives n i ≡ None → (y : ℕ) → i ≤ y → y < i + n → gives y ≡ None
starts_none gives zero i e = λ y a b. absurd (omega arith)
starts_none gives (suc n) i e = none_step gives n i (starts_none gives n (i + 1)) (gives i) refl e

starts_at : (needles : List (List ℕ)) (content : List ℕ) (hi : ℕ) → AreStarts (needle_at needles content hi)
starts_at needles content hi x hit e = (first_to needles content hi x hit e).start

pub find_found : (needles : List (List ℕ)) (content : List ℕ) (lo hi : ℕ) (h : Hit) → find_needle needles content lo hi ≡ Some h →
    Finds (needle_at needles content hi) (hi + 1 - lo) lo h
unfolding find_needle
find_found needles content lo hi h e = starts_found (needle_at needles content hi) (hi + 1 - lo) lo h (starts_at needles content hi) e

pub find_none : (needles : List (List ℕ)) (content : List ℕ) (lo hi : ℕ) → find_needle needles content lo hi ≡ None →
    (y : ℕ) → lo ≤ y → y ≤ hi → needle_at needles content hi y ≡ None
unfolding find_needle
find_none needles content lo hi e y a b = starts_none (needle_at needles content hi) (hi + 1 - lo) lo e y a (omega (arith, a, b))

find_of : (needles : List (List ℕ)) (content : List ℕ) (lo hi : ℕ) (h : Hit) → IsFirstNeedle needles content lo hi h → find_needle needles content lo hi ≡ Some h
unfolding find_needle
find_of needles content lo hi h f =
    let inside = f.is_first.stands.0 in
    by_first (needle_at needles content hi) (hi + 1 - lo) lo h.start h f.low (omega (arith, inside, f.low))
    (λ y a b. none_of needles content hi y (f.none_before y a b)) (first_of needles content hi h.start h f.is_first)

find_none_of : (needles : List (List ℕ)) (content : List ℕ) (lo hi : ℕ) → HasNoNeedle needles content lo hi → find_needle needles content lo hi ≡ None
unfolding find_needle
find_none_of needles content lo hi h =
    by_none (needle_at needles content hi) (hi + 1 - lo) lo (λ y a b. none_of needles content hi y (h y a))

-- past the end no needle stands
none_past : (needles : List (List ℕ)) (content : List ℕ) (hi y : ℕ) → hi < y → NoneAt needles content hi y
none_past needles content hi y l k needle g s = let inside = s.0 in omega (arith, inside, l)

pub needle_law : NeedleLaw
needle_law = record {
  found = λ needles content lo hi h. (
    (λ e. let f = find_found needles content lo hi h e in record {
      low = f.low;
      is_first = first_to needles content hi h.start h f.here;
      none_before = λ i a b. none_to needles content hi i (f.none_before i a b);
    }),
    (λ f. find_of needles content lo hi h f),
  );
  not_found = λ needles content lo hi. (
    (λ e i a. elim (cases_lt hi i) [
      | inl l ↦ none_past needles content hi i l
      | inr g ↦ none_to needles content hi i (find_none needles content lo hi e i a g)
    ]),
    (λ h. find_none_of needles content lo hi h),
  );
  prefixed = λ needles content lo hi h. (
    (λ e. first_to needles content hi lo h (prefix_is needles content lo hi ∙ e)),
    (λ f. sym (prefix_is needles content lo hi) ∙ first_of needles content hi lo h f),
  );
  not_prefixed = λ needles content lo hi. (
    (λ e. none_to needles content hi lo (prefix_is needles content lo hi ∙ e)),
    (λ h. sym (prefix_is needles content lo hi) ∙ none_of needles content hi lo h),
  );
}
