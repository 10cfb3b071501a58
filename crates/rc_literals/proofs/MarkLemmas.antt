-- Sets of the patterns that have a match, needle by needle and start by start.
use Rattle.std.proofs.Common.{◌≡◌, ◌∙◌, ◌↔◌, ◌⊎◌, ℕ, ◌+◌, ◌<◌, ◌≤◌, Bool, true, false, true≢false, List, get_or, length, min, replicate, set, take, Option, Some, None, slice_get, slice_index, option_map, ap, sym, subst, refl, arith, inl, inr, ⊎_elim}
use Rattle.std.specs.Prelude.{is_some}
use Rattle.std.proofs.lemmas.Bool.{cases_eq, cases_lt}
use Rattle.std.proofs.lemmas.Grind.{get_or-set_at}
use Rattle.std.proofs.lemmas.List.{ext_get_or, get_or-replicate, get_or-set_other, get_or-take, length-replicate, length-set, length-take}
use Rattle.std.proofs.lemmas.Option.{get_or_from_slice_get, slice_get-get_or, slice_get_within}
use Rattle.rc_text.specs.Text.{Searched, low, high}
use Rattle.rc_text.proofs.Ranges.{slice_get-slice_range}
use Rattle.rc_text.specs.Found.{Found}
use Rattle.rc_text.specs.declared.types.Anchored.{Anchored}
use Rattle.rc_text.specs.declared.types.Anchored.TheVariants.{No, Yes, Pattern}
use Rattle.rc_pattern_set.specs.Sets.{Has}
use Rattle.rc_pattern_set.proofs.SetLemmas.{has_set, set_has, set_keeps}
use Rattle.rc_needles.specs.declared.hit.Hit.{Hit}
use Rattle.rc_needles.specs.Needles.{find_needle, stands_within, needle_at, prefix_needle}
use Rattle.rc_needles.specs.Tables.{AreSome, BeginsWithByte, IsNextWith, numbered}
use Rattle.rc_needles.proofs.FindLemmas.{prefix_is}
use Rattle.rc_needles.proofs.RelationLemmas.{first_to, get_some, some_get, none_to, true_within, within_true}
use Rattle.rc_needles.proofs.StandLemmas.{begins_with, false_if_not, stands_parts}
use Rattle.rc_needles.proofs.StartLemmas.{find_found}
use Rattle.rc_literals.specs.Answers.{AddsOwners, Owned, OwnsAt, OwnsBy, literal_answer, literal_answer_by, own_needles}
use Rattle.rc_literals.specs.Marks.{AddsFrom, AreDone, AreRelated, HasRelated, IsAt}
use Rattle.rc_literals.proofs.MemberLemmas.{hit_owned, not_owned}

module _ (o : Owned) (content : List ℕ) (hi : ℕ) where
  -- One needle.

  -- after it was asked for at i, the set has its pattern if it occurs
  abbrev pub AddsOne : ℕ → ℕ → List Bool → List Bool → Type 0
  AddsOne i number old new = (p : ℕ) → Has new p ↔ (Has old p ⊎ ((p < length old) × IsAt o content hi i p number))

  pub one_held : (i number owner : ℕ) (old : List Bool) → owner ≡ slice_index o.owners number → Has old owner → AddsOne i number old old
  one_held i number owner old e h p = (λ a. inl a, ⊎_elim (λ a. a) (λ q. subst (Has old) (e ∙ q.1.owned) h))

  pub one_absent : (i number : ℕ) (old : List Bool) → stands_within content hi i (numbered o.needles number) ≡ false → AddsOne i number old old
  one_absent i number old f p = (λ a. inl a, ⊎_elim (λ a. a) (λ q. absurd (true≢false (sym q.1.stands ∙ f))))

  pub one_set : (i number owner : ℕ) (old : List Bool) → owner ≡ slice_index o.owners number → number < length o.needles →
      stands_within content hi i (numbered o.needles number) ≡ true → AddsOne i number old (set old owner true)
  one_set i number owner old e there t p = (to, from)
    where
      to : Has (set old owner true) p → Has old p ⊎ ((p < length old) × IsAt o content hi i p number)
      to h =
          let below = slice_get_within (set old owner true) p true h in
          let long = length-set old owner true in
          ⊎_elim (λ same. inr (omega (arith, below, long), record { there = there; owned = sym e ∙ sym same; stands = t })) (λ a. inl a)
          (has_set old owner p h)

      from : Has old p ⊎ ((p < length old) × IsAt o content hi i p number) → Has (set old owner true) p
      from (inl h) = set_keeps old owner p h
      from (inr q) =
          let same : owner ≡ p = e ∙ q.1.owned in
          subst (Has (set old owner true)) same (set_has old owner (subst (λ x. x < length old) (sym same) q.0))

  -- The needles of lesser numbers, at one start.

  pub record AddsBelow (i n : ℕ) (old new : List Bool) : Type 0 where
    pub capacity : length new ≡ length old
    pub members : (p : ℕ) → Has new p ↔ (Has old p ⊎ ((p < length old) × (k : ℕ) × (k < n) × IsAt o content hi i p k))

  -- none of the needles from one number up to another occurs
  abbrev pub NoneOf : ℕ → ℕ → ℕ → Type 0
  NoneOf i from to = (k : ℕ) → from ≤ k → k < to → k < length o.needles → stands_within content hi i (numbered o.needles k) ≡ false

  pub below_none : (i n : ℕ) (old : List Bool) → NoneOf i 0 n → AddsBelow i n old old
  below_none i n old none = record {
    capacity = refl;
    members = λ p. (
      λ a. inl a,
      ⊎_elim (λ a. a) (λ q. let at = q.3 in absurd (true≢false (sym at.stands ∙ none q.1 (omega arith) q.2 at.there))),
    );
  }

  pub below_more : (i n : ℕ) (old mid new : List Bool) → AddsBelow i n old mid → length new ≡ length mid → AddsOne i n mid new → AddsBelow i (n + 1) old new
  below_more i n old mid new below long one = record {
    capacity = long ∙ below.capacity;
    members = λ p. (to p, from p);
  }
    where
      to : (p : ℕ) → Has new p → Has old p ⊎ ((p < length old) × (k : ℕ) × (k < n + 1) × IsAt o content hi i p k)
      to p h =
          ⊎_elim
          (λ m. ⊎_elim (λ a. inl a) (λ q. let l = q.2 in inr (q.0, q.1, omega (arith, l), q.3)) ((below.members p).0 m))
          (λ q. let l = q.0 in inr (omega (arith, l, below.capacity), n, omega arith, q.1))
          ((one p).0 h)

      from : (p : ℕ) → Has old p ⊎ ((p < length old) × (k : ℕ) × (k < n + 1) × IsAt o content hi i p k) → Has new p
      from p (inl h) = (one p).1 (inl ((below.members p).1 (inl h)))
      from p (inr q) =
          elim (cases_lt q.1 n) [
            | inl l ↦ (one p).1 (inl ((below.members p).1 (inr (q.0, q.1, l, q.3))))
            | inr g ↦
                let m = q.2 in
                let same : q.1 ≡ n = omega (arith, g, m) in
                let l = q.0 in
                (one p).1 (inr (omega (arith, l, below.capacity), subst (λ k. IsAt o content hi i p k) same q.3))
          ]

  pub below_next : (i n r : ℕ) (old new : List Bool) → n ≤ r → AddsBelow i n old new → NoneOf i n r → AddsBelow i r old new
  below_next i n r old new le below none = record {
    capacity = below.capacity;
    members = λ p. (
      λ h. ⊎_elim (λ a. inl a) (λ q. let l = q.2 in inr (q.0, q.1, omega (arith, l, le), q.3)) ((below.members p).0 h),
      ⊎_elim (λ a. (below.members p).1 (inl a)) (λ q. by_number p q),
    );
  }
    where
      by_number : (p : ℕ) → ((p < length old) × (k : ℕ) × (k < r) × IsAt o content hi i p k) → Has new p
      by_number p q =
          elim (cases_lt q.1 n) [
            | inl l ↦ (below.members p).1 (inr (q.0, q.1, l, q.3))
            | inr g ↦ let at = q.3 in absurd (true≢false (sym at.stands ∙ none q.1 g q.2 at.there))
          ]

  -- none of those between a number and the next that begins with the byte there occurs
  pub none_between : (i b from r : ℕ) → AreSome o.needles → slice_get content i ≡ Some b → IsNextWith o.needles b from r → NoneOf i from r
  none_between i b from r some at next k low high l =
      false_if_not (stands_within content hi i (numbered o.needles k))
      (λ e. next.none_between k low high (begins_with content hi i b (numbered o.needles k) (some k l) at e))

  -- all needles, at one start
  pub below_all : (i n : ℕ) (old new : List Bool) → length o.needles ≤ n → AddsBelow i n old new → AddsFrom o content hi i (i + 1) old new
  below_all i n old new all below = record {
    capacity = below.capacity;
    members = λ p. (
      λ h. ⊎_elim (λ a. inl a) (λ q. inr (q.0, i, omega arith, omega arith, q.1, q.3)) ((below.members p).0 h),
      ⊎_elim (λ a. (below.members p).1 (inl a)) (λ q. by_start p q),
    );
  }
    where
      by_start : (p : ℕ) → ((p < length old) × (j : ℕ) × (i ≤ j) × (j < i + 1) × (number : ℕ) × IsAt o content hi j p number) → Has new p
      by_start p q =
          let a = q.2 in
          let b = q.3 in
          let same : q.1 ≡ i = omega (arith, a, b) in
          let at : IsAt o content hi i p q.4 = subst (λ j. IsAt o content hi j p q.4) same q.5 in
          let l = at.there in
          (below.members p).1 (inr (q.0, q.4, omega (arith, l, all), at))

  -- needles that occur at the same start are related
  together : (i : ℕ) (xs ys : List ℕ) → stands_within content hi i xs ≡ true → stands_within content hi i ys ≡ true → AreRelated xs ys
  together i xs ys a b k l m = sym (byte xs a l) ∙ byte ys b m
    where
      byte : (zs : List ℕ) → stands_within content hi i zs ≡ true → k < length zs → slice_get content (i + k) ≡ slice_get zs k
      byte zs stands below =
          sym (slice_get-slice_range content i (i + length zs) k (omega (arith, below))) ∙ ap (λ v. slice_get v k) (stands_parts content hi i zs stands).1

  -- the set has the owners of all needles that are related to one that occurs there
  pub from_related : (i n : ℕ) (old : List Bool) → stands_within content hi i (numbered o.needles n) ≡ true → HasRelated o old n →
      AddsFrom o content hi i (i + 1) old old
  from_related i n old stands held = record {
    capacity = refl;
    members = λ p. (λ a. inl a, ⊎_elim (λ a. a) (λ q. known p q));
  }
    where
      known : (p : ℕ) → ((p < length old) × (j : ℕ) × (i ≤ j) × (j < i + 1) × (number : ℕ) × IsAt o content hi j p number) → Has old p
      known p q =
          let a = q.2 in
          let b = q.3 in
          let same : q.1 ≡ i = omega (arith, a, b) in
          let at : IsAt o content hi i p q.4 = subst (λ j. IsAt o content hi j p q.4) same q.5 in
          subst (Has old) at.owned (held q.4 at.there (together i (numbered o.needles n) (numbered o.needles q.4) stands at.stands))

  -- what is added leaves the notes right
  pub done_on : (i : ℕ) (notes : List ℕ) (old new : List Bool) → AddsFrom o content hi i (i + 1) old new → AreDone o notes old → AreDone o notes new
  done_on i notes old new adds done slot l below k there related =
      (adds.members (slice_index o.owners k)).1 (inl (done slot l below k there related))

  -- Starts, one after another.

  pub from_none : (from to : ℕ) (old : List Bool) → ((i : ℕ) → from ≤ i → i < to → needle_at o.needles content hi i ≡ None) → AddsFrom o content hi from to old old
  from_none from to old none = record {
    capacity = refl;
    members = λ p. (
      λ a. inl a,
      ⊎_elim (λ a. a)
          (λ q. let at = q.5 in
          absurd (none_to o.needles content hi q.1 (none q.1 q.2 q.3) q.4 (numbered o.needles q.4) (some_get o.needles q.4 at.there)
          (true_within content (numbered o.needles q.4) hi q.1 at.stands))),
    );
  }

  -- a needle of the pattern occurs from one start up to another
  abbrev OccursIn : ℕ → ℕ → List Bool → ℕ → Type 0
  OccursIn a c old p = (p < length old) × (i : ℕ) × (a ≤ i) × (i < c) × (number : ℕ) × IsAt o content hi i p number

  pub from_on : (a b c : ℕ) (old mid new : List Bool) → a ≤ b → b ≤ c → AddsFrom o content hi a b old mid → AddsFrom o content hi b c mid new →
      AddsFrom o content hi a c old new
  from_on a b c old mid new le less x y = record {
    capacity = y.capacity ∙ x.capacity;
    members = λ p. (to p, from p);
  }
    where
      to : (p : ℕ) → Has new p → Has old p ⊎ OccursIn a c old p
      to p h =
          ⊎_elim
          (λ m. ⊎_elim (λ k. inl k) (λ q. let l = q.3 in inr (q.0, q.1, q.2, omega (arith, l, less), q.4, q.5)) ((x.members p).0 m))
          (λ q. let l = q.0 in let m = q.2 in inr (omega (arith, l, x.capacity), q.1, omega (arith, m, le), q.3, q.4, q.5))
          ((y.members p).0 h)

      from : (p : ℕ) → Has old p ⊎ OccursIn a c old p → Has new p
      from p (inl h) = (y.members p).1 (inl ((x.members p).1 (inl h)))
      from p (inr q) =
          elim (cases_lt q.1 b) [
            | inl l ↦ (y.members p).1 (inl ((x.members p).1 (inr (q.0, q.1, q.2, l, q.4, q.5))))
            | inr g ↦ let l = q.0 in (y.members p).1 (inr (omega (arith, l, x.capacity), q.1, g, q.3, q.4, q.5))
          ]

  -- a set that has all that it can
  pub from_full : (a b c : ℕ) (old new : List Bool) → b ≤ c → AddsFrom o content hi a b old new → ((p : ℕ) → p < length new → Has new p) →
      AddsFrom o content hi a c old new
  from_full a b c old new less x full = record {
    capacity = x.capacity;
    members = λ p. (
      λ h. ⊎_elim (λ k. inl k) (λ q. let l = q.3 in inr (q.0, q.1, q.2, omega (arith, l, less), q.4, q.5)) ((x.members p).0 h),
      ⊎_elim (λ k. (x.members p).1 (inl k)) (λ q. let l = q.0 in full p (omega (arith, l, x.capacity))),
    );
  }

  -- What occurs at a start.

  pub at_owns : (i p number : ℕ) → length o.owners ≡ length o.needles → IsAt o content hi i p number → OwnsAt o content hi p i
  at_owns i p number same at =
      let l = at.there in
      record {
        number = number;
        needle = numbered o.needles number;
        is = some_get o.needles number at.there;
        owned = slice_get-get_or o.owners number 0 (omega (arith, l, same)) ∙ ap (λ x. Some x) at.owned;
        stands = true_within content (numbered o.needles number) hi i at.stands;
      }

  pub owns_is : (i p : ℕ) → OwnsAt o content hi p i → (number : ℕ) × IsAt o content hi i p number
  owns_is i p own =
      let g = get_some o.needles own.number own.needle own.is in (
        own.number,
        record {
          there = g.0;
          owned = get_or_from_slice_get o.owners own.number p 0 own.owned;
          stands = ap (stands_within content hi i) g.1 ∙ within_true content own.needle hi i own.stands;
        },
      )

  -- it lies before the end
  pub at_below : (i p number : ℕ) → AreSome o.needles → IsAt o content hi i p number → i < hi
  at_below i p number some at =
      let le = (stands_parts content hi i (numbered o.needles number) at.stands).0 in
      let long = some number at.there in omega (arith, le, long)

  -- no needle occurs where the bounds cross
  pub from_crossed : (lo : ℕ) (old : List Bool) → AreSome o.needles → hi ≤ lo → AddsFrom o content hi lo (lo + 1) old old
  from_crossed lo old some le = record {
    capacity = refl;
    members = λ p. (
      λ a. inl a,
      ⊎_elim (λ a. a) (λ q. absurd (let l = at_below q.1 p q.4 some q.5 in let m = q.2 in omega (arith, l, m, le))),
    );
  }

-- Notes of needles.

module _ (o : Owned) (marks : List Bool) where
  -- none is noted
  pub none_done : (n most : ℕ) → length o.needles ≤ most → AreDone o (replicate n most) marks
  none_done n most le slot l below =
      let e : slice_index (replicate n most) slot ≡ most = get_or-replicate n slot most 0 (omega (arith, l, length-replicate n most)) in
      absurd (omega (arith, below, e, le))

  -- one more is noted
  pub done_set : (notes : List ℕ) (slot n : ℕ) → AreDone o notes marks → HasRelated o marks n → AreDone o (set notes slot n) marks
  done_set notes slot n done held at l =
      ⊎_elim
      (λ same. let e = get_or-set_at notes slot at n 0 same (omega (arith, same, l, length-set notes slot n)) in
      λ _. subst (HasRelated o marks) (sym e) held)
      (λ differs. let e = get_or-set_other notes slot at n 0 differs in
      λ below. subst (HasRelated o marks) (sym e) (done at (omega (arith, l, length-set notes slot n)) (omega (arith, below, e))))
      (cases_eq at slot)

-- The needle that was found occurs there.
pub hit_stands : (needles : List (List ℕ)) (content : List ℕ) (lo hi : ℕ) (h : Hit) → find_needle needles content lo hi ≡ Some h →
    (h.number < length needles) × (stands_within content hi h.start (numbered needles h.number) ≡ true)
hit_stands needles content lo hi h e =
    let f = find_found needles content lo hi h e in
    let first = first_to needles content hi h.start h f.here in
    let is = get_some needles h.number first.needle first.is in
    (is.0, subst (λ w. stands_within content hi h.start w ≡ true) (sym is.1) (within_true content first.needle hi h.start first.stands))

-- What is related has the same front.
pub related_front : (xs ys : List ℕ) → AreRelated xs ys → take (min (length xs) (length ys)) xs ≡ take (min (length xs) (length ys)) ys
related_front xs ys related = ext_get_or 0 (take n xs) (take n ys) (length-take n xs ∙ omega arith ∙ sym (length-take n ys)) same
  where
    n : ℕ
    n = min (length xs) (length ys)

    same : (i : ℕ) → i < length (take n xs) → get_or (take n xs) i 0 ≡ get_or (take n ys) i 0
    same i l =
        let e = length-take n xs in
        let left : i < length xs = omega (arith, l, e) in
        let right : i < length ys = omega (arith, l, e) in
        let within : i < n = omega (arith, l, e) in
        get_or-take n xs i 0 within
        ∙ get_or_from_slice_get xs i (get_or ys i 0) 0 (related i left right ∙ slice_get-get_or ys i 0 right)
        ∙ sym (get_or-take n ys i 0 within)

-- The first byte, as it is read.
pub first_read : (xs needle : List ℕ) (b : ℕ) → xs ≡ needle → 0 < length xs → b ≡ get_or xs 0 0 → BeginsWithByte needle b
first_read xs needle b is some e = ap (λ w. slice_get w 0) (sym is) ∙ slice_get-get_or xs 0 0 some ∙ ap (λ x. Some x) (sym e)

-- A needle that is related to one begins with the same byte.
pub related_first : (xs ys : List ℕ) (b : ℕ) → AreRelated xs ys → slice_get xs 0 ≡ Some b → 0 < length ys → BeginsWithByte ys b
related_first xs ys b related e some = sym (related 0 (slice_get_within xs 0 b e) some) ∙ e

-- By the anchoring.

module _ (o : Owned) (s : Searched) (old new : List Bool) (same : length o.owners ≡ length o.needles) (some : AreSome o.needles) where
  -- the set adds each pattern that has a match by this anchoring
  abbrev AddsBy : Anchored → Type 0
  AddsBy a = (length new ≡ length old) × ((p : ℕ) → Has new p ↔ (Has old p ⊎ ((p < length old) × OwnsBy o s.content (low s) (high s) p a)))

  adds_so : (a : Anchored) → a ≡ s.anchored → AddsBy a → AddsOwners o s old new
  adds_so a e adds =
      let r = subst AddsBy e adds in record { capacity = r.0; members = r.1 }

  pub anywhere_adds : No ≡ s.anchored → AddsFrom o s.content (high s) (low s) (high s) old new → AddsOwners o s old new
  anywhere_adds e x =
      adds_so No e (
        x.capacity,
        λ p. (
          λ h. ⊎_elim (λ a. inl a) (λ q. inr (q.0, (q.1, q.2, at_owns o s.content (high s) q.1 p q.4 same q.5))) ((x.members p).0 h),
          ⊎_elim (λ a. (x.members p).1 (inl a))
              (λ q. let r = owns_is o s.content (high s) q.1.0 p q.1.2 in
              (x.members p).1 (inr (q.0, q.1.0, q.1.1, at_below o s.content (high s) q.1.0 p r.0 some r.1, r.0, r.1))),
        ),
      )

  pub at_start_adds : Yes ≡ s.anchored → AddsFrom o s.content (high s) (low s) (low s + 1) old new → AddsOwners o s old new
  at_start_adds e x =
      adds_so Yes e (
        x.capacity,
        λ p. (
          λ h. ⊎_elim (λ a. inl a) (λ q. inr (q.0, there p (q.1, q.2, q.3, q.4, q.5))) ((x.members p).0 h),
          ⊎_elim (λ a. (x.members p).1 (inl a))
              (λ q. let r = owns_is o s.content (high s) (low s) p q.1 in
              (x.members p).1 (inr (q.0, low s, omega arith, omega arith, r.0, r.1))),
        ),
      )
    where
      there : (p : ℕ) → ((i : ℕ) × (low s ≤ i) × (i < low s + 1) × (number : ℕ) × IsAt o s.content (high s) i p number) → OwnsAt o s.content (high s) p (low s)
      there p q =
          let a = q.1 in
          let b = q.2 in
          let is : q.0 ≡ low s = omega (arith, a, b) in
          subst (λ i. OwnsAt o s.content (high s) p i) is (at_owns o s.content (high s) q.0 p q.3 same q.4)

  -- the pattern that is searched for alone
  answer_of : (r : ℕ) (found : Option Found) → Pattern r ≡ s.anchored → found ≡ literal_answer o s → found ≡ literal_answer_by o s.content (low s) (high s) (Pattern r)
  answer_of r found e is = is ∙ ap (literal_answer_by o s.content (low s) (high s)) (sym e)

  owned_if : (r : ℕ) (found : Option Found) → found ≡ literal_answer_by o s.content (low s) (high s) (Pattern r) → is_some found ≡ true →
      OwnsAt o s.content (high s) r (low s)
  owned_if r found is t = by_hit (prefix_needle (own_needles r o.owners o.needles) s.content (low s) (high s)) refl
    where
      by_hit : (x : Option Hit) → prefix_needle (own_needles r o.owners o.needles) s.content (low s) (high s) ≡ x → OwnsAt o s.content (high s) r (low s)
      by_hit None e = absurd (true≢false (sym t ∙ ap is_some (is ∙ ap (option_map _) e)))
      by_hit (Some h) e = hit_owned o s.content (high s) r (low s) h (prefix_is (own_needles r o.owners o.needles) s.content (low s) (high s) ∙ e)

  unowned_if : (r : ℕ) (found : Option Found) → found ≡ literal_answer_by o s.content (low s) (high s) (Pattern r) → is_some found ≡ false →
      ¬ OwnsAt o s.content (high s) r (low s)
  unowned_if r found is f = by_hit (prefix_needle (own_needles r o.owners o.needles) s.content (low s) (high s)) refl
    where
      by_hit : (x : Option Hit) → prefix_needle (own_needles r o.owners o.needles) s.content (low s) (high s) ≡ x → ¬ OwnsAt o s.content (high s) r (low s)
      by_hit None e = not_owned o s.content (high s) r (low s) (prefix_is (own_needles r o.owners o.needles) s.content (low s) (high s) ∙ e)
      by_hit (Some h) e = absurd (true≢false (sym (ap is_some (is ∙ ap (option_map _) e)) ∙ f))

  pub pattern_adds : (r : ℕ) (found : Option Found) → Pattern r ≡ s.anchored → found ≡ literal_answer o s → is_some found ≡ true → new ≡ set old r true →
      AddsOwners o s old new
  pattern_adds r found e is t put =
      let own = owned_if r found (answer_of r found e is) t in
      adds_so (Pattern r) e (
        ap length put ∙ length-set old r true,
        λ p. (
          λ h. ⊎_elim (λ k. inr (let l = slice_get_within (set old r true) p true (subst (λ z. Has z p) put h) in
              (omega (arith, l, length-set old r true), (k, subst (λ x. OwnsAt o s.content (high s) x (low s)) (sym k) own)))) (λ a. inl a)
              (has_set old r p (subst (λ z. Has z p) put h)),
          λ h. subst (λ z. Has z p) (sym put) (⊎_elim (λ a. set_keeps old r p a)
              (λ q. subst (Has (set old r true)) (sym q.1.0) (set_has old r (subst (λ x. x < length old) q.1.0 q.0))) h),
        ),
      )

  pub pattern_absent : (r : ℕ) (found : Option Found) → Pattern r ≡ s.anchored → found ≡ literal_answer o s → is_some found ≡ false → new ≡ old →
      AddsOwners o s old new
  pattern_absent r found e is f kept =
      let none = unowned_if r found (answer_of r found e is) f in
      adds_so (Pattern r) e (
        ap length kept,
        λ p. (
          λ h. inl (subst (λ z. Has z p) kept h),
          λ h. subst (λ z. Has z p) (sym kept) (⊎_elim (λ a. a) (λ q. absurd (none (subst (λ x. OwnsAt o s.content (high s) x (low s)) q.1.0 q.1.1))) h),
        ),
      )
