-- Searches that are the same below r see the same there.
use Rattle.std.proofs.Common.{◌≡◌, ℕ, ◌+◌, ◌-◌, ◌<◌, ◌≤◌, List, [], ◌∷◌, map, take, drop, length, min, ⊎_elim, sym, ap, ap₂, ◌∙◌, refl, arith, take-take, length-take, slice_range}
use Rattle.std.specs.List.{slice_get}
use Rattle.std.proofs.lemmas.Bool.{cases_lt}
use Rattle.std.proofs.lemmas.List.{drop-take, drop_all}
use Rattle.rc_text.proofs.Ranges.{slice_get-slice_range}
use Rattle.rc_walks.specs.Walks.{Pair}
use Rattle.rc_program.specs.Text.{before_at, beyond}
use Rattle.rc_program.specs.Looks.{side_before}
use Rattle.rc_program.specs.Answer.{Search, Chosen}
use Rattle.rc_reach.specs.Settled.{AgreesBelow, IsInside}
use Rattle.rc_reach.specs.Alike.{AreAlike, further, chosen_further}

-- a range is what is left of the list that ends there
pub range_is_rest : (xs : List ℕ) (p e : ℕ) → slice_range xs p e ≡ drop p (take e xs)
range_is_rest xs p e =
    ⊎_elim
    (λ past. let none : e - p ≡ 0 = omega (arith, past) in
    ap (λ n. take n (drop p xs)) none ∙ sym (drop_all p (take e xs) (let l = length-take e xs in omega (arith, l, past))))
    (λ within. let sum : e ≡ p + (e - p) = omega (arith, within) in
    sym (ap (λ n. drop p (take n xs)) sum ∙ drop-take p (e - p) xs))
    (cases_lt e p)

-- the range, as far as r
range_below : (xs : List ℕ) (r p e : ℕ) → p ≤ r → take (r - p) (slice_range xs p e) ≡ drop p (take r (take e xs))
range_below xs r p e h =
    let sum : r ≡ p + (r - p) = omega (arith, h) in
    ap (take (r - p)) (range_is_rest xs p e) ∙ sym (ap (λ n. drop p (take n (take e xs))) sum ∙ drop-take p (r - p) (take e xs))

range_to : (xs : List ℕ) (r p b : ℕ) → p ≤ r → slice_range xs b p ≡ drop b (take p (take r xs))
range_to xs r p b h = range_is_rest xs b p ∙ ap (drop b) (sym (take-take p r xs h))

pub get_below : (xs : List ℕ) (r p : ℕ) → p < r → slice_get (take r xs) p ≡ slice_get xs p
get_below xs r p h =
    ap (λ n. slice_get (take n xs) p) (omega arith) ∙ slice_get-slice_range xs 0 r p (omega (arith, h)) ∙ ap (slice_get xs) (omega arith)

module _ (s t : Search) (r : ℕ) (in1 : IsInside s) (in2 : IsInside t) (agrees : AgreesBelow r s t) where
  pub same_bound : min r t.hi ≡ min r s.hi
  same_bound =
      let a = ap length agrees.read in
      let b = length-take r (take t.hi t.text.content) in
      let c = length-take t.hi t.text.content in
      let e = length-take r (take s.hi s.text.content) in
      let f = length-take s.hi s.text.content in
      let g = in1.hi in
      let h = in1.slice_end in
      let i = in2.hi in
      let j = in2.slice_end in
      omega (arith, a, b, c, e, f, g, h, i, j)

  pub before_same : (p : ℕ) → p ≤ r → before_at t.text p ≡ before_at s.text p
  before_same p b =
      ap (λ k. side_before (slice_range t.text.content k p)) agrees.slice_start
      ∙ ap side_before (range_to t.text.content r p s.text.slice_start b ∙ ap (λ xs. drop s.text.slice_start (take p xs)) agrees.content
      ∙ sym (range_to s.text.content r p s.text.slice_start b))

  pub seen_same : (p : ℕ) → p ≤ r → take (r - p) (beyond t.text p) ≡ take (r - p) (beyond s.text p)
  seen_same p b = range_below t.text.content r p t.text.slice_end b ∙ ap (drop p) agrees.seen ∙ sym (range_below s.text.content r p s.text.slice_end b)

  pub alike : AreAlike 0 0 r s t
  alike = record {
    places = agrees.places;
    terminator = agrees.terminator;
    anchoring = agrees.anchoring;
    passes_over = agrees.passes_over;
    lo = let e = agrees.lo in omega (arith, e);
    above = omega arith;
    bound = λ p a b. let m = same_bound in ((λ h. omega (arith, m, b, h)), (λ h. omega (arith, m, b, h)));
    before = λ p a b c. ap (before_at t.text) (omega arith) ∙ before_same p b;
    read = λ p a b c.
        ap (λ k. take (r - p) (slice_range t.text.content k t.hi)) (omega arith)
        ∙ range_below t.text.content r p t.hi b ∙ ap (drop p) agrees.read ∙ sym (range_below s.text.content r p s.hi b);
    seen = λ p a b c. ap (λ k. take (r - p) (beyond t.text k)) (omega arith) ∙ seen_same p b;
    content = λ p a b c.
        ap (slice_get t.text.content) (omega arith)
        ∙ sym (get_below t.text.content r p b) ∙ ap (λ xs. slice_get xs p) agrees.content ∙ get_below s.text.content r p b;
  }

-- no further on is where it was
pair_stays : (n : Pair) → further 0 n ≡ n
pair_stays n = ap (λ k. (n.0, k)) (omega arith)

walk_stays : (w : List Pair) → map (further 0) w ≡ w
walk_stays [] = refl
walk_stays (n ∷ w) = ap₂ ◌∷◌ (pair_stays n) (walk_stays w)

pub chosen_stays : (c : Chosen) → chosen_further 0 c ≡ c
chosen_stays c = ap₂ (λ x w. let r : Chosen = record { start = x; walk = w } in r) (omega arith) (walk_stays c.walk)
