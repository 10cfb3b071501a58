-- The slice, its end, and the byte after it settle whatever a search finds.
use Rattle.std.proofs.Common.{◌≡◌, ℕ, ◌+◌, ◌-◌, ◌<◌, ◌≤◌, List, drop, length, take, sym, ap, ◌∙◌, arith, length-take, slice_range}
use Rattle.std.specs.List.{slice_get}
use Rattle.std.proofs.lemmas.List.{take_all}
use Rattle.rc_text.specs.declared.types.MatchKind.TheVariants.{LeftmostFirst as leftmost_first, LeftmostLongest as leftmost_longest, All as all_matches}
use Rattle.rc_program.specs.Text.{before_at, beyond}
use Rattle.rc_program.specs.Answer.{Search, chosen}
use Rattle.rc_program.specs.Longest.{longest_chosen}
use Rattle.rc_program.specs.Greatest.{greatest}
use Rattle.rc_reach.specs.Settled.{AgreesBelow, IsInside}
use Rattle.rc_reach.specs.Alike.{AreAlike}
use Rattle.rc_reach.specs.Laws.{SliceLaw}
use Rattle.rc_reach.proofs.AgreeLemmas.{range_is_rest, get_below, same_bound, before_same}
use Rattle.rc_reach.proofs.AlikeLemmas.{same_chosen}
use Rattle.rc_reach.proofs.LongestLemmas.{same_longest_chosen}
use Rattle.rc_reach.proofs.GreatestLemmas.{same_greatest}
use Rattle.rc_reach.proofs.KnownLemmas.{all_known, longest_known, whole_known}
use Rattle.rc_reach.proofs.LawLemmas.{all_stay, matches_stay}

-- a list that ends before r is whole below r
whole_below : (xs ys : List ℕ) (r m n : ℕ) → n ≤ length ys → n < r → take r (take m xs) ≡ take r (take n ys) → m ≤ length xs →
    take m xs ≡ take n ys
whole_below xs ys r m n in1 past e in2 =
    let a = ap length e in
    let b = length-take r (take m xs) in
    let c = length-take m xs in
    let d = length-take r (take n ys) in
    let f = length-take n ys in
    sym (take_all r (take m xs) (omega (arith, a, b, c, d, f, in1, in2, past))) ∙ e ∙ take_all r (take n ys) (omega (arith, f, past))

module _ (s t : Search) (in1 : IsInside s) (in2 : IsInside t) (agrees : AgreesBelow (s.text.slice_end + 1) s t) where
  abbrev over : ℕ
  over = s.text.slice_end + 1

  same_hi : t.hi ≡ s.hi
  same_hi = let m = same_bound s t over in1 in2 agrees in let a = in1.hi in omega (arith, m, a)

  same_read : take t.hi t.text.content ≡ take s.hi s.text.content
  same_read =
      let a = in1.hi in
      let b = in1.slice_end in
      let c = in2.hi in
      let d = in2.slice_end in
      whole_below t.text.content s.text.content over t.hi s.hi (omega (arith, a, b)) (omega (arith, a)) agrees.read (omega (arith, c, d))

  same_seen : take t.text.slice_end t.text.content ≡ take s.text.slice_end s.text.content
  same_seen = whole_below t.text.content s.text.content over t.text.slice_end s.text.slice_end in1.slice_end (omega arith) agrees.seen in2.slice_end

  alike_wholly : (r : ℕ) → AreAlike 0 0 r s t
  alike_wholly r = record {
    places = agrees.places;
    terminator = agrees.terminator;
    anchoring = agrees.anchoring;
    passes_over = agrees.passes_over;
    lo = let e = agrees.lo in omega (arith, e);
    above = omega arith;
    bound = λ p a b. let m = same_hi in ((λ h. omega (arith, m, h)), (λ h. omega (arith, m, h)));
    before = λ p a b c. ap (before_at t.text) (omega arith) ∙ before_same s t over in1 in2 agrees p (let h = in1.hi in omega (arith, c, h));
    read = λ p a b c.
        ap (take (r - p))
        (ap (λ k. slice_range t.text.content k t.hi) (omega arith)
        ∙ range_is_rest t.text.content p t.hi ∙ ap (drop p) same_read ∙ sym (range_is_rest s.text.content p s.hi));
    seen = λ p a b c.
        ap (take (r - p))
        (ap (beyond t.text) (omega arith)
        ∙ range_is_rest t.text.content p t.text.slice_end ∙ ap (drop p) same_seen ∙ sym (range_is_rest s.text.content p s.text.slice_end));
    content = λ p a b c. let h = in1.hi in
        ap (slice_get t.text.content) (omega arith)
        ∙ sym (get_below t.text.content over p (omega (arith, c, h))) ∙ ap (λ xs. slice_get xs p) agrees.content
        ∙ get_below s.text.content over p (omega (arith, c, h));
  }

  abbrev far : ℕ
  far = s.hi + 5

  same_preferred : chosen t ≡ chosen s
  same_preferred = same_chosen s t 0 0 far (alike_wholly far) (omega arith) (all_known s far (omega arith)) ∙ all_stay (chosen s)

  same_furthest : longest_chosen t ≡ longest_chosen s
  same_furthest =
      same_longest_chosen s t 0 0 far (alike_wholly far) (omega arith) (longest_known s far (omega arith)) ∙ all_stay (longest_chosen s)

  same_all : greatest t ≡ greatest s
  same_all = same_greatest s t 0 0 far (alike_wholly far) (omega arith) (whole_known s far (omega arith)) ∙ matches_stay (greatest s)

pub slice_law : SliceLaw
slice_law leftmost_first s in1 = λ t in2 agrees. same_preferred s t in1 in2 agrees
slice_law leftmost_longest s in1 = λ t in2 agrees. same_furthest s t in1 in2 agrees
slice_law all_matches s in1 = λ t in2 agrees. same_all s t in1 in2 agrees
