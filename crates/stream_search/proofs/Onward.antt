-- A search may go on from a place before which no match begins.
use Rattle.std.proofs.Common.{◌≡◌, ℕ, ◌≤◌, false, IsTrue, Option, Some, None, sym, ap, ◌∙◌, refl, arith, true≢false}
use Rattle.rc_text.specs.Found.{Found}
use Rattle.rc_text.specs.declared.types.MatchKind.{MatchKind}
use Rattle.rc_text.specs.declared.types.MatchKind.TheVariants.{All as all_matches, LeftmostFirst as leftmost_first, LeftmostLongest as leftmost_longest}
use Rattle.rc_program.specs.Answer.{Search, IsStart, is_anchored}
use Rattle.rc_program.specs.Greatest.{IsSpelledIn, greatest}
use Rattle.rc_program.specs.Kinds.{answer_by}
use Rattle.rc_program.specs.Longest.{longest}
use Rattle.rc_program.specs.Matches.{from_on}
use Rattle.rc_program.proofs.GreatestLemmas.{greatest_law}
use Rattle.rc_program.proofs.ReachLemmas.{longest_law}
use Rattle.rc_reach.specs.Partial.{GoesOnFrom, IsPartial, from_place}
use Rattle.rc_reach.proofs.PartialLemmas.{partial_law}

module _ (t : Search) (k : ℕ) (free : is_anchored t.anchoring ≡ false) (start : t.text.slice_start ≤ t.lo) (low : t.lo ≤ k) where
  bound : {x : ℕ} → IsTrue (is_anchored t.anchoring) → x ≡ t.lo
  bound h = absurd (true≢false (sym h ∙ free))

  earlier : (y : ℕ) → IsStart (from_on t k) y → IsStart t y
  earlier y z = (omega (arith, low, z.0), z.1, λ h. bound h)

  later : (y : ℕ) → k ≤ y → IsStart t y → IsStart (from_on t k) y
  later y far z = (omega (arith, far, start, z.0), z.1, λ h. absurd (true≢false (sym h ∙ free)))

  longest_on : ((m : Found) → longest t ≡ Some m → k ≤ m.start) → (o : Option Found) → longest t ≡ o → longest (from_on t k) ≡ o
  longest_on begins None e =
      let none = (longest_law.answer_none t).0 e in (longest_law.answer_none (from_on t k)).1 (λ y z. none y (earlier y z))
  longest_on begins (Some m) e =
      let r = (longest_law.answer_some t m).0 e in
      let at : r.0.start ≡ m.start = ap (λ (f : Found). f.start) r.2 in
      let far = begins m e in
      (longest_law.answer_some (from_on t k) m).1 (
        r.0,
        record {
          is_start = later r.0.start (omega (arith, at, far)) r.1.is_start;
          counts = r.1.counts;
          allowed = r.1.allowed;
          none_before = λ y z l. r.1.none_before y (earlier y z) l;
        },
        r.2,
      )

  spelled_on : (m : Found) → IsSpelledIn (from_on t k) m → IsSpelledIn t m
  spelled_on m p = record {
    is_start = earlier m.start p.is_start;
    walk = p.walk;
    is_walk = p.is_walk;
    pattern = p.pattern;
    position = p.position;
  }

  greatest_on : ((m : Found) → greatest t ≡ Some m → k ≤ m.start) → (o : Option Found) → greatest t ≡ o → greatest (from_on t k) ≡ o
  greatest_on begins None e =
      let none = (greatest_law.none t).0 e in (greatest_law.none (from_on t k)).1 (λ m p. none m (spelled_on m p))
  greatest_on begins (Some m) e =
      let g = (greatest_law.some t m).0 e in
      let p = g.is_spelled in
      (greatest_law.some (from_on t k) m).1 (record {
        is_spelled = record {
          is_start = later m.start (begins m e) p.is_start;
          walk = p.walk;
          is_walk = p.is_walk;
          pattern = p.pattern;
          position = p.position;
        };
        is_most = λ n q. g.is_most n (spelled_on n q);
      })

pub onward : (kind : MatchKind) (s t : Search) (k : ℕ) → is_anchored s.anchoring ≡ false → s.lo ≤ k →
    IsPartial kind s (from_place k) → GoesOnFrom s t → answer_by kind (from_on t k) ≡ answer_by kind t
onward leftmost_first s t k free low none goes = partial_law.goes_on s t k free low none goes
onward leftmost_longest s t k free low none goes =
    longest_on t k (ap is_anchored goes.1.anchoring ∙ free) goes.0.lo (let e = goes.1.lo in omega (arith, e, low)) (none t goes) (longest t) refl
onward all_matches s t k free low none goes =
    greatest_on t k (ap is_anchored goes.1.anchoring ∙ free) goes.0.lo (let e = goes.1.lo in omega (arith, e, low)) (none t goes) (greatest t) refl
