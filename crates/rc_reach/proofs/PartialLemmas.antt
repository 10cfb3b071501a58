-- What is known where only a beginning of a content is at hand.
use Rattle.std.proofs.Common.{◌≡◌, ℕ, ◌+◌, ◌<◌, ◌≤◌, false, IsTrue, List, [], ◌∷◌, length, drop, max, Option, Some, None, ⊎_elim, sym, subst, ap, ◌∙◌, refl, arith, true≢false}
use Rattle.std.specs.Option.{option_map}
use Rattle.std.proofs.lemmas.Bool.{cases_lt}
use Rattle.std.proofs.lemmas.List.{drop-drop}
use Rattle.rc_text.specs.Found.{Found}
use Rattle.rc_text.specs.declared.types.MatchKind.TheVariants.{LeftmostFirst as leftmost_first}
use Rattle.rc_walks.proofs.CutLemmas.{first_is_one}
use Rattle.rc_program.specs.Answer.{Search, Chosen, IsPassed, IsAnswer, IsFirstFrom, is_allowed, is_anchored, answer, ends, next_of}
use Rattle.rc_program.specs.Matches.{from_on}
use Rattle.rc_program.proofs.AnswerLemmas.{answer_law}
use Rattle.rc_reach.specs.Settled.{IsInside}
use Rattle.rc_reach.specs.Edits.{match_further}
use Rattle.rc_reach.specs.Live.{found_in}
use Rattle.rc_reach.specs.Partial.{IsPartial, from_place, ArePassedBefore, PartialLaw}
use Rattle.rc_reach.proofs.AgreeLemmas.{alike}
use Rattle.rc_reach.proofs.AlikeLemmas.{passed_further, start_back}
use Rattle.rc_reach.proofs.LawLemmas.{reach_law}
use Rattle.rc_reach.proofs.LiveLemmas.{further_on}

-- a start doesn't both give an answer and not
not_both : (s : Search) (c : Chosen) → IsAnswer s c → IsPassed s c.start → ⊥
not_both s c a p =
    ⊎_elim (λ none. none c.walk a.is_first.is_walk)
    (λ (q : (w : List _) × IsFirstFrom s c.start w × (is_allowed s w ≡ false)).
    true≢false (sym a.allowed ∙ ap (is_allowed s) (first_is_one (next_of s) (λ n. IsTrue (ends s n)) [] ((0, c.start) ∷ []) c.walk q.0 a.is_first q.1) ∙ q.2)) p

none_begins : (s : Search) (k : ℕ) → IsInside s → k ≤ length s.text.content → ArePassedBefore s k → IsPartial leftmost_first s (from_place k)
none_begins s k inside near passed t goes m e =
    let n = length s.text.content in
    let same = alike s t n inside goes.0 goes.1 in
    let r = (answer_law.answer_some t m).0 e in
    let c = r.0 in
    let at : c.start ≡ m.start = ap (λ (f : Found). f.start) r.2 in
    ⊎_elim
    (λ less. let low : c.start < k = omega (arith, at, less) in
    let b = start_back s t 0 0 n same c.start r.1.is_start (omega (arith, low, near)) in
    let is : b.0 ≡ c.start = let z = b.1 in omega (arith, z) in
    let p = passed b.0 b.2 (omega (arith, is, low)) in
    absurd (not_both t c r.1 (subst (IsPassed t) b.1 (passed_further s t 0 0 n same b.0 p.1.0 (omega arith) b.2.1 p.1.1 p.0))))
    (λ ge. ge) (cases_lt m.start k)

-- the answer from a place before which none begins
answer_from_place : (t : Search) (k : ℕ) → is_anchored t.anchoring ≡ false → t.text.slice_start ≤ t.lo → t.lo ≤ k → ((m : Found) → answer t ≡ Some m → k ≤ m.start) → (o : Option Found) → answer t ≡ o →
    answer (from_on t k) ≡ o
answer_from_place t k free start low begins None e =
    let none = (answer_law.answer_none t).0 e in
    (answer_law.answer_none (from_on t k)).1 (λ y z. none y (omega (arith, low, z.0), z.1, λ h. absurd (true≢false (sym h ∙ free))))
answer_from_place t k free start low begins (Some m) e =
    let r = (answer_law.answer_some t m).0 e in
    let c = r.0 in
    let at : c.start ≡ m.start = ap (λ (f : Found). f.start) r.2 in
    let far = begins m e in
    (answer_law.answer_some (from_on t k) m).1 (
      c,
      record {
        is_start = (in_slice c r.1 (omega (arith, at, far)), r.1.is_start.1, λ h. absurd (true≢false (sym h ∙ free)));
        is_first = r.1.is_first;
        allowed = r.1.allowed;
        none_before = λ y z l. r.1.none_before y (omega (arith, low, z.0), z.1, λ h. absurd (true≢false (sym h ∙ free))) l;
      },
      r.2,
    )
  where
    in_slice : (c : Chosen) → IsAnswer t c → k ≤ c.start → max k t.text.slice_start ≤ c.start
    in_slice c a h = let z = a.is_start.0 in omega (arith, h, z, start)

forgotten : (s : Search) (content : List ℕ) (gone k : ℕ) → gone ≤ length content → 4 ≤ k →
    found_in s content (k + gone) ≡ option_map (match_further gone) (found_in s (drop gone content) k)
forgotten s content gone k h far =
    further_on s (drop gone content) content 0 gone gone (drop-drop 0 gone content ∙ ap (λ n. drop n content) (omega arith)) (omega arith) (omega arith) h k
    (omega (arith, far))

pub partial_law : PartialLaw
partial_law = record {
  found = λ s m inside e known t goes. reach_law.match leftmost_first s (length s.text.content) (reach_law.preferred s (length s.text.content) inside known) t goes.0 goes.1 ∙ e;
  passed = none_begins;
  goes_on = λ s t k free low none goes.
      answer_from_place t k (ap is_anchored goes.1.anchoring ∙ free) goes.0.lo (let e = goes.1.lo in omega (arith, e, low)) (none t goes) (answer t) refl;
  forgets = forgotten;
}
