-- Past the upper bound all is known.
use Rattle.std.proofs.Common.{◌≡◌, ℕ, ◌+◌, ◌≤◌, List, [], ◌∷◌, false, IsTrue, Option, Some, None, inl, ⊎_elim, subst, ap, refl, arith}
use Rattle.std.proofs.lemmas.Bool.{cases_lt}
use Rattle.rc_pattern.specs.declared.hir.Look.{Look}
use Rattle.rc_pattern.specs.declared.hir.Look.TheVariants.{Start, End, StartLF, EndLF, StartCRLF, EndCRLF, WordAscii, WordAsciiNegate, WordUnicode, WordUnicodeNegate, WordStartAscii, WordEndAscii, WordStartUnicode, WordEndUnicode, WordStartHalfAscii, WordEndHalfAscii, WordStartHalfUnicode, WordEndHalfUnicode}
use Rattle.rc_walks.specs.Walks.{Pair, IsIn, EndsAt}
use Rattle.rc_trails.specs.Trails.{IsTrail}
use Rattle.rc_program.specs.Program.{Place, choice, byte, branch, scalar, guard, slot, accept, place_at}
use Rattle.rc_program.specs.Answer.{Search, Chosen, ends, next_of, IsFirstFrom, IsPassed, chosen, is_allowed}
use Rattle.rc_program.proofs.AnswerLemmas.{answer_law, walk_within}
use Rattle.rc_program.specs.Longest.{longest_chosen}
use Rattle.rc_reach.specs.Reads.{IsKnownBelow, IsKnownStart, ReadsBelow, IsKnownWholly, ReadsAllBelow, ReadsWholeBelow, looks_ahead, sight}
use Rattle.rc_reach.proofs.AlikeLemmas.{end_is_in}

few_looked : (l : Look) → looks_ahead l ≤ 4
few_looked Start = omega arith
few_looked End = omega arith
few_looked StartLF = omega arith
few_looked EndLF = omega arith
few_looked StartCRLF = omega arith
few_looked EndCRLF = omega arith
few_looked WordAscii = omega arith
few_looked WordAsciiNegate = omega arith
few_looked WordUnicode = omega arith
few_looked WordUnicodeNegate = omega arith
few_looked WordStartAscii = omega arith
few_looked WordEndAscii = omega arith
few_looked WordStartUnicode = omega arith
few_looked WordEndUnicode = omega arith
few_looked WordStartHalfAscii = omega arith
few_looked WordEndHalfAscii = omega arith
few_looked WordStartHalfUnicode = omega arith
few_looked WordEndHalfUnicode = omega arith

pub few_seen : (q : Place) → sight q ≤ 4
few_seen (choice ns) = omega arith
few_seen (byte rs n) = omega arith
few_seen (branch ts) = omega arith
few_seen (scalar rs n) = omega arith
few_seen (guard l n) = few_looked l
few_seen (slot k n) = omega arith
few_seen (accept p) = omega arith

module _ (s : Search) (r : ℕ) (past : s.hi + 5 ≤ r) where
  begins : (x : ℕ) → x ≤ s.hi → (n : Pair) → IsIn n ((0, x) ∷ []) → (x ≤ n.1) × (n.1 ≤ s.hi)
  begins x h n i = ⊎_elim (λ e. let q : x ≡ n.1 = ap (λ (m : Pair). m.1) e in (omega (arith, q), omega (arith, q, h))) (λ never. absurd never) i

  trail_known : (x : ℕ) → x ≤ s.hi → (v : List Pair) (e : Pair) → IsTrail (next_of s) [] ((0, x) ∷ []) v → EndsAt v e → IsKnownBelow s r e
  trail_known x h v e b at =
      let all = walk_within s.places s.text s.hi (λ n. Unit {0}) x b (begins x h) in
      let here = all.0 e (end_is_in v e at) in
      let last = all.2 in
      let few = few_seen (place_at s.places e.0) in omega (arith, here.1, last, few, past)

  first_known : (x : ℕ) (w : List Pair) → x ≤ s.hi → IsFirstFrom s x w → IsKnownStart s r x (Some w)
  first_known x w h first =
      let all = walk_within s.places s.text s.hi (λ n. IsTrue (ends s n)) x first.is_walk (begins x h) in
      let last = all.2 in
      (first, (λ v e b no at. trail_known x h v e b at), (λ over. omega (arith, last, past)))

  passed_known : (x : ℕ) → x ≤ s.hi → IsPassed s x → (o : Option (List Pair)) × IsKnownStart s r x o
  passed_known x h p =
      ⊎_elim (λ none. (None, (none, (λ v e b at. trail_known x h v e b at))))
      (λ (q : (w : List Pair) × IsFirstFrom s x w × (is_allowed s w ≡ false)). (Some q.0, first_known x q.0 h q.1)) p

  known_of : (o : Option Chosen) → chosen s ≡ o → ReadsBelow s r o
  known_of None e =
      let none = (answer_law.chosen_none s).0 e in
      ((λ y h l. passed_known y h.1 (none y h)), inl (omega (arith, past)))
  known_of (Some c) e =
      let a = (answer_law.chosen_some s c).0 e in
      λ y h l. ⊎_elim (λ before. passed_known y h.1 (a.none_before y h before))
      (λ here. let same : c.start ≡ y = omega (arith, l, here) in
      subst (λ x. (o : Option (List Pair)) × IsKnownStart s r x o) same (Some c.walk, first_known c.start c.walk a.is_start.1 a.is_first))
      (cases_lt y c.start)

  pub all_known : ReadsBelow s r (chosen s)
  all_known = known_of (chosen s) refl

  wholly_known : (x : ℕ) → x ≤ s.hi → IsKnownWholly s r x
  wholly_known x h = (
    (λ v e b at. trail_known x h v e b at),
    (λ w first over. let all = walk_within s.places s.text s.hi (λ n. IsTrue (ends s n)) x first.is_walk (begins x h) in
        let last = all.2 in omega (arith, last, past)),
  )

  longest_of : (o : Option Chosen) → ReadsAllBelow s r o
  longest_of None = ((λ y h l. wholly_known y h.1), inl (omega (arith, past)))
  longest_of (Some c) = λ y h l. wholly_known y h.1

  pub longest_known : ReadsAllBelow s r (longest_chosen s)
  longest_known = longest_of (longest_chosen s)

  pub whole_known : ReadsWholeBelow s r
  whole_known = record { starts = λ y h. (wholly_known y h.1).0; bound = inl (omega (arith, past)) }
