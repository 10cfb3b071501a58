-- In the program of some patterns, the way in front of each pattern leads to that pattern alone.
use Rattle.std.proofs.Common.{◌≡◌, ◌∙◌, ℕ, ◌+◌, ◌*◌, List, [], ◌∷◌, IsTrue, length, ap, arith, subst, sym, ⊎_elim}
use Rattle.std.proofs.Math.Logic.{∥∥₁_elim}
use denote.Struct.Props.{props}
use Rattle.rc_pattern.specs.Re.{Re}
use Rattle.rc_pattern.specs.WellFormed.{group_count}
use Rattle.rc_walks.specs.Walks.{Pair}
use Rattle.rc_program.specs.Answer.{last_of}
use Rattle.rc_program.specs.Program.{Place, choice, choice_of_patterns, pattern_part, place_at, program}
use Rattle.rc_program.proofs.EntryLemmas.{pattern_sealed, walk_inside}
use Rattle.rc_program.proofs.PartLemmas.{Stand, Stand-first, Stand-second}
use Rattle.rc_program.proofs.PlaceLemmas.{AnyNumber, IsBetween, LiesInPart, pattern_sized}
use Rattle.rc_program.proofs.WholeLemmas.{stand_all}
use Rattle.rc_pikevm.specs.Fronts.{HasOwnWays, IsFront, LeadsOnlyTo, front_first, front_next}
use Rattle.rc_strategy.specs.Slots.{IsOfPatterns}

-- The choice of the patterns from number p on stands at q.
record IsRest (hs : List Re) (p q : ℕ) : Type 0 where
  slots : ℕ
  rest : List Re
  stands : Stand (program hs) q ((choice_of_patterns p slots rest).places 0 q 0)

-- the ways of a choice of two
abbrev first_way : Place → ℕ
first_way (choice (a ∷ ns)) = a
first_way place = 0

abbrev second_way : Place → ℕ
second_way (choice (a ∷ b ∷ ns)) = b
second_way place = 0

abbrev IsFork : Place → Type 0
IsFork (choice (a ∷ b ∷ ns)) = Unit {0}
IsFork place = ⊥

module _ (hs : List Re) where
  -- its second way leads to the choice of those behind the first of them
  rest_behind : (p q a b slots : ℕ) (rest : List Re) → Stand (program hs) q ((choice_of_patterns p slots rest).places 0 q 0) →
      place_at (program hs) q ≡ choice (a ∷ b ∷ []) → IsRest hs (p + 1) b
  rest_behind p q a b slots [] st is = absurd (subst IsFork (sym is ∙ st.0) tt)
  rest_behind p q a b slots (h ∷ rest) st is =
      let next : ℕ = q + 1 + (pattern_part p slots h).size in
      let same : next ≡ b = ap second_way (sym st.0 ∙ is) in
      subst (IsRest hs (p + 1)) same (record {
        slots = slots + 2 * group_count h;
        rest = rest;
        stands = Stand-second (program hs) (pattern_part p slots h) (choice_of_patterns (p + 1) (slots + 2 * group_count h) rest) 0 q 0
            (pattern_sized p slots h 0 (q + 1) 0) st;
      })

  -- the place in front of a pattern is the choice of it and of those behind it
  rest_at : {p q : ℕ} → IsFront (program hs) p q → IsRest hs p q
  rest_at front_first = record { slots = 2 * length hs; rest = hs; stands = stand_all [] (program hs) }
  rest_at (front_next {p = p} {q = q} {a = a} {b = b} front is) =
      let r = rest_at front in rest_behind p q a b r.slots r.rest r.stands is

  -- its first way leads to the first of them
  leads_own : (p q a b slots : ℕ) (rest : List Re) → Stand (program hs) q ((choice_of_patterns p slots rest).places 0 q 0) →
      place_at (program hs) q ≡ choice (a ∷ b ∷ []) → LeadsOnlyTo (program hs) a p
  leads_own p q a b slots [] st is = absurd (subst IsFork (sym is ∙ st.0) tt)
  leads_own p q a b slots (h ∷ rest) st is = subst (λ n. LeadsOnlyTo (program hs) n p) (ap first_way (sym st.0 ∙ is)) from_entry
    where
      next : ℕ
      next = q + 1 + (pattern_part p slots h).size

      from_entry : LeadsOnlyTo (program hs) (q + 1) p
      from_entry t hi x r ends passed w walk ended =
          let behind = choice_of_patterns (p + 1) (slots + 2 * group_count h) rest in
          let sealed = pattern_sealed hs t hi r p 0 (q + 1) 0 slots h (Stand-first (program hs) (pattern_part p slots h) behind 0 q 0 st) in
          let inside = walk_inside (program hs) t hi (λ k. k ≡ p) (q + 1) next sealed (λ n. IsTrue (ends n)) walk
          (λ n i. ⊎_elim (λ e. subst (λ (k : Pair). IsBetween (q + 1) next k.0) e (omega arith, omega arith)) (λ never. absurd never) i) in
          subst (LiesInPart AnyNumber (λ k. k ≡ p) (q + 1) next) ended (sealed (last_of w).0 inside.1.0 inside.1.1)

  pub program_own : HasOwnWays (program hs)
  program_own p q a b front is = let r = rest_at front in leads_own p q a b r.slots r.rest r.stands is

pub own_ways : (places : List Place) → IsOfPatterns places → HasOwnWays places
own_ways places of = ∥∥₁_elim of (hlevel props) (λ r. subst HasOwnWays (sym r.1) (program_own r.0))
