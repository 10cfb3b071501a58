-- A thread at a choice of two ways may enter at the one in its place, where the other one is shut.
use Rattle.std.proofs.Common.{◌≡◌, ℕ, ◌<◌, List, [], ◌∷◌, length, map, inl, inr, ⊎_elim, sym, subst, ap, ◌∙◌, refl, arith, false, true≢false, IsTrue, Option, Some, None}
use Rattle.rc_walks.specs.Walks.{Pair, IsIn, IsWalk, HasNoWalk}
use Rattle.rc_walks.proofs.StackLemmas.{no_ways, dead_if_tried}
use Rattle.rc_program.specs.Columns.{column_at}
use Rattle.rc_program.specs.Program.{Place, choice, place_at, ways_out, pair_at, is_match_place}
use Rattle.std.specs.Prelude.{All}
use Rattle.rc_program.specs.Laws.{IsClosed, targets}
use Rattle.rc_program.specs.Text.{holds, ahead}
use Rattle.rc_program.specs.Answer.{only}
use Rattle.rc_pikevm.specs.Sights.{Sight, IsUpTo, ends, ends_to, next_of, next_to}
use Rattle.rc_pikevm.specs.Sparse.{Has}
use Rattle.rc_pikevm.specs.Threads.{Thread}
use Rattle.rc_pikevm.specs.Trace.{Trace, note_at}
use Rattle.rc_pikevm.specs.Passing.{CarriesTo}
use Rattle.rc_pikevm.specs.Moves.{IsMove}
use Rattle.rc_pikevm.specs.Entrances.{AreWays, IsOnWay, IsShut, IsWayIn, stays_in, goes_in}
use Rattle.rc_pikevm.specs.declared.moves.Move.TheVariants.{DeadEnd}
use Rattle.rc_pikevm.proofs.OnwardLemmas.{IsOnlyWay, only_first, only_second, carries_by}
use Rattle.rc_pikevm.proofs.SightLemmas.{ends_at, next_at}

pub choice_on : (pattern : Option ℕ) (ns : List ℕ) → is_match_place pattern (choice ns) ≡ false
choice_on None ns = refl
choice_on (Some p) ns = refl

module _ (s : Sight) (at : ℕ) where
  -- where a thread stops, no walk leads on
  pub stops_shut : (b : ℕ) → IsMove s (b, at) DeadEnd → IsShut s (b, at)
  stops_shut b stops limit le passed v x =
      dead_if_tried (next_to limit s) (λ n. IsTrue (ends_to limit s n)) (λ e. true≢false (sym e ∙ ends_at limit s (b, at) le ∙ stops.1))
      (λ w r. no_ways (next_to limit s) (λ n. IsTrue (ends_to limit s n))
      (subst (λ ms. IsWalk (next_to limit s) (λ n. IsTrue (ends_to limit s n)) ((b, at) ∷ passed) ms w) (next_at limit s (b, at) le ∙ stops.0) r)) x

  pub no_end : (p : ℕ) (ns : List ℕ) → place_at s.places p ≡ choice ns → ¬ IsTrue (ends s (p, at))
  no_end p ns is e =
      let f : ends s (p, at) ≡ false =
      (ap (is_match_place (only s.anchoring)) is ∙ choice_on (only s.anchoring) ns) in
      true≢false (sym e ∙ f)

  pub ways_by : (p : ℕ) (q : Place) → place_at s.places p ≡ q →
      next_of s (p, at) ≡ map (pair_at at) (ways_out (λ l. holds s.text l at) (ahead s.text s.hi at) q)
  ways_by p q is = ap (λ r. map (pair_at at) (ways_out (λ l. holds s.text l at) (ahead s.text s.hi at) r)) is

  -- it is a choice
  pub forks : (p a b : ℕ) → AreWays s p a b → (ns : List ℕ) × (place_at s.places p ≡ choice ns)
  forks p a b is = ⊎_elim (λ e. (a ∷ b ∷ [], e)) (λ e. (b ∷ a ∷ [], e)) is

  -- the one way leads out of it
  pub leads_out : (p a b : ℕ) → AreWays s p a b → IsIn (a, at) (next_of s (p, at))
  leads_out p a b is =
      ⊎_elim (λ e. subst (IsIn (a, at)) (sym (ways_by p (choice (a ∷ b ∷ [])) e)) (inl refl))
      (λ e. subst (IsIn (a, at)) (sym (ways_by p (choice (b ∷ a ∷ [])) e)) (inr (inl refl))) is

  -- where no walk leads on from the other way, the one is the only one
  pub only_other : (limit : Option ℕ) → IsUpTo at limit → (Ends : Pair → Type 0) (p a b : ℕ) → AreWays s p a b →
      HasNoWalk (next_to limit s) Ends ((p, at) ∷ []) ((b, at) ∷ []) → IsOnlyWay (next_to limit s) Ends (p, at) (a, at)
  only_other limit le Ends p a b is dead =
      let same = next_at limit s (p, at) le in
      ⊎_elim (λ e. only_first (next_to limit s) Ends (p, at) (a, at) (b, at) dead (same ∙ ways_by p (choice (a ∷ b ∷ [])) e))
      (λ e. only_second (next_to limit s) Ends (p, at) (a, at) (b, at) dead (same ∙ ways_by p (choice (b ∷ a ∷ [])) e)) is

  module _ (limit : Option ℕ) (le : IsUpTo at limit) where
    -- what a thread gives at the way on, it gives at the place
    pub carries_on : (rest : List Thread) (items : List ℕ) (best o : Option Trace) (p a : ℕ) (h : Trace) (ts : List (Trace × Pair)) →
        ¬ Has items p → IsOnWay s at p a → CarriesTo limit s at rest items ((h, (a, at)) ∷ ts) best o →
        CarriesTo limit s at rest items ((h, (p, at)) ∷ ts) best o
    carries_on rest items best o p a h ts fresh way x =
        ⊎_elim (λ e. subst (λ m. CarriesTo limit s at rest items ((h, (m, at)) ∷ ts) best o) e x)
        (λ r.
        let b : ℕ = r.0 in
        let c = forks p a b r.1 in
        carries_by limit s at rest items best o p a h ts fresh (λ e. no_end p c.0 c.1 (sym (ends_at limit s (p, at) le) ∙ e))
        (only_other limit le (λ n. IsTrue (ends_to limit s n)) p a b r.1 (r.2 limit le ((p, at) ∷ []))) (ap (λ q. note_at (column_at s.places p) q h at) c.1) x)
        way

    -- so it does where it enters in place of another
    pub carries_in : (rest : List Thread) (items : List ℕ) (best o : Option Trace) (h : Trace) (ts : List (Trace × Pair)) {p a : ℕ} →
        IsWayIn s at items p a → CarriesTo limit s at rest items ((h, (a, at)) ∷ ts) best o → CarriesTo limit s at rest items ((h, (p, at)) ∷ ts) best o
    carries_in rest items best o h ts stays_in x = x
    carries_in rest items best o h ts {p} {a} (goes_in {q = q} way fresh step) x =
        carries_in rest items best o h ts way (carries_on rest items best o q a h ts fresh step x)

-- the places to which the ways lead are places of the program
pub choice_inside : (places : List Place) (p a b : ℕ) → IsClosed places → p < length places → place_at places p ≡ choice (a ∷ b ∷ []) →
    (a < length places) × (b < length places)
choice_inside places p a b closed l is =
    let all = closed p (choice []) l in
    let both = subst (λ q. All (λ n. n < length places) (targets q)) is all in
    (both 0 0 (omega arith), both 1 0 (omega arith))
