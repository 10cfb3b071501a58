-- What a step over places means for the walks under way.
use Rattle.std.proofs.Common.{◌≡◌, ◌≢◌, ℕ, suc, ◌+◌, ◌⊎◌, List, [], ◌∷◌, ◌++◌, map, Option, Some, None, Bool, IsTrue, ⊎_elim, sym, subst, ap, ◌∙◌, refl, append_assoc}
use Rattle.std.specs.Option.{option_or, option_map}
use Rattle.std.proofs.lemmas.List.{map-append, append-nil}
use Rattle.rc_walks.specs.Walks.{Pair, IsIn}
use Rattle.rc_walks.proofs.WalkLemmas.{first_after}
use Rattle.rc_determinize.specs.Gives.{Gives, Carries, starts}
use Rattle.rc_determinize.proofs.Passes.{AreFrom, Passes}
use Rattle.rc_program.specs.Program.{Way, stays, pair_at}
use Rattle.rc_determinize.specs.Steps.{HasPlace, at, still, Adds, all_added, adds_one, leaves_out, IsStep}
use Rattle.rc_determinize.proofs.PartsLemmas.{first_parts, first_ahead, first_behind, no_walk_left, no_walk_right, no_walk_both, dead_each}
use Rattle.rc_determinize.proofs.PassLemmas.{step_gives, either_or, no_ways}
use Rattle.rc_determinize.proofs.StepLemmas.{lift, lift_still, with_later, without_later, in_at}
use Rattle.rc_determinize.proofs.RunLemmas.{rises}

pub stay_at : (i : ℕ) (list : List ℕ) → map (pair_at i) (map stays list) ≡ at i list
stay_at i [] = refl
stay_at i (q ∷ qs) = ap (λ x. (q, i) ∷ x) (stay_at i qs)

pub still_stay : (list : List ℕ) → still (map stays list) ≡ map stays list
still_stay [] = refl
still_stay (q ∷ qs) = ap (λ x. stays q ∷ x) (still_stay qs)

module _ (ways : Pair → List Pair) (Ends : Pair → Type 0) (decide : (n m : Pair) → (n ≡ m) ⊎ (n ≢ m))
    (last : (n m : Pair) → Ends n → ¬ IsIn m (ways n)) (near : (n m : Pair) → IsIn m (ways n) → (m.1 ≡ n.1) ⊎ (m.1 ≡ n.1 + 1)) where
  again : (j q : ℕ) (list : List ℕ) (more : List Pair) (r : Option Pair) → HasPlace q list →
      Gives ways Ends [] (at j list ++ more) r → Gives ways Ends [] (at j list ++ ((q, j) ∷ more)) r
  again j q list more (Some e) old g =
      ⊎_elim (λ f. (g.0, first_ahead ways Ends decide ((q, j) ∷ more) f, g.2))
      (λ p. (g.0, first_behind ways Ends (at j list) p.0 (first_after ways Ends (q, j) (dead_each ways Ends p.0 (q, j) (in_at j q list old)) p.1), g.2))
      (first_parts ways Ends decide (at j list) g.1)
  again j q list more None old g =
      let none = no_walk_left ways Ends (at j list) more g in
      no_walk_both ways Ends {xs = at j list} none
      (no_walk_both ways Ends {xs = (q, j) ∷ []} (dead_each ways Ends none (q, j) (in_at j q list old)) (no_walk_right ways Ends (at j list) more g))

  -- each place once is enough, with other pairs behind
  pub once_gives : (j : ℕ) (later : List Pair) {list qs new : List ℕ} → Adds list qs new → (r : Option Pair) →
      Gives ways Ends [] (at j new ++ later) r → Gives ways Ends [] (at j list ++ (at j qs ++ later)) r
  once_gives j later all_added r g = g
  once_gives j later (adds_one {list} {qs} {new} q fresh s) r g =
      subst (λ x. Gives ways Ends [] x r) (append_assoc (at j list) ((q, j) ∷ []) (at j qs ++ later))
      (subst (λ x. Gives ways Ends [] (x ++ (at j qs ++ later)) r) (map-append (λ k. (k, j)) list (q ∷ [])) (once_gives j later s r g))
  once_gives j later (leaves_out {list} {qs} {new} q old s) r g = again j q list (at j qs ++ later) r old (once_gives j later s r g)

  pub or_none : (r : Option Pair) → option_or r None ≡ r
  or_none None = refl
  or_none (Some e) = refl

  module _ (i : ℕ) (out : ℕ → List Way) (ends : ℕ → Bool) (same_ends : (q : ℕ) → Ends (q, i) ≡ IsTrue (ends q))
      (list next : List ℕ) (origin : List Pair) (seen : Option Pair) where
    abbrev Under : List Pair → Option Pair → Type 0
    Under = Carries ways Ends origin

    here : {onward visited2 : List Pair} {matched : Option Pair} → Passes ways Ends i [] (map (pair_at i) (map stays list)) onward matched visited2 →
        Passes ways Ends i [] (at i list) onward matched visited2
    here {onward} {visited2} {matched} p = subst (λ x. Passes ways Ends i [] x onward matched visited2) (stay_at i list) p

    -- no match here
    pub goes_by : ((q : ℕ) → ways (q, i) ≡ map (pair_at i) (out q)) → IsStep out ends list next None →
        (later : List Pair) → AreFrom (suc i) later → Under (at i list ++ later) seen → Under (at (i + 1) next ++ later) seen
    goes_by same s later far c r g =
        c r (subst (λ x. Gives ways Ends [] (at i list ++ later) x) (or_none r)
        (step_gives ways Ends decide last (rises ways Ends decide last near)
        (with_later ways Ends i later far (here (lift ways Ends i out ends same_ends same s.steps))) r
        (once_gives (i + 1) later s.once r g)))

    -- the next start comes behind the others
    pub start_joins : (root c : ℕ) (next2 : List ℕ) → Adds next (root ∷ []) next2 →
        Under (at (i + 1) next ++ starts root (i + 1) (suc c)) seen → Under (at (i + 1) next2 ++ starts root (i + 1 + 1) c) seen
    start_joins root c next2 added u r g = u r (once_gives (i + 1) (starts root (i + 1 + 1) c) added r g)

    -- a match here drops the later starts
    pub stops_by : (e : ℕ) → ((q : ℕ) → ways (q, i) ≡ map (pair_at i) (out q)) → IsStep out ends list next (Some e) →
        (later : List Pair) → Under (at i list ++ later) seen → Under (at (i + 1) next ++ []) (Some (e, i))
    stops_by e same s later c r g =
        subst (λ x. Gives ways Ends [] origin x) (either_or ways Ends decide last (rises ways Ends decide last near) r (Some (e, i)) seen)
        (c (option_or r (Some (e, i)))
        (step_gives ways Ends decide last (rises ways Ends decide last near)
        (without_later ways Ends i later (here (lift ways Ends i out ends same_ends same s.steps))) r
        (drop_nil r (once_gives (i + 1) [] s.once r g))))
      where
        drop_nil : (r : Option Pair) → Gives ways Ends [] (at (i + 1) s.onward ++ []) r → Gives ways Ends [] (at (i + 1) s.onward) r
        drop_nil r g = subst (λ x. Gives ways Ends [] x r) (append-nil (at (i + 1) s.onward)) g

    -- at the bound: the match that the step meets, or else the last that was seen
    pub ends_by : (matched : Option ℕ) → ((q : ℕ) → ways (q, i) ≡ map (pair_at i) (still (out q))) → IsStep out ends list next matched →
        Under (at i list ++ []) seen → Gives ways Ends [] origin (option_or (option_map (λ q. (q, i)) matched) seen)
    ends_by matched same s c =
        let p = lift_still ways Ends i out ends same_ends same s.steps in
        let met : Option Pair = option_map (λ q. (q, i)) matched in
        let p2 : Passes ways Ends i [] (at i list) [] met (at i s.visited) =
        subst (λ x. Passes ways Ends i [] x [] met (at i s.visited)) (ap (λ ws. map (pair_at i) ws) (still_stay list) ∙ stay_at i list) p in
        c met (subst (λ x. Gives ways Ends [] x met) (sym (append-nil (at i list)))
        (step_gives ways Ends decide last (rises ways Ends decide last near) p2 None (λ v b. no_ways ways Ends b)))
