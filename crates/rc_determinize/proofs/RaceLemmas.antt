-- A step of groups, start by start: what is carried to each end, and what is known of the ends behind.
use Rattle.std.proofs.Common.{◌≡◌, ◌≢◌, ℕ, ◌+◌, ◌≤◌, ◌⊎◌, List, [], ◌∷◌, ◌++◌, map, Option, Some, None, Bool, IsTrue, inl, inr, ⊎_elim, sym, subst, ap, ◌∙◌, refl, arith, append_assoc}
use Rattle.std.specs.Option.{option_or}
use Rattle.std.proofs.lemmas.List.{append-nil, map-append}
use Rattle.rc_walks.specs.Walks.{Pair, IsIn}
use Rattle.rc_program.specs.Program.{Way, stays, pair_at}
use Rattle.rc_determinize.specs.Gives.{Gives}
use Rattle.rc_determinize.specs.Run.{IsGoal}
use Rattle.rc_determinize.specs.Steps.{AreBelow, Adds, all_added, at}
use Rattle.rc_determinize.specs.Longest.{flat, Closes, out_of_ways, hands_on, skips, arrives, comes_back, GroupSteps, over, goes, stops, AddsGroups, all_added as none_added, adds}
use Rattle.rc_determinize.specs.LongestLaws.{Held, begun, held, AreHeldBelow, IsQuiet, CarriesTo, AreCarried}
use Rattle.rc_determinize.proofs.Passes.{Passes}
use Rattle.rc_determinize.proofs.PartsLemmas.{no_walk_both}
use Rattle.rc_determinize.proofs.PassLemmas.{step_gives}
use Rattle.rc_determinize.proofs.PositionLemmas.{stay_at, once_gives, or_none}
use Rattle.rc_determinize.proofs.RunLemmas.{rises}
use Rattle.rc_determinize.proofs.MachineLemmas.{has_parts, has_right}
use Rattle.rc_determinize.proofs.LimitLemmas.{read_by, under_kept}
use Rattle.rc_determinize.proofs.CloseLemmas.{one_after, carried_behind, none_here, past, met}
use Rattle.rc_determinize.proofs.GroupLemmas.{full}

pub at_append : (i : ℕ) (xs ys : List ℕ) → at i (xs ++ ys) ≡ at i xs ++ at i ys
at_append i xs ys = map-append (λ q. (q, i)) xs ys

-- what a group that is closed over hands on is of the program
module _ (out : ℕ → List Way) (ends : ℕ → Bool) (n : ℕ) (closed : (q : ℕ) → AreBelow n (read_by (out q))) where
  pub onward_below : {visited onward visited2 : List ℕ} {from : List Way} {matched : Option ℕ} → Closes out ends visited from onward matched visited2 →
      AreBelow n (read_by from) → AreBelow n onward
  onward_below out_of_ways b = λ k h. absurd h
  onward_below (hands_on q c) b = λ k h. ⊎_elim (λ e. b k (inl e)) (onward_below c (λ m z. b m (inr z)) k) h
  onward_below (skips q seen c) b = onward_below c b
  onward_below (arrives q fresh t c) b = onward_below c b
  onward_below (comes_back {onward = onward} {onward2 = onward2} q fresh on sub c) b =
      λ k h. ⊎_elim (onward_below sub (closed q) k) (onward_below c b k) (has_parts k onward onward2 h)

  nothing_read : (list : List ℕ) → AreBelow n (read_by (map stays list))
  nothing_read [] k h = absurd h
  nothing_read (q ∷ qs) k h = nothing_read qs k h

  pub group_below : (group : List ℕ) {visited onward visited2 : List ℕ} {matched : Option ℕ} → Closes out ends visited (map stays group) onward matched visited2 → AreBelow n onward
  group_below group c = onward_below c (nothing_read group)

  pub groups_below : {visited : List ℕ} {groups onward : List (List ℕ)} {matched : Option ℕ} → GroupSteps out ends visited groups onward matched → AreBelow n (flat onward)
  groups_below over k h = absurd h
  groups_below (goes {group = group} {onward = onward} {onwards = onwards} c rest) k h = ⊎_elim (group_below group c k) (groups_below rest k) (has_parts k onward (flat onwards) h)
  groups_below (stops {group = group} {onward = onward} c) k h = ⊎_elim (group_below group c k) (λ never. absurd never) (has_parts k onward [] h)

module _ (ways : Pair → List Pair) (Ends : Pair → Type 0) (decide : (n m : Pair) → (n ≡ m) ⊎ (n ≢ m))
    (last : (n m : Pair) → Ends n → ¬ IsIn m (ways n)) (near : (n m : Pair) → IsIn m (ways n) → (m.1 ≡ n.1) ⊎ (m.1 ≡ n.1 + 1)) where
  pub up : (n m : Pair) → IsIn m (ways n) → n.1 ≤ m.1
  up = rises ways Ends decide last near

  last_at : (e : ℕ) (n m : Pair) → IsGoal Ends e n → ¬ IsIn m (ways n)
  last_at e n m h = last n m h.0

  -- what the search at a position hands on carries, with the match that it meets
  step : {i e : ℕ} {from onward visited2 : List Pair} {matched : Option Pair} → Passes ways (IsGoal Ends e) i [] from onward matched visited2 →
      (r : Option Pair) → Gives ways (IsGoal Ends e) [] onward r → Gives ways (IsGoal Ends e) [] from (option_or r matched)
  step {e = e} p r g = step_gives ways (IsGoal Ends e) decide (last_at e) (rises ways (IsGoal Ends e) decide (last_at e) near) p r g

  -- without a match
  carry : {i e : ℕ} {from onward visited2 : List Pair} → Passes ways (IsGoal Ends e) i [] from onward None visited2 → CarriesTo ways Ends e from onward
  carry {e = e} {from = from} p r g = subst (λ x. Gives ways (IsGoal Ends e) [] from x) (or_none ways Ends decide last near r) (step p r g)

  module _ (i : ℕ) (out : ℕ → List Way) (ends : ℕ → Bool) (same_ends : (q : ℕ) → Ends (q, i) ≡ IsTrue (ends q))
      (same : (q : ℕ) → ways (q, i) ≡ map (pair_at i) (out q)) (n : ℕ) (closed : (q : ℕ) → AreBelow n (read_by (out q))) where
    -- what was met here
    abbrev pub MetHere : List Pair → List Held → List Pair → Option ℕ → Type 0
    MetHere origin hs dropped None = (dropped ≡ []) × IsQuiet ways Ends i (origin ++ begun hs)
    MetHere origin hs dropped (Some q) =
        (before : List Pair) × (m : Pair) × (begun hs ≡ before ++ m ∷ []) × IsQuiet ways Ends i (origin ++ before)
        × Gives ways (IsGoal Ends i) [] (origin ++ begun hs) (Some (q, i))

    pub record Stepped (origin : List Pair) (listed : List ℕ) (hs : List Held) (news : List (List ℕ)) (matched : Option ℕ) : Type 0 where
      pub starts : List Held
      pub dropped : List Pair
      pub all : begun hs ≡ begun starts ++ dropped
      pub same_groups : full (held starts) ≡ full news
      pub same_places : flat (held starts) ≡ flat news
      pub below : AreHeldBelow n starts
      pub carries : AreCarried ways Ends (i + 1) origin listed starts
      pub met_here : MetHere origin starts dropped matched

    -- the groups so far were closed over, and without a match
    pub record SoFar (origin : List Pair) (places onward visited listed : List ℕ) : Type 0 where
      pub base : (e : ℕ) → i ≤ e → CarriesTo ways Ends e origin (at i places)
      pub ran : (e : ℕ) → i ≤ e → Passes ways (IsGoal Ends e) i [] (at i places) (at (i + 1) onward) None (at i visited)
      pub once : (e : ℕ) → CarriesTo ways Ends e (at (i + 1) onward) (at (i + 1) listed)
      pub below : AreBelow n listed

    abbrev drop_nil : (xs : List Pair) → xs ++ [] ≡ xs
    drop_nil xs = append-nil xs

    module _ (origin : List Pair) (places onward visited listed : List ℕ) (s : SoFar origin places onward visited listed) where
      -- no walk ends here
      quiet_so_far : IsQuiet ways Ends i origin
      quiet_so_far =
          s.base i (omega arith) None (carry (s.ran i (omega arith)) None (none_here ways Ends up i (i + 1) onward (omega arith)))

      module _ (group onward2 own visited2 : List ℕ) (added : Adds listed onward2 (listed ++ own)) where
        -- the group, too
        ran_on : (e : ℕ) {matched : Option ℕ} → i ≤ e → (matched ≡ None) ⊎ (e ≢ i) → Closes out ends visited (map stays group) onward2 matched visited2 →
            Passes ways (IsGoal Ends e) i [] (at i (places ++ group)) (at (i + 1) (onward ++ onward2)) None (at i visited2)
        ran_on e le off c =
            subst (λ x. Passes ways (IsGoal Ends e) i [] (at i (places ++ group)) x None (at i visited2)) (sym (at_append (i + 1) onward onward2))
            (subst (λ x. Passes ways (IsGoal Ends e) i [] x (at (i + 1) onward ++ at (i + 1) onward2) None (at i visited2))
            (ap (λ x. at i places ++ x) (stay_at i group) ∙ sym (at_append i places group))
            (one_after ways (IsGoal Ends e) i (s.ran e le) (past ways Ends last i out ends same_ends same e off c)))

        once_on : (e : ℕ) → CarriesTo ways Ends e (at (i + 1) (onward ++ onward2)) (at (i + 1) (listed ++ own))
        once_on e r g =
            subst (λ x. Gives ways (IsGoal Ends e) [] x r) (sym (at_append (i + 1) onward onward2))
            (carried_behind ways (IsGoal Ends e) decide (at (i + 1) onward) (at (i + 1) listed) (at (i + 1) onward2) (s.once e) r
            (subst (λ x. Gives ways (IsGoal Ends e) [] (at (i + 1) listed ++ x) r) (append-nil (at (i + 1) onward2))
            (once_gives ways (IsGoal Ends e) decide (last_at e) near (i + 1) [] added r
            (subst (λ x. Gives ways (IsGoal Ends e) [] x r) (sym (append-nil (at (i + 1) (listed ++ own)))) g))))

        below_on : AreBelow n onward2 → AreBelow n (listed ++ own)
        below_on b = under_kept n added s.below b

        own_below : AreBelow n onward2 → AreBelow n own
        own_below b q h = below_on b q (has_right q listed own h)

        module _ (m : Pair) (carried : (e : ℕ) → i ≤ e → CarriesTo ways Ends e (origin ++ m ∷ []) (at i (places ++ group))) where
          -- what is held for the start now carries to each end behind this position
          carried_on : {matched : Option ℕ} → Closes out ends visited (map stays group) onward2 matched visited2 → (e : ℕ) → i + 1 ≤ e →
              CarriesTo ways Ends e (origin ++ m ∷ []) (at (i + 1) (listed ++ own))
          carried_on c e le r g =
              carried e (omega (arith, le)) r (carry (ran_on e (omega (arith, le)) (inr (λ h. omega (arith, le, h))) c) r (once_on e r g))

          so_far_on : AreBelow n onward2 → Closes out ends visited (map stays group) onward2 None visited2 →
              SoFar (origin ++ m ∷ []) (places ++ group) (onward ++ onward2) visited2 (listed ++ own)
          so_far_on b c = record {
            base = carried;
            ran = λ e le. ran_on e le (inl refl) c;
            once = once_on;
            below = below_on b;
          }

          -- a match here is the end of the first walk that ends here
          met_on : (q : ℕ) → Closes out ends visited (map stays group) onward2 (Some q) visited2 →
              Gives ways (IsGoal Ends i) [] (origin ++ m ∷ []) (Some (q, i))
          met_on q c =
              let x = met ways Ends last i out ends same_ends same q refl c in
              carried i (omega arith) (Some (q, i))
              (subst (λ z. Gives ways (IsGoal Ends i) [] z (Some (q, i))) (ap (λ z. at i places ++ z) (stay_at i group) ∙ sym (at_append i places group))
              (step (one_after ways (IsGoal Ends i) i (s.ran i (omega arith)) x.2) None
              (no_walk_both ways (IsGoal Ends i) {xs = at (i + 1) onward}
              (none_here ways Ends up i (i + 1) onward (omega arith)) (none_here ways Ends up i (i + 1) x.0 (omega arith)))))

    met_cons : (matched : Option ℕ) (origin : List Pair) (m : Pair) (own : List ℕ) (starts : List Held) (dropped : List Pair) →
        MetHere (origin ++ m ∷ []) starts dropped matched → MetHere origin ((m, own) ∷ starts) dropped matched
    met_cons None origin m own starts dropped h = (h.0, subst (λ z. IsQuiet ways Ends i z) (append_assoc origin (m ∷ []) (begun starts)) h.1)
    met_cons (Some q) origin m own starts dropped h = (
      m ∷ h.0,
      h.1,
      ap (λ z. m ∷ z) h.2,
      subst (λ z. IsQuiet ways Ends i z) (append_assoc origin (m ∷ []) h.0) h.3,
      subst (λ z. Gives ways (IsGoal Ends i) [] z (Some (q, i))) (append_assoc origin (m ∷ []) (begun starts)) h.4,
    )

    full_cons : (own : List ℕ) (xs ys : List (List ℕ)) → full xs ≡ full ys → full (own ∷ xs) ≡ full (own ∷ ys)
    full_cons [] xs ys e = e
    full_cons (q ∷ g) xs ys e = ap (λ z. (q ∷ g) ∷ z) e

    -- one start before the others
    before : (origin : List Pair) (listed : List ℕ) (m : Pair) (group own : List ℕ) (hs : List Held) (news : List (List ℕ)) (matched : Option ℕ) →
        ((e : ℕ) → i + 1 ≤ e → CarriesTo ways Ends e (origin ++ m ∷ []) (at (i + 1) (listed ++ own))) → AreBelow n own →
        Stepped (origin ++ m ∷ []) (listed ++ own) hs news matched → Stepped origin listed ((m, group) ∷ hs) (own ∷ news) matched
    before origin listed m group own hs news matched carried b r = record {
      starts = (m, own) ∷ r.starts;
      dropped = r.dropped;
      all = ap (λ z. m ∷ z) r.all;
      same_groups = full_cons own (held r.starts) news r.same_groups;
      same_places = ap (λ z. own ++ z) r.same_places;
      below = (b, r.below);
      carries = (carried, r.carries);
      met_here = met_cons matched origin m own r.starts r.dropped r.met_here;
    }

    without_empty : {origin : List Pair} {listed : List ℕ} {hs : List Held} {news : List (List ℕ)} {matched : Option ℕ} →
        Stepped origin listed hs ([] ∷ news) matched → Stepped origin listed hs news matched
    without_empty r = record {
      starts = r.starts;
      dropped = r.dropped;
      all = r.all;
      same_groups = r.same_groups;
      same_places = r.same_places;
      below = r.below;
      carries = r.carries;
      met_here = r.met_here;
    }

    -- THE STEP, start by start; for a start whose places are all held for others there is no group.
    pub step_groups : (hs : List Held) (origin : List Pair) (places onward visited listed : List ℕ) → SoFar origin places onward visited listed →
        AreCarried ways Ends i origin places hs → {onwards news : List (List ℕ)} {matched : Option ℕ} →
        GroupSteps out ends visited (full (held hs)) onwards matched → AddsGroups listed onwards news → Stepped origin listed hs news matched
    step_groups [] origin places onward visited listed s c over none_added = record {
      starts = [];
      dropped = [];
      all = refl;
      same_groups = refl;
      same_places = refl;
      below = tt;
      carries = tt;
      met_here = (refl, subst (λ z. IsQuiet ways Ends i z) (sym (append-nil origin)) (quiet_so_far origin places onward visited listed s));
    }
    step_groups ((m, []) ∷ hs) origin places onward visited listed s c {onwards} {news} {matched} steps a =
        let none : Adds listed [] (listed ++ []) = subst (λ z. Adds listed [] z) (sym (append-nil listed)) all_added in
        without_empty (before origin listed m [] [] hs news matched
        (carried_on origin places onward visited listed s [] [] [] visited none m c.0 out_of_ways)
        (λ k h. absurd h)
        (step_groups hs (origin ++ m ∷ []) (places ++ []) (onward ++ []) visited (listed ++ [])
        (so_far_on origin places onward visited listed s [] [] [] visited none m c.0 (λ k h. absurd h) out_of_ways) c.1 steps
        (subst (λ z. AddsGroups z onwards news) (sym (append-nil listed)) a)))
    step_groups ((m, q ∷ g) ∷ hs) origin places onward visited listed s c {matched = matched} (goes {onward = onward2} {visited2 = visited2} one rest) (adds {own = own} {new = new} added more) =
        let b = group_below out ends n closed (q ∷ g) one in
        before origin listed m (q ∷ g) own hs new matched
        (carried_on origin places onward visited listed s (q ∷ g) onward2 own visited2 added m c.0 one)
        (own_below origin places onward visited listed s (q ∷ g) onward2 own visited2 added b)
        (step_groups hs (origin ++ m ∷ []) (places ++ (q ∷ g)) (onward ++ onward2) visited2 (listed ++ own)
        (so_far_on origin places onward visited listed s (q ∷ g) onward2 own visited2 added m c.0 b one) c.1 rest more)
    step_groups ((m, q ∷ g) ∷ hs) origin places onward visited listed s c (stops {onward = onward2} {visited2 = visited2} {e = e} one) (adds {own = own} added none_added) =
        let b = group_below out ends n closed (q ∷ g) one in
        record {
          starts = (m, own) ∷ [];
          dropped = begun hs;
          all = refl;
          same_groups = refl;
          same_places = refl;
          below = (own_below origin places onward visited listed s (q ∷ g) onward2 own visited2 added b, tt);
          carries = (carried_on origin places onward visited listed s (q ∷ g) onward2 own visited2 added m c.0 one, tt);
          met_here = (
            [],
            m,
            refl,
            subst (λ z. IsQuiet ways Ends i z) (sym (append-nil origin)) (quiet_so_far origin places onward visited listed s),
            met_on origin places onward visited listed s (q ∷ g) onward2 own visited2 added m c.0 e one,
          );
        }
