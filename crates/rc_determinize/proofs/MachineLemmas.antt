-- The machine makes the step.
use Rattle.std.proofs.Common.{◌≡◌, ◌≢◌, ℕ, zero, suc, ◌<◌, ◌≤◌, ◌⊎◌, ◌↔◌, List, [], ◌∷◌, ◌++◌, map, Option, Some, None, Bool, inl, inr, ⊎_elim, sym, subst, refl, arith, append_assoc}
use Rattle.std.proofs.lemmas.List.{append-nil, map-append}
use Rattle.rc_walks.specs.Walks.{Pair}
use Rattle.rc_walks.proofs.WalkLemmas.{first_after}
use Rattle.rc_determinize.specs.Gives.{Gives}
use Rattle.rc_program.specs.Program.{Way, stays, reads}
use Rattle.rc_determinize.specs.Steps.{HasPlace, Steps, out_of_ways, hands_on, skips, arrives, stops_under, comes_back, at}
use Rattle.rc_determinize.specs.Steps.{Adds, all_added, adds_one, leaves_out, IsStep}
use Rattle.rc_determinize.specs.Machine.{Runs, done, adds, repeats, leaps, matches, opens, Finishes}
use Rattle.rc_determinize.proofs.PartsLemmas.{first_parts, first_ahead, first_behind, no_walk_left, no_walk_right, no_walk_both, dead_each}
use Rattle.rc_determinize.proofs.StepLemmas.{in_at}

pub adds_then : {a b c xs ys : List ℕ} → Adds a xs b → Adds b ys c → Adds a (xs ++ ys) c
adds_then all_added t = t
adds_then (adds_one q new s) t = adds_one q new (adds_then s t)
adds_then (leaves_out q old s) t = leaves_out q old (adds_then s t)

abbrev pub IsMarked : List ℕ → List ℕ → Type 0
IsMarked visited entered = (q : ℕ) → HasPlace q visited ↔ HasPlace q entered

pub has_parts : (q : ℕ) (xs ys : List ℕ) → HasPlace q (xs ++ ys) → HasPlace q xs ⊎ HasPlace q ys
has_parts q [] ys h = inr h
has_parts q (x ∷ xs) ys h = ⊎_elim (λ e. inl (inl e)) (λ z. ⊎_elim (λ a. inl (inr a)) (λ b. inr b) (has_parts q xs ys z)) h

pub has_left : (q : ℕ) (xs ys : List ℕ) → HasPlace q xs → HasPlace q (xs ++ ys)
has_left q [] ys h = absurd h
has_left q (x ∷ xs) ys h = ⊎_elim (λ e. inl e) (λ z. inr (has_left q xs ys z)) h

pub has_right : (q : ℕ) (xs ys : List ℕ) → HasPlace q ys → HasPlace q (xs ++ ys)
has_right q [] ys h = h
has_right q (x ∷ xs) ys h = inr (has_right q xs ys h)

pub mark : (visited entered : List ℕ) (q : ℕ) → IsMarked visited entered → IsMarked (q ∷ visited) (entered ++ q ∷ [])
mark visited entered q m p = (
  (λ h. ⊎_elim (λ e. has_right p entered (q ∷ []) (inl e)) (λ z. has_left p entered (q ∷ []) ((m p).0 z)) h),
  (λ h. ⊎_elim (λ z. inr ((m p).1 z)) (λ e. inl (⊎_elim (λ x. x) (λ never. absurd never) e)) (has_parts p entered (q ∷ []) h)),
)

module _ (out : ℕ → List Way) (ends : ℕ → Bool) where
  -- the first part of the stack was worked off without a match
  pub record WorkedOff (k : ℕ) (visited : List ℕ) (first second : List Way) (next new : List ℕ) (matched : Option ℕ) : Type 0 where
    pub left : ℕ
    pub fewer : left ≤ k
    pub marks2 : List ℕ
    pub visited2 : List ℕ
    pub onward : List ℕ
    pub next2 : List ℕ
    pub steps : Steps out ends visited first onward None visited2
    pub marked : IsMarked visited2 marks2
    pub added : Adds next onward next2
    pub more : Runs out ends left marks2 second next2 new matched

  -- a match was met in it
  pub record Met (visited : List ℕ) (first : List Way) (next new : List ℕ) (matched : Option ℕ) : Type 0 where
    pub place : ℕ
    pub is_stop : matched ≡ Some place
    pub visited2 : List ℕ
    pub onward : List ℕ
    pub steps : Steps out ends visited first onward (Some place) visited2
    pub added : Adds next onward new

  not_visited : (visited marks : List ℕ) (q : ℕ) → IsMarked visited marks → ¬ HasPlace q marks → ¬ HasPlace q visited
  not_visited visited marks q m e h = e ((m q).0 h)

  split : (n k : ℕ) → k < n → (marks : List ℕ) (visited : List ℕ) (first second : List Way) (next new : List ℕ) (matched : Option ℕ) →
      IsMarked visited marks → Runs out ends k marks (first ++ second) next new matched →
      WorkedOff k visited first second next new matched ⊎ Met visited first next new matched
  split zero k less marks visited first second next new matched m r = absurd (omega (arith, less))
  split (suc n) k less marks visited [] second next new matched m r =
      inl (record {
        left = k;
        fewer = omega arith;
        marks2 = marks;
        visited2 = visited;
        onward = [];
        next2 = next;
        steps = out_of_ways;
        marked = m;
        added = all_added;
        more = r;
      })
  split (suc n) zero less marks visited (reads count q ∷ first) second next new matched m r = elim r [ ]
  split (suc n) (suc k) less marks visited (reads count q ∷ first) second next new matched m (adds _ fresh r) =
      ⊎_elim
      (λ w. let f = w.fewer in inl (record {
        left = w.left;
        fewer = omega (arith, f);
        marks2 = w.marks2;
        visited2 = w.visited2;
        onward = q ∷ w.onward;
        next2 = w.next2;
        steps = hands_on q w.steps;
        marked = w.marked;
        added = adds_one q fresh w.added;
        more = w.more;
      }))
      (λ w. inr (record {
        place = w.place;
        is_stop = w.is_stop;
        visited2 = w.visited2;
        onward = q ∷ w.onward;
        steps = hands_on q w.steps;
        added = adds_one q fresh w.added;
      }))
      (split n k (omega (arith, less)) marks visited first second (next ++ q ∷ []) new matched m r)
  split (suc n) (suc k) less marks visited (reads count q ∷ first) second next new matched m (repeats _ old r) =
      ⊎_elim
      (λ w. let f = w.fewer in inl (record {
        left = w.left;
        fewer = omega (arith, f);
        marks2 = w.marks2;
        visited2 = w.visited2;
        onward = q ∷ w.onward;
        next2 = w.next2;
        steps = hands_on q w.steps;
        marked = w.marked;
        added = leaves_out q old w.added;
        more = w.more;
      }))
      (λ w. inr (record {
        place = w.place;
        is_stop = w.is_stop;
        visited2 = w.visited2;
        onward = q ∷ w.onward;
        steps = hands_on q w.steps;
        added = leaves_out q old w.added;
      }))
      (split n k (omega (arith, less)) marks visited first second next new matched m r)
  split (suc n) (suc k) less marks visited (stays q ∷ first) second next new matched m (leaps _ seen r) =
      ⊎_elim
      (λ w. let f = w.fewer in inl (record {
        left = w.left;
        fewer = omega (arith, f);
        marks2 = w.marks2;
        visited2 = w.visited2;
        onward = w.onward;
        next2 = w.next2;
        steps = skips q ((m q).1 seen) w.steps;
        marked = w.marked;
        added = w.added;
        more = w.more;
      }))
      (λ w. inr (record {
        place = w.place;
        is_stop = w.is_stop;
        visited2 = w.visited2;
        onward = w.onward;
        steps = skips q ((m q).1 seen) w.steps;
        added = w.added;
      }))
      (split n k (omega (arith, less)) marks visited first second next new matched m r)
  split (suc n) zero less marks visited (stays q ∷ first) second next new matched m (matches _ fresh e) =
      inr (record { place = q; is_stop = refl; visited2 = visited; onward = []; steps = arrives q (not_visited visited marks q m fresh) e; added = all_added })
  split (suc n) (suc k) less marks visited (stays q ∷ first) second next new matched m (opens _ fresh on r) =
      ⊎_elim
      (λ u. let f = u.fewer in
      ⊎_elim
      (λ w. let g = w.fewer in inl (record {
        left = w.left;
        fewer = omega (arith, f, g);
        marks2 = w.marks2;
        visited2 = w.visited2;
        onward = u.onward ++ w.onward;
        next2 = w.next2;
        steps = comes_back q (not_visited visited marks q m fresh) on u.steps w.steps;
        marked = w.marked;
        added = adds_then u.added w.added;
        more = w.more;
      }))
      (λ w. inr (record {
        place = w.place;
        is_stop = w.is_stop;
        visited2 = w.visited2;
        onward = u.onward ++ w.onward;
        steps = comes_back q (not_visited visited marks q m fresh) on u.steps (subst (λ x. Steps out ends u.visited2 first w.onward x w.visited2) refl w.steps);
        added = adds_then u.added w.added;
      }))
      (split n u.left (omega (arith, less, f)) u.marks2 u.visited2 first second u.next2 new matched u.marked u.more))
      (λ u. inr (record {
        place = u.place;
        is_stop = u.is_stop;
        visited2 = u.visited2;
        onward = u.onward;
        steps = stops_under q (not_visited visited marks q m fresh) on u.steps;
        added = u.added;
      }))
      (split n k (omega (arith, less)) (marks ++ q ∷ []) (q ∷ visited) (out q) (first ++ second) next new matched (mark visited marks q m) r)

  ended : {k : ℕ} {marks : List ℕ} {next new : List ℕ} {matched : Option ℕ} → Runs out ends k marks [] next new matched → (next ≡ new) × (matched ≡ None)
  ended done = (refl, refl)

  -- the machine that begins with the list makes its step
  pub makes_step : (list new : List ℕ) (matched : Option ℕ) →
      Finishes out ends [] (map stays list) [] new matched → IsStep out ends list new matched
  makes_step list new matched r =
      ⊎_elim
      (λ w. let e = ended w.more in
      record {
        onward = w.onward;
        visited = w.visited2;
        steps = subst (λ x. Steps out ends [] (map stays list) w.onward x w.visited2) (sym e.1) w.steps;
        once = subst (λ x. Adds [] w.onward x) e.0 w.added;
      })
      (λ w. record {
        onward = w.onward;
        visited = w.visited2;
        steps = subst (λ x. Steps out ends [] (map stays list) w.onward x w.visited2) (sym w.is_stop) w.steps;
        once = w.added;
      })
      (split (suc r.0) r.0 (omega arith) [] [] (map stays list) [] [] new matched
      (λ q. ((λ h. h), (λ h. h)))
      (subst (λ x. Runs out ends r.0 [] x [] new matched) (sym (append-nil (map stays list))) r.1))

module _ (ways : Pair → List Pair) (Ends : Pair → Type 0) (decide : (n m : Pair) → (n ≡ m) ⊎ (n ≢ m)) (i : ℕ) where
  again : (q : ℕ) (list qs : List ℕ) (r : Option Pair) → HasPlace q list →
      Gives ways Ends [] (at i list ++ at i qs) r → Gives ways Ends [] (at i list ++ ((q, i) ∷ at i qs)) r
  again q list qs (Some e) old g =
      ⊎_elim (λ f. (g.0, first_ahead ways Ends decide ((q, i) ∷ at i qs) f, g.2))
      (λ p. (g.0, first_behind ways Ends (at i list) p.0 (first_after ways Ends (q, i) (dead_each ways Ends p.0 (q, i) (in_at i q list old)) p.1), g.2))
      (first_parts ways Ends decide (at i list) g.1)
  again q list qs None old g =
      let none = no_walk_left ways Ends (at i list) (at i qs) g in
      no_walk_both ways Ends {xs = at i list} none
      (no_walk_both ways Ends {xs = (q, i) ∷ []} (dead_each ways Ends none (q, i) (in_at i q list old)) (no_walk_right ways Ends (at i list) (at i qs) g))

  -- each place once is enough
  pub adds_gives : {list qs new : List ℕ} → Adds list qs new → (r : Option Pair) → Gives ways Ends [] (at i new) r →
      Gives ways Ends [] (at i list ++ at i qs) r
  adds_gives (all_added {list}) r g = subst (λ x. Gives ways Ends [] x r) (sym (append-nil (at i list))) g
  adds_gives (adds_one {list} {qs} {new} q fresh t) r g =
      subst (λ x. Gives ways Ends [] x r) (append_assoc (at i list) ((q, i) ∷ []) (at i qs))
      (subst (λ x. Gives ways Ends [] (x ++ at i qs) r) (map-append (λ k. (k, i)) list (q ∷ [])) (adds_gives t r g))
  adds_gives (leaves_out {list} {qs} {new} q old t) r g = again q list qs r old (adds_gives t r g)
