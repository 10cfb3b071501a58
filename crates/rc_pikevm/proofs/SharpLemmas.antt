-- A pass that tells its reach reads no further than it has to: where it still had a thread, some trail leads there.
use Rattle.std.proofs.Common.{◌≡◌, ℕ, ◌+◌, ◌-◌, ◌<◌, ◌≤◌, ◌⊎◌, List, [], ◌∷◌, ◌++◌, map, length, inl, inr, ⊎_elim, sym, subst, ap, ap₂, ◌∙◌, refl, arith, Bool, false, true, IsTrue, Option, Some, None, is_none, true≢false, ◌||◌, if◌then◌else◌}
use Rattle.std.proofs.lemmas.Bool.{cases_Bool, cases_lt, lt-ltb, ltb-true}
use Rattle.std.proofs.lemmas.Option.{none-some, same_Some}
use Rattle.rc_walks.specs.Walks.{Pair, IsIn, IsWalk, stops, goes, IsBefore, IsFirstWalk}
use Rattle.rc_walks.specs.Threads.{over, found, noted}
use Rattle.rc_trails.specs.Limits.{ends_or_out, within}
use Rattle.rc_trails.specs.Trails.{IsNoLater, IsTrail}
use Rattle.rc_trails.proofs.LimitLemmas.{limit_law}
use Rattle.rc_program.specs.Program.{place_at}
use Rattle.rc_program.specs.Answer.{Search, Chosen, chosen, ends, last_of, next_of, only, pattern_at}
use Rattle.rc_program.proofs.AnswerLemmas.{chosen_law, last_start_of, match_place_is, start_within_last, walk_ends}
use Rattle.rc_reach.specs.Reads.{IsKnownStart, ReadsBelow}
use Rattle.rc_pikevm.specs.Sights.{Sight, IsFirstTo, ends as sight_ends, ends_to, is_past, next_of as next_of_sight, next_to, sight_of}
use Rattle.rc_pikevm.specs.Threads.{Thread}
use Rattle.rc_pikevm.specs.Trace.{Trace, note, sets_out}
use Rattle.rc_pikevm.specs.Passing.{AllIn, CarriesTo, GivesTraceTo, pending, waiting_starts}
use Rattle.rc_pikevm.specs.Reach.{IsStillOn}
use Rattle.rc_pikevm.specs.declared.pass.Ending.{Ending}
use Rattle.rc_pikevm.proofs.NotedLemmas.{noted_last, noted_stop}
use Rattle.rc_pikevm.proofs.ReachLemmas.{accept_last, walk_ends_last}
use Rattle.rc_pikevm.proofs.SightLemmas.{last_pair, last_to}
use Rattle.rc_pikevm.proofs.StartLemmas.{waiting_next}

module _ (ways : Pair → List Pair) (ends out : Pair → Bool) where
  abbrev cut : Pair → List Pair
  cut = within ways out

  abbrev EndsCut : Pair → Type 0
  EndsCut n = IsTrue (ends_or_out ends out n)

  same_inside : (n : Pair) → out n ≡ false → cut n ≡ ways n
  same_inside n e = ap (λ b. if b then [] else ways n) e

  both_out : (n : Pair) → IsTrue (out n) → EndsCut n
  both_out n e = ⊎_elim (λ t. rw t refl) (λ f. rw f e) (cases_Bool (ends n))

  both_end : (n : Pair) → IsTrue (ends n) → EndsCut n
  both_end n e = rw e refl

  -- a walk of the cut graph is a trail of the whole one
  trail_of : {p f v : List Pair} → IsWalk cut EndsCut p f v → IsTrail ways p f v
  trail_of (stops n here fresh e) = stops n here fresh tt
  trail_of {p} (goes {w = w} n here fresh rest) =
      ⊎_elim
      (λ o. absurd (let k = first_in (trail_of rest) in subst (λ b. IsIn k.0 (if b then [] else ways n)) o k.1))
      (λ i. goes n here fresh (subst (λ g. IsTrail ways (n ∷ p) g w) (same_inside n i) (trail_of rest))) (cases_Bool (out n))
    where
      first_in : {g : Pair → List Pair} {p f v : List Pair} → IsTrail g p f v → (k : Pair) × IsIn k f
      first_in (stops k here fresh e) = (k, here)
      first_in (goes k here fresh rest) = (k, here)

  -- a walk of the cut graph with which a walk begins: what comes no later than the one comes no later than the other
  abbrev BeginsCut : List Pair → List Pair → List Pair → Type 0
  BeginsCut p f w = (u : List Pair) × IsWalk cut EndsCut p f u × ((v : List Pair) → (v ≡ u) ⊎ IsBefore cut f v u → IsNoLater ways f v w)

  stops_there : (p f w : List Pair) (n : Pair) → IsIn n f → ¬ IsIn n p → EndsCut n → BeginsCut p f (n ∷ w)
  stops_there p f w n here fresh e = (n ∷ [], stops n here fresh e, λ v h. ⊎_elim (λ same. subst (λ u. IsNoLater ways f u (n ∷ w)) (sym same) (inr (refl, tt))) (λ b. before v b) h)
    where
      nothing : (g v : List Pair) → IsBefore cut g v [] → ⊥
      nothing g [] b = b
      nothing g (m ∷ v) b = b

      before : (v : List Pair) → IsBefore cut f v (n ∷ []) → IsNoLater ways f v (n ∷ w)
      before [] b = absurd b
      before (m ∷ v) b = ⊎_elim (λ a. inl a) (λ q. absurd (nothing (cut m) v q.1)) b

  cut_of : {p f w : List Pair} → IsWalk ways (λ n. IsTrue (ends n)) p f w → BeginsCut p f w
  cut_of {p} {f} (stops n here fresh e) = stops_there p f [] n here fresh (both_end n e)
  cut_of {p} {f} (goes {w = w} n here fresh rest) =
      ⊎_elim (λ o. stops_there p f w n here fresh (both_out n o))
      (λ i.
      let r = cut_of rest in (
        n ∷ r.0,
        goes n here fresh (subst (λ g. IsWalk cut EndsCut (n ∷ p) g r.0) (sym (same_inside n i)) r.1),
        λ v h. ⊎_elim (λ same. subst (λ u. IsNoLater ways f u (n ∷ w)) (sym same) (inr (refl, r.2 r.0 (inl refl)))) (λ b. before r.0 r.2 i v b) h,
      ))
      (cases_Bool (out n))
    where
      before : (u : List Pair) → ((v : List Pair) → (v ≡ u) ⊎ IsBefore cut (ways n) v u → IsNoLater ways (ways n) v w) → out n ≡ false →
          (v : List Pair) → IsBefore cut f v (n ∷ u) → IsNoLater ways f v (n ∷ w)
      before u go i [] b = absurd b
      before u go i (m ∷ v) b =
          ⊎_elim (λ a. inl a)
          (λ q. inr (
            q.0,
            subst (λ k. IsNoLater ways (ways k) v w) (sym q.0)
                (go v (inr (subst (λ g. IsBefore cut g v u) (ap cut q.0 ∙ same_inside n i) q.1))),
          )) b

  -- the first walk of the cut graph comes no later than any walk
  no_later : {p f w : List Pair} (v : List Pair) → IsFirstWalk cut EndsCut p f v → IsWalk ways (λ n. IsTrue (ends n)) p f w → IsNoLater ways f v w
  no_later v first walk =
      let c = cut_of walk in c.2 v (⊎_elim (λ e. inl (sym e)) (λ b. inr b) (first.is_least c.0 c.1))

  same_no_later : (f w : List Pair) → IsNoLater ways f w w
  same_no_later f [] = tt
  same_no_later f (n ∷ w) = inr (refl, same_no_later (ways n) w)

-- where something waits past the limit, a walk up to it is what the pass gives
module _ (s : Sight) (width from last limit at : ℕ) (late : limit < at) (near : at ≤ limit + 1) where
  abbrev EndsTo : Pair → Type 0
  EndsTo n = IsTrue (ends_to (Some limit) s n)

  past_ends : (p : Pair) → at ≤ p.1 → EndsTo p
  past_ends p later = both_out (next_of_sight s) (sight_ends s) (is_past limit) p (lt-ltb limit p.1 (omega (arith, late, later)))

  only_there : (p : Pair) → EndsTo p → {v : List Pair} → IsWalk (next_to (Some limit) s) EndsTo [] (p ∷ []) v → v ≡ p ∷ []
  only_there p e (stops k here fresh ends) = ⊎_elim (λ q. ap (λ x. x ∷ []) (sym q)) (λ never. absurd never) here
  only_there p e (goes k here fresh rest) =
      ⊎_elim (λ q. absurd (let m = sets_out_by rest in last_to (Some limit) s k m.0 (subst EndsTo q e) m.1)) (λ never. absurd never) here
    where
      sets_out_by : {g : Pair → List Pair} {Ends : Pair → Type 0} {passed from w : List Pair} → IsWalk g Ends passed from w → (m : Pair) × IsIn m from
      sets_out_by (stops m there fresh e) = (m, there)
      sets_out_by (goes m there fresh more) = (m, there)

  first_there : (p : Pair) → EndsTo p → IsFirstWalk (next_to (Some limit) s) EndsTo [] (p ∷ []) (p ∷ [])
  first_there p e = record {
    is_walk = stops p (inl refl) (λ never. absurd never) e;
    is_least = λ v b. inl (only_there p e b);
  }

  pub still_on : (t : Trace × Pair) (ts : List (Trace × Pair)) (best : Option Trace) → t.0.ended ≡ None → at ≤ t.1.1 →
      ((o : Option Trace) → CarriesTo (Some limit) s at [] [] (t ∷ ts) best o → GivesTraceTo (Some limit) s width from last o) → IsStillOn limit s from last at
  still_on t ts best unended later gives =
      let e = past_ends t.1 later in
      let first = first_there t.1 e in
      let h = noted (note s.places) t.0 (t.1 ∷ []) in
      ⊎_elim (λ n. absurd (none-some h (sym n.0)))
      (λ m.
      let w : List Pair = m.1 in
      let same : h ≡ noted (note s.places) (sets_out width m.0).0 w = same_Some h (noted (note s.places) (sets_out width m.0).0 w) m.6 in (
        m.0,
        w,
        m.2,
        m.3,
        m.4,
        m.5,
        ⊎_elim (λ past. let l = ltb-true limit (last_of w).1 past in omega (arith, l, near))
            (λ inside.
            let ends_here = ended_inside (last_of w) inside (walk_ends (next_to (Some limit) s) EndsTo m.4.is_walk) in
            let told = noted_stop s.places (next_to (Some limit) s) EndsTo (sets_out width m.0).0 m.4.is_walk
            (match_place_is (only s.anchoring) (place_at s.places (last_of w).0) ends_here) in
            let there = noted_last s.places (next_to (Some limit) s) EndsTo (accept_last (Some limit) s) t.0 (pattern_at (place_at s.places (last_of w).0)) (last_of w).1 unended
            first.is_walk (ap (λ (z : Trace). z.ended) same ∙ told) in
            omega (arith, there, later))
            (cases_Bool (is_past limit (last_of w))),
      ))
      (gives (Some h) (over (found t (t.1 ∷ []) first)))
    where
      ended_inside : (p : Pair) → is_past limit p ≡ false → EndsTo p → IsTrue (sight_ends s p)
      ended_inside p inside e =
          ⊎_elim (λ t. t) (λ f. absurd (true≢false (sym e ∙ ap₂ ◌||◌ f inside))) (cases_Bool (sight_ends s p))

-- so the bytes that are read tell how far the pass came
module _ (s : Search) (last at : ℕ) (last_is : last ≡ last_start_of s) where
  still_known : (r x : ℕ) (w : List Pair) (o : Option (List Pair)) (limit : ℕ) → IsFirstTo (Some limit) (sight_of s) x w → at ≤ (last_of w).1 →
      IsKnownStart s r x o → at ≤ r
  still_known r x w None limit first far k =
      let known = k.1 w (last_of w) (trail_of (next_of s) (ends s) (is_past limit) first.is_walk) (walk_ends_last (next_to (Some limit) (sight_of s)) _ first.is_walk) in
      omega (arith, known, far)
  still_known r x w (Some v) limit first far k =
      let known = k.1 w (last_of w) (trail_of (next_of s) (ends s) (is_past limit) first.is_walk)
      (no_later (next_of s) (ends s) (is_past limit) w first k.0.is_walk) (walk_ends_last (next_to (Some limit) (sight_of s)) _ first.is_walk) in
      omega (arith, known, far)

  sharp_by : (r : ℕ) (o : Option Chosen) → chosen s ≡ o → ReadsBelow s r o → IsStillOn (at - 1) (sight_of s) s.lo last at → at ≤ r
  sharp_by r None e reads on =
      let x : ℕ = on.0 in
      let start = start_within_last s x on.2 (omega (arith, on.3, last_is)) in
      let k = reads.0 x start start.1 in
      still_known r x on.1 k.0 (at - 1) on.4 on.6 k.1
  sharp_by r (Some c) e reads on =
      let x : ℕ = on.0 in
      let start = start_within_last s x on.2 (omega (arith, on.3, last_is)) in
      let answer = (chosen_law s c).0 e in
      ⊎_elim
      (λ before. absurd (
      (limit_law.none (next_of s) (ends s) (is_past (at - 1)) [] ((0, c.start) ∷ []) (last_pair (sight_of s)) (on.5 c.start answer.is_start.0 before)).0
      c.walk answer.is_first.is_walk))
      (λ le. let k = reads x start le in still_known r x on.1 k.0 (at - 1) on.4 on.6 k.1)
      (cases_lt c.start x)

  pub sharp : (at ≡ 0) ⊎ IsStillOn (at - 1) (sight_of s) s.lo last at → (reach : ℕ) → reach ≤ at + 4 → (r : ℕ) → ReadsBelow s r (chosen s) → reach ≤ r + 4
  sharp live reach few r reads =
      ⊎_elim (λ e. omega (arith, e, few)) (λ on. let l = sharp_by r (chosen s) refl reads on in omega (arith, l, few)) live

-- a thread waits at the position or later, or a start is tried there
pub first_waits : (n hi at width last : ℕ) (curr : List Thread) (best : Option Ending) → AllIn n at hi curr →
    (0 < length curr) ⊎ ((is_none best ≡ true) × (at ≤ last)) →
    (t : Trace × Pair) × (ts : List (Trace × Pair)) × (map pending curr ++ waiting_starts (is_none best) width at last ≡ t ∷ ts) × (t.0.ended ≡ None) × (at ≤ t.1.1)
first_waits n hi at width last [] best all live =
    ⊎_elim (λ some. absurd (omega (arith, some)))
    (λ q. (sets_out width at, waiting_starts (is_none best) width (at + 1) last, waiting_next (is_none best) width at last q.0 q.1, refl, omega arith)) live
first_waits n hi at width last (t ∷ ts) best all live =
    (pending t, map pending ts ++ waiting_starts (is_none best) width at last, refl, refl, all.0.1)
