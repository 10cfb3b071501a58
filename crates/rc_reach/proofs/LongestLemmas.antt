-- Searches that see the same as far as trails lead have the same longest match.
use Rattle.std.proofs.Common.{◌≡◌, ℕ, ◌+◌, ◌<◌, ◌≤◌, List, [], ◌∷◌, map, false, IsTrue, Option, Some, None, inl, inr, ⊎_elim, sym, subst, ap, ap₂, ◌∙◌, refl, arith}
use Rattle.std.specs.Option.{option_map}
use Rattle.rc_text.specs.Found.{Found}
use Rattle.rc_walks.specs.Walks.{Pair, IsBefore}
use Rattle.rc_trails.proofs.TrailLemmas.{all_over, back, before_over, seen_here}
use Rattle.rc_program.specs.Program.{place_at}
use Rattle.rc_program.specs.Answer.{Search, Chosen, ends, next_of, last_of, is_allowed, found, pattern_at}
use Rattle.rc_program.specs.Longest.{IsLongestFrom, IsPassedOf, IsLongestAnswer, HasNoLongestAnswer, longest_chosen, longest}
use Rattle.rc_program.proofs.ReachLemmas.{longest_law}
use Rattle.rc_reach.specs.Reads.{IsKnownBelow, IsKnownWholly, AreKnownWholly, ReadsAllBelow}
use Rattle.rc_reach.specs.Alike.{AreAlike, further, chosen_further, IsSeen}
use Rattle.rc_reach.specs.Edits.{match_further}
use Rattle.rc_reach.proofs.AlikeLemmas.{agree, all_seen, none_further, allowed_further, start_further, start_back, all_near, last_further}

module _ (s t : Search) (d low r : ℕ) (alike : AreAlike d low r s t) where
  abbrev EndsIn : Search → Pair → Type 0
  EndsIn u n = IsTrue (ends u n)

  longest_further : (x : ℕ) (w : List Pair) → low ≤ x → x ≤ s.hi → IsKnownWholly s r x → IsLongestFrom s x w → IsLongestFrom t (x + d) (map (further d) w)
  longest_further x w h l k first =
      let seen = all_seen s t d low r alike x h l k.0 in
      let same = agree s t d low r alike in
      let at = last_further (next_of s) (EndsIn s) d first.is_walk in
      record {
        is_walk = all_over (next_of s) (next_of t) (EndsIn s) (EndsIn t) (further d) (IsSeen s low r) same seen first.is_walk;
        is_most = λ v b.
            let u = back (next_of s) (next_of t) (EndsIn s) (EndsIn t) (further d) (IsSeen s low r) same b [] ((0, x) ∷ []) refl refl seen in
            let m = first.is_most u.0 u.1 in
            let there = ap last_of u.2 ∙ last_further (next_of s) (EndsIn s) d u.1 in
            let e : (last_of v).1 ≡ (last_of u.0).1 + d = ap (λ (n : Pair). n.1) there in
            let f : (last_of (map (further d) w)).1 ≡ (last_of w).1 + d = ap (λ (n : Pair). n.1) at in omega (arith, m, e, f);
        is_least = λ v b q.
            let u = back (next_of s) (next_of t) (EndsIn s) (EndsIn t) (further d) (IsSeen s low r) same b [] ((0, x) ∷ []) refl refl seen in
            let there = ap last_of u.2 ∙ last_further (next_of s) (EndsIn s) d u.1 in
            let e : (last_of v).1 ≡ (last_of u.0).1 + d = ap (λ (n : Pair). n.1) there in
            let f : (last_of (map (further d) w)).1 ≡ (last_of w).1 + d = ap (λ (n : Pair). n.1) at in
            let alike_ends : (last_of u.0).1 ≡ (last_of w).1 = omega (arith, q, e, f) in
            ⊎_elim (λ is. inl (u.2 ∙ ap (map (further d)) is))
            (λ before. inr (subst (λ z. IsBefore (next_of t) ((0, x + d) ∷ []) (map (further d) w) z) (sym u.2)
            (before_over (next_of s) (next_of t) (EndsIn s) (EndsIn t) (further d) (IsSeen s low r) same first.is_walk u.0 seen before)))
            (first.is_least u.0 u.1 alike_ends);
      }

  near_of : (x : ℕ) → IsKnownWholly s r x → x ≤ r
  near_of x k = let h = seen_here (next_of s) (IsKnownBelow s r) (0, x) k.0 (inl refl) (λ z. z) in omega (arith, h)

  passed_longest : (x : ℕ) → low ≤ x → x ≤ s.hi → IsKnownWholly s r x → IsPassedOf s (IsLongestFrom s) x → IsPassedOf t (IsLongestFrom t) (x + d)
  passed_longest x h l k p =
      ⊎_elim (λ none. inl (none_further s t d low r alike x h l (none, k.0)))
      (λ (q : (w : List Pair) × IsLongestFrom s x w × (is_allowed s w ≡ false)).
      inr (map (further d) q.0, longest_further x q.0 h l k q.1, allowed_further s t d low r alike x q.0 h l q.1.is_walk (k.1 q.0 q.1) ∙ q.2)) p

  answer_longest : (c : Chosen) → IsLongestAnswer s c → AreKnownWholly s r c.start → IsLongestAnswer t (chosen_further d c)
  answer_longest c a known =
      let l = alike.above in
      let from : low ≤ c.start = omega (arith, l, a.is_start.0) in
      let k = known c.start a.is_start (omega arith) in
      let near = near_of c.start k in
      record {
        is_start = start_further s t d low r alike c.start near a.is_start;
        counts = longest_further c.start c.walk from a.is_start.1 k a.counts;
        allowed = subst IsTrue (sym (allowed_further s t d low r alike c.start c.walk from a.is_start.1 a.counts.is_walk (k.1 c.walk a.counts))) a.allowed;
        none_before = λ y h before.
            let b = start_back s t d low r alike y h (omega (arith, before, near)) in
            let less : b.0 < c.start = omega (arith, b.1, before) in
            subst (IsPassedOf t (IsLongestFrom t)) b.1
            (passed_longest b.0 (omega (arith, l, b.2.0)) b.2.1 (known b.0 b.2 (omega (arith, less))) (a.none_before b.0 b.2 less));
      }

  none_longest : low ≤ r → HasNoLongestAnswer s → ReadsAllBelow s r None → HasNoLongestAnswer t
  none_longest within none known =
      λ y h. let b = start_back s t d low r alike y h (all_near s t d low r alike within known.1 y h) in
      let l = alike.above in
      subst (IsPassedOf t (IsLongestFrom t)) b.1
      (passed_longest b.0 (omega (arith, l, b.2.0)) b.2.1 (known.0 b.0 b.2 b.2.1) (none b.0 b.2))

  chosen_of_longest : (o : Option Chosen) → longest_chosen s ≡ o → low ≤ r → ReadsAllBelow s r o → longest_chosen t ≡ option_map (chosen_further d) o
  chosen_of_longest None e within known = (longest_law.chosen_none t).1 (none_longest within ((longest_law.chosen_none s).0 e) known)
  chosen_of_longest (Some c) e within known =
      (longest_law.chosen_some t (chosen_further d c)).1 (answer_longest c ((longest_law.chosen_some s c).0 e) known)

  pub same_longest_chosen : low ≤ r → ReadsAllBelow s r (longest_chosen s) → longest_chosen t ≡ option_map (chosen_further d) (longest_chosen s)
  same_longest_chosen within known = chosen_of_longest (longest_chosen s) refl within known

  found_longest : (c : Chosen) → IsLongestAnswer s c → found t (chosen_further d c) ≡ match_further d (found s c)
  found_longest c a =
      let last = last_further (next_of s) (EndsIn s) d a.counts.is_walk in
      ap₂ (λ ps (n : Pair). let m : Found = record { pattern = pattern_at (place_at ps n.0); start = c.start + d; end = n.1 } in m) alike.places last

  longest_by_chosen : (o : Option Chosen) → longest_chosen s ≡ o →
      option_map (found t) (option_map (chosen_further d) o) ≡ option_map (match_further d) (option_map (found s) o)
  longest_by_chosen None e = refl
  longest_by_chosen (Some c) e = ap Some (found_longest c ((longest_law.chosen_some s c).0 e))

  pub same_longest : low ≤ r → ReadsAllBelow s r (longest_chosen s) → longest t ≡ option_map (match_further d) (longest s)
  unfolding longest
  same_longest within known = ap (option_map (found t)) (same_longest_chosen within known) ∙ longest_by_chosen (longest_chosen s) refl
