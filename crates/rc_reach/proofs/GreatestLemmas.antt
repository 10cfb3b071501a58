-- Searches that see the same as far as trails lead have the same greatest match.
use Rattle.std.proofs.Common.{◌≡◌, ℕ, ◌+◌, ◌≤◌, [], ◌∷◌, map, IsTrue, Option, Some, None, inl, inr, ⊎_elim, sym, subst, ap, ap₂, ◌∙◌, refl, arith}
use Rattle.std.specs.Option.{option_map}
use Rattle.rc_text.specs.Found.{Found}
use Rattle.rc_walks.specs.Walks.{Pair, IsWalk}
use Rattle.rc_trails.proofs.TrailLemmas.{all_over, back, seen_here}
use Rattle.rc_program.specs.Program.{place_at}
use Rattle.rc_program.specs.Answer.{Search, ends, next_of, last_of, IsStart}
use Rattle.rc_program.specs.Greatest.{IsSpelledIn, IsNoGreater, greatest}
use Rattle.rc_program.proofs.GreatestLemmas.{greatest_law}
use Rattle.rc_reach.specs.Reads.{IsKnownBelow, ReadsWholeBelow}
use Rattle.rc_reach.specs.Alike.{AreAlike, further, IsSeen}
use Rattle.rc_reach.specs.Edits.{match_further}
use Rattle.rc_reach.proofs.AlikeLemmas.{agree, all_seen, start_further, start_back, all_near, last_further}

module _ (s t : Search) (d low r : ℕ) (alike : AreAlike d low r s t) (within : low ≤ r) (known : ReadsWholeBelow s r) where
  abbrev EndsIn : Search → Pair → Type 0
  EndsIn u n = IsTrue (ends u n)

  from_low : (x : ℕ) → IsStart s x → low ≤ x
  from_low x h = let l = alike.above in omega (arith, l, h.0)

  near : (x : ℕ) → IsStart s x → x ≤ r
  near x h = let z = seen_here (next_of s) (IsKnownBelow s r) (0, x) (known.starts x h) (inl refl) (λ z. z) in omega (arith, z)

  spelled_further : (m : Found) → IsSpelledIn s m → IsSpelledIn t (match_further d m)
  spelled_further m p =
      let seen = all_seen s t d low r alike m.start (from_low m.start p.is_start) p.is_start.1 (known.starts m.start p.is_start) in
      let at = last_further (next_of s) (EndsIn s) d p.is_walk in
      record {
        is_start = start_further s t d low r alike m.start (near m.start p.is_start) p.is_start;
        walk = map (further d) p.walk;
        is_walk = all_over (next_of s) (next_of t) (EndsIn s) (EndsIn t) (further d) (IsSeen s low r) (agree s t d low r alike) seen p.is_walk;
        pattern = ap₂ (λ ps (n : Pair). place_at ps n.0) alike.places at ∙ p.pattern;
        position = ap (λ (n : Pair). n.1) at ∙ ap (λ k. k + d) p.position;
      }

  -- one of the second search comes from one of the first
  pub record Came (m : Found) : Type 0 where
    pub found : Found
    pub is : match_further d found ≡ m
    pub spelled : IsSpelledIn s found

  spelled_back : (m : Found) → IsSpelledIn t m → Came m
  spelled_back m p =
      let b = start_back s t d low r alike m.start p.is_start (all_near s t d low r alike within known.bound m.start p.is_start) in
      let x = b.0 in
      let seen = all_seen s t d low r alike x (from_low x b.2) b.2.1 (known.starts x b.2) in
      let walk = subst (λ y. IsWalk (next_of t) (EndsIn t) [] ((0, y) ∷ []) p.walk) (sym b.1) p.is_walk in
      let u = back (next_of s) (next_of t) (EndsIn s) (EndsIn t) (further d) (IsSeen s low r) (agree s t d low r alike) walk [] ((0, x) ∷ []) refl refl seen in
      let at = ap last_of u.2 ∙ last_further (next_of s) (EndsIn s) d u.1 in
      record {
        found = record { pattern = m.pattern; start = x; end = (last_of u.0).1 };
        is = ap₂ (λ y z. let f : Found = record { pattern = m.pattern; start = y; end = z } in f) b.1 (sym (ap (λ (n : Pair). n.1) at) ∙ p.position);
        spelled = record {
          is_start = b.2;
          walk = u.0;
          is_walk = u.1;
          pattern = sym (ap₂ (λ ps (n : Pair). place_at ps n.0) alike.places at) ∙ p.pattern;
          position = refl;
        };
      }

  no_greater : (n m : Found) → IsNoGreater n m → IsNoGreater (match_further d n) (match_further d m)
  no_greater n m h =
      ⊎_elim (λ l. inl (omega (arith, l)))
      (λ e. inr (ap (λ k. k + d) e.0, ⊎_elim (λ l. inl (omega (arith, l))) (λ q. inr (ap (λ k. k + d) q.0, q.1)) e.1)) h

  greatest_of : (o : Option Found) → greatest s ≡ o → greatest t ≡ option_map (match_further d) o
  greatest_of None e =
      (greatest_law.none t).1 (λ m p. let c = spelled_back m p in (greatest_law.none s).0 e c.found c.spelled)
  greatest_of (Some m) e =
      let g = (greatest_law.some s m).0 e in
      (greatest_law.some t (match_further d m)).1 (record {
        is_spelled = spelled_further m g.is_spelled;
        is_most = λ n p. let c = spelled_back n p in
            subst (λ k. IsNoGreater k (match_further d m)) c.is (no_greater c.found m (g.is_most c.found c.spelled));
      })

  pub same_greatest : greatest t ≡ option_map (match_further d) (greatest s)
  same_greatest = greatest_of (greatest s) refl
