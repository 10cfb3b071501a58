-- The list of matches under an edit, over any way to look for a match.
use Rattle.std.proofs.Common.{◌≡◌, ℕ, ◌+◌, ◌≤◌, ◌&&◌, List, [], ◌∷◌, ◌++◌, map, Option, Some, None, nat_eq, ⊎_elim, sym, subst, ap, ap₂, ◌∙◌, refl, arith, if◌then◌else◌, eqb-true, eq-eqb}
use Rattle.std.specs.Option.{option_map}
use Rattle.std.proofs.lemmas.Bool.{cases_Bool, eqb-false}
use Rattle.std.proofs.lemmas.Option.{none-some, same_Some}
use Rattle.rc_program.specs.Matches
use Rattle.rc_program.specs.Matches.{is_again, unless_again, next_match, AreMatches}
use Rattle.rc_reach.specs.Edits
use Rattle.rc_reach.specs.Edits.{IsMove, FindsOn}

eq_further : (a b d : ℕ) → nat_eq (a + d) (b + d) ≡ nat_eq a b
eq_further a b d =
    ⊎_elim (λ t. eq-eqb (a + d) (b + d) (ap (λ k. k + d) (eqb-true a b t)) ∙ sym t)
    (λ f. ⊎_elim (λ t. absurd (let e = eqb-true (a + d) (b + d) t in eqb-false a b f (omega (arith, e)))) (λ g. g ∙ sym f)
    (cases_Bool (nat_eq (a + d) (b + d))))
    (cases_Bool (nat_eq a b))

abbrev pub on : ℕ → Option ℕ → Option ℕ
on d last = option_map (λ p. p + d) last

module _ {X : Type 0} (begin end : X → ℕ) where
  -- first matches, and the rest
  pub and_rest : (find : ℕ → Option X) {k j : ℕ} {last after : Option ℕ} {ms rest : List X} → Edits.Begins begin end find k last ms j after →
      AreMatches begin end find j after rest → AreMatches begin end find k last (ms ++ rest)
  and_rest find Edits.here a = a
  and_rest find (Edits.goes_on m e more) a = Matches.goes_on m e (and_rest find more a)

  pub kept_are_found : (old new : ℕ → Option X) {k j : ℕ} {last after : Option ℕ} {ms : List X} → Edits.AreKept begin end old new k last ms j after →
      Edits.Begins begin end new k last ms j after
  kept_are_found old new Edits.here = Edits.here
  kept_are_found old new (Edits.goes_on m e same more) = Edits.goes_on m (same ∙ e) (kept_are_found old new more)

  -- the next match ends no earlier than where it was looked for
  unless_on : (find : ℕ → Option X) → FindsOn end find → (k : ℕ) (last : Option ℕ) (o : Option X) (m : X) → find k ≡ o →
      unless_again begin end find k last o ≡ Some m → k ≤ end m
  unless_on find finds k last None m was e = absurd (none-some m e)
  unless_on find finds k last (Some n) m was e =
      ⊎_elim (λ t. let h = finds (k + 1) m (rw t at e) in omega (arith, h))
      (λ f. finds k m (was ∙ (rw f at e)))
      (cases_Bool (is_again begin end last n))

  pub next_on : (find : ℕ → Option X) → FindsOn end find → (k : ℕ) (last : Option ℕ) (m : X) → next_match begin end find k last ≡ Some m → k ≤ end m
  next_on find finds k last m e = unless_on find finds k last (find k) m refl e

  module _ (old new : ℕ → Option X) (move : X → X) (d from : ℕ) (moves : IsMove begin end move d) (further : Edits.IsFurther begin end old new move d from) where
    same_again : (last : Option ℕ) (m : X) → is_again begin end (on d last) (move m) ≡ is_again begin end last m
    same_again None m = refl
    same_again (Some l) m =
        let a = moves m in
        ap₂ ◌&&◌ (ap₂ nat_eq a.0 a.1 ∙ eq_further (begin m) (end m) d) (ap (λ x. nat_eq x (l + d)) a.1 ∙ eq_further (end m) l d)

    unless_moved : (k : ℕ) (last : Option ℕ) → from ≤ k → (o : Option X) →
        unless_again begin end new (k + d) (on d last) (option_map move o) ≡ option_map move (unless_again begin end old k last o)
    unless_moved k last h None = refl
    unless_moved k last h (Some m) =
        let one : (k + d) + 1 ≡ (k + 1) + d = omega arith in
        let next : new ((k + d) + 1) ≡ option_map move (old (k + 1)) = ap new one ∙ further (k + 1) (omega (arith, h)) in
        ap (λ b. if b then new ((k + d) + 1) else Some (move m)) (same_again last m)
        ∙ ⊎_elim (λ t. rw t next) (λ f. rw f refl) (cases_Bool (is_again begin end last m))

    pub next_moved : (k : ℕ) (last : Option ℕ) → from ≤ k →
        next_match begin end new (k + d) (on d last) ≡ option_map move (next_match begin end old k last)
    next_moved k last h = ap (unless_again begin end new (k + d) (on d last)) (further k h) ∙ unless_moved k last h (old k)

    -- the list of the old, moved on
    pub moved : FindsOn end old → {k : ℕ} {last : Option ℕ} {ms : List X} → from ≤ k → AreMatches begin end old k last ms →
        AreMatches begin end new (k + d) (on d last) (map move ms)
    moved finds {k} {last} h (Matches.ends e) = Matches.ends (next_moved k last h ∙ ap (option_map move) e)
    moved finds {k} {last} h (Matches.goes_on {ms = ms} m e rest) =
        let low = next_on old finds k last m e in
        Matches.goes_on (move m) (next_moved k last h ∙ ap (option_map move) e)
        (subst (λ p. AreMatches begin end new p (Some p) (map move ms)) (sym (moves m).1) (moved finds (omega (arith, h, low)) rest))

    none_of : (o : Option X) → option_map move o ≡ None → o ≡ None
    none_of None e = refl
    none_of (Some m) e = absurd (none-some (move m) (sym e))

    some_of : (o : Option X) (m : X) → option_map move o ≡ Some m → (n : X) × (o ≡ Some n) × (move n ≡ m)
    some_of None m e = absurd (none-some m e)
    some_of (Some n) m e = (n, refl, same_Some (move n) m e)

    -- the list of the second, moved back
    pub moved_back : FindsOn end old → {j : ℕ} {after : Option ℕ} {ms : List X} → AreMatches begin end new j after ms → (k : ℕ) (last : Option ℕ) →
        j ≡ k + d → after ≡ on d last → from ≤ k → (less : List X) × (ms ≡ map move less) × AreMatches begin end old k last less
    moved_back finds (Matches.ends e) k last at was h = (
      [],
      refl,
      Matches.ends (none_of (next_match begin end old k last)
          (sym (next_moved k last h) ∙ sym (ap₂ (next_match begin end new) at was) ∙ e)),
    )
    moved_back finds (Matches.goes_on {ms = ms} m e rest) k last at was h =
        let r = some_of (next_match begin end old k last) m (sym (next_moved k last h) ∙ sym (ap₂ (next_match begin end new) at was) ∙ e) in
        let low = next_on old finds k last r.0 r.1 in
        let there : end m ≡ end r.0 + d = sym (ap end r.2) ∙ (moves r.0).1 in
        let b = moved_back finds rest (end r.0) (Some (end r.0)) there (ap Some there) (omega (arith, h, low)) in
        (r.0 ∷ b.0, ap₂ ◌∷◌ (sym r.2) b.1, Matches.goes_on r.0 r.1 b.2)

  -- what is kept, what is found anew, and what is moved
  pub longer : (old new : ℕ → Option X) (move : X → X) (d : ℕ) → IsMove begin end move d → FindsOn end old → {kept anew rest : List X} {i k : ℕ}
      {last after : Option ℕ} → Edits.AreKept begin end old new 0 None kept i last → Edits.Begins begin end new i last anew (k + d) (on d after) →
      Edits.IsFurther begin end old new move d k → AreMatches begin end old k after rest →
      AreMatches begin end new 0 None (kept ++ (anew ++ map move rest))
  longer old new move d moves finds {k = k} kept anew further rest =
      and_rest new (kept_are_found old new kept) (and_rest new anew (moved old new move d k moves further finds (omega arith) rest))

  pub shorter : (old new : ℕ → Option X) (move : X → X) (d : ℕ) → IsMove begin end move d → FindsOn end new → {kept anew rest : List X} {i k : ℕ}
      {last after : Option ℕ} → Edits.AreKept begin end old new 0 None kept i last → Edits.Begins begin end new i last anew k after →
      Edits.IsNearer begin end old new move d k → AreMatches begin end old (k + d) (on d after) rest →
      (less : List X) × (rest ≡ map move less) × AreMatches begin end new 0 None (kept ++ (anew ++ less))
  shorter old new move d moves finds {k = k} {after = after} kept anew nearer rest =
      let b = moved_back new old move d k moves nearer finds rest k after refl refl (omega arith) in
      (b.0, b.1, and_rest new (kept_are_found old new kept) (and_rest new anew b.2))
