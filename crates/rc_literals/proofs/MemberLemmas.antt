-- The patterns that have a match, where needles give the answers.
use Rattle.std.proofs.Common.{◌≡◌, ◌↔◌, ℕ, zero, suc, ◌≤◌, List, [], ◌∷◌, true, false, true≢false, IsTrue, Option, Some, None, sym, ap, subst, ◌∙◌, refl, arith, inl, inr, nat_eq, slice_get, option_map, eq-eqb}
use Rattle.std.proofs.lemmas.Bool.{cases_Bool}
use Rattle.std.proofs.lemmas.Bool.Decides.{nat_tests}
use Rattle.std.proofs.lemmas.Option.{none-some, same_Some}
use Rattle.rc_text.specs.declared.types.Anchored.{Anchored}
use Rattle.rc_text.specs.declared.types.Anchored.TheVariants.{No, Yes, Pattern}
use Rattle.rc_text.specs.Text.{Searched, low, high}
use Rattle.rc_text.specs.Found.{Found}
use Rattle.rc_program.specs.Program.{Place, accept, is_match_place}
use Rattle.rc_program.specs.Answer.{Search, answer, ends, next_of, only, is_anchored, IsStart}
use Rattle.rc_program.specs.Greatest.{IsSpelledIn, AllowsPattern}
use Rattle.rc_program.specs.Sought.{anchoring_of, search_over}
use Rattle.rc_program.proofs.AnswerLemmas.{walk_ends}
use Rattle.rc_program.proofs.GreatestLemmas.{answer_spelled, greatest_law, other_ends}
use Rattle.rc_needles.specs.declared.hit.Hit.{Hit}
use Rattle.rc_needles.specs.Needles.{needle_at, prefix_needle}
use Rattle.rc_needles.proofs.FindLemmas.{prefix_is}
use Rattle.rc_needles.proofs.RelationLemmas.{first_to, none_to}
use Rattle.rc_literals.specs.Answers.{Owned, OwnsAt, OwnsBy, Owns, found_for, literal_answer, own_needles}

-- The needles of a pattern are those that it owns.

-- one of all needles
record IsNeedle (owners : List ℕ) (needles : List (List ℕ)) (p : ℕ) (w : List ℕ) : Type 0 where
  number : ℕ
  is : slice_get needles number ≡ Some w
  owned : slice_get owners number ≡ Some p

needle_more : (q : ℕ) (owners : List ℕ) (v : List ℕ) (needles : List (List ℕ)) (p : ℕ) (w : List ℕ) → IsNeedle owners needles p w →
    IsNeedle (q ∷ owners) (v ∷ needles) p w
needle_more q owners v needles p w r = record { number = suc r.number; is = r.is; owned = r.owned }

own_is : (p : ℕ) (owners : List ℕ) (needles : List (List ℕ)) (j : ℕ) (w : List ℕ) → slice_get (own_needles p owners needles) j ≡ Some w → IsNeedle owners needles p w
own_is p [] needles j w e = absurd (none-some w e)
own_is p (q ∷ qs) [] j w e = absurd (none-some w e)
own_is p (q ∷ qs) (v ∷ vs) j w e =
    elim (cases_Bool (nat_eq q p)) [
      | inl own ↦
          let is : q ≡ p = grind (arith, nat_tests) in
          by_place is (λ k f. own_is p qs vs k w f) j (rw own at e)
      | inr other ↦ needle_more q qs v vs p w (own_is p qs vs j w (rw other at e))
    ]
  where
    by_place : q ≡ p → ((k : ℕ) → slice_get (own_needles p qs vs) k ≡ Some w → IsNeedle qs vs p w) → (j : ℕ) → slice_get (v ∷ own_needles p qs vs) j ≡ Some w → IsNeedle (q ∷ qs) (v ∷ vs) p w
    by_place is later zero f = record { number = 0; is = f; owned = ap (λ x. Some x) is }
    by_place is later (suc j) f = needle_more q qs v vs p w (later j f)

own_has : (p : ℕ) (owners : List ℕ) (needles : List (List ℕ)) (k : ℕ) (w : List ℕ) → slice_get needles k ≡ Some w → slice_get owners k ≡ Some p →
    (j : ℕ) × (slice_get (own_needles p owners needles) j ≡ Some w)
own_has p [] needles k w is owned = absurd (none-some p owned)
own_has p (q ∷ qs) [] k w is owned = absurd (none-some w is)
own_has p (q ∷ qs) (v ∷ vs) zero w is owned = rw (eq-eqb q p (same_Some q p owned)) (0, is)
own_has p (q ∷ qs) (v ∷ vs) (suc k) w is owned =
    let r = own_has p qs vs k w is owned in
    elim (cases_Bool (nat_eq q p)) [
      | inl own ↦ rw own (suc r.0, r.1)
      | inr other ↦ rw other r
    ]

-- the first of them that occurs
pub hit_owned : (o : Owned) (content : List ℕ) (hi p i : ℕ) (h : Hit) → needle_at (own_needles p o.owners o.needles) content hi i ≡ Some h →
    OwnsAt o content hi p i
hit_owned o content hi p i h e =
    let r = first_to (own_needles p o.owners o.needles) content hi i h e in
    let n = own_is p o.owners o.needles h.number r.needle r.is in
    record { number = n.number; needle = r.needle; is = n.is; owned = n.owned; stands = r.stands }

pub not_owned : (o : Owned) (content : List ℕ) (hi p i : ℕ) → needle_at (own_needles p o.owners o.needles) content hi i ≡ None →
    ¬ OwnsAt o content hi p i
not_owned o content hi p i e at =
    let j = own_has p o.owners o.needles at.number at.needle at.is at.owned in
    none_to (own_needles p o.owners o.needles) content hi i e j.0 at.needle j.1 at.stands

-- A search of one pattern from one start.

module _ (places : List Place) (terminator : ℕ) (o : Owned)
    (answers : (s : Searched) → answer (search_over places terminator false s) ≡ literal_answer o s) (s : Searched) (p : ℕ) where
  abbrev S : Search
  S = search_over places terminator false s

  abbrev alone : ℕ → Searched
  alone i = record s { span = record { start = i; end = s.span.end }; anchored = Pattern p }

  abbrev Alone : ℕ → Search
  Alone i = search_over places terminator false (alone i)

  -- it begins there
  begins : (i : ℕ) → low s ≤ i → low (alone i) ≡ i
  begins i le = omega (arith, le)

  spelled_alone : (m : Found) → m.pattern ≡ p → IsSpelledIn S m → IsSpelledIn (Alone m.start) m
  spelled_alone m is h =
      let b = begins m.start h.is_start.0 in
      record {
        is_start = (omega (arith, b), h.is_start.1, λ _. sym b);
        walk = h.walk;
        is_walk = other_ends (next_of S) (λ n. IsTrue (ends S n)) (λ n. IsTrue (ends (Alone m.start) n)) h.is_walk
            (ap (is_match_place (Some p)) h.pattern ∙ eq-eqb m.pattern p is);
        pattern = h.pattern;
        position = h.position;
      }

  spelled_among : (i : ℕ) (m : Found) → low s ≤ i → IsStart S i → AllowsPattern S p → m.pattern ≡ p → IsSpelledIn (Alone i) m → IsSpelledIn S m
  spelled_among i m le start allowed is h =
      let at : m.start ≡ i = h.is_start.2 refl ∙ begins i le in
      record {
        is_start = subst (IsStart S) (sym at) start;
        walk = h.walk;
        is_walk = other_ends (next_of S) (λ n. IsTrue (ends (Alone i) n)) (λ n. IsTrue (ends S n)) h.is_walk
            (ap (is_match_place (only S.anchoring)) h.pattern ∙ subst (AllowsPattern S) (sym is) allowed);
        pattern = h.pattern;
        position = h.position;
      }

  abbrev own_hit : ℕ → Option Hit
  own_hit i = prefix_needle (own_needles p o.owners o.needles) s.content (low (alone i)) (high s)

  -- the needle there
  needle_there : (i : ℕ) → low s ≤ i → needle_at (own_needles p o.owners o.needles) s.content (high s) i ≡ own_hit i
  needle_there i le =
      ap (λ x. needle_at (own_needles p o.owners o.needles) s.content (high s) x) (sym (begins i le))
      ∙ prefix_is (own_needles p o.owners o.needles) s.content (low (alone i)) (high s)

  no_answer : (m : Found) → IsSpelledIn (Alone m.start) m → ¬ (answer (Alone m.start) ≡ None)
  no_answer m h e = (greatest_law.none (Alone m.start)).0 ((greatest_law.same_none (Alone m.start) refl).1 e) m h

  owned_if_spelled : (m : Found) → m.pattern ≡ p → IsSpelledIn S m → OwnsAt o s.content (high s) p m.start
  owned_if_spelled m is h = by_hit (own_hit m.start) refl
    where
      by_hit : (x : Option Hit) → own_hit m.start ≡ x → OwnsAt o s.content (high s) p m.start
      by_hit None e = absurd (no_answer m (spelled_alone m is h) (answers (alone m.start) ∙ ap (option_map (found_for (Some p) o)) e))
      by_hit (Some hit) e = hit_owned o s.content (high s) p m.start hit (needle_there m.start h.is_start.0 ∙ e)

  spelled_if_owned : (i : ℕ) → IsStart S i → AllowsPattern S p → OwnsAt o s.content (high s) p i → (m : Found) × (m.pattern ≡ p) × IsSpelledIn S m
  spelled_if_owned i start allowed at = by_hit (own_hit i) refl
    where
      by_hit : (x : Option Hit) → own_hit i ≡ x → (m : Found) × (m.pattern ≡ p) × IsSpelledIn S m
      by_hit None e = absurd (not_owned o s.content (high s) p i (needle_there i start.0 ∙ e) at)
      by_hit (Some hit) e =
          let m = found_for (Some p) o hit in
          let found : answer (Alone i) ≡ Some m = answers (alone i) ∙ ap (option_map (found_for (Some p) o)) e in
          (m, refl, spelled_among i m start.0 start allowed refl (answer_spelled (Alone i) m found))

  -- By the anchoring.

  abbrev IsTried : Type 0
  IsTried = (i : ℕ) × IsStart S i × AllowsPattern S p × OwnsAt o s.content (high s) p i

  tried_owns : (i : ℕ) → IsStart S i → AllowsPattern S p → OwnsAt o s.content (high s) p i → (a : Anchored) → s.anchored ≡ a →
      OwnsBy o s.content (low s) (high s) p a
  tried_owns i start allowed at No e = (i, start.0, at)
  tried_owns i start allowed at Yes e =
      subst (λ x. OwnsAt o s.content (high s) p x) (start.2 (ap (λ x. is_anchored (anchoring_of x)) e)) at
  tried_owns i start allowed at (Pattern r) e =
      let test : nat_eq p r ≡ true = sym (ap (λ x. is_match_place (only (anchoring_of x)) (accept p)) e) ∙ allowed in
      let same : p ≡ r = grind (arith, nat_tests) in
      (same, subst (λ x. OwnsAt o s.content (high s) p x) (start.2 (ap (λ x. is_anchored (anchoring_of x)) e)) at)

  at_most : (i : ℕ) → OwnsAt o s.content (high s) p i → i ≤ high s
  at_most i at = let le = at.stands.0 in omega (arith, le)

  owns_tried : (a : Anchored) → s.anchored ≡ a → OwnsBy o s.content (low s) (high s) p a → IsTried
  owns_tried No e owns = (
    owns.0,
    (owns.1, at_most owns.0 owns.2, λ t. absurd (true≢false (sym t ∙ ap (λ x. is_anchored (anchoring_of x)) e))),
    ap (λ x. is_match_place (only (anchoring_of x)) (accept p)) e,
    owns.2,
  )
  owns_tried Yes e owns = (
    low s,
    (omega arith, at_most (low s) owns, λ t. refl),
    ap (λ x. is_match_place (only (anchoring_of x)) (accept p)) e,
    owns,
  )
  owns_tried (Pattern r) e owns = (
    low s,
    (omega arith, at_most (low s) owns.1, λ t. refl),
    ap (λ x. is_match_place (only (anchoring_of x)) (accept p)) e ∙ eq-eqb p r owns.0,
    owns.1,
  )

  allowed_if_spelled : (m : Found) → m.pattern ≡ p → IsSpelledIn S m → AllowsPattern S p
  allowed_if_spelled m is h =
      subst (AllowsPattern S) is
      (sym (ap (is_match_place (only S.anchoring)) h.pattern) ∙ walk_ends (next_of S) (λ n. IsTrue (ends S n)) h.is_walk)

  -- a pattern has a match exactly if a needle of it occurs
  pub members_are : ((m : Found) × (m.pattern ≡ p) × IsSpelledIn S m) ↔ Owns o s p
  members_are = (
    λ x. tried_owns x.0.start x.2.is_start (allowed_if_spelled x.0 x.1 x.2) (owned_if_spelled x.0 x.1 x.2) s.anchored refl,
    λ owns. let r = owns_tried s.anchored refl owns in spelled_if_owned r.0 r.1 r.2 r.3,
  )
