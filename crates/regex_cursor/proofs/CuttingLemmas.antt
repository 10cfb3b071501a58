-- What two searches answer over inputs that are equal but for how they are cut.
use Rattle.std.proofs.Common.{◌≡◌, ◌⊎◌, ℕ, ◌<◌, ◌≤◌, Bool, true, false, not, ◌||◌, is_some, Option, Some, None, Result, Ok, Err, IfOk, sym, ap, ap₂, subst, ◌∙◌, refl, arith, inl, inr, ⊎_elim, true≢false}
use Rattle.std.proofs.lemmas.Bool.{and_parts}
use Rattle.std.specs.Option.{option_map}
use Rattle.rc_text.specs.Found.{Found, HalfFound, half_of}
use Rattle.rc_text.specs.Text.{Searched, Keeps, is_boundary}
use Rattle.rc_text.specs.declared.types.MatchKind.{MatchKind}
use Rattle.rc_text.specs.declared.types.MatchError.{MatchError}
use Rattle.rc_text.specs.declared.types.MatchKind.TheVariants.{All as all_matches, LeftmostFirst as leftmost_first, LeftmostLongest as leftmost_longest}
use Rattle.rc_program.specs.Program.{program, shown}
use Rattle.rc_program.specs.Answer.{Search}
use Rattle.rc_program.specs.Greatest.{IsSpelledIn}
use Rattle.rc_program.specs.Kinds.{answer_by, is_early, IsAnswerBy, IsAnswerWhere, IsEarlyAnswer}
use Rattle.rc_program.specs.Sought.{Sought, passes_over, search_for}
use Rattle.rc_program.proofs.AnswerLemmas.{answer_law}
use Rattle.rc_program.proofs.GreatestLemmas.{no_answer_no_span}
use Rattle.rc_program.proofs.KindLemmas.{kinds_law, missing_by}
use Rattle.rc_pikevm_search.proofs.Steps.{search_kept}
use Rattle.rc_dfa_search.specs.Halves.{IsForwardHalf, IsToldWith}
use Rattle.rc_dfa_search.specs.Leftmost.{IsLeftmost}
use Rattle.rc_dfa_search.specs.Reverse.{HasNoStart, IsLeastStart, IsReverseHalf, IsStartWhere}
use Rattle.regex_cursor.specs.Cuttings.{AreAlike, EnginesLaw}

both_ok : {A : Type 0} (P Q : Option A → Type 0) (a b : Result (Option A) MatchError) → ((m n : Option A) → P m → Q n → m ≡ n) → IfOk a P → IfOk b Q → AreAlike a b
both_ok P Q (Ok m) (Ok n) f p q = f m n p q
both_ok P Q (Ok m) (Err e) f p q = tt
both_ok P Q (Err e) b f p q = tt

kept : (q : Sought) (s t : Searched) → Keeps s t → search_for q t ≡ search_for q s
kept q s t = search_kept (program (shown q.grouped q.patterns)) q.terminator (passes_over q) s t

-- what the second is said to answer, in the terms of the first
of_first : {A : Type 0} (P : Bool → Search → Option A → Type 0) (q : Sought) (s t : Searched) (k : Keeps s t) (b : Result (Option A) MatchError) →
    IfOk b (P t.earliest (search_for q t)) → IfOk b (P s.earliest (search_for q s))
of_first P q s t k b h =
    subst (λ e. IfOk b (P e (search_for q s))) k.earliest (subst (λ x. IfOk b (P t.earliest x)) (kept q s t k) h)

not_true : (b : Bool) → not b ≡ true → b ≡ false
not_true true e = absurd (true≢false (sym e))
not_true false e = refl

module _ (q : Sought) (s t : Searched) (k : Keeps s t) where
  abbrev S : Search
  S = search_for q s

  module _ (kind : MatchKind) (a b : Result (Option Found) MatchError) (ha : IfOk a (IsAnswerBy kind s.earliest S))
      (hb : IfOk b (IsAnswerBy kind t.earliest (search_for q t))) where
    hb_first : IfOk b (IsAnswerBy kind s.earliest S)
    hb_first = of_first (IsAnswerBy kind) q s t k b hb

    same_match : is_early s.earliest S ≡ false → AreAlike a b
    same_match off =
        both_ok (IsAnswerBy kind s.earliest S) (IsAnswerBy kind s.earliest S) a b
        (λ m n x y. subst (λ e. IsAnswerWhere e kind S m) off x ∙ sym (subst (λ e. IsAnswerWhere e kind S n) off y)) ha hb_first

    -- where any match may be told, none is passed over
    off_of : is_early s.earliest S ≡ true → S.passes_over ≡ false
    off_of e = not_true S.passes_over (and_parts s.earliest (not S.passes_over) e).1

    -- a match that is spelled is one of the kind's, or there is another
    spelled_there : is_early s.earliest S ≡ true → (m : Found) → IsSpelledIn S m → (o : Option Found) → answer_by kind S ≡ o → true ≡ is_some o
    spelled_there early m h (Some n) e = refl
    spelled_there early m h None e =
        let off = off_of early in
        let none = (kinds_law.missing kind s.earliest S off).0 ((missing_by kind s.earliest S).1 e) in
        absurd (no_answer_no_span S off ((answer_law.answer_none S).0 none) m h)

    there_by : (e : Bool) → is_early s.earliest S ≡ e → (o : Option Found) → IsAnswerWhere e kind S o → is_some o ≡ is_some (answer_by kind S)
    there_by false is o h = ap is_some h
    there_by true is None h = ap is_some (sym h)
    there_by true is (Some m) h = spelled_there is m h (answer_by kind S) refl

    there : (o : Option Found) → IsAnswerBy kind s.earliest S o → is_some o ≡ is_some (answer_by kind S)
    there o h = there_by (is_early s.earliest S) refl o h

    same_finds : IfOk a (λ m. IfOk b (λ n. is_some m ≡ is_some n))
    same_finds = go a b ha hb_first
      where
        go : (a b : Result (Option Found) MatchError) → IfOk a (IsAnswerBy kind s.earliest S) → IfOk b (IsAnswerBy kind s.earliest S) →
            IfOk a (λ m. IfOk b (λ n. is_some m ≡ is_some n))
        go (Ok m) (Ok n) x y = there m x ∙ sym (there n y)
        go (Ok m) (Err e) x y = tt
        go (Err e) b x y = tt

  -- THE END

  -- the pattern that is told with the end is the match's
  own_pattern : (kind : MatchKind) (m : Found) (p : ℕ) → IsLeftmost kind → IsToldWith kind S m p → p ≡ m.pattern
  own_pattern leftmost_first m p l h = h
  own_pattern leftmost_longest m p l h = h
  own_pattern all_matches m p l h = absurd l

  module _ (kind : MatchKind) (leftmost : IsLeftmost kind) where
    end_is : (o : Option HalfFound) → is_early s.earliest S ≡ false → IsForwardHalf kind s.earliest S o → o ≡ option_map half_of (answer_by kind S)
    end_is None off h = ap (option_map half_of) (subst (λ e. IsAnswerWhere e kind S None) off h)
    end_is (Some half) off h =
        let is = subst (λ e. IsAnswerWhere e kind S (Some h.0)) off h.1 in
        let own = own_pattern kind h.0 half.pattern leftmost h.3 in
        ap₂ (λ (p x : ℕ). let f : HalfFound = record { pattern = p; offset = x } in Some f) own h.2 ∙ ap (option_map half_of) is

    same_end : (a b : Result (Option HalfFound) MatchError) → is_early s.earliest S ≡ false → IfOk a (IsForwardHalf kind s.earliest S) →
        IfOk b (IsForwardHalf kind t.earliest (search_for q t)) → AreAlike a b
    same_end a b off ha hb =
        both_ok (IsForwardHalf kind s.earliest S) (IsForwardHalf kind s.earliest S) a b
        (λ m n x y. end_is m off x ∙ sym (end_is n off y)) ha (of_first (IsForwardHalf kind) q s t k b hb)

  -- THE START

  least_same : (m n : HalfFound) → IsLeastStart S m → IsLeastStart S n → m ≡ n
  least_same m n hm hn =
      let am = hm.is_spelled.within.0 in
      let an = hn.is_spelled.within.0 in
      let mn = hm.is_least n.offset n.pattern an hn.is_spelled.is_spelled in
      let nm = hn.is_least m.offset m.pattern am hm.is_spelled.is_spelled in
      ap₂ (λ (p x : ℕ). let f : HalfFound = record { pattern = p; offset = x } in f) (pattern_same m n mn nm) (offset_same m n mn nm)
    where
      offset_same : (m n : HalfFound) → (m.offset < n.offset) ⊎ ((m.offset ≡ n.offset) × (m.pattern ≤ n.pattern)) →
          (n.offset < m.offset) ⊎ ((n.offset ≡ m.offset) × (n.pattern ≤ m.pattern)) → m.offset ≡ n.offset
      offset_same m n (inr x) y = x.0
      offset_same m n (inl x) (inr y) = sym y.0
      offset_same m n (inl x) (inl y) = omega (arith, x, y)

      pattern_same : (m n : HalfFound) → (m.offset < n.offset) ⊎ ((m.offset ≡ n.offset) × (m.pattern ≤ n.pattern)) →
          (n.offset < m.offset) ⊎ ((n.offset ≡ m.offset) × (n.pattern ≤ m.pattern)) → m.pattern ≡ n.pattern
      pattern_same m n (inr x) (inr y) = omega (arith, x.1, y.1)
      pattern_same m n (inr x) (inl y) = omega (arith, x.0, y)
      pattern_same m n (inl x) (inr y) = omega (arith, x, y.0)
      pattern_same m n (inl x) (inl y) = omega (arith, x, y)

  some_none : (m : HalfFound) → is_early s.earliest S ≡ false → IsReverseHalf s.earliest S (Some m) → IsReverseHalf s.earliest S None → ⊥
  some_none m off x (inl none) =
      let l = subst (λ e. IsStartWhere e S m) off x.0 in
      none m.offset m.pattern l.is_spelled.within.0 l.is_spelled.is_spelled
  some_none m off x (inr barred) = true≢false (sym x.1 ∙ ap₂ (λ (a b : Bool). not a || b) barred.0 barred.1)

  start_same : (m n : Option HalfFound) → is_early s.earliest S ≡ false → IsReverseHalf s.earliest S m → IsReverseHalf s.earliest S n → m ≡ n
  start_same None None off x y = refl
  start_same None (Some n) off x y = absurd (some_none n off y x)
  start_same (Some m) None off x y = absurd (some_none m off x y)
  start_same (Some m) (Some n) off x y =
      ap Some (least_same m n (subst (λ e. IsStartWhere e S m) off x.0) (subst (λ e. IsStartWhere e S n) off y.0))

  same_start : (a b : Result (Option HalfFound) MatchError) → is_early s.earliest S ≡ false → IfOk a (IsReverseHalf s.earliest S) →
      IfOk b (IsReverseHalf t.earliest (search_for q t)) → AreAlike a b
  same_start a b off ha hb =
      both_ok (IsReverseHalf s.earliest S) (IsReverseHalf s.earliest S) a b (λ m n x y. start_same m n off x y) ha
      (of_first IsReverseHalf q s t k b hb)

pub engines_law : EnginesLaw
engines_law = record {
  searches = kept;
  matches = λ q kind s t a b k off ha hb. same_match q s t k kind a b ha hb off;
  finds = λ q kind s t a b k ha hb. same_finds q s t k kind a b ha hb;
  ends = λ q kind s t a b leftmost k off ha hb. same_end q s t k kind leftmost a b off ha hb;
  starts = λ q s t a b k off ha hb. same_start q s t k a b off ha hb;
}
