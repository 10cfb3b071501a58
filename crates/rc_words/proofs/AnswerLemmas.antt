-- A word that is the only one is the leftmost match.
use Rattle.std.proofs.Common.{◌≡◌, ℕ, ◌≤◌, List, true, false, true≢false, Option, Some, None, sym, ap, ap₂, ◌∙◌, refl, arith, inl, inr, ⊎_elim}
use Rattle.std.proofs.lemmas.Bool.{cases_lt}
use Rattle.rc_text.specs.Found.{Found}
use Rattle.rc_text.specs.Text.{Searched, low, high}
use Rattle.rc_text.specs.declared.types.Anchored.TheVariants.{No}
use Rattle.rc_walks.specs.Walks.{Pair}
use Rattle.rc_program.specs.Text.{Text}
use Rattle.rc_program.specs.Program.{Place, accept, is_match_place}
use Rattle.rc_program.specs.Answer.{Search, IsStart, answer, is_allowed, is_anchored, only}
use Rattle.rc_program.specs.Greatest.{HasNoSpan, IsSpelledIn}
use Rattle.rc_program.specs.Longest.{longest}
use Rattle.rc_program.specs.Sought.{anchoring_of, search_over, text_of}
use Rattle.rc_program.proofs.AnswerLemmas.{answer_law}
use Rattle.rc_program.proofs.GreatestLemmas.{answer_spelled, no_answer_no_span, no_span_no_answer}
use Rattle.rc_program.proofs.ReachLemmas.{longest_law}
use Rattle.rc_words.specs.Laws.{AreAnswers, HaveNoAnswer, WordLaw, first_pattern}
use Rattle.rc_words.specs.Words.{Between, HasNoWord, IsOnlyWord, SpellWords}
use Rattle.rc_words.proofs.SpellLemmas.{spell_words}

all_allowed : (s : Search) → s.passes_over ≡ false → (w : List Pair) → is_allowed s w ≡ true
all_allowed s off w = rw off refl

-- the answer begins no later than what is spelled
first_least : (s : Search) (m n : Found) → s.passes_over ≡ false → answer s ≡ Some m → IsSpelledIn s n → m.start ≤ n.start
first_least s m n off e h =
    let r = (answer_law.answer_some s m).0 e in
    let same : r.0.start ≡ m.start = ap (λ (f : Found). f.start) r.2 in
    elim (cases_lt n.start r.0.start) [
      | inl l ↦
          absurd (⊎_elim (λ no. no h.walk h.is_walk) (λ q. true≢false (sym (all_allowed s off q.0) ∙ q.2)) (r.1.none_before n.start h.is_start l))
      | inr g ↦ omega (arith, same, g)
    ]

longest_least : (s : Search) (m n : Found) → s.passes_over ≡ false → longest s ≡ Some m → IsSpelledIn s n → m.start ≤ n.start
longest_least s m n off e h =
    let r = (longest_law.answer_some s m).0 e in
    let same : r.0.start ≡ m.start = ap (λ (f : Found). f.start) r.2 in
    elim (cases_lt n.start r.0.start) [
      | inl l ↦
          absurd (⊎_elim (λ no. no h.walk h.is_walk) (λ q. true≢false (sym (all_allowed s off q.0) ∙ q.2)) (r.1.none_before n.start h.is_start l))
      | inr g ↦ omega (arith, same, g)
    ]

same_found : (m : Found) (x y : ℕ) → m.pattern ≡ 0 → m.start ≡ x → m.end ≡ y → m ≡ first_pattern x y
same_found m x y p a b =
    let f : ℕ → ℕ → ℕ → Found = λ k i j. record { pattern = k; start = i; end = j } in
    ap (λ k. f k m.start m.end) p ∙ ap₂ (λ i j. f 0 i j) a b

module _ (places : List Place) (terminator : ℕ) (b : Between) (s : Searched) (spell : SpellWords places terminator b) (free : s.anchored ≡ No) where
  abbrev S : Search
  S = search_over places terminator false s

  abbrev t : Text
  t = text_of terminator s

  only_answer : (i j : ℕ) → IsOnlyWord b t (low s) (high s) i j → AreAnswers places terminator s (first_pattern i j)
  only_answer i j o =
      let fits = o.here.1.stands.0 in
      let start : IsStart S i =
      (o.low, omega (arith, fits), λ on. absurd (true≢false (sym on ∙ ap (λ a. is_anchored (anchoring_of a)) free))) in
      let allowed : is_match_place (only (anchoring_of s.anchored)) (accept 0) ≡ true =
      ap (λ a. is_match_place (only (anchoring_of a)) (accept 0)) free in
      let here : IsSpelledIn S (first_pattern i j) = (spell false s (first_pattern i j)).1 (start, allowed, refl, o.here) in
      (first_by here (answer S) refl, longest_by here (longest S) refl)
    where
      unique : (m : Found) → IsSpelledIn S m → m.start ≤ i → m ≡ first_pattern i j
      unique m h le =
          let p = (spell false s m).0 h in
          let q = o.only m.start m.end p.0.0 le p.3 in
          same_found m i j p.2 q.0 q.1

      first_by : IsSpelledIn S (first_pattern i j) → (a : Option Found) → answer S ≡ a → answer S ≡ Some (first_pattern i j)
      first_by here None e = absurd (no_answer_no_span S refl ((answer_law.answer_none S).0 e) (first_pattern i j) here)
      first_by here (Some m) e = e ∙ ap (λ f. Some f) (unique m (answer_spelled S m e) (first_least S m (first_pattern i j) refl e here))

      longest_by : IsSpelledIn S (first_pattern i j) → (a : Option Found) → longest S ≡ a → longest S ≡ Some (first_pattern i j)
      longest_by here None e =
          absurd (no_answer_no_span S refl ((answer_law.answer_none S).0 ((longest_law.same_none S refl).0 e)) (first_pattern i j) here)
      longest_by here (Some m) e = e ∙ ap (λ f. Some f) (unique m (longest_law.spelled S m e) (longest_least S m (first_pattern i j) refl e here))

  no_answer : HasNoWord b t (low s) (high s) → HaveNoAnswer places terminator s
  no_answer none =
      let empty : HasNoSpan S = λ m h. let p = (spell false s m).0 h in none m.start m.end p.0.0 p.3 in
      let first : answer S ≡ None = (answer_law.answer_none S).1 (no_span_no_answer S empty) in
      (first, (longest_law.same_none S refl).1 first)

pub word_law : WordLaw
word_law = record {
  spell = spell_words;
  only = λ places terminator b s i j spell free o. only_answer places terminator b s spell free i j o;
  none = λ places terminator b s spell free none. no_answer places terminator b s spell free none;
}
