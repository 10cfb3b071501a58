-- Which patterns have a match, by where the first walk begins.
use Rattle.std.proofs.Common.{◌≡◌, ◌∙◌, ℕ, ◌<◌, ◌≤◌, Bool, true, false, not, ◌||◌, true≢false, List, length, Option, Some, None, set, ⊎_elim, inl, inr, ap, sym, subst, refl, arith, max}
use Rattle.std.specs.Prelude.{is_some}
use Rattle.std.proofs.lemmas.Bool.{cases_lt}
use Rattle.std.proofs.lemmas.List.{length-set}
use Rattle.std.proofs.lemmas.Option.{slice_get_within}
use Rattle.rc_text.specs.Found.{Found}
use Rattle.rc_text.specs.Text.{Searched, Keeps, KeepsText, is_boundary, low}
use Rattle.rc_text.specs.declared.types.MatchKind.{MatchKind}
use Rattle.rc_text.specs.declared.types.MatchKind.TheVariants.{All as all_matches, LeftmostFirst as leftmost_first, LeftmostLongest as leftmost_longest}
use Rattle.rc_pattern_set.specs.Sets.{Has}
use Rattle.rc_pattern_set.proofs.SetLemmas.{has_set, set_has, set_keeps}
use Rattle.rc_walks.specs.Walks.{Pair}
use Rattle.rc_program.specs.Answer.{Search, Chosen, IsFirstFrom, IsStart, last_of}
use Rattle.rc_program.specs.Greatest.{HasNoSpan, IsSpelledIn}
use Rattle.rc_program.specs.Kinds.{IsAnswerBy, answer_by}
use Rattle.rc_program.specs.Longest.{IsAnswerOf, IsLongestFrom, IsPassedOf}
use Rattle.rc_program.specs.Places.{places_of}
use Rattle.rc_program.proofs.AnswerLemmas.{answer_law}
use Rattle.rc_program.proofs.GreatestLemmas.{greatest_law}
use Rattle.rc_program.proofs.KindLemmas.{kind_spelled, kinds_law}
use Rattle.rc_program.proofs.ReachLemmas.{longest_law}
use Rattle.rc_program.specs.Sought.{search_over}
use Rattle.rc_literals.specs.Answers.{Owned, AddsOwners}
use Rattle.rc_literals.proofs.MemberLemmas.{members_are}
use Rattle.rc_pikevm_search.specs.Engine.{engine_search}
use Rattle.rc_pikevm_search.specs.Literals.{AreAnswers}
use Rattle.rc_pikevm_search.specs.declared.engine.Engine.{Engine}
use Rattle.rc_pikevm.specs.PatternSpans.{AddsSpelled, AreOfFirst}
use Rattle.rc_strategy.specs.Lengths.{BoundsWalks, is_leftmost, leave_none}
use Rattle.rc_strategy.specs.Starts.{IsFirstStart, unpassed}
use Rattle.rc_strategy.specs.declared.lengths.Lengths.{Lengths}
use Rattle.rc_strategy.proofs.SpanLemmas.{none_left}

-- WHERE NOTHING IS SPELLED

-- nothing is added
pub none_adds : (s : Search) (set : List Bool) → HasNoSpan s → AddsSpelled s set set
none_adds s set none = record {
  capacity = refl;
  members = λ p. ((λ h. inl h), (λ h. ⊎_elim (λ a. a) (λ q. absurd (none q.1.0 q.1.2)) h));
}

-- what is known of spans leaves none
pub early_adds : (e : Engine) (k : Lengths) (s : Searched) (b : Bool) (set : List Bool) → BoundsWalks k (places_of e.program.places.items) →
    b ≡ leave_none k s → b ≡ true → AddsSpelled (engine_search e s) set set
early_adds e k s b set bound is so =
    none_adds (engine_search e s) set
    (none_left k (places_of e.program.places.items) e.program.terminator e.program.passes_over s bound (sym is ∙ so))

-- a set that has each pattern that it can hold
pub full_adds : (s : Search) (patterns : ℕ) (marks : List Bool) → AreOfFirst patterns s.places → ((p : ℕ) → p < patterns → p < length marks → Has marks p) →
    AddsSpelled s marks marks
full_adds s patterns marks few all = record {
  capacity = refl;
  members = λ p. (
    λ h. inl h,
    λ h. ⊎_elim (λ a. a) (λ q. all p (subst (λ n. n < patterns) q.1.1 (few s q.1.0 refl q.1.2)) q.0) h,
  );
}

-- there is no match of the kind, and none is passed over
pub no_span : (kind : MatchKind) (s : Search) → s.passes_over ≡ false → None ≡ answer_by kind s → HasNoSpan s
no_span kind s off none =
    let missing = (kinds_law.missing kind false s off).0 in
    (greatest_law.none s).0 ((greatest_law.same_none s off).1 (missing (subst (λ o. IsAnswerBy kind false s o) (sym none) (kinds_law.best kind false s))))

nothing : (o : Option Found) → is_some o ≡ false → None ≡ o
nothing None e = refl
nothing (Some m) e = absurd (true≢false e)

something : (o : Option Found) → is_some o ≡ true → (m : Found) × (o ≡ Some m)
something None e = absurd (true≢false (sym e))
something (Some m) e = (m, refl)

-- a search that tells whether there is one tells none
pub no_span_told : (kind : MatchKind) (s : Search) (b : Bool) → s.passes_over ≡ false → b ≡ is_some (answer_by kind s) → b ≡ false → HasNoSpan s
no_span_told kind s b off is none = no_span kind s off (nothing (answer_by kind s) (sym is ∙ none))

-- for `MatchKind::All`, whether or not matches are passed over
pub no_span_of_all : (kind : MatchKind) (s : Search) (b : Bool) → kind ≡ all_matches → b ≡ is_some (answer_by kind s) → b ≡ false → HasNoSpan s
no_span_of_all kind s b all is none =
    (greatest_law.none s).0 (sym (nothing (answer_by all_matches s) (ap (λ k. is_some (answer_by k s)) (sym all) ∙ sym is ∙ none)))

-- WHERE LITERALS DECIDE

-- the owners of needles that occur are the patterns that have a match
pub owned_adds : (e : Engine) (o : Owned) (s : Searched) (old new : List Bool) → e.program.passes_over ≡ false →
    AreAnswers (places_of e.program.places.items) e.program.terminator e.program.passes_over o → AddsOwners o s old new →
    AddsSpelled (engine_search e s) old new
owned_adds e o s old new off answers adds =
    let places = places_of e.program.places.items in
    let by = members_are places e.program.terminator o (subst (λ b. AreAnswers places e.program.terminator b o) off answers) s in
    subst (λ b. AddsSpelled (search_over places e.program.terminator b s) old new) (sym off)
    (record {
      capacity = adds.capacity;
      members = λ p. (
        λ h. ⊎_elim (λ a. inl a) (λ q. inr (q.0, (by p).1 q.1)) ((adds.members p).0 h),
        λ h. (adds.members p).1 (⊎_elim (λ a. inl a) (λ q. inr (q.0, (by p).0 q.1)) h),
      );
    })

-- WHERE THERE IS ONE PATTERN

-- it is a member, if anything is spelled
one_adds : (s : Search) (patterns : ℕ) (marks : List Bool) (m : Found) → AreOfFirst patterns s.places → patterns ≡ 1 → IsSpelledIn s m →
    AddsSpelled s marks (set marks 0 true)
one_adds s patterns marks m few one h =
    let first : (n : Found) → IsSpelledIn s n → n.pattern ≡ 0 = λ n g. let l = few s n refl g in omega (arith, l, one) in
    record {
      capacity = length-set marks 0 true;
      members = λ p. (
        λ i. ⊎_elim
            (λ e. inr (
              subst (λ n. p < n) (length-set marks 0 true) (slice_get_within (set marks 0 true) p true i),
              (m, first m h ∙ sym e, h),
            ))
            inl (has_set marks 0 p i),
        λ i. ⊎_elim (λ k. set_keeps marks 0 p k)
            (λ q. let same : 0 ≡ p = sym (first q.1.0 q.1.2) ∙ q.1.1 in
            subst (λ n. Has (set marks 0 true) n) same (set_has marks 0 (subst (λ n. n < length marks) (sym same) q.0))) i,
      );
    }

pub one_told : (kind : MatchKind) (s : Search) (b : Bool) (patterns : ℕ) (marks : List Bool) → AreOfFirst patterns s.places → patterns ≡ 1 →
    b ≡ is_some (answer_by kind s) → b ≡ true → AddsSpelled s marks (set marks 0 true)
one_told kind s b patterns marks few one is some =
    let r = something (answer_by kind s) (sym is ∙ some) in
    one_adds s patterns marks r.0 few one (kind_spelled kind s r.0 r.1)

-- WHERE THE FIRST WALK BEGINS

none_over : (over b : Bool) → over ≡ false → (not over || b) ≡ false → ⊥
none_over false b off e = true≢false e
none_over true b off e = true≢false off

-- a start that gives no answer has no walk, whichever walk of a start counts
no_walk : (s : Search) (Counts : ℕ → List Pair → Type 0) (m : Found) → s.passes_over ≡ false → IsPassedOf s Counts m.start → ¬ IsSpelledIn s m
no_walk s Counts m off passed h = ⊎_elim (λ none. none h.walk h.is_walk) (λ r. none_over s.passes_over (is_boundary s.text.content (last_of r.0).1) off r.2) passed

first_of : (s : Search) (Counts : ℕ → List Pair → Type 0) (c : Chosen) (x : ℕ) → s.passes_over ≡ false → IsAnswerOf s Counts c → c.start ≡ x → IsFirstStart s (Some x)
first_of s Counts c x off a start = (
  subst (IsStart s) start a.is_start,
  λ n h. elim (cases_lt n.start x) [
    | inl lt ↦ absurd (no_walk s Counts n off (a.none_before n.start h.is_start (subst (λ y. n.start < y) (sym start) lt)) h)
    | inr ge ↦ ge
  ],
)

-- where the match of the least start begins, the preferred one or the longest
pub first_told : (kind : MatchKind) (s : Search) (m : Found) → is_leftmost kind ≡ true → s.passes_over ≡ false → answer_by kind s ≡ Some m → IsFirstStart s (Some m.start)
first_told leftmost_first s m l off e =
    let r = (answer_law.answer_some s m).0 e in
    first_of s (IsFirstFrom s) r.0 m.start off ((longest_law.first_is s r.0).1 r.1) (ap (λ (f : Found). f.start) r.2)
first_told leftmost_longest s m l off e =
    let r = (longest_law.answer_some s m).0 e in
    first_of s (IsLongestFrom s) r.0 m.start off r.1 (ap (λ (f : Found). f.start) r.2)
first_told all_matches s m l off e = absurd (true≢false (sym l))

-- the same of what is told
pub least_told : (kind : MatchKind) (s : Search) (o : Option Found) (m : Found) (x : ℕ) → is_leftmost kind ≡ true → s.passes_over ≡ false → o ≡ answer_by kind s → o ≡ Some m →
    x ≡ m.start → IsFirstStart s (Some x)
least_told kind s o m x leftmost off is some at = subst (λ y. IsFirstStart s (Some y)) (sym at) (first_told kind s m leftmost off (sym is ∙ some))

-- WHERE NONE IS PASSED OVER

same_spelled : (s : Search) (over : Bool) (m : Found) → IsSpelledIn s m → IsSpelledIn (record s { passes_over = over }) m
same_spelled s over m h = record { is_start = h.is_start; walk = h.walk; is_walk = h.is_walk; pattern = h.pattern; position = h.position }

spelled_same : (s : Search) (over : Bool) (m : Found) → IsSpelledIn (record s { passes_over = over }) m → IsSpelledIn s m
spelled_same s over m h = record { is_start = h.is_start; walk = h.walk; is_walk = h.is_walk; pattern = h.pattern; position = h.position }

-- there is no match where none is passed over
pub none_unpassed : (kind : MatchKind) (s : Search) → None ≡ answer_by kind (unpassed s) → HasNoSpan s
none_unpassed kind s e m h = no_span kind (unpassed s) refl e m (same_spelled s false m h)

-- where the leftmost match begins, if none is passed over
pub first_unpassed : (kind : MatchKind) (s : Search) (o : Option Found) (m : Found) (x : ℕ) → is_leftmost kind ≡ true → o ≡ answer_by kind (unpassed s) → o ≡ Some m →
    x ≡ m.start → IsFirstStart s (Some x)
first_unpassed kind s o m x leftmost is some at =
    let first = least_told kind (unpassed s) o m x leftmost refl is some at in (first.0, λ n h. first.1 n (same_spelled s false n h))

-- where the one pattern has a match, if none is passed over
pub one_unpassed : (kind : MatchKind) (s : Search) (o : Option Found) (m : Found) (marks : List Bool) → AreOfFirst 1 s.places → o ≡ answer_by kind (unpassed s) →
    o ≡ Some m → AddsSpelled s marks (set marks 0 true)
one_unpassed kind s o m marks few is some =
    one_adds s 1 marks m few refl (spelled_same s false m (kind_spelled kind (unpassed s) m (sym is ∙ some)))

-- that is the match, where the program passes none over
pub passes_none : (e : Engine) (s : Searched) → e.program.passes_over ≡ false →
    answer_by e.kind (engine_search e s) ≡ answer_by e.kind (unpassed (engine_search e s))
passes_none e s off = ap (λ b. answer_by e.kind (search_over (places_of e.program.places.items) e.program.terminator b s)) off

-- where the shown chunk and the position alone change, the search is the same
pub kept_search : (e : Engine) (a b : Searched) → Keeps a b → engine_search e b ≡ engine_search e a
kept_search e a b k = rw (k.content, k.span, k.slice, k.anchored) refl

-- From there on the same is spelled.
module _ (s : Search) (x : ℕ) (first : IsFirstStart s (Some x)) where
  forth : (m : Found) → IsSpelledIn s m → IsSpelledIn (record s { lo = x }) m
  forth m h = record {
    is_start = (first.1 m h, h.is_start.1, λ t. h.is_start.2 t ∙ sym (first.0.2 t));
    walk = h.walk;
    is_walk = h.is_walk;
    pattern = h.pattern;
    position = h.position;
  }

  back : (m : Found) → IsSpelledIn (record s { lo = x }) m → IsSpelledIn s m
  back m h =
      let from = h.is_start.0 in
      let above = first.0.0 in
      record {
        is_start = (omega (arith, from, above), h.is_start.1, λ t. h.is_start.2 t ∙ first.0.2 t);
        walk = h.walk;
        is_walk = h.is_walk;
        pattern = h.pattern;
        position = h.position;
      }

  adds_from : (marks new : List Bool) → AddsSpelled (record s { lo = x }) marks new → AddsSpelled s marks new
  adds_from marks new h = record {
    capacity = h.capacity;
    members = λ p. (
      λ i. ⊎_elim inl (λ q. inr (q.0, (q.1.0, q.1.1, back q.1.0 q.1.2))) ((h.members p).0 i),
      λ i. (h.members p).1 (⊎_elim inl (λ q. inr (q.0, (q.1.0, q.1.1, forth q.1.0 q.1.2))) i),
    );
  }

-- the search of an input whose span begins later
pub input_from : (e : Engine) (a b : Searched) (x : ℕ) → low a ≤ x → KeepsText a b → b.span.start ≡ x → b.span.end ≡ a.span.end → b.slice ≡ a.slice →
    engine_search e b ≡ record (engine_search e a) { lo = x }
input_from e a b x above k start stop slice =
    let bounded : ℕ → Search = λ lo. record (engine_search e a) { lo = lo } in
    let lo : max x a.slice.start ≡ x = omega (arith, above) in
    rw (k.content, k.anchored, slice, start, stop) (ap bounded lo)

-- what a pass over that input adds
pub input_adds : (e : Engine) (a b : Searched) (x : ℕ) (marks new : List Bool) → IsFirstStart (engine_search e a) (Some x) → KeepsText a b → b.span.start ≡ x →
    b.span.end ≡ a.span.end → b.slice ≡ a.slice → AddsSpelled (engine_search e b) marks new → AddsSpelled (engine_search e a) marks new
input_adds e a b x marks new first k start stop slice h =
    adds_from (engine_search e a) x first marks new
    (subst (λ (q : Search). AddsSpelled q marks new) (input_from e a b x first.0.0 k start stop slice) h)
