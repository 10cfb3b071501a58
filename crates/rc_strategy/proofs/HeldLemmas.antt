-- Searches whose matches all begin where they start: anchored there, they give the same.
use Rattle.std.proofs.Common.{◌≡◌, ◌∙◌, ℕ, ◌<◌, Bool, true, false, true≢false, List, Option, Some, None, Result, IfOk, IsTrue, inl, inr, ⊎_elim, ap, sym, subst, refl, arith}
use Rattle.std.proofs.lemmas.Bool.{cases_lt}
use Rattle.std.proofs.lemmas.Result.{IfOk-weaker}
use Rattle.rc_text.specs.Found.{Found}
use Rattle.rc_text.specs.Text.{Searched, Keeps, low, high}
use Rattle.rc_text.specs.declared.types.Anchored.{Anchored}
use Rattle.rc_text.specs.declared.types.Anchored.TheVariants.{No, Yes}
use Rattle.rc_text.specs.declared.types.MatchError.{MatchError}
use Rattle.rc_text.specs.declared.types.MatchKind.{MatchKind}
use Rattle.rc_text.specs.declared.types.MatchKind.TheVariants.{All as all_matches, LeftmostFirst as leftmost_first, LeftmostLongest as leftmost_longest}
use Rattle.rc_walks.specs.Walks.{Pair}
use Rattle.rc_program.specs.Text.{Text}
use Rattle.rc_program.specs.Program.{Place, place_at}
use Rattle.rc_program.specs.Places.{places_of}
use Rattle.rc_program.specs.Answer.{Anchoring, Search, Chosen, HasNoWalkFrom, IsFirstFrom, IsStart, anywhere, answer, at_start, ends, found, last_of, next_of, only}
use Rattle.rc_program.specs.Greatest.{IsSpelledIn, greatest}
use Rattle.rc_program.specs.Kinds.{IsAnswerBy, IsAnswerWhere, answer_by, is_early}
use Rattle.rc_program.specs.Longest.{HasNoAnswerOf, IsAnswerOf, IsLongestFrom, longest}
use Rattle.rc_program.specs.Sought.{anchoring_of, text_of}
use Rattle.rc_program.proofs.AnswerLemmas.{answer_law, match_place_is, walk_ends}
use Rattle.rc_program.proofs.GreatestLemmas.{greatest_law, spelled_within}
use Rattle.rc_program.proofs.ReachLemmas.{longest_law}
use Rattle.rc_reach.specs.Settled.{AgreesBelow, IsInside}
use Rattle.rc_dfa_search.specs.Reaches.{IsAnswerBelow}
use Rattle.rc_pikevm.specs.PatternSpans.{AddsSpelled}
use Rattle.rc_pikevm_search.specs.Engine.{engine_search}
use Rattle.rc_pikevm_search.specs.declared.engine.Engine.{Engine}
use Rattle.rc_strategy.specs.Lengths.{BoundsWalks, IsHeld, SeeksFromStart}
use Rattle.rc_strategy.specs.Starts.{unpassed}
use Rattle.rc_strategy.specs.declared.lengths.Lengths.{Lengths}
use Rattle.rc_strategy.proofs.SpanLemmas.{begins_at_bound, starts_at}

module _ (places : List Place) (text : Text) (lo hi : ℕ) (over : Bool) where
  -- the search
  abbrev pub Free : Search
  Free = record { places = places; text = text; lo = lo; hi = hi; anchoring = anywhere; passes_over = over }

  -- anchored at its start
  abbrev pub Held : Search
  Held = record { places = places; text = text; lo = lo; hi = hi; anchoring = at_start; passes_over = over }

  pub held_spelled : (m : Found) → IsSpelledIn Held m → IsSpelledIn Free m
  held_spelled m h = record {
    is_start = (h.is_start.0, h.is_start.1, λ t. absurd (true≢false (sym t)));
    walk = h.walk;
    is_walk = h.is_walk;
    pattern = h.pattern;
    position = h.position;
  }

  module _ (first : (m : Found) → IsSpelledIn Free m → m.start ≡ lo) where
    pub free_spelled : (m : Found) → IsSpelledIn Free m → IsSpelledIn Held m
    free_spelled m h = record {
      is_start = (h.is_start.0, h.is_start.1, λ _. first m h);
      walk = h.walk;
      is_walk = h.is_walk;
      pattern = h.pattern;
      position = h.position;
    }

    none_later : (y : ℕ) → IsStart Free y → lo < y → HasNoWalkFrom Free y
    none_later y start later w h =
        let m : Found = found Free (record { start = y; walk = w }) in
        let e : y ≡ lo = first m (record {
          is_start = start;
          walk = w;
          is_walk = h;
          pattern = match_place_is (only Free.anchoring) (place_at places (last_of w).0) (walk_ends (next_of Free) (λ n. IsTrue (ends Free n)) h);
          position = refl;
        }) in
        omega (arith, e, later)

    -- whichever walk of a start counts
    module _ (Counts : ℕ → List Pair → Type 0) where
      held_answer : (c : Chosen) → IsAnswerOf Held Counts c → IsAnswerOf Free Counts c
      held_answer c a =
          let e : c.start ≡ lo = a.is_start.2 refl in
          record {
            is_start = (a.is_start.0, a.is_start.1, λ t. absurd (true≢false (sym t)));
            counts = a.counts;
            allowed = a.allowed;
            none_before = λ y is lt. let l = is.0 in absurd (omega (arith, l, lt, e));
          }

      held_none : HasNoAnswerOf Held Counts → HasNoAnswerOf Free Counts
      held_none none y is = elim (cases_lt lo y) [
        | inl later ↦ inl (none_later y is later)
        | inr le ↦ none y (is.0, is.1, λ _. let l = is.0 in omega (arith, l, le))
      ]

    held_first : (o : Option Found) → answer Held ≡ o → o ≡ answer Free
    held_first None e = sym ((answer_law.answer_none Free).1 (held_none (IsFirstFrom Free) ((answer_law.answer_none Held).0 e)))
    held_first (Some m) e =
        let r = (answer_law.answer_some Held m).0 e in
        sym ((answer_law.answer_some Free m).1 (
          r.0,
          (longest_law.first_is Free r.0).0 (held_answer (IsFirstFrom Free) r.0 ((longest_law.first_is Held r.0).1 r.1)),
          r.2,
        ))

    held_longest : (o : Option Found) → longest Held ≡ o → o ≡ longest Free
    held_longest None e = sym ((longest_law.answer_none Free).1 (held_none (IsLongestFrom Free) ((longest_law.answer_none Held).0 e)))
    held_longest (Some m) e =
        let r = (longest_law.answer_some Held m).0 e in
        sym ((longest_law.answer_some Free m).1 (r.0, held_answer (IsLongestFrom Free) r.0 r.1, r.2))

    held_greatest : (o : Option Found) → greatest Held ≡ o → o ≡ greatest Free
    held_greatest None e = sym ((greatest_law.none Free).1 (λ m h. (greatest_law.none Held).0 e m (free_spelled m h)))
    held_greatest (Some m) e =
        let r = (greatest_law.some Held m).0 e in
        sym ((greatest_law.some Free m).1 (record {
          is_spelled = held_spelled m r.is_spelled;
          is_most = λ n h. r.is_most n (free_spelled n h);
        }))

    held_match : (kind : MatchKind) (o : Option Found) → answer_by kind Held ≡ o → o ≡ answer_by kind Free
    held_match all_matches o e = held_greatest o e
    held_match leftmost_first o e = held_first o e
    held_match leftmost_longest o e = held_longest o e

    held_where : (b : Bool) (kind : MatchKind) (o : Option Found) → IsAnswerWhere b kind Held o → IsAnswerWhere b kind Free o
    held_where true kind None h = sym (held_match kind None h)
    held_where true kind (Some m) h = held_spelled m h
    held_where false kind o h = held_match kind o (sym h)

    pub held_by : (kind : MatchKind) (earliest : Bool) (o : Option Found) → IsAnswerBy kind earliest Held o → IsAnswerBy kind earliest Free o
    held_by kind earliest o h = held_where (is_early earliest Free) kind o h

    pub held_adds : (set new : List Bool) → AddsSpelled Held set new → AddsSpelled Free set new
    held_adds set new h = record {
      capacity = h.capacity;
      members = λ p. (
        λ i. ⊎_elim (λ a. inl a) (λ q. inr (q.0, (q.1.0, q.1.1, held_spelled q.1.0 q.1.2))) ((h.members p).0 i),
        λ i. (h.members p).1 (⊎_elim (λ a. inl a) (λ q. inr (q.0, (q.1.0, q.1.1, free_spelled q.1.0 q.1.2))) i),
      );
    }

-- IN CODE

-- the input, anchored so
abbrev anchored_so : Searched → Anchored → Searched
anchored_so s a = record s { anchored = a }

module _ (e : Engine) (k : Lengths) (s : Searched) (bound : BoundsWalks k (places_of e.program.places.items)) (from : SeeksFromStart k s) where
  first_at : (m : Found) → IsSpelledIn (engine_search e (anchored_so s No)) m → m.start ≡ low s
  first_at = begins_at_bound k (places_of e.program.places.items) e.program.terminator e.program.passes_over (anchored_so s No) bound from.1

  -- the search may answer what it may answer where it is anchored
  pub start_may : (earliest : Bool) (o : Option Found) → IsAnswerBy e.kind earliest (engine_search e (anchored_so s Yes)) o →
      IsAnswerBy e.kind earliest (engine_search e s) o
  start_may earliest o h =
      subst (λ a. IsAnswerBy e.kind earliest (engine_search e (anchored_so s a)) o) (sym from.0)
      (held_by (places_of e.program.places.items) (text_of e.program.terminator s) (low s) (high s) e.program.passes_over first_at e.kind earliest o h)

  pub start_may_ok : (t : Searched) (earliest : Bool) (r : Result (Option Found) MatchError) → t ≡ anchored_so s Yes →
      IfOk r (IsAnswerBy e.kind earliest (engine_search e t)) → IfOk r (IsAnswerBy e.kind earliest (engine_search e s))
  start_may_ok t earliest r is h =
      IfOk-weaker r _ _ (start_may earliest) (subst (λ x. IfOk r (IsAnswerBy e.kind earliest (engine_search e x))) is h)

  module _ (t : Search) (inside : IsInside t) (r : ℕ) (agrees : AgreesBelow r (engine_search e s) t) where
    first_too : (m : Found) → IsSpelledIn (Free t.places t.text t.lo t.hi t.passes_over) m → m.start ≡ t.lo
    first_too m h =
        let w = spelled_within (Free t.places t.text t.lo t.hi t.passes_over) m h in
        let above = w.0 in
        let ordered = w.1 in
        let up = w.2 in
        let lo = inside.lo in
        let hi = inside.hi in
        let end = inside.slice_end in
        let at = starts_at t.text m.start (omega (arith, ordered, up, hi, end)) ((bound (Free t.places t.text t.lo t.hi t.passes_over) m agrees.places h).begins from.1) in
        omega (arith, at, above, lo)

    held_too : AgreesBelow r (engine_search e (anchored_so s Yes)) (Held t.places t.text t.lo t.hi t.passes_over)
    held_too = record {
      places = agrees.places;
      terminator = agrees.terminator;
      slice_start = agrees.slice_start;
      lo = agrees.lo;
      anchoring = refl;
      passes_over = agrees.passes_over;
      read = agrees.read;
      seen = agrees.seen;
      content = agrees.content;
    }

    free_too : t.anchoring ≡ anywhere
    free_too = agrees.anchoring ∙ ap anchoring_of from.0

  -- the bytes that settle it settle the search
  pub start_below : (o : Option Found) (r : ℕ) → IsAnswerBelow e.kind (engine_search e (anchored_so s Yes)) r o → IsAnswerBelow e.kind (engine_search e s) r o
  start_below o r h t inside agrees =
      let held = h (Held t.places t.text t.lo t.hi t.passes_over) (record { lo = inside.lo; hi = inside.hi; slice_end = inside.slice_end }) (held_too t inside r agrees) in
      sym (subst (λ (a : Anchoring). o ≡ answer_by e.kind (record t { anchoring = a })) (sym (free_too t inside r agrees))
      (held_match t.places t.text t.lo t.hi t.passes_over (first_too t inside r agrees) e.kind o held))

  -- and it spells the same
  start_adds : (set new : List Bool) → AddsSpelled (engine_search e (anchored_so s Yes)) set new → AddsSpelled (engine_search e s) set new
  start_adds set new h =
      subst (λ a. AddsSpelled (engine_search e (anchored_so s a)) set new) (sym from.0)
      (held_adds (places_of e.program.places.items) (text_of e.program.terminator s) (low s) (high s) e.program.passes_over first_at set new h)

  -- where none is passed over, the match is the same
  pub start_unpassed : (o : Option Found) → o ≡ answer_by e.kind (unpassed (engine_search e (anchored_so s Yes))) →
      o ≡ answer_by e.kind (unpassed (engine_search e s))
  start_unpassed o h =
      let places = places_of e.program.places.items in
      subst (λ a. o ≡ answer_by e.kind (unpassed (engine_search e (anchored_so s a)))) (sym from.0)
      (held_match places (text_of e.program.terminator s) (low s) (high s) false
      (begins_at_bound k places e.program.terminator false (anchored_so s No) bound from.1) e.kind o (sym h))

-- the match where none is passed over is that of the input, where it is anchored if each match begins at its start
pub unpassed_held : (e : Engine) (k : Lengths) (s t : Searched) (r : Result (Option Found) MatchError) → BoundsWalks k (places_of e.program.places.items) →
    IsHeld k s t → IfOk r (λ o. o ≡ answer_by e.kind (unpassed (engine_search e t))) → IfOk r (λ o. o ≡ answer_by e.kind (unpassed (engine_search e s)))
unpassed_held e k s t r bound held h =
    ⊎_elim (λ is. subst (λ x. IfOk r (λ o. o ≡ answer_by e.kind (unpassed (engine_search e x)))) is h)
    (λ q. IfOk-weaker r _ _ (start_unpassed e k s bound q.0)
    (subst (λ x. IfOk r (λ o. o ≡ answer_by e.kind (unpassed (engine_search e x)))) q.1 h)) held

-- a pass over the input adds what is spelled, where it is anchored if each match begins at its start
pub adds_held : (e : Engine) (k : Lengths) (s t : Searched) (set new : List Bool) → BoundsWalks k (places_of e.program.places.items) → IsHeld k s t →
    AddsSpelled (engine_search e t) set new → AddsSpelled (engine_search e s) set new
adds_held e k s t set new bound held h =
    ⊎_elim (λ is. subst (λ x. AddsSpelled (engine_search e x) set new) is h)
    (λ q. start_adds e k s bound q.0 set new (subst (λ x. AddsSpelled (engine_search e x) set new) q.1 h)) held

-- what keeps that input, and gives back the anchoring, keeps the input
pub keeps_held : (k : Lengths) (s t u v : Searched) (a : Anchored) → IsHeld k s t → Keeps t u → v ≡ anchored_so u a → a ≡ s.anchored → Keeps s v
keeps_held k s t u v a held keeps is same = record {
  content = ap (λ (x : Searched). x.content) is ∙ keeps.content ∙ ⊎_elim (λ e. ap (λ (x : Searched). x.content) e) (λ q. ap (λ (x : Searched). x.content) q.1) held;
  span = ap (λ (x : Searched). x.span) is ∙ keeps.span ∙ ⊎_elim (λ e. ap (λ (x : Searched). x.span) e) (λ q. ap (λ (x : Searched). x.span) q.1) held;
  slice = ap (λ (x : Searched). x.slice) is ∙ keeps.slice ∙ ⊎_elim (λ e. ap (λ (x : Searched). x.slice) e) (λ q. ap (λ (x : Searched). x.slice) q.1) held;
  anchored = ap (λ (x : Searched). x.anchored) is ∙ same;
  earliest = ap (λ (x : Searched). x.earliest) is ∙ keeps.earliest ∙ ⊎_elim (λ e. ap (λ (x : Searched). x.earliest) e) (λ q. ap (λ (x : Searched). x.earliest) q.1) held;
}
