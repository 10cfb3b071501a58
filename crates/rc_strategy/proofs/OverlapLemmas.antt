-- Overlapping search by states: the patterns that it meets are those of which a walk is spelled.
use Rattle.std.proofs.Common.{◌≡◌, ◌≢◌, ◌∙◌, ℕ, ◌+◌, ◌<◌, ◌≤◌, ◌⊎◌, ◌↔◌, zero, suc, Bool, true, true≢false, List, Option, Some, None, inl, inr, ⊎_elim, ap, sym, subst, refl, arith}
use Rattle.std.proofs.lemmas.Bool.{cases_Bool, cases_eq, cases_lt}
use Rattle.std.proofs.lemmas.Option.{slice_get_within}
use Rattle.std.proofs.Math.Logic.{∥∥₁_elim}
use denote.Struct.Props.{props}
use Rattle.rc_text.specs.Found.{Found}
use Rattle.rc_text.specs.Text.{Searched, high, low}
use Rattle.rc_text.specs.declared.types.Anchored.{Anchored}
use Rattle.rc_text.specs.declared.types.Anchored.TheVariants.{No, Yes, Pattern}
use Rattle.rc_pattern_set.specs.Sets.{Has}
use Rattle.rc_program.specs.Answer.{Search, IsStart, is_anchored, only}
use Rattle.rc_program.specs.Greatest.{IsSpelledIn, greatest}
use Rattle.rc_program.specs.Program.{accept, is_match_place}
use Rattle.rc_program.specs.Places.{places_of}
use Rattle.rc_program.specs.Sought.{text_of}
use Rattle.rc_program.proofs.GreatestLemmas.{spelled_within}
use Rattle.rc_pikevm.specs.PatternSpans.{AddsSpelled, HasSpan}
use Rattle.rc_text.specs.declared.types.MatchKind.TheVariants.{All as all_matches}
use Rattle.rc_program.specs.Program.{ways}
use Rattle.rc_program.specs.Sought.{search_over}
use Rattle.rc_determinize.specs.Sets.{Comes}
use Rattle.rc_dfa.specs.Automata.{machine_of}
use Rattle.rc_dfa.specs.Laws.{starts_of}
use Rattle.rc_dfa.specs.Machine.{Direction, Machine, forwards}
use Rattle.rc_dfa.specs.declared.automaton.Direction.TheVariants.{Forwards, Overlapping}
use Rattle.rc_dfa_search.specs.Aims.{search_for}
use Rattle.rc_dfa_search.specs.Ends.{Asks}
use Rattle.rc_dfa_search.proofs.MetLemmas.{met_law}
use Rattle.rc_dfa_search.proofs.ToldLemmas.{case_of}
use Rattle.rc_lazy_dfa.specs.Caches.{AreHalves, IsCacheOf}
use Rattle.rc_lazy_dfa.specs.declared.lazy.Cache as made
use Rattle.rc_strategy.specs.Caches.{KeepsStates}
use Rattle.rc_lazy_dfa.specs.Overlaps.{AddsOnly, HasEach, IsMet, IsMetAt}
use Rattle.rc_lazy_dfa.specs.declared.lazy.Lazy.{Lazy}
use Rattle.rc_pikevm_search.specs.Engine.{engine_search}
use Rattle.rc_pikevm_search.specs.declared.engine.Engine.{Engine}
use Rattle.rc_strategy.specs.Lengths.{IsHeld}
use Rattle.rc_strategy.specs.Narrow.{narrowed}
use Rattle.rc_strategy.specs.Starts.{AddsSome}
use Rattle.rc_strategy.specs.Tables.{AreHalvesFor, aim_of}
use Rattle.rc_strategy.specs.declared.lengths.Lengths.{Lengths}
use Rattle.rc_strategy.proofs.HeldLemmas.{held_spelled}
use Rattle.rc_strategy.proofs.SettleLemmas.{IsSettled, settled, spelled_so}

has_prop : (set : List Bool) (p : ℕ) → IsProp (Has set p)
has_prop set p = hlevel props

-- WHETHER A SPAN IS SPELLED

decide_found : (o : Option Found) (m : Found) → (o ≡ Some m) ⊎ (o ≢ Some m)
decide_found None m = inr (λ e. cc e)
decide_found (Some f) m =
    ⊎_elim
    (λ a. ⊎_elim
    (λ b. ⊎_elim
    (λ c. inl (ap Some (same a b c)))
    (λ n. inr (λ e. n (ends e)))
    (cases_eq f.end m.end))
    (λ n. inr (λ e. n (starts e)))
    (cases_eq f.start m.start))
    (λ n. inr (λ e. n (patterns e)))
    (cases_eq f.pattern m.pattern)
  where
    or : Option Found → Found
    or None = m
    or (Some g) = g

    patterns : Some f ≡ Some m → f.pattern ≡ m.pattern
    patterns e = ap (λ o. (or o).pattern) e

    starts : Some f ≡ Some m → f.start ≡ m.start
    starts e = ap (λ o. (or o).start) e

    ends : Some f ≡ Some m → f.end ≡ m.end
    ends e = ap (λ o. (or o).end) e

    same : f.pattern ≡ m.pattern → f.start ≡ m.start → f.end ≡ m.end → f ≡ m
    same a b c =
        let made : ℕ → ℕ → ℕ → Found = λ p x e. record { pattern = p; start = x; end = e } in
        ap (λ p. made p f.start f.end) a ∙ ap (λ x. made m.pattern x f.end) b ∙ ap (λ e. made m.pattern m.start e) c

decide_start : (s : Search) (x : ℕ) → IsStart s x ⊎ ¬ IsStart s x
decide_start s x =
    ⊎_elim
    (λ below. inr (λ h. let l = h.0 in omega (arith, below, l)))
    (λ low. ⊎_elim
    (λ above. inr (λ h. let l = h.1 in omega (arith, above, l)))
    (λ high. ⊎_elim
    (λ anchored. ⊎_elim (λ e. inl (low, high, λ _. e)) (λ n. inr (λ h. n (h.2 anchored))) (cases_eq x s.lo))
    (λ free. inl (low, high, λ t. absurd (true≢false (sym t ∙ free))))
    (cases_Bool (is_anchored s.anchoring)))
    (cases_lt s.hi x))
    (cases_lt x s.lo)

decide_settled : (s : Search) (m : Found) → IsSettled s m ⊎ ¬ IsSettled s m
decide_settled s m =
    ⊎_elim
    (λ start. ⊎_elim
    (λ allows. ⊎_elim
    (λ past. inr (λ h. let l = h.end in omega (arith, past, l)))
    (λ end. ⊎_elim
    (λ most. inl (record { start = start; allows = allows; end = end; is_most = most }))
    (λ n. inr (λ h. n h.is_most))
    (decide_found (greatest (narrowed s m)) m))
    (cases_lt s.hi m.end))
    (λ never. inr (λ h. true≢false (sym h.allows ∙ never)))
    (cases_Bool (is_match_place (only s.anchoring) (accept m.pattern))))
    (λ n. inr (λ h. n h.start))
    (decide_start s m.start)

some_below : (P : ℕ → Type 0) → ((x : ℕ) → P x ⊎ ¬ P x) → (n : ℕ) → ((x : ℕ) × P x) ⊎ ((x : ℕ) → x < n → ¬ P x)
some_below P decide zero = inr (λ x lt. absurd (omega (arith, lt)))
some_below P decide (suc n) =
    ⊎_elim
    (λ h. inl (n, h))
    (λ none. ⊎_elim
    (λ h. inl h)
    (λ below. inr (λ x lt. ⊎_elim (λ e. subst (λ k. ¬ P k) (sym e) none) (λ ne. below x (omega (arith, lt, ne))) (cases_eq x n)))
    (some_below P decide n))
    (decide n)

-- where a span of the pattern that ends here isn't missing, there is one
pub span_there : (s : Search) (p y : ℕ) → ¬ ((x : ℕ) → ¬ IsSpelledIn s (record { pattern = p; start = x; end = y })) → HasSpan s p
span_there s p y some =
    let at : ℕ → Found = λ x. record { pattern = p; start = x; end = y } in
    ⊎_elim
    (λ h. (at h.0, refl, spelled_so s (at h.0) h.1))
    (λ none. absurd (some (λ x h. let w = spelled_within s (at x) h in let le = w.1 in none x (omega (arith, le)) (settled s (at x) h))))
    (some_below (λ x. IsSettled s (at x)) (λ x. decide_settled s (at x)) (y + 1))

-- WHAT IS MET

starts_same : (k : Machine) (d : Direction) (anchored : Anchored) (from hi : ℕ) → starts_of (record k { direction = d }) anchored from hi ≡ starts_of k anchored from hi
starts_same k d No from hi = refl
starts_same k d Yes from hi = refl
starts_same k d (Pattern p) from hi = refl

module _ (e : Engine) (patterns : ℕ) (l : Lazy) (s : Searched) (le : low s ≤ high s) (asks : Asks patterns s.anchored) where
  abbrev ahead : Machine
  ahead = machine_of l.automaton Forwards

  abbrev overlapping : Machine
  overlapping = machine_of l.automaton Overlapping

  abbrev pub Met : ℕ → Type 0
  Met = IsMet overlapping (text_of overlapping.setting.terminator s) (high s) (low s) s.anchored

  module _ (own : AreHalvesFor e patterns (AreHalves l)) where
    abbrev sought : Search
    sought = search_for (aim_of e patterns) own.hs e.program.terminator s

    same_search : sought ≡ engine_search e s
    same_search = ap (λ places. search_over places e.program.terminator e.program.passes_over s) (sym own.program)

    terminator_is : overlapping.setting.terminator ≡ e.program.terminator
    terminator_is = ap (λ (k : Machine). k.setting.terminator) (own.halves.are_of.0 ∙ own.halves.machines.ahead)

    At : Machine → ℕ → ℕ → ℕ → Type 0
    At k terminator p y = IsMetAt k (text_of terminator s) (high s) (low s) s.anchored p y

    law : (p y : ℕ) → At own.halves.ahead e.program.terminator p y ↔ ((x : ℕ) × IsSpelledIn sought (record { pattern = p; start = x; end = y }))
    unfolding At
    law p y =
        met_law.comes own.hs e.kind own.halves.ahead own.halves.back s.anchored sought p y
        (case_of (AreHalves l) (aim_of e patterns) own.hs e.program.terminator s own.halves le asks)

    forth : (p y : ℕ) → IsMetAt overlapping (text_of overlapping.setting.terminator s) (high s) (low s) s.anchored p y → At own.halves.ahead e.program.terminator p y
    unfolding At
    forth p y h =
        subst (λ k. At k e.program.terminator p y) own.halves.are_of.0
        (subst (λ n. At ahead n p y) terminator_is (
          h.0,
          subst (λ o. Comes (ways ahead.setting.places (text_of overlapping.setting.terminator s) (high s)) o (h.0, y))
              (starts_same ahead (forwards all_matches) s.anchored (low s) (high s)) h.1,
          h.2,
        ))

    back : (p y : ℕ) → At own.halves.ahead e.program.terminator p y → IsMetAt overlapping (text_of overlapping.setting.terminator s) (high s) (low s) s.anchored p y
    unfolding At
    back p y h =
        let g = subst (λ n. At ahead n p y) (sym terminator_is) (subst (λ k. At k e.program.terminator p y) (sym own.halves.are_of.0) h) in (
          g.0,
          subst (λ o. Comes (ways ahead.setting.places (text_of overlapping.setting.terminator s) (high s)) o (g.0, y))
              (sym (starts_same ahead (forwards all_matches) s.anchored (low s) (high s))) g.1,
          g.2,
        )

    met_spelled : (p y : ℕ) → IsMetAt overlapping (text_of overlapping.setting.terminator s) (high s) (low s) s.anchored p y →
        (x : ℕ) × IsSpelledIn (engine_search e s) (record { pattern = p; start = x; end = y })
    met_spelled p y h =
        let r = (law p y).0 (forth p y h) in
        (r.0, subst (λ q. IsSpelledIn q (record { pattern = p; start = r.0; end = y })) same_search r.1)

    spelled_met : (p : ℕ) → HasSpan (engine_search e s) p → Met p
    spelled_met p h =
        let m = h.0 in
        let spelled = subst (λ q. IsSpelledIn q m) (sym same_search) h.2 in
        (m.end, back p m.end ((law p m.end).1 (m.start, subst (λ n. IsSpelledIn sought (record { pattern = n; start = m.start; end = m.end })) h.1 spelled)))

  module _ (own : ∥ AreHalvesFor e patterns (AreHalves l) ∥₁) (old new : List Bool) (adds : AddsOnly Met old new) where
    pub met_some : AddsSome (engine_search e s) old new
    met_some = record {
      capacity = adds.capacity;
      keeps = adds.keeps;
      only = λ p h. ⊎_elim (λ k. inl k)
          (λ k. inr (span_there (engine_search e s) p k.0
          (λ none. ∥∥₁_elim own (hlevel props) (λ (f : AreHalvesFor e patterns (AreHalves l)). let r = met_spelled f p k.0 k.1 in none r.0 r.1))))
          (adds.only p h);
    }

    pub met_all : HasEach Met new → AddsSpelled (engine_search e s) old new
    met_all each = record {
      capacity = adds.capacity;
      members = λ p. (
        λ h. ⊎_elim (λ k. inl k)
            (λ k. inr (let lt = slice_get_within new p true h in let same = adds.capacity in omega (arith, lt, same), k))
            (met_some.only p h),
        λ h. ⊎_elim (λ k. adds.keeps p k)
            (λ k. ∥∥₁_elim own (has_prop new p)
            (λ (f : AreHalvesFor e patterns (AreHalves l)). each p (let lt = k.0 in let same = adds.capacity in omega (arith, lt, same)) (spelled_met f p k.1)))
            h,
      );
    }

-- ANCHORED WHERE EACH MATCH BEGINS

pub held_asks : (k : Lengths) (s t : Searched) (patterns : ℕ) → IsHeld k s t → Asks patterns s.anchored → Asks patterns t.anchored
held_asks k s t patterns held asks =
    ⊎_elim (λ is. subst (λ (x : Searched). Asks patterns x.anchored) (sym is) asks) (λ q. subst (λ (x : Searched). Asks patterns x.anchored) (sym q.1) tt) held

pub some_held : (e : Engine) (k : Lengths) (s t : Searched) (old new : List Bool) → IsHeld k s t → AddsSome (engine_search e t) old new → AddsSome (engine_search e s) old new
some_held e k s t old new held h =
    ⊎_elim (λ is. subst (λ x. AddsSome (engine_search e x) old new) is h)
    (λ q. let anchored : Anchored → Searched = λ a. record s { anchored = a } in
    subst (λ a. AddsSome (engine_search e (anchored a)) old new) (sym q.0.0)
    (let f = subst (λ x. AddsSome (engine_search e x) old new) q.1 h in record {
      capacity = f.capacity;
      keeps = f.keeps;
      only = λ p i. ⊎_elim (λ a. inl a)
          (λ b. inr (b.0, b.1, held_spelled (places_of e.program.places.items) (text_of e.program.terminator s) (low s) (high s) e.program.passes_over b.0 b.2))
          (f.only p i);
    })) held

-- what a pass adds to that, both add
pub some_then : (s : Search) (a b c : List Bool) → AddsSome s a b → AddsSpelled s b c → AddsSpelled s a c
some_then s a b c x y = record {
  capacity = y.capacity ∙ x.capacity;
  members = λ p. (
    λ h. ⊎_elim
        (λ k. ⊎_elim (λ i. inl i) (λ i. inr (let lt = slice_get_within b p true k in let same = x.capacity in omega (arith, lt, same), i)) (x.only p k))
        (λ k. inr (let lt = k.0 in let same = x.capacity in omega (arith, lt, same), k.1))
        ((y.members p).0 h),
    λ h. (y.members p).1 (⊎_elim (λ k. inl (x.keeps p k)) (λ k. inr (let lt = k.0 in let same = x.capacity in omega (arith, lt, same), k.1)) h),
  );
}

pub held_ordered : (k : Lengths) (s t : Searched) → IsHeld k s t → low s ≤ high s → low t ≤ high t
held_ordered k s t held le =
    ⊎_elim (λ is. subst (λ (x : Searched). low x ≤ high x) (sym is) le) (λ q. subst (λ (x : Searched). low x ≤ high x) (sym q.1) le) held

pub free_asks : (patterns : ℕ) (a : Anchored) → ((p : ℕ) → a ≢ Pattern p) → Asks patterns a
free_asks patterns No free = tt
free_asks patterns Yes free = tt
free_asks patterns (Pattern p) free = absurd (free p refl)

pub states_so : (l : Option Lazy) (c : Option made.Cache) (x : Lazy) (y d : made.Cache) → l ≡ Some x → c ≡ Some y → IsCacheOf x d → KeepsStates l c (Some d)
states_so l c x y d e f h = subst (λ o. KeepsStates o c (Some d)) (sym e) (subst (λ o. KeepsStates (Some x) o (Some d)) (sym f) h)
