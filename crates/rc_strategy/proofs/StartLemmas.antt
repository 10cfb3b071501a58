-- Overlapping search from start to start: what is added before a position, and after it.
use Rattle.std.proofs.Common.{◌≡◌, ◌∙◌, ℕ, ◌+◌, ◌<◌, ◌≤◌, Bool, false, true≢false, List, length, Option, Some, None, ⊎_elim, inl, inr, ap, sym, subst, refl, arith, max}
use Rattle.std.proofs.lemmas.Bool.{cases_lt}
use Rattle.rc_text.specs.Found.{Found}
use Rattle.rc_text.specs.Text.{Searched, KeepsText, high, low}
use Rattle.rc_text.specs.declared.types.Anchored.{Anchored}
use Rattle.rc_text.specs.declared.types.Anchored.TheVariants.{No, Yes}
use Rattle.rc_pattern_set.specs.Sets.{Has}
use Rattle.rc_program.specs.Text.{Text}
use Rattle.rc_program.specs.Program.{Place}
use Rattle.rc_program.specs.Places.{places_of}
use Rattle.rc_program.specs.Answer.{Search, is_anchored}
use Rattle.rc_program.specs.Greatest.{IsSpelledIn}
use Rattle.rc_program.specs.Sought.{text_of}
use Rattle.rc_pikevm.specs.PatternSpans.{AddsSpelled, AreOfFirst, HasSpan}
use Rattle.rc_pikevm.specs.Caches.{Made}
use Rattle.rc_pikevm_search.specs.Engine.{engine_search, IsSameCache}
use Rattle.rc_pikevm_search.specs.declared.engine.Engine.{Engine}
use Rattle.rc_lazy_dfa.specs.declared.lazy.Lazy.{Lazy}
use Rattle.rc_lazy_dfa.specs.declared.lazy.Cache as made
use Rattle.rc_strategy.specs.Caches.{IsSameCacheIn, KeepsStates}
use Rattle.rc_strategy.specs.declared.cache.Cache.{Cache}
use Rattle.rc_strategy.specs.declared.engines.Engines.{Engines}
use Rattle.rc_strategy.specs.Starts.{AddsBefore, AddsTo, HasSpanBefore, IsFirstStart}
use Rattle.rc_strategy.proofs.HeldLemmas.{Free, Held}

-- AT ONE START

module _ (places : List Place) (text : Text) (lo x hi : ℕ) (over : Bool) (above : lo ≤ x) where
  here_spelled : (m : Found) → IsSpelledIn (Held places text x hi over) m → IsSpelledIn (Free places text lo hi over) m
  here_spelled m h =
      let from = h.is_start.0 in
      record {
        is_start = (omega (arith, from, above), h.is_start.1, λ t. absurd (true≢false (sym t)));
        walk = h.walk;
        is_walk = h.is_walk;
        pattern = h.pattern;
        position = h.position;
      }

  begins_here : (m : Found) → m.start ≡ x → IsSpelledIn (Free places text lo hi over) m → IsSpelledIn (Held places text x hi over) m
  begins_here m same h = record {
    is_start = (omega (arith, same), h.is_start.1, λ _. same);
    walk = h.walk;
    is_walk = h.is_walk;
    pattern = h.pattern;
    position = h.position;
  }

  -- what begins there is what begins up to there, if nothing begins earlier
  here_adds : (old new : List Bool) → ((m : Found) → IsSpelledIn (Free places text lo hi over) m → x ≤ m.start) →
      AddsSpelled (Held places text x hi over) old new → AddsBefore (Free places text lo hi over) (x + 1) old new
  here_adds old new none h = record {
    capacity = h.capacity;
    members = λ p. (
      λ i. ⊎_elim (λ k. inl k)
          (λ q. let same = q.1.2.is_start.2 refl in
          inr (q.0, (q.1.0, q.1.1, omega (arith, same), here_spelled q.1.0 q.1.2)))
          ((h.members p).0 i),
      λ i. (h.members p).1
          (⊎_elim (λ k. inl k)
          (λ q. let least = none q.1.0 q.1.3 in let below = q.1.2 in
          inr (q.0, (q.1.0, q.1.1, begins_here q.1.0 (omega (arith, least, below)) q.1.3)))
          i),
    );
  }

-- the search of an input that is anchored at a later start
here_search : (e : Engine) (a b : Searched) (x : ℕ) → low a ≤ x → KeepsText a b → b.span.start ≡ x → b.span.end ≡ a.span.end → b.slice ≡ a.slice →
    engine_search e (record b { anchored = Yes })
    ≡ Held (places_of e.program.places.items) (text_of e.program.terminator a) x (high a) e.program.passes_over
here_search e a b x above k start stop slice =
    let bounded : ℕ → Search = λ lo. Held (places_of e.program.places.items) (text_of e.program.terminator a) lo (high a) e.program.passes_over in
    let lo : max x a.slice.start ≡ x = omega (arith, above) in
    rw (k.content, slice, start, stop) (ap bounded lo)

-- what a pass over that input adds
pub at_adds : (e : Engine) (a b c : Searched) (x : ℕ) (old new : List Bool) → a.anchored ≡ No → IsFirstStart (engine_search e a) (Some x) →
    KeepsText a b → b.span.start ≡ x → b.span.end ≡ a.span.end → b.slice ≡ a.slice → c ≡ record b { anchored = Yes } →
    AddsSpelled (engine_search e c) old new → AddsBefore (engine_search e a) (x + 1) old new
at_adds e a b c x old new free first k start stop slice is h =
    let anchored : Anchored → Searched = λ m. record a { anchored = m } in
    let whole = subst (λ m. IsFirstStart (engine_search e (anchored m)) (Some x)) free first in
    subst (λ m. AddsBefore (engine_search e (anchored m)) (x + 1) old new) (sym free)
    (here_adds (places_of e.program.places.items) (text_of e.program.terminator a) (low a) x (high a) e.program.passes_over whole.0.0 old new whole.1
    (subst (λ q. AddsSpelled q old new) (ap (engine_search e) is ∙ here_search e a b x first.0.0 k start stop slice) h))

-- FROM A POSITION ON

module _ (s : Search) (free : is_anchored s.anchoring ≡ false) (x : ℕ) (above : s.lo ≤ x) where
  -- the walks from there on
  abbrev Rest : Search
  Rest = record s { lo = x }

  earlier : (m : Found) → IsSpelledIn Rest m → IsSpelledIn s m
  earlier m h =
      let from = h.is_start.0 in
      record {
        is_start = (omega (arith, from, above), h.is_start.1, λ t. absurd (true≢false (sym t ∙ free)));
        walk = h.walk;
        is_walk = h.is_walk;
        pattern = h.pattern;
        position = h.position;
      }

  later : (m : Found) → x ≤ m.start → IsSpelledIn s m → IsSpelledIn Rest m
  later m from h = record {
    is_start = (from, h.is_start.1, λ t. absurd (true≢false (sym t ∙ free)));
    walk = h.walk;
    is_walk = h.is_walk;
    pattern = h.pattern;
    position = h.position;
  }

  module _ (a b c : List Bool) (so : AddsBefore s x a b) where
    -- all that begins there or later
    rest_adds : AddsSpelled Rest b c → AddsSpelled s a c
    rest_adds h = record {
      capacity = h.capacity ∙ so.capacity;
      members = λ p. (
        λ i. ⊎_elim (λ k. ⊎_elim inl (λ q. inr (q.0, (q.1.0, q.1.1, q.1.3))) ((so.members p).0 k))
            (λ q. inr (subst (λ n. p < n) so.capacity q.0, (q.1.0, q.1.1, earlier q.1.0 q.1.2)))
            ((h.members p).0 i),
        λ i. ⊎_elim (λ k. (h.members p).1 (inl ((so.members p).1 (inl k))))
            (λ (q : (p < length a) × HasSpan s p). elim (cases_lt q.1.0.start x) [
              | inl lt ↦ (h.members p).1 (inl ((so.members p).1 (inr (q.0, (q.1.0, q.1.1, lt, q.1.2)))))
              | inr ge ↦ (h.members p).1 (inr (subst (λ n. p < n) (sym so.capacity) q.0, (q.1.0, q.1.1, later q.1.0 ge q.1.2)))
            ])
            i,
      );
    }

    -- what begins there or later, but before y
    next_adds : (y : ℕ) → x < y → AddsBefore Rest y b c → AddsBefore s y a c
    next_adds y up h = record {
      capacity = h.capacity ∙ so.capacity;
      members = λ p. (
        λ i. ⊎_elim
            (λ k. ⊎_elim inl (λ q. let below = q.1.2 in inr (q.0, (q.1.0, q.1.1, omega (arith, below, up), q.1.3))) ((so.members p).0 k))
            (λ q. inr (subst (λ n. p < n) so.capacity q.0, (q.1.0, q.1.1, q.1.2, earlier q.1.0 q.1.3)))
            ((h.members p).0 i),
        λ i. ⊎_elim (λ k. (h.members p).1 (inl ((so.members p).1 (inl k))))
            (λ (q : (p < length a) × HasSpanBefore s y p). elim (cases_lt q.1.0.start x) [
              | inl lt ↦ (h.members p).1 (inl ((so.members p).1 (inr (q.0, (q.1.0, q.1.1, lt, q.1.3)))))
              | inr ge ↦ (h.members p).1 (inr (subst (λ n. p < n) (sym so.capacity) q.0, (q.1.0, q.1.1, q.1.2, later q.1.0 ge q.1.3)))
            ])
            i,
      );
    }

    -- nothing begins past the bound
    over_adds : s.hi < x → AddsSpelled s a b
    over_adds past = record {
      capacity = so.capacity;
      members = λ p. (
        λ i. ⊎_elim inl (λ q. inr (q.0, (q.1.0, q.1.1, q.1.3))) ((so.members p).0 i),
        λ i. (so.members p).1
            (⊎_elim inl (λ q. let most = q.1.2.is_start.1 in inr (q.0, (q.1.0, q.1.1, omega (arith, most, past), q.1.2))) i),
      );
    }

    -- the set has each pattern that it can hold
    full_before : (patterns : ℕ) → AreOfFirst patterns s.places → ((p : ℕ) → p < patterns → p < length b → Has b p) → AddsSpelled s a b
    full_before patterns few all = record {
      capacity = so.capacity;
      members = λ p. (
        λ i. ⊎_elim inl (λ q. inr (q.0, (q.1.0, q.1.1, q.1.3))) ((so.members p).0 i),
        λ i. ⊎_elim (λ k. (so.members p).1 (inl k))
            (λ q. all p (subst (λ n. n < patterns) q.1.1 (few s q.1.0 refl q.1.2)) (subst (λ n. p < n) (sym so.capacity) q.0))
            i,
      );
    }

-- before the first start nothing begins
pub none_before : (s : Search) (set : List Bool) → AddsBefore s s.lo set set
none_before s set = record {
  capacity = refl;
  members = λ p. (
    λ i. inl i,
    λ i. ⊎_elim (λ k. k) (λ q. let least = q.1.3.is_start.0 in let below = q.1.2 in absurd (omega (arith, least, below))) i,
  );
}

-- IN CODE

pub free_search : (e : Engine) (a : Searched) → a.anchored ≡ No → is_anchored (engine_search e a).anchoring ≡ false
free_search e a free =
    let anchored : Anchored → Searched = λ m. record a { anchored = m } in
    subst (λ m. is_anchored (engine_search e (anchored m)).anchoring ≡ false) (sym free) refl

module _ (e : Engine) (input : Searched) (free : input.anchored ≡ No) (x : ℕ) (above : low input ≤ x) (a b : List Bool)
    (so : AddsBefore (engine_search e input) x a b) where
  pub all_adds : (c : List Bool) → AddsTo (record (engine_search e input) { lo = x }) None b c → AddsSpelled (engine_search e input) a c
  all_adds c h = rest_adds (engine_search e input) (free_search e input free) x above a b c so h

  pub some_adds : (c : List Bool) (y : ℕ) → x < y → AddsTo (record (engine_search e input) { lo = x }) (Some y) b c → AddsBefore (engine_search e input) y a c
  some_adds c y up h = next_adds (engine_search e input) (free_search e input free) x above a b c so y up h

  pub past_adds : high input < x → AddsSpelled (engine_search e input) a b
  past_adds past = over_adds (engine_search e input) (free_search e input free) x above a b b so past

  pub held_full : (patterns : ℕ) → AreOfFirst patterns (places_of e.program.places.items) → ((p : ℕ) → p < patterns → p < length b → Has b p) →
      AddsSpelled (engine_search e input) a b
  held_full patterns few all = full_before (engine_search e input) (free_search e input free) x above a b b so patterns few all

-- a search from x on begins there
pub low_from : (a b : Searched) (x : ℕ) → low a ≤ x → b.span.start ≡ x → b.slice ≡ a.slice → low b ≡ x
low_from a b x above start slice = rw (start, slice) (omega (arith, above))

-- what a search leaves of a cache, another one leaves
states_then : (l : Option Lazy) (c d f : Option made.Cache) → KeepsStates l c d → KeepsStates l d f → KeepsStates l c f
states_then None c d f a b = b ∙ a
states_then (Some l) None d f a b = subst (λ o. KeepsStates (Some l) o f) a b
states_then (Some l) (Some c) None f a b = absurd a
states_then (Some l) (Some c) (Some d) None a b = b
states_then (Some l) (Some c) (Some d) (Some f) a b = b

pass_then : (c d f : Made) → IsSameCache c d → IsSameCache d f → IsSameCache c f
pass_then c d f a b =
    let counted : Made → Made = λ m. record m { insertions = f.insertions } in
    b ∙ ap counted a

pub same_then : (e : Engines) (c d f : Cache) → IsSameCacheIn e c d → IsSameCacheIn e d f → IsSameCacheIn e c f
same_then e c d f a b = record {
  pass = pass_then c.pass d.pass f.pass a.pass b.pass;
  lazy = states_then e.lazy c.lazy d.lazy f.lazy a.lazy b.lazy;
  symbols = states_then e.symbols c.symbols d.symbols f.symbols a.symbols b.symbols;
}

-- and so does one that then leaves its states as they are
pub pass_after : (e : Engines) (c d f : Cache) → IsSameCacheIn e c d → IsSameCache d.pass f.pass → f.lazy ≡ d.lazy → f.symbols ≡ d.symbols → IsSameCacheIn e c f
pass_after e c d f a b same more = record {
  pass = pass_then c.pass d.pass f.pass a.pass b;
  lazy = subst (KeepsStates e.lazy c.lazy) (sym same) a.lazy;
  symbols = subst (KeepsStates e.symbols c.symbols) (sym more) a.symbols;
}
