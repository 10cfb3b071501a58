-- What a cache serves.
use Rattle.std.proofs.Common.{◌≡◌, ◌∙◌, ℕ, ◌+◌, ◌<◌, ◌≤◌, List, Option, Some, None, IfSome, true≢false, refl, sym, subst, ap}
use Rattle.std.specs.Prelude.{is_some}
use Rattle.std.proofs.Math.Logic.{∥∥₁_elim}
use denote.Struct.Props.{props}
use Rattle.rc_dfa.specs.Automata.{classes_of, machine_of}
use Rattle.rc_dfa.specs.Symbols.{columns_for}
use Rattle.rc_dfa.specs.declared.automaton.Direction.{Direction}
use Rattle.rc_dfa.specs.declared.automaton.Direction.TheVariants.{Backwards, Forwards, Overlapping}
use Rattle.rc_dfa.specs.Machine.{Alphabet, bytes, symbols, Machine, forwards}
use Rattle.rc_text.specs.declared.types.MatchKind.TheVariants.{All as all_matches}
use Rattle.rc_program.specs.Columns.{row_width}
use Rattle.rc_program.specs.Places.{places_of}
use Rattle.rc_pikevm.specs.Caches.{Made}
use Rattle.rc_pikevm.specs.Readers.{reader_count}
use Rattle.rc_lazy_dfa.specs.Caches.{IsCacheOf}
use Rattle.rc_lazy_dfa.specs.Halves.{IsHalf}
use Rattle.rc_lazy_dfa.specs.Stores.{Frame, frame_of}
use Rattle.rc_lazy_dfa.specs.declared.lazy.Lazy.{Lazy}
use Rattle.rc_lazy_dfa.specs.declared.lazy.Cache as made
use Rattle.rc_lazy_dfa.specs.declared.which.Ends.{Ends}
use Rattle.rc_dfa_search.proofs.SameLemmas.{same_classes_of, same_machines}
use Rattle.rc_strategy.specs.Caches.{IsCacheBy, IsCacheIn, IsCacheOfBoth, IsSameCacheIn, KeepsStates}
use Rattle.rc_strategy.specs.Plans.{IsLazyFor, IsLazyOver, LazyPlan, ServesOver}
use Rattle.rc_strategy.specs.declared.cache.Cache.{Cache}
use Rattle.rc_strategy.specs.declared.engines.Engines.{Engines}

-- the rows of both are of one machine in each direction, and may weigh as much
abbrev AreSame : Lazy → Lazy → Type 0
AreSame l k =
    (frame_of l.automaton Forwards ≡ frame_of k.automaton Forwards) × (frame_of l.automaton Backwards ≡ frame_of k.automaton Backwards)
    × (frame_of l.automaton Overlapping ≡ frame_of k.automaton Overlapping) × (l.capacity ≡ k.capacity)

module _ (alphabet : Alphabet) (plan : LazyPlan) (l k : Lazy) (h : IsLazyOver alphabet plan l) (j : IsLazyOver alphabet plan k) where
  same_classes : classes_of l.automaton ≡ classes_of k.automaton
  same_classes = same_classes_of plan.byte_classes plan.patterns plan.terminator (classes_of l.automaton) (classes_of k.automaton) h.classes j.classes

  same_frame : (d : Direction) → machine_of l.automaton d ≡ machine_of k.automaton d → frame_of l.automaton d ≡ frame_of k.automaton d
  same_frame d same =
      let frame : Machine → List ℕ → Frame = λ m cs. record { machine = m; classes = cs; width = columns_for m.alphabet cs + 1 } in
      ap (λ m. frame m (classes_of l.automaton)) same ∙ ap (frame (machine_of k.automaton d)) same_classes

  same_by : AreSame l k
  same_by =
      let same =
      same_machines alphabet plan.patterns plan.terminator plan.kind (machine_of l.automaton Forwards) (machine_of l.automaton Backwards) (machine_of k.automaton Forwards)
      (machine_of k.automaton Backwards) h.machines j.machines in
      let overlapping : Machine → Machine = λ m. record m { direction = forwards all_matches } in
      (same_frame Forwards same.ahead, same_frame Backwards same.back, same_frame Overlapping (ap overlapping same.ahead), h.capacity_is ∙ sym j.capacity_is)

same_prop : (l k : Lazy) → IsProp (AreSame l k)
same_prop l k = hlevel props

-- that is so whatever tells that they were made by the plan
same_told : (alphabet : Alphabet) (plan : LazyPlan) (l k : Lazy) → ∥ IsLazyOver alphabet plan l ∥₁ → ∥ IsLazyOver alphabet plan k ∥₁ → AreSame l k
same_told alphabet plan l k h j =
    ∥∥₁_elim h (same_prop l k)
    (λ (x : IsLazyOver alphabet plan l). ∥∥₁_elim j (same_prop l k) (λ (y : IsLazyOver alphabet plan k). same_by alphabet plan l k x y))

-- what was made for the one serves the other
other_cache : (l k : Lazy) (c : made.Cache) → AreSame l k → IsCacheOf l c → IsCacheOf k c
other_cache l k c same i = record {
  forward_is = subst (λ f. IsHalf f c.forward) same.0 i.forward_is;
  reverse_is = subst (λ f. IsHalf f c.reverse) same.1 i.reverse_is;
  overlapping_is = subst (λ f. IfSome c.overlapping (λ (e : Ends). IsHalf f e.half)) same.2 i.overlapping_is;
  forward_capacity = i.forward_capacity ∙ same.3;
  reverse_capacity = i.reverse_capacity ∙ same.3;
}

-- a cache that was made for some tables by the plan serves all
pub serves : (alphabet : Alphabet) (plan : LazyPlan) (l : Lazy) (c : made.Cache) → ∥ IsLazyOver alphabet plan l ∥₁ → IsCacheOf l c → ServesOver alphabet plan c
serves alphabet plan l c h i k j = other_cache l k c (same_told alphabet plan l k h j) i

pub states_stay : (l : Option Lazy) (c : Option made.Cache) → IsCacheOfBoth l c → KeepsStates l c c
states_stay None c h = refl
states_stay (Some l) None h = refl
states_stay (Some l) (Some c) h = h

pub states_kept : (l : Option Lazy) (c d : Option made.Cache) → IsCacheOfBoth l c → KeepsStates l c d → IsCacheOfBoth l d
states_kept None c d h k = tt
states_kept (Some l) None d h k = subst (IsCacheOfBoth (Some l)) (sym k) tt
states_kept (Some l) (Some c) None h k = tt
states_kept (Some l) (Some c) (Some d) h k = k

-- A search leaves the cache one for the same searches.
pub still_in : (e : Engines) (slots : ℕ) (c d : Cache) → IsCacheIn e slots c → IsSameCacheIn e c d → IsCacheIn e slots d
still_in e slots c d h s = record {
  pass = (
    ap (λ (p : Made). p.places) s.pass ∙ h.pass.0,
    subst (λ n. reader_count (places_of e.engine.program.places.items) < n) (sym (ap (λ (p : Made). p.threads) s.pass)) h.pass.1,
    subst (λ n. row_width (places_of e.engine.program.places.items) slots ≤ n) (sym (ap (λ (p : Made). p.columns) s.pass)) h.pass.2,
  );
  lazy = states_kept e.lazy c.lazy d.lazy h.lazy s.lazy;
  symbols = states_kept e.symbols c.symbols d.symbols h.symbols s.symbols;
}

pub same_in : (e : Engines) (slots : ℕ) (c : Cache) → IsCacheIn e slots c → IsSameCacheIn e c c
same_in e slots c h = record {
  pass = refl;
  lazy = states_stay e.lazy c.lazy h.lazy;
  symbols = states_stay e.symbols c.symbols h.symbols;
}

-- CACHES BY A PLAN

states_by : (a : Alphabet) (plan : LazyPlan) (l : Option Lazy) (c : Option made.Cache) → ∥ IfSome l (IsLazyOver a plan) ∥₁ → is_some c ≡ is_some l → IsCacheOfBoth l c →
    IfSome c (ServesOver a plan)
states_by a plan l None h both i = tt
states_by a plan None (Some c) h both i = absurd (true≢false both)
states_by a plan (Some l) (Some c) h both i = serves a plan l c h i

states_in : (a : Alphabet) (plan : LazyPlan) (l : Option Lazy) (c : Option made.Cache) → ∥ IfSome l (IsLazyOver a plan) ∥₁ → IfSome c (ServesOver a plan) → IsCacheOfBoth l c
states_in a plan None c h i = tt
states_in a plan (Some l) None h i = tt
states_in a plan (Some l) (Some c) h i = i l h

states_still : (a : Alphabet) (plan : LazyPlan) (l : Option Lazy) (c d : Option made.Cache) → ∥ IfSome l (IsLazyOver a plan) ∥₁ → IfSome c (ServesOver a plan) → KeepsStates l c d →
    IfSome d (ServesOver a plan)
states_still a plan None c d h i k = subst (λ o. IfSome o (ServesOver a plan)) (sym k) i
states_still a plan (Some l) None d h i k = subst (λ o. IfSome o (ServesOver a plan)) (sym k) tt
states_still a plan (Some l) (Some c) None h i k = tt
states_still a plan (Some l) (Some c) (Some d) h i k = serves a plan l d h k

module _ (e : Engines) (slots : ℕ) (plan : LazyPlan) (h : ∥ IfSome e.lazy (IsLazyFor plan) ∥₁) (over : ∥ IfSome e.symbols (IsLazyOver symbols plan) ∥₁) where
  -- a cache that engines make by the plan was made by it,
  pub made_by : (c : Cache) → is_some c.lazy ≡ is_some e.lazy → is_some c.symbols ≡ is_some e.symbols → IsCacheIn e slots c →
      IsCacheBy (places_of e.engine.program.places.items) (row_width (places_of e.engine.program.places.items) slots) plan c
  made_by c both more i = record {
    pass = i.pass;
    lazy = states_by bytes plan e.lazy c.lazy h both i.lazy;
    symbols = states_by symbols plan e.symbols c.symbols over more i.symbols;
  }

  -- serves any others by it,
  pub serves_in : (c : Cache) → IsCacheBy (places_of e.engine.program.places.items) (row_width (places_of e.engine.program.places.items) slots) plan c → IsCacheIn e slots c
  serves_in c i = record {
    pass = i.pass;
    lazy = states_in bytes plan e.lazy c.lazy h i.lazy;
    symbols = states_in symbols plan e.symbols c.symbols over i.symbols;
  }

  -- and stays so
  pub still_by : (c d : Cache) → IsCacheBy (places_of e.engine.program.places.items) (row_width (places_of e.engine.program.places.items) slots) plan c → IsSameCacheIn e c d →
      IsCacheBy (places_of e.engine.program.places.items) (row_width (places_of e.engine.program.places.items) slots) plan d
  still_by c d i s = record {
    pass = (still_in e slots c d (serves_in c i) s).pass;
    lazy = states_still bytes plan e.lazy c.lazy d.lazy h i.lazy s.lazy;
    symbols = states_still symbols plan e.symbols c.symbols d.symbols over i.symbols s.symbols;
  }
