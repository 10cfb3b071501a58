-- Lazy DFA: its cache, with the states of each direction.
use Rattle.std.specs.Prelude.{◌≡◌, ◌⊎◌, ℕ, ◌+◌, ◌<◌, Bool, [], max, IfSome}
use Rattle.rc_dfa.specs.declared.automaton.Automaton.{Automaton}
use Rattle.rc_dfa.specs.declared.automaton.Direction.TheVariants.{Forwards, Overlapping, Backwards}
use Rattle.rc_dfa.specs.Machine.{Machine}
use Rattle.rc_dfa.specs.Automata.{machine_of}
use Rattle.rc_lazy_dfa.specs.Stores.{frame_of, minimum_of, Counts, Spends}
use Rattle.rc_lazy_dfa.specs.Halves.{IsHalf}
use Rattle.rc_lazy_dfa.specs.Courses.{MayGiveUp}
use Rattle.rc_lazy_dfa.specs.declared.lazy.Lazy.{Lazy}
use Rattle.rc_lazy_dfa.specs.declared.lazy.Cache.{Cache}
use Rattle.rc_lazy_dfa.specs.declared.which.Ends.{Ends}
use Rattle.rc_lazy_dfa.specs.declared.error.LazyError.{LazyError}
use Rattle.rc_lazy_dfa.specs.declared.error.LazyError.TheVariants.{Memory, TooSmall}

-- The least capacity that suffices is that of the forward direction: backwards no more is needed.
abbrev pub least_of : Automaton → ℕ
least_of a = minimum_of (frame_of a Forwards)

pub record IsLazyOf (a : Automaton) (capacity : ℕ) (l : Lazy) : Type 0 where
  pub automaton_is : l.automaton ≡ a
  pub capacity_is : l.capacity ≡ capacity

-- Why there is none: the capacity is too small, or the least that suffices overflows.
abbrev pub IsNone : Automaton → ℕ → LazyError → Type 0
IsNone a capacity Memory = 18446744073709551615 < least_of a
IsNone a capacity (TooSmall minimum given) = (minimum ≡ least_of a) × (given ≡ capacity) × (capacity < minimum)

-- They search by the first machine forwards, and by the second backwards.
abbrev pub AreHalves : Lazy → Machine → Machine → Type 0
AreHalves l m n = (machine_of l.automaton Forwards ≡ m) × (machine_of l.automaton Backwards ≡ n)

-- The cache was made for these searches. Its cells are true of their machines, and each direction
-- takes no more than the capacity.
pub record IsCacheOf (l : Lazy) (c : Cache) : Type 0 where
  pub forward_is : IsHalf (frame_of l.automaton Forwards) c.forward
  pub reverse_is : IsHalf (frame_of l.automaton Backwards) c.reverse
  pub overlapping_is : IfSome c.overlapping (λ (e : Ends). IsHalf (frame_of l.automaton Overlapping) e.half)
  pub forward_capacity : c.forward.store.capacity ≡ l.capacity
  pub reverse_capacity : c.reverse.store.capacity ≡ l.capacity

-- It has no states, and was never cleared.
pub record IsFreshCache (c : Cache) : Type 0 where
  pub forward_states : c.forward.store.states ≡ []
  pub reverse_states : c.reverse.store.states ≡ []
  pub forward_clears : c.forward.store.clears ≡ 0
  pub reverse_clears : c.reverse.store.clears ≡ 0

-- How many bytes the states of both directions take.
abbrev pub usage_of : Cache → ℕ
usage_of c = c.forward.store.used + c.reverse.store.used

abbrev pub capacity_of : Cache → ℕ
capacity_of c = c.forward.store.capacity

-- The greater of the two counts.
abbrev pub clears_of : Cache → ℕ
clears_of c = max c.forward.store.clears c.reverse.store.clears

-- In each direction the count of clears tells whether it was cleared.
pub record CountsBoth (a b : Cache) (n : ℕ) : Type 0 where
  pub ahead : Counts a.forward.store b.forward.store n
  pub behind : Counts a.reverse.store b.reverse.store n

-- In each direction at most so many states were added, and it was cleared only if it may have been
-- short.
pub record SpendsBoth (l : Lazy) (a b : Cache) (n : ℕ) : Type 0 where
  pub ahead : Spends (frame_of l.automaton Forwards) a.forward.store b.forward.store n
  pub behind : Spends (frame_of l.automaton Backwards) a.reverse.store b.reverse.store n

-- The search may have given up in one direction.
abbrev pub MayGiveUpEither : Lazy → Cache → Cache → ℕ → Bool → Type 0
MayGiveUpEither l a b n memory =
    MayGiveUp (frame_of l.automaton Forwards) a.forward.store b.forward.store n memory
    ⊎ MayGiveUp (frame_of l.automaton Backwards) a.reverse.store b.reverse.store n memory
