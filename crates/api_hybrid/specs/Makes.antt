-- Why there are no searches within a capacity.
use Rattle.std.specs.Prelude.{◌≡◌, ℕ, ◌<◌, ◌≤◌, Bool}
use Rattle.rc_text.specs.declared.types.MatchKind.{MatchKind}
use Rattle.rc_program.specs.Sought.{Sought}
use Rattle.rc_lazy_dfa.specs.Caches.{least_of}
use Rattle.rc_lazy_dfa.specs.declared.lazy.Lazy.{Lazy}
use Rattle.rc_lazy_dfa.specs.declared.error.LazyError.{LazyError}
use Rattle.rc_lazy_dfa.specs.declared.error.LazyError.TheVariants as lazy
use Rattle.rc_settings.specs.declared.error.BuildError.{BuildError}
use Rattle.rc_settings.specs.declared.error.BuildError.TheVariants.{Syntax, IllFormed, SizeLimit, PlaceLimit, Memory, DfaSizeLimit, CacheTooSmall}
use Rattle.api_hybrid.specs.Halves.{IsLeast}

-- the refusal that tells of it
abbrev pub refusal_of : LazyError → BuildError
refusal_of (lazy.TooSmall minimum given) = CacheTooSmall minimum given
refusal_of lazy.Memory = Memory

-- the capacity is below the least that serves; the refusal tells both
abbrev pub IsTooSmall : Sought → MatchKind → Bool → ℕ → ℕ → ℕ → Type 0
IsTooSmall q kind byte_classes capacity minimum given = IsLeast q kind byte_classes minimum × (given ≡ capacity) × (capacity < minimum)

-- memory was wanting, or the capacity is too small
abbrev pub IsLazyRefusal : Sought → MatchKind → Bool → ℕ → BuildError → Type 0
IsLazyRefusal q kind byte_classes capacity (CacheTooSmall m n) = IsTooSmall q kind byte_classes capacity m n
IsLazyRefusal q kind byte_classes capacity Memory = Unit {0}
IsLazyRefusal q kind byte_classes capacity (Syntax p e) = ⊥
IsLazyRefusal q kind byte_classes capacity (IllFormed p) = ⊥
IsLazyRefusal q kind byte_classes capacity (SizeLimit n) = ⊥
IsLazyRefusal q kind byte_classes capacity PlaceLimit = ⊥
IsLazyRefusal q kind byte_classes capacity (DfaSizeLimit n) = ⊥

-- The states of each direction may weigh so many bytes, and that serves.
pub record HasCapacity (q : Sought) (kind : MatchKind) (byte_classes : Bool) (capacity : ℕ) (l : Lazy) : Type 0 where
  pub capacity_is : l.capacity ≡ capacity
  pub least : IsLeast q kind byte_classes (least_of l.automaton)
  pub serves : least_of l.automaton ≤ capacity
