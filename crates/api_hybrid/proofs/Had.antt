-- How a search ended is had where it is only known to be so, and what it spent.
use Rattle.std.proofs.Common.{◌≡◌, ◌∙◌, ℕ, ◌+◌, ◌-◌, ◌*◌, ◌<◌, ◌≤◌, Bool, true, false, inl, inr, ⊎_elim, max, ap₂, sym, arith}
use Rattle.std.proofs.Math.Logic.{∥∥₁_elim}
use Rattle.std.proofs.Math.Nat.{le-max_left, le-max_right, mul-le-mul_left}
use Rattle.std.proofs.Props.{props}
use Rattle.rc_text.specs.Text.{Searched, low, high}
use Rattle.rc_text.specs.declared.types.MatchError.{MatchError}
use Rattle.rc_text.specs.declared.types.MatchError.TheVariants.{Quit, GaveUp}
use Rattle.rc_program.specs.Program.{shown}
use Rattle.rc_program.specs.Sought.{search_for}
use Rattle.rc_dfa.specs.declared.automaton.Direction.TheVariants.{Backwards, Forwards}
use Rattle.rc_lazy_dfa.specs.Caches.{MayGiveUpEither, SpendsBoth}
use Rattle.rc_lazy_dfa.specs.Stores.{IsShort, frame_of, minimum_of}
use Rattle.rc_lazy_dfa.proofs.MakeLemmas.{serves_both}
use Rattle.rc_dfa_search.specs.Faults.{IsFault}
use Rattle.api_dfa.proofs.Had.{fault_had as quit_had}
use Rattle.api_hybrid.specs.Caches.{IsCacheFor, capacity_of}
use Rattle.api_hybrid.specs.Faults.{ClearsWhereShort, GrowsWhereRoomy, IsFaultOf, MayBeShort, MayGiveUp, RisesBy}
use Rattle.api_hybrid.specs.Views.{least_of, sought}
use Rattle.api_hybrid.specs.declared.cache.Cache.{Cache}
use Rattle.api_hybrid.specs.declared.regex.Regex.{Regex}

max_rises : (a b x y : ℕ) → a ≤ x → b ≤ y → max a b ≤ max x y
max_rises a b x y low high = omega (arith, low, high)

max_within : (a b x y n : ℕ) → x ≤ a + n → y ≤ b + n → max x y ≤ max a b + n
max_within a b x y n low high = omega (arith, low, high)

module _ (re : Regex) (i : Searched) (old new : Cache) where
  abbrev pub cost : ℕ
  cost = (high i - low i + 4) * (high i - low i + 4)

  abbrev pub Given : Bool → Type 0
  Given memory = MayGiveUpEither re.lazy old.inner new.inner cost memory

  -- the least capacity backwards is no more than the one forwards
  no_heavier : cost * minimum_of (frame_of re.lazy.automaton Backwards) ≤ cost * least_of re
  no_heavier = mul-le-mul_left cost (serves_both re.lazy.automaton)

  short_ahead : IsShort (frame_of re.lazy.automaton Forwards) old.inner.forward.store cost → MayBeShort re i old
  short_ahead h =
      let g : capacity_of old < old.inner.forward.store.used + cost * least_of re = h in
      omega (arith, g)

  short_behind : IsCacheFor re old → IsShort (frame_of re.lazy.automaton Backwards) old.inner.reverse.store cost → MayBeShort re i old
  short_behind made h =
      let same : old.inner.reverse.store.capacity ≡ old.inner.forward.store.capacity = made.reverse_capacity ∙ sym made.forward_capacity in
      let g : old.inner.reverse.store.capacity < old.inner.reverse.store.used + cost * minimum_of (frame_of re.lazy.automaton Backwards) = h in
      let more = no_heavier in
      omega (arith, g, more, same)

  given_up : IsCacheFor re old → (memory : Bool) → Given memory → MayGiveUp re i old new memory
  given_up made true h = tt
  given_up made false (inl h) =
      let low = h.0 in
      let more = le-max_left new.inner.forward.store.clears new.inner.reverse.store.clears in
      (omega (arith, low, more), short_ahead h.1)
  given_up made false (inr h) =
      let low = h.0 in
      let more = le-max_right new.inner.forward.store.clears new.inner.reverse.store.clears in
      (omega (arith, low, more), short_behind made h.1)

  pub fault_had : IsCacheFor re old → (e : MatchError) →
      ∥ IsFault (shown (sought re).grouped (sought re).patterns) (search_for (sought re) i) Given e ∥₁ → IsFaultOf re i old new e
  fault_had made (Quit b p) t = quit_had (sought re).grouped (sought re).patterns (search_for (sought re) i) (Quit b p) t
  fault_had made (GaveUp p true) t = ∥∥₁_elim t (hlevel props) (λ h. (h.0, h.1, tt))
  fault_had made (GaveUp p false) t = ∥∥₁_elim t (hlevel props) (λ h. (h.0, h.1, given_up made false h.2))

  rises : SpendsBoth re.lazy old.inner new.inner cost → RisesBy cost old new
  rises s = (
    max_rises _ _ _ _ s.ahead.counts.rises s.behind.counts.rises,
    max_within _ _ _ _ cost s.ahead.counts.few s.behind.counts.few,
    record { ahead = s.ahead.counts; behind = s.behind.counts },
  )

  pub clears_had : IsCacheFor re old → SpendsBoth re.lazy old.inner new.inner cost → ClearsWhereShort re i old new
  clears_had made s = (
    rises s,
    ⊎_elim
        (λ a. ⊎_elim
        (λ b. inl (ap₂ max a.0 b.0))
        (λ h. inr (short_behind made h))
        s.behind.added)
        (λ h. inr (short_ahead h))
        s.ahead.added,
  )

  -- what is added in both directions
  pub growth_had : IsCacheFor re old → SpendsBoth re.lazy old.inner new.inner cost → GrowsWhereRoomy re i old new
  growth_had made s = ⊎_elim
      (λ a. ⊎_elim
      (λ b.
      let ahead : new.inner.forward.store.used ≤ old.inner.forward.store.used + cost * least_of re = a.1 in
      let behind : new.inner.reverse.store.used ≤ old.inner.reverse.store.used + cost * minimum_of (frame_of re.lazy.automaton Backwards) = b.1 in
      let more = no_heavier in
      inl (omega (arith, ahead, behind, more)))
      (λ h. inr (short_behind made h))
      s.behind.added)
      (λ h. inr (short_ahead h))
      s.ahead.added
