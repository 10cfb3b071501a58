-- What two searches for a next match spend, and why they end without an answer.
use Rattle.std.proofs.Common.{◌≡◌, ◌∙◌, ℕ, ◌+◌, ◌-◌, ◌*◌, ◌<◌, ◌≤◌, Bool, true, false, inl, inr, ⊎_elim, refl, subst, sym, arith}
use Rattle.std.specs.Prelude.{IfErr, Result}
use Rattle.std.specs.declared.result.Result.TheVariants.{Ok, Err}
use Rattle.std.proofs.Math.Nat.{mul-le-mul_right}
use Rattle.std.proofs.lemmas.Nat.{mul-le}
use Rattle.rc_text.specs.Text.{Searched, low, high}
use Rattle.rc_text.specs.declared.types.MatchError.{MatchError}
use Rattle.rc_text.specs.declared.types.MatchError.TheVariants.{Quit, GaveUp}
use Rattle.rc_program.specs.Answer.{Search}
use Rattle.rc_program.specs.Sought.{search_for}
use Rattle.rc_pikevm_search.specs.Moved.{IsMoved}
use Rattle.rc_lazy_dfa.specs.CacheLaws.{counted_both, counted_within}
use Rattle.rc_dfa_search.specs.Faults.{IsFault}
use Rattle.rc_build.proofs.Fitted.{sought_moved}
use Rattle.api_hybrid.specs.Caches.{IsCacheFor, capacity_of, usage_of}
use Rattle.api_hybrid.specs.Faults.{ClearsWhereShort, ClearsWhereShortNext, GrowsWhereRoomy, IsFaultOf, IsNextFault, MayBeShort, MayBeShortNext, MayGiveUp, MayGiveUpNext}
use Rattle.api_hybrid.specs.Views.{least_of, sought}
use Rattle.api_hybrid.specs.declared.cache.Cache.{Cache}
use Rattle.api_hybrid.specs.declared.regex.Regex.{Regex}

pub err_as : {A E : Type 0} (P Q : E → Type 0) (r : Result A E) → ((e : E) → P e → Q e) → IfErr r P → IfErr r Q
err_as P Q (Ok a) f h = tt
err_as P Q (Err e) f h = f e h

module _ (re : Regex) (i : Searched) where
  -- the least capacity for each state that a search may add in a direction
  abbrev weight : Searched → ℕ
  weight j = (high j - low j + 4) * (high j - low j + 4) * least_of re

  -- how many states a search may add in a direction
  abbrev states : Searched → ℕ
  states j = (high j - low j + 4) * (high j - low j + 4)

  -- SHORT TABLES

  short_soon : (a : Cache) → MayBeShort re i a → MayBeShortNext re i a
  short_soon a h = let g : capacity_of a < usage_of a + weight i = h in omega (arith, g)

  -- a search further on adds no more states, and is no heavier
  fewer_states : (j : Searched) → IsMoved i j → i.span.start ≤ j.span.start →
      (high j - low j + 4) * (high j - low j + 4) ≤ (high i - low i + 4) * (high i - low i + 4)
  fewer_states j moved on =
      let lower : low i ≤ low j = rw moved.slice (omega (arith, on)) in
      let top : high j ≡ high i = rw (moved.content, moved.end, moved.slice) refl in
      let less : high j - low j + 4 ≤ high i - low i + 4 = omega (arith, lower, top) in
      mul-le (high j - low j + 4) (high j - low j + 4) (high i - low i + 4) (high i - low i + 4) less less

  lighter : (j : Searched) → IsMoved i j → i.span.start ≤ j.span.start → weight j ≤ weight i
  lighter j moved on = mul-le-mul_right (least_of re) (fewer_states j moved on)

  same_capacity : (a b : Cache) → IsCacheFor re a → IsCacheFor re b → capacity_of b ≡ capacity_of a
  same_capacity a b made still = still.forward_capacity ∙ sym made.forward_capacity

  short_later : (j : Searched) (a b : Cache) → IsMoved i j → i.span.start ≤ j.span.start → IsCacheFor re a → IsCacheFor re b →
      GrowsWhereRoomy re i a b → MayBeShort re j b → MayBeShortNext re i a
  short_later j a b moved on made still grows short = ⊎_elim
      (λ few.
      let light = lighter j moved on in
      let same = same_capacity a b made still in
      let h : capacity_of b < usage_of b + weight j = short in
      let g : usage_of b ≤ usage_of a + 2 * weight i = few in
      omega (arith, light, same, h, g))
      (short_soon a)
      grows

  -- STATES THAT ARE LET GO

  pub clears_soon : (a b : Cache) → ClearsWhereShort re i a b → ClearsWhereShortNext re i a b
  clears_soon a b h =
      let few = h.0.1 in
      ((h.0.0, omega (arith, few), counted_within a.inner b.inner (states i) (2 * states i) (omega arith) h.0.2), ⊎_elim (λ e. inl e) (λ s. inr (short_soon a s)) h.1)

  pub clears_later : (j : Searched) (a b c : Cache) → IsMoved i j → j.span.start ≡ i.span.start + 1 → IsCacheFor re a → IsCacheFor re b →
      GrowsWhereRoomy re i a b → ClearsWhereShort re i a b → ClearsWhereShort re j b c → ClearsWhereShortNext re i a c
  clears_later j a b c moved at made still grows first second =
      let low_first = first.0.0 in
      let few_first = first.0.1 in
      let low_second = second.0.0 in
      let few_second = second.0.1 in
      let fewer = fewer_states j moved (omega (arith, at)) in (
        (
          omega (arith, low_first, low_second),
          omega (arith, few_first, few_second, fewer),
          counted_within a.inner c.inner (states i + states j) (2 * states i) (omega (arith, fewer))
              (counted_both a.inner b.inner c.inner (states i) (states j) first.0.2 second.0.2),
        ),
        ⊎_elim
            (λ e. ⊎_elim (λ f. inl (f ∙ e)) (λ s. inr (short_later j a b moved (omega (arith, at)) made still grows s)) second.1)
            (λ s. inr (short_soon a s))
            first.1,
      )

  -- FAULTS

  given_soon : (a b : Cache) (memory : Bool) → MayGiveUp re i a b memory → MayGiveUpNext re i a b memory
  given_soon a b true h = tt
  given_soon a b false h = (h.0, short_soon a h.1)

  pub fault_soon : (a b : Cache) (e : MatchError) → IsFaultOf re i a b e → IsNextFault re i a b e
  fault_soon a b (Quit byte p) h = record { start = i.span.start; near = (omega arith, omega arith); fault = h }
  fault_soon a b (GaveUp p memory) h = record {
    start = i.span.start;
    near = (omega arith, omega arith);
    fault = (h.0, h.1, given_soon a b memory h.2);
  }

  given_later : (j : Searched) (a b c : Cache) → IsMoved i j → i.span.start ≤ j.span.start → IsCacheFor re a → IsCacheFor re b →
      GrowsWhereRoomy re i a b → (memory : Bool) → MayGiveUp re j b c memory → MayGiveUpNext re i a c memory
  given_later j a b c moved on made still grows true h = tt
  given_later j a b c moved on made still grows false h = (h.0, short_later j a b moved on made still grows h.1)

  fault_moved : (j : Searched) (a b c : Cache) (e : MatchError) → IsMoved i j → i.span.start ≤ j.span.start → IsCacheFor re a → IsCacheFor re b →
      GrowsWhereRoomy re i a b → IsFaultOf re j b c e → IsFault (sought re).patterns (search_for (sought re) j) (MayGiveUpNext re i a c) e
  fault_moved j a b c (Quit byte p) moved on made still grows h = h
  fault_moved j a b c (GaveUp p memory) moved on made still grows h = (h.0, h.1, given_later j a b c moved on made still grows memory h.2)

  pub fault_later : (j : Searched) (a b c : Cache) (e : MatchError) → IsMoved i j → j.span.start ≡ i.span.start + 1 → IsCacheFor re a → IsCacheFor re b →
      GrowsWhereRoomy re i a b → IsFaultOf re j b c e → IsNextFault re i a c e
  fault_later j a b c e moved at made still grows h = record {
    start = j.span.start;
    near = (omega (arith, at), omega (arith, at));
    fault =
        subst (λ (s : Search). IsFault (sought re).patterns s (MayGiveUpNext re i a c) e) (sought_moved (sought re) i j moved)
        (fault_moved j a b c e moved (omega (arith, at)) made still grows h);
  }
