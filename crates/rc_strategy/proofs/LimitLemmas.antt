-- Whether tables are made.
use Rattle.std.proofs.Common.{inl, inr, refl, true, ⊎_elim, ◌≡◌, ◌∙◌, ℕ, ◌+◌, ◌<◌, ◌≤◌, ◌⊎◌, Bool, false, true≢false, List, length, Option, Some, None, ap, sym, subst}
use Rattle.std.specs.Prelude.{IsSome, IsSomeAnd, IfSome, is_some}
use Rattle.std.specs.Option.{option_map}
use Rattle.rc_pattern.specs.Re.{Re}
use Rattle.rc_program.specs.Laws.{heaviness}
use Rattle.rc_program.specs.Places.{places_of}
use Rattle.rc_program.specs.Program.{program}
use Rattle.rc_utf8.specs.Bytes.{bytes_of}
use Rattle.rc_dfa.specs.Automata.{IsOverSymbols, machine_of, machine_over, classes_of, samples_of}
use Rattle.rc_dfa.specs.Machine.{Alphabet, bytes, symbols, Machine}
use Rattle.rc_dfa.specs.declared.automaton.Automaton.{Automaton}
use Rattle.rc_dfa.specs.declared.automaton.Direction.{Direction}
use Rattle.rc_dfa.specs.declared.automaton.Direction.TheVariants.{Backwards, Forwards}
use Rattle.rc_dfa.proofs.AutomatonLemmas.{is_classing}
use Rattle.rc_dense_dfa.specs.Halves.{AreHalves}
use Rattle.rc_dense_dfa.specs.Makes.{IsRefused}
use Rattle.rc_dense_dfa.specs.declared.dense.Dense.{Dense}
use Rattle.rc_dense_dfa.specs.declared.error.TableError.TheVariants.{TooBig}
use Rattle.rc_lazy_dfa.specs.Caches as lazy
use Rattle.rc_dfa.proofs.AutomatonLemmas.{plain_columns}
use Rattle.rc_lazy_dfa.specs.Caches.{IsLazyOf, least_of}
use Rattle.rc_lazy_dfa.specs.Stores.{minimum_of}
use Rattle.rc_lazy_dfa.specs.declared.lazy.Lazy.{Lazy}
use Rattle.rc_dfa_search.specs.Classes.{AreClassesOf}
use Rattle.rc_dfa_search.specs.Machines.{AreMachines, AreMachinesOver}
use Rattle.rc_dfa_search.proofs.PatternLemmas.{few_by_weight}
use Rattle.rc_pikevm_search.specs.declared.engine.Engine.{Engine}
use Rattle.rc_strategy.specs.Limits.{AreOff, AreSymbolsOff, AreTooHeavy, NoneServe}
use Rattle.rc_strategy.specs.Makes.{AreMade, AreOverSymbols}
use Rattle.rc_strategy.specs.Plans.{IsLazyOver, IsShortFor, plan_of}
use Rattle.rc_strategy.specs.Tables.{AreHalvesFor, AreHalvesOver, MayBeTablesFor, MayBeTablesOver}
use Rattle.rc_strategy.specs.declared.engines.Limits.{Limits}

module _ (alphabet : Alphabet) (e : Engine) (hs : List Re) (a : Automaton)
    (of : AreMachinesOver alphabet hs e.program.terminator e.kind (machine_of a Forwards) (machine_of a Backwards)) where
  -- halves of searches by it are halves for the engine's program
  halves_by : {AreOf : Machine → Machine → Type 0} (patterns : ℕ) → places_of e.program.places.items ≡ program hs → patterns ≡ length hs →
      heaviness (places_of e.program.places.items) ≤ 2147483646 → AreOf (machine_of a Forwards) (machine_of a Backwards) → AreHalvesFor e patterns AreOf
  halves_by patterns same counted light halves = record {
    hs = hs;
    program = same;
    halves = record {
      ahead = machine_of a Forwards;
      back = machine_of a Backwards;
      are_of = halves;
      alphabet = alphabet;
      machines = of;
      counted = counted;
      few = few_by_weight hs (subst (λ places. heaviness places ≤ 2147483646) same light);
    };
  }

  over_by : {AreOf : Machine → Machine → Type 0} (patterns : ℕ) → places_of e.program.places.items ≡ program hs → patterns ≡ length hs →
      heaviness (places_of e.program.places.items) ≤ 2147483646 → AreOf (machine_of a Forwards) (machine_of a Backwards) → AreHalvesOver alphabet e patterns AreOf
  unfolding halves_by
  over_by {AreOf} patterns same counted light halves =
      record { are_halves = halves_by {AreOf = AreOf} patterns same counted light halves; read = ap (λ (m : Machine). m.alphabet) of.ahead }

  pub tables_by : (patterns : ℕ) (d : Dense) → places_of e.program.places.items ≡ program hs → patterns ≡ length hs → heaviness (places_of e.program.places.items) ≤ 2147483646 →
      AreHalves d (machine_of a Forwards) (machine_of a Backwards) → AreHalvesOver alphabet e patterns (AreHalves d)
  tables_by patterns d same counted light halves = over_by {AreOf = AreHalves d} patterns same counted light halves

  pub lazy_by : (patterns capacity : ℕ) (l : Lazy) → places_of e.program.places.items ≡ program hs → patterns ≡ length hs → heaviness (places_of e.program.places.items) ≤ 2147483646 →
      IsLazyOf a capacity l → AreHalvesOver alphabet e patterns (lazy.AreHalves l)
  lazy_by patterns capacity l same counted light h =
      over_by {AreOf = lazy.AreHalves l} patterns same counted light
      (ap (λ b. machine_of b Forwards) h.automaton_is, ap (λ b. machine_of b Backwards) h.automaton_is)

  -- they are made by the plan
  pub planned_by : (limits : Limits) → AreClassesOf limits.byte_classes hs e.program.terminator (classes_of a) → (l : Lazy) → IsLazyOf a limits.capacity l →
      IsLazyOver alphabet (plan_of e hs limits) l
  planned_by limits classed l h = record {
    machines = subst (λ b. AreMachinesOver alphabet hs e.program.terminator e.kind (machine_of b Forwards) (machine_of b Backwards)) (sym h.automaton_is) of;
    classes = subst (λ b. AreClassesOf limits.byte_classes hs e.program.terminator (classes_of b)) (sym h.automaton_is) classed;
    capacity_is = h.capacity_is;
  }

  module _ (patterns : ℕ) (limits : Limits) (classed : AreClassesOf limits.byte_classes hs e.program.terminator (classes_of a))
      (same : places_of e.program.places.items ≡ program hs) (counted : patterns ≡ length hs) (light : heaviness (places_of e.program.places.items) ≤ 2147483646) where
    pub fits : (o : Option Lazy) → IfSome o (IsLazyOf a limits.capacity) → IfSome o (λ l. AreHalvesFor e patterns (lazy.AreHalves l))
    fits None h = tt
    fits (Some l) h = (lazy_by patterns limits.capacity l same counted light h).are_halves

    pub reads : (o : Option Lazy) → IfSome o (IsLazyOf a limits.capacity) → IfSome o (λ l. AreHalvesOver alphabet e patterns (lazy.AreHalves l))
    reads None h = tt
    reads (Some l) h = lazy_by patterns limits.capacity l same counted light h

    pub plans : (o : Option Lazy) → IfSome o (IsLazyOf a limits.capacity) → IfSome o (IsLazyOver alphabet (plan_of e hs limits))
    plans None h = tt
    plans (Some l) h = planned_by limits classed l h

module _ (e : Engine) (hs : List Re) (a : Automaton) (of : AreMachines hs e.program.terminator e.kind (machine_of a Forwards) (machine_of a Backwards)) where
  -- with tables that read symbols it is the same but for that
  over_symbols : (b : Automaton) → IsOverSymbols a b → AreMachinesOver symbols hs e.program.terminator e.kind (machine_of b Forwards) (machine_of b Backwards)
  over_symbols b h =
      let turned : Machine → Machine = λ m. record m { alphabet = symbols } in
      let is : (d : Direction) → machine_of b d ≡ machine_over symbols a d = λ d. ap (λ x. machine_over x b d) h.alphabet ∙ h.machine symbols d in
      record { needs = of.needs; are_needs = of.are_needs; ahead = is Forwards ∙ ap turned of.ahead; back = is Backwards ∙ ap turned of.back }

  pub symbols_so : (patterns : ℕ) (limits : Limits) → AreClassesOf limits.byte_classes hs e.program.terminator (classes_of a) → places_of e.program.places.items ≡ program hs →
      patterns ≡ length hs → heaviness (places_of e.program.places.items) ≤ 2147483646 → (b : Automaton) → IsOverSymbols a b → (met : Option Lazy) →
      IfSome met (IsLazyOf b limits.capacity) → (AreSymbolsOff limits → met ≡ None) → AreOverSymbols e patterns hs limits met
  symbols_so patterns limits classed same counted light b h met made off =
      let own = over_symbols b h in
      let own_classed = subst (AreClassesOf limits.byte_classes hs e.program.terminator) (sym h.classes) classed in record {
        fit = fits symbols e hs b own patterns limits own_classed same counted light met made;
        read = reads symbols e hs b own patterns limits own_classed same counted light met made;
        planned = plans symbols e hs b own patterns limits own_classed same counted light met made;
        off = off;
      }

  module _ (limits : Limits) (classed : AreClassesOf limits.byte_classes hs e.program.terminator (classes_of a)) where
    -- or the plan's capacity is too small
    pub short_by : limits.capacity < least_of a → IsShortFor (plan_of e hs limits)
    short_by short = record {
      ahead = machine_of a Forwards;
      behind = machine_of a Backwards;
      machines = of;
      classes = classes_of a;
      are_classes = classed;
      samples = samples_of a;
      are_samples = a.sampled;
      short =
          subst (λ w. limits.capacity < minimum_of (record { machine = machine_of a Forwards; classes = classes_of a; width = w + 1 }))
          (plain_columns a (ap (λ (m : Machine). m.alphabet) of.ahead)) short;
    }

  -- it has as many places as the byte program
  same_places : length (bytes_of (program hs)) ≡ length (machine_of a Forwards).setting.places
  same_places = sym (ap (λ (m : Machine). length m.setting.places) of.ahead)

  pub too_heavy : (limits : Limits) → IsRefused (machine_of a Forwards) (length (samples_of a)) limits.size_limit TooBig
      ⊎ IsRefused (machine_of a Backwards) (length (samples_of a)) limits.size_limit TooBig → AreTooHeavy e hs limits
  too_heavy limits h = record {
    ahead = machine_of a Forwards;
    behind = machine_of a Backwards;
    machines = of;
    classes = classes_of a;
    samples = samples_of a;
    classed_ahead = is_classing a Forwards;
    classed_behind = is_classing a Backwards;
    heavy = h;
  }

  -- the limit on places
  abbrev Exceeds : Option ℕ → ℕ → Type 0
  Exceeds limit places = IsSomeAnd limit (λ most. most < places)

  pub exceeds_so : (limit : Option ℕ) (places : ℕ) → places ≡ length (machine_of a Forwards).setting.places → Exceeds limit places → Exceeds limit (length (bytes_of (program hs)))
  exceeds_so limit places counted h = subst (Exceeds limit) (counted ∙ sym same_places) h

  pub exceeds_from : (limit : Option ℕ) (places : ℕ) → places ≡ length (machine_of a Forwards).setting.places → Exceeds limit (length (bytes_of (program hs))) → Exceeds limit places
  exceeds_from limit places counted h = subst (Exceeds limit) (same_places ∙ sym counted) h

-- there is none
pub no_symbols : (e : Engine) (patterns : ℕ) (hs : List Re) (limits : Limits) → AreOverSymbols e patterns hs limits None
no_symbols e patterns hs limits = record { fit = tt; read = tt; planned = tt; off = λ off. refl }

-- no needles tell each answer
pub not_answered : {A B : Type 0} (f : A → B) {b : Bool} {t : Option B} → (o : Option A) → b ≡ is_some o → b ≡ false → option_map f o ≡ t → IsSome t → ⊥
not_answered f None is never e h = true≢false (sym (subst IsSome (sym e) h))
not_answered f (Some x) is never e h = true≢false (sym is ∙ never)

module _ (e : Engine) (patterns : ℕ) (hs : List Re) (limits : Limits) where
  -- needles alone tell each answer
  pub answered_so : NoneServe e → AreMade e patterns hs limits None None
  answered_so answers = record {
    fit = tt;
    read = tt;
    barred = λ b. refl;
    none = λ n. inl (inr (inl answers));
    lazy_fit = tt;
    lazy_read = tt;
    planned = tt;
    lazy_barred = λ b. refl;
    lazy_none = λ n. inl (inr (inr answers));
  }

  -- both kinds are switched off
  pub off_so : limits.dfa ≡ false → limits.hybrid ≡ false → AreMade e patterns hs limits None None
  off_so dfa hybrid = record {
    fit = tt;
    read = tt;
    barred = λ b. refl;
    none = λ n. inl (inl dfa);
    lazy_fit = tt;
    lazy_read = tt;
    planned = tt;
    lazy_barred = λ b. refl;
    lazy_none = λ n. inl (inl hybrid);
  }

  module _ (dense : Option Dense) (bare : NoneServe e → ⊥) (fit : MayBeTablesFor e patterns dense)
      (read : MayBeTablesOver bytes e patterns dense) (off : AreOff hs limits → dense ≡ None)
      (none : dense ≡ None → AreOff hs limits ⊎ AreTooHeavy e hs limits) where
    -- tables of all states stand
    pub dense_so : is_some dense ≡ true → AreMade e patterns hs limits dense None
    dense_so there = record {
      fit = fit;
      read = read;
      barred = λ b. ⊎_elim (λ dfa. off (inl dfa)) (λ r. ⊎_elim (λ answers. absurd (bare answers)) (λ more. off (inr more)) r) b;
      none = λ n. absurd (true≢false (sym there ∙ ap is_some n));
      lazy_fit = tt;
      lazy_read = tt;
      planned = tt;
      lazy_barred = λ b. refl;
      lazy_none = λ n. inl (inr (inl there));
    }

    -- none do, so that those come whose states are made as they are met
    pub lazy_so : (a : Automaton) → AreMachines hs e.program.terminator e.kind (machine_of a Forwards) (machine_of a Backwards) →
        AreClassesOf limits.byte_classes hs e.program.terminator (classes_of a) → places_of e.program.places.items ≡ program hs → patterns ≡ length hs →
        heaviness (places_of e.program.places.items) ≤ 2147483646 → is_some dense ≡ false → (met : Option Lazy) → IfSome met (IsLazyOf a limits.capacity) →
        (limits.hybrid ≡ false → met ≡ None) → (met ≡ None → (limits.hybrid ≡ false) ⊎ (limits.capacity < least_of a)) → AreMade e patterns hs limits dense met
    lazy_so a of classed same counted light nowhere met made hybrid short = record {
      fit = fit;
      read = read;
      barred = λ b. ⊎_elim (λ dfa. off (inl dfa)) (λ r. ⊎_elim (λ answers. absurd (bare answers)) (λ more. off (inr more)) r) b;
      none = λ n. ⊎_elim (λ h. inl (⊎_elim (λ dfa. inl dfa) (λ more. inr (inr more)) h)) (λ heavy. inr heavy) (none n);
      lazy_fit = fits bytes e hs a of patterns limits classed same counted light met made;
      lazy_read = reads bytes e hs a of patterns limits classed same counted light met made;
      planned = plans bytes e hs a of patterns limits classed same counted light met made;
      lazy_barred = λ b. ⊎_elim hybrid (λ r. ⊎_elim (λ there. absurd (true≢false (sym there ∙ nowhere))) (λ answers. absurd (bare answers)) r) b;
      lazy_none = λ n. ⊎_elim (λ h. inl (inl h)) (λ s. inr (short_by e hs a of limits classed s)) (short n);
    }

-- needles tell each answer
pub is_answered : {A B : Type 0} (f : A → B) {b : Bool} {t : Option B} → (o : Option A) → b ≡ is_some o → b ≡ true → option_map f o ≡ t → IsSome t
is_answered f None is so e = absurd (true≢false (sym so ∙ is))
is_answered f (Some x) is so e = subst IsSome e refl
