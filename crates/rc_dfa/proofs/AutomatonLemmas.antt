-- What an automaton's fields tell of its machines.
use Rattle.std.proofs.Common.{◌≡◌, ℕ, ◌+◌, ◌-◌, ◌<◌, ◌≤◌, zero, suc, Bool, true, false, List, length, map, Some, get_or, slice_get, inl, inr, ⊎_elim, sym, subst, ap, ◌∙◌, if◌then◌else◌, arith}
use Rattle.std.proofs.lemmas.Bool.{cases_Bool}
use Rattle.std.proofs.lemmas.List.{length-map}
use Rattle.std.proofs.lemmas.Option.{slice_get_within, slice_get-get_or, get_or_from_slice_get}
use Rattle.rc_text.specs.declared.types.MatchKind.{MatchKind}
use Rattle.rc_text.specs.declared.types.Anchored.{Anchored}
use Rattle.rc_text.specs.declared.types.Anchored.TheVariants.{No, Yes, Pattern}
use Rattle.rc_program.specs.Program.{Place}
use Rattle.rc_determinize.specs.declared.sides.Asked.{Asked}
use Rattle.rc_determinize.specs.declared.sides.Seen.{Seen}
use Rattle.rc_utf8.specs.Places.{place_of, places_of}
use Rattle.rc_determinize.specs.declared.backward.Source.{Source}
use Rattle.rc_determinize.specs.Reversed.{into_at, IsReversed, AreInside}
use Rattle.rc_determinize.proofs.ReverseLemmas.{all_are_reversed}
use Rattle.rc_determinize.specs.Steps.{IsByBytes, AreBelow}
use Rattle.rc_determinize.specs.Sides.{AreAlike}
use Rattle.rc_determinize.specs.States.{Setting, State}
use Rattle.rc_determinize.specs.Classes.{is_border, TellsAlike}
use Rattle.rc_determinize.proofs.FollowLemmas.{by_bytes}
use Rattle.rc_determinize.proofs.KindLemmas.{kind_law}
use Rattle.rc_determinize.proofs.LawLemmas.{backward_law}
use Rattle.rc_determinize.proofs.ClassLemmas.{class_law}
use Rattle.rc_dfa.specs.declared.automaton.Direction as code
use Rattle.rc_dfa.specs.declared.automaton.Automaton.{Automaton}
use Rattle.rc_dfa.specs.Machine.{Direction, forwards, backwards, Machine, bytes, leads_by, begins_beside, begins_by, IsAsked, IsMachine, AreOfOneClass, IsClassing}
use Rattle.rc_dfa.specs.Samples.{AreClassesBy, AreRising, IsCounted, class_count}
use Rattle.rc_dfa.specs.Automata.{machine_of, alphabet_in, classes_of, samples_of, columns_of}
use Rattle.rc_dfa.specs.Symbols.{columns_for}

-- CLASSES

pub sized : (t : Bool) (places : List Place) (needs : Asked) (terminator : ℕ) (classes : List ℕ) →
    AreClassesBy t places needs terminator classes → length classes ≡ 256
sized true places needs terminator classes a = a.size
sized false places needs terminator classes a = a.size

pub counted : (t : Bool) (places : List Place) (needs : Asked) (terminator : ℕ) (classes : List ℕ) →
    AreClassesBy t places needs terminator classes → IsCounted classes
counted true places needs terminator classes a = (
  a.first,
  λ b h. ⊎_elim
      (λ t. inr (a.next b h ∙ ap (λ v. if v then get_or classes b 0 + 1 else get_or classes b 0) t))
      (λ f. inl (a.next b h ∙ ap (λ v. if v then get_or classes b 0 + 1 else get_or classes b 0) f))
      (cases_Bool (is_border places needs terminator b)),
)
counted false places needs terminator classes a = (
  a.own 0 (omega arith),
  λ b h. inr (a.own (b + 1) (omega (arith, h)) ∙ ap (λ k. k + 1) (sym (a.own b (omega (arith, h))))),
)

rises : (classes : List ℕ) → IsCounted classes → (b k c : ℕ) → c ≡ b + k → c < 256 → get_or classes b 0 ≤ get_or classes c 0
rises classes all b zero c e lt =
    let same : b ≡ c = omega (arith, e) in
    let is : get_or classes b 0 ≡ get_or classes c 0 = ap (λ j. get_or classes j 0) same in
    omega (arith, is)
rises classes all b (suc k) c e lt =
    let le : get_or classes b 0 ≤ get_or classes (c - 1) 0 = rises classes all b k (c - 1) (omega (arith, e)) (omega (arith, lt)) in
    let last : c - 1 + 1 ≡ c = omega (arith, e) in
    let is : get_or classes (c - 1 + 1) 0 ≡ get_or classes c 0 = ap (λ j. get_or classes j 0) last in
    ⊎_elim (λ same. omega (arith, le, is, same)) (λ next. omega (arith, le, is, next)) (all.1 (c - 1) (omega (arith, lt, e)))

-- no class is less than that of an earlier byte
pub rising : (t : Bool) (places : List Place) (needs : Asked) (terminator : ℕ) (classes : List ℕ) → AreClassesBy t places needs terminator classes → AreRising classes
rising t places needs terminator classes a b c le lt = rises classes (counted t places needs terminator classes a) b (c - b) c (omega (arith, le)) lt

pub tells_alike : (t : Bool) (places : List Place) (needs : Asked) (terminator : ℕ) (classes : List ℕ) → IsByBytes places →
    AreClassesBy t places needs terminator classes → TellsAlike places needs terminator classes
tells_alike true places needs terminator classes k a = class_law.alike places needs terminator classes k a
tells_alike false places needs terminator classes k a = class_law.single places needs terminator classes a

-- the class of the last byte is the last
pub counts : (a : Automaton) → length (samples_of a) ≡ class_count (classes_of a)
counts a =
    let below : get_or (classes_of a) 255 0 < length (samples_of a) = a.sampled.all 255 (omega arith) in
    let last = length (samples_of a) - 1 in
    let own = a.sampled.own last (omega (arith, below)) in
    let small = own.0 in
    let class = own.1 in
    let le : get_or (classes_of a) (get_or (samples_of a) last 0) 0 ≤ get_or (classes_of a) 255 0 =
    a.rising (get_or (samples_of a) last 0) 255 (omega (arith, small)) (omega arith) in
    omega (arith, below, class, le)

pub plain_columns : (a : Automaton) → alphabet_in a ≡ bytes → columns_of a ≡ length (samples_of a)
plain_columns a e = ap (λ x. columns_for x (classes_of a)) e ∙ sym (counts a)

-- MACHINES

pub is_machine : (a : Automaton) (d : code.Direction) → IsMachine (machine_of a d)
is_machine a d = record {
  setting = record { by_bytes = by_bytes a.places.items; covers = a.covers };
  closed = a.closed;
  rooted = let l = length-map a.places.items place_of in let r = a.rooted in omega (arith, l, r);
  entered = subst (λ n. AreBelow n a.entries.items) (sym (length-map a.places.items place_of)) a.entered;
}

lead_alike : (d : Direction) (g : Setting) (entries : List ℕ) (b c : ℕ) (s t : State) → AreAlike g.places g.needs g.terminator b c →
    leads_by d g entries s (Some b) t → leads_by d g entries s (Some c) t
lead_alike (forwards kind) g entries b c s t x h = kind_law.alike kind g 0 b c s t x h
lead_alike backwards g entries b c s t x h = backward_law.alike g entries b c s t x h

begin_alike : (d : Direction) (g : Setting) (entries : List ℕ) (b c : ℕ) (anchored : Anchored) (s : State) → AreAlike g.places g.needs g.terminator b c →
    begins_by d g entries anchored (Some b) s → begins_by d g entries anchored (Some c) s
begin_alike (forwards kind) g entries b c No s x h = record { list = h.list; beside = h.beside ∙ x.told_same; goes_on = h.goes_on; matched = h.matched }
begin_alike (forwards kind) g entries b c Yes s x h = record { list = h.list; beside = h.beside ∙ x.told_same; goes_on = h.goes_on; matched = h.matched }
begin_alike (forwards kind) g entries b c (Pattern p) s x h =
    let f = h.2 in (h.0, h.1, record { list = f.list; beside = f.beside ∙ x.told_same; goes_on = f.goes_on; matched = f.matched })
begin_alike backwards g entries b c No s x h = record { list = h.list; rising = h.rising; matched = h.matched; goes_on = h.goes_on; beside = h.beside ∙ x.told_same }
begin_alike backwards g entries b c Yes s x h = record { list = h.list; rising = h.rising; matched = h.matched; goes_on = h.goes_on; beside = h.beside ∙ x.told_same }
begin_alike backwards g entries b c (Pattern p) s x h = record { list = h.list; rising = h.rising; matched = h.matched; goes_on = h.goes_on; beside = h.beside ∙ x.told_same }

-- forwards, a search of each kind begins alike
pub begin_same : (kind other : MatchKind) (places : List Place) (entries : List ℕ) (facts : Seen) (anchored : Anchored) (s : State) →
    begins_beside (forwards kind) places entries anchored facts s → begins_beside (forwards other) places entries anchored facts s
begin_same kind other places entries facts No s h = h
begin_same kind other places entries facts Yes s h = h
begin_same kind other places entries facts (Pattern p) s h = h

-- what may be asked for doesn't depend on the direction
pub asked_same : (a : Automaton) (d e : code.Direction) (anchored : Anchored) → IsAsked (machine_of a d) anchored → IsAsked (machine_of a e) anchored
asked_same a d e No h = h
asked_same a d e Yes h = h
asked_same a d e (Pattern p) h = h

of_one_class : (m : Machine) (b c : ℕ) → AreAlike m.setting.places m.setting.needs m.setting.terminator b c → AreOfOneClass m b c
of_one_class m b c x = record {
  read = x.readable.0;
  lead = λ s t h. lead_alike m.direction m.setting m.entries b c s t x h;
  begin = λ anchored s h. begin_alike m.direction m.setting m.entries b c anchored s x h;
}

pub is_classing : (a : Automaton) (d : code.Direction) → IsClassing (machine_of a d) (classes_of a) (samples_of a)
is_classing a d =
    let size = a.size in
    let within : (b class : ℕ) → slice_get (classes_of a) b ≡ Some class → b < 256 = λ b class e. let w = slice_get_within (classes_of a) b class e in omega (arith, w, size) in
    record {
      size = a.size;
      sampled = λ b class e.
          let own : get_or (classes_of a) b 0 ≡ class = get_or_from_slice_get (classes_of a) b class 0 e in
          let lt : class < length (samples_of a) = subst (λ k. k < length (samples_of a)) own (a.sampled.all b (within b class e)) in
          let o = a.sampled.own class lt in
          let below = o.0 in (
            get_or (samples_of a) class 0,
            o.0,
            slice_get-get_or (samples_of a) class 0 lt,
            slice_get-get_or (classes_of a) (get_or (samples_of a) class 0) 0 (omega (arith, below, size)) ∙ ap Some o.1,
          );
      alike = λ b c class x y.
          of_one_class (machine_of a d) b c (a.alike b c (within b class x) (within c class y)
          (get_or_from_slice_get (classes_of a) b class 0 x ∙ sym (get_or_from_slice_get (classes_of a) c class 0 y)));
    }

-- ITS EDGES

pub is_reversed : (a : Automaton) → IsReversed (places_of a.places.items) a.reversed
is_reversed a = all_are_reversed (places_of a.places.items) a.reversed (by_bytes a.places.items) a.edges.0 a.edges.1

pub as_many : (a : Automaton) → length a.reversed.into.items ≡ length a.places.items
as_many a = a.edges.0 ∙ length-map a.places.items place_of

pub is_inside : (a : Automaton) → AreInside a.reversed
is_inside a p = let r = is_reversed a in subst (λ n. AreBelow n (map (λ (e : Source). e.from) (into_at a.reversed p))) (sym r.size) (r.below p)
