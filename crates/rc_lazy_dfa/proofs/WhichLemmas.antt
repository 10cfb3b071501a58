-- Overlapping search: what a search knows at a position.
use Rattle.std.proofs.Common.{◌≡◌, ◌≢◌, ℕ, ◌+◌, ◌*◌, ◌-◌, ◌<◌, ◌≤◌, ◌⊎◌, ◌↔◌, Bool, true, false, not, true≢false, zero, suc, IsTrue, List, [], ◌∷◌, length, slice_get, slice_index_or, Option, Some, None, max, ⊎_elim, refl, sym, subst, ap, ◌∙◌, arith}
use Rattle.std.proofs.Math.Nat.{mul-le-mul_right}
use Rattle.std.proofs.lemmas.Bool.{cases_eq, cases_lt}
use Rattle.std.proofs.lemmas.Option.{slice_get_within, slice_get_past, same_Some, slice_get-get_or, get_or_from_slice_get}
use Rattle.rc_pattern_set.specs.Sets.{Has}
use Rattle.rc_program.specs.Looks.{Side}
use Rattle.rc_program.specs.Text.{Text, before_at, after_at}
use Rattle.rc_program.specs.Program.{is_match_place, ways}
use Rattle.rc_program.specs.Sought.{text_of}
use Rattle.rc_determinize.specs.Sets.{Comes, ComesHere, EndsHere}
use Rattle.rc_determinize.specs.Sides.{byte_of}
use Rattle.rc_determinize.specs.States.{State, best_at}
use Rattle.rc_determinize.specs.Steps.{HasPlace}
use Rattle.rc_determinize.proofs.LawLemmas.{gather_law}
use Rattle.rc_dfa.specs.Automata.{machine_of, classes_of}
use Rattle.rc_dfa.specs.declared.automaton.Automaton.{Automaton}
use Rattle.rc_dfa.specs.declared.automaton.Direction.TheVariants.{Overlapping}
use Rattle.rc_dfa.specs.Machine.{Machine, IsMachine, Leads, Begins, is_dead}
use Rattle.rc_dfa.specs.Laws.{ComesOn, starts_of}
use Rattle.rc_dfa.specs.Runs.{MayRead, MayReadSide, LeadsAcross, BeginsBy, RunsOver, ahead_at, behind_at}
use Rattle.rc_dfa.proofs.OverlapLemmas.{overlap_law}
use Rattle.rc_table_search.specs.Ways.{IsNext}
use Rattle.rc_lazy_dfa.specs.Cells.{unknown, met, quit, row_of, has_died, column_of}
use Rattle.rc_lazy_dfa.specs.Stores.{Grows, Frame, IsFrame, Held, IsRow, IsColumn, IsKnown, Names, frame_of}
use Rattle.rc_lazy_dfa.specs.declared.letters.Letter.TheVariants.{Alone}
use Rattle.rc_lazy_dfa.specs.Halves.{IsHalf, IsPlace}
use Rattle.rc_lazy_dfa.specs.Overlaps.{AddsOnly, AreCollected, ComesTo, EndsAt, HasEach, IsAmong, IsOverlap, IsTold, IsUnderway, Meets, MeetsAt, MeetsBefore, Overlap, text_over}
use Rattle.rc_lazy_dfa.specs.declared.which.Ends.{Ends}
use Rattle.rc_lazy_dfa.specs.declared.half.Half.{Half}
use Rattle.rc_lazy_dfa.specs.declared.store.Store.{Store}
use Rattle.rc_lazy_dfa.proofs.CellLemmas as cells
use Rattle.rc_lazy_dfa.proofs.CellLemmas.{cell_here, leads_to}
use Rattle.rc_lazy_dfa.proofs.NameLemmas.{died_or_not, row_going}
use Rattle.rc_lazy_dfa.proofs.RowLemmas.{same_row, same_column}
use Rattle.rc_lazy_dfa.proofs.WriteLemmas.{byte_inside, column_inside}
use Rattle.rc_lazy_dfa.proofs.StepLemmas.{column_is}
use Rattle.rc_lazy_dfa.proofs.SetLemmas.{adds_as, adds_more, adds_none, each_kept}

-- WALKS

module _ (o : Overlap) (k : IsOverlap o) (machine : IsMachine o.frame.machine) where
  abbrev m : Machine
  m = o.frame.machine

  abbrev t : Text
  t = text_over o

  -- what is known alone is read
  may_so : (side : Side) → MayRead m (byte_of side) → MayReadSide m.alphabet m side
  may_so side h = subst (λ a. MayReadSide a m side) (sym k.reads) h

  begins_so : (side : Side) (first : State) → Begins m o.anchored (byte_of side) first → BeginsBy m.alphabet m o.anchored side first
  begins_so side first h = subst (λ a. BeginsBy a m o.anchored side first) (sym k.reads) h

  module _ (i : ℕ) (s : State) (c : ComesTo o i s) where
    -- walks come to the places to which the state leads
    comes_here : MayRead m (ahead_at t i) → (q : ℕ) →
        ComesHere m.setting s (ahead_at t i) q ↔ Comes (ways m.setting.places t o.bound) (starts_of m o.anchored o.from o.bound) (q, i)
    comes_here read q =
        subst (λ a. ComesOn a m (after_at t i) s q ↔ Comes (ways m.setting.places t o.bound) (starts_of m o.anchored o.from o.bound) (q, i)) k.reads
        (overlap_law.comes m t o.bound o.from o.anchored c.first s i c.found machine k.overlaps refl k.inside (may_so (before_at t o.from) c.read)
        (begins_so (before_at t o.from) c.first c.begins) c.runs c.within (may_so (after_at t i) read) q)

    -- what ends at the state is met there
    pub met_here : MayRead m (ahead_at t i) → (p : ℕ) → EndsAt m s (ahead_at t i) p → MeetsAt o p i
    met_here read p x =
        let e = x.1 in
        (x.0, (comes_here read x.0).0 e.0, x.2)

    -- and nothing else is
    pub ends_here : MayRead m (ahead_at t i) → (p : ℕ) → MeetsAt o p i → EndsAt m s (ahead_at t i) p
    ends_here read p x = (
      x.0,
      (
        (comes_here read x.0).1 x.1,
        subst (λ z. IsTrue (is_match_place None z)) (sym x.2) refl,
      ),
      x.2,
    )

    pub has_here : (set : List Bool) → MayRead m (ahead_at t i) → HasEach (EndsAt m s (ahead_at t i)) set → HasEach (MeetsBefore o i) set →
        HasEach (MeetsBefore o (i + 1)) set
    has_here set read each has p lt x =
        let below = x.1 in
        ⊎_elim
        (λ e. each p lt (ends_here read p (subst (λ y. MeetsAt o p y) e x.2)))
        (λ ne. has p lt (x.0, omega (arith, below, ne), x.2))
        (cases_eq x.0 i)

    pub comes_on : (next : State) → i < o.bound → MayRead m (ahead_at t i) → Leads m s (ahead_at t i) next → ComesTo o (i + 1) next
    comes_on next lt read leads = record {
      within = omega (arith, lt);
      first = c.first;
      read = c.read;
      begins = c.begins;
      found = best_at i next.matched c.found;
      runs = RunsOver.goes_on i s next c.runs lt (may_so (after_at t i) read)
          (subst (λ a. LeadsAcross a m (after_at t i) (before_at t (i + 1)) s next) (sym k.reads) leads);
    }

    -- where nothing goes on, nothing more is met
    pub has_dead : (set : List Bool) → is_dead s ≡ true → HasEach (MeetsBefore o i) set → HasEach (Meets o) set
    has_dead set dead has p lt x =
        ⊎_elim
        (λ below. has p lt (x.0, below, x.1))
        (λ past. absurd (overlap_law.dies m t o.bound o.from o.anchored c.first s i c.found machine k.overlaps refl k.inside (may_so (before_at t o.from) c.read)
        (begins_so (before_at t o.from) c.first c.begins) c.runs dead x.1.0 x.0 past x.1.1))
        (cases_lt x.0 i)

  -- nothing is met beyond the bound, or before the start
  pub has_bound : (set : List Bool) → HasEach (MeetsBefore o (o.bound + 1)) set → HasEach (Meets o) set
  has_bound set has p lt x =
      let w = overlap_law.within m t o.bound o.from o.anchored x.1.0 x.0 machine k.ordered x.1.1 in
      let high = w.1 in
      has p lt (x.0, omega (arith, high), x.1)

  pub has_none : (set : List Bool) → HasEach (MeetsBefore o o.from) set
  has_none set p lt x =
      let y = x.2 in
      let w = overlap_law.within m t o.bound o.from o.anchored y.0 x.0 machine k.ordered y.1 in
      let low = w.0 in
      let below = x.1 in
      absurd (omega (arith, low, below))

  pub begun : (first : State) → MayRead m (behind_at t o.from) → Begins m o.anchored (behind_at t o.from) first → ComesTo o o.from first
  begun first read begins = record { within = k.ordered; first = first; read = read; begins = begins; found = None; runs = RunsOver.begun }

-- COLLECTED CELLS

pub none_collected : (f : Frame) (states : List State) (set : List Bool) → AreCollected f states [] set
none_collected f states set = record { short = omega arith; told = λ row column s beside r at never. cc never }

pub collected_kept : (f : Frame) (states : List State) (collected a b : List Bool) (Is : ℕ → Type 0) → AddsOnly Is a b → AreCollected f states collected a →
    AreCollected f states collected b
collected_kept f states collected a b Is adds x = record {
  short = x.short;
  told = λ row column s beside r at is. each_kept (EndsAt f.machine s beside) Is a b adds (x.told row column s beside r at is);
}

-- bytes of one class end the same walks
ends_alike : (a : Automaton) (b c class : ℕ) (s : State) (q : ℕ) → slice_get (classes_of a) b ≡ Some class → slice_get (classes_of a) c ≡ Some class →
    ComesHere (machine_of a Overlapping).setting s (Some b) q → ComesHere (machine_of a Overlapping).setting s (Some c) q
ends_alike a b c class s q x y =
    let size = a.size in
    let within : (d : ℕ) → slice_get (classes_of a) d ≡ Some class → d < 256 = λ d e. let w = slice_get_within (classes_of a) d class e in omega (arith, w, size) in
    gather_law.alike (machine_of a Overlapping).setting b c s q
    (a.alike b c (within b x) (within c y) (get_or_from_slice_get (classes_of a) b class 0 x ∙ sym (get_or_from_slice_get (classes_of a) c class 0 y)))

column_alike : (a : Automaton) (b c : Option ℕ) (column : ℕ) (s : State) (p : ℕ) → IsFrame (frame_of a Overlapping) →
    IsColumn (frame_of a Overlapping) (Alone b) column → IsColumn (frame_of a Overlapping) (Alone c) column →
    EndsAt (machine_of a Overlapping) s b p → EndsAt (machine_of a Overlapping) s c p
column_alike a None None column s p k x y h = h
column_alike a None (Some c) column s p k x y h = let lt = byte_inside (frame_of a Overlapping) c column k y in absurd (omega (arith, lt, x))
column_alike a (Some b) None column s p k x y h = let lt = byte_inside (frame_of a Overlapping) b column k x in absurd (omega (arith, lt, y))
column_alike a (Some b) (Some c) column s p k x y h = let e = h.1 in (h.0, (ends_alike a b c column s h.0 x y e.0, e.1), h.2)

-- one more cell is collected, of a row there is
pub one_collected : (a : Automaton) (f : Frame) (s : Store) (row b : ℕ) (v : State) (collected collected2 set : List Bool) → frame_of a Overlapping ≡ f → Held f s → b < 256 →
    IsRow f.width s.states row v → HasEach (EndsAt f.machine v (Some b)) set →
    length collected2 ≤ max (length collected) (row + column_of f.classes f.width (Alone (Some b)) + 1) →
    ((index : ℕ) → slice_get collected2 index ≡ Some true → (slice_get collected index ≡ Some true) ⊎ (index ≡ row + column_of f.classes f.width (Alone (Some b)))) →
    AreCollected f s.states collected set → AreCollected f s.states collected2 set
one_collected a f s row b v collected collected2 set same h byte r each short told x =
    let column = column_of f.classes f.width (Alone (Some b)) in
    let is : IsColumn f (Alone (Some b)) column = column_is f (Alone (Some b)) h.frame byte in
    let inside : column < f.width = column_inside f (Alone (Some b)) column h.frame is in
    record {
      short =
          let was = x.short in
          let lt = slice_get_within s.states r.0 v r.1 in
          let le = mul-le-mul_right {n = length s.states} f.width lt in
          let at = r.2 in
          omega (arith, was, short, le, at, inside);
      told = λ row2 column2 u beside r2 is2 here. ⊎_elim
          (λ old. x.told row2 column2 u beside r2 is2 old)
          (λ e.
          let inside2 : column2 < f.width = column_inside f (Alone beside) column2 h.frame is2 in
          let at = r.2 in
          let at2 = r2.2 in
          let sum : r2.0 * f.width + column2 ≡ r.0 * f.width + column = omega (arith, e, at, at2) in
          let ids : r2.0 ≡ r.0 = same_row f.width r2.0 r.0 column2 column inside2 inside sum in
          let columns : column2 ≡ column = same_column f.width r2.0 r.0 column2 column ids sum in
          let states : v ≡ u = same_Some v u (sym r.1 ∙ ap (λ i. slice_get s.states i) (sym ids) ∙ r2.1) in
          let here2 : IsColumn f (Alone beside) column = subst (λ n. IsColumn f (Alone beside) n) columns is2 in
          subst (λ w. HasEach (EndsAt f.machine w beside) set) states
          (λ p lt ends. each p lt (back beside p ends here2 is)))
          (told (row2 + column2) here);
    }
  where
    back : (beside : Option ℕ) (p : ℕ) → EndsAt f.machine v beside p → IsColumn f (Alone beside) (column_of f.classes f.width (Alone (Some b))) →
        IsColumn f (Alone (Some b)) (column_of f.classes f.width (Alone (Some b))) → EndsAt f.machine v (Some b) p
    back beside p ends x y =
        subst (λ (g : Frame). IsFrame g → EndsAt g.machine v beside p → IsColumn g (Alone beside) (column_of f.classes f.width (Alone (Some b))) →
        IsColumn g (Alone (Some b)) (column_of f.classes f.width (Alone (Some b))) → EndsAt g.machine v (Some b) p) same
        (λ frame e x2 y2. column_alike a beside (Some b) (column_of f.classes f.width (Alone (Some b))) v p frame x2 y2 e) h.frame ends x y

state_there : (xs : List State) (i : ℕ) → i < length xs → (u : State) × (slice_get xs i ≡ Some u)
state_there [] i lt = absurd (omega (arith, lt))
state_there (x ∷ xs) zero lt = (x, refl)
state_there (x ∷ xs) (suc i) lt = state_there xs i (omega (arith, lt))

grown : (old new : List State) → Grows old new → length old ≤ length new
grown [] new grows = omega arith
grown (x ∷ xs) new grows =
    let last = state_there (x ∷ xs) (length xs) (omega arith) in
    let lt = slice_get_within new (length xs) last.0 (grows (length xs) last.0 last.1) in
    omega (arith, lt)

-- where states were added
pub still_collected : (f : Frame) (old new : List State) (collected set : List Bool) → Grows old new → AreCollected f old collected set → AreCollected f new collected set
still_collected f old new collected set grows x = record {
  short = let was = x.short in let le = mul-le-mul_right f.width (grown old new grows) in omega (arith, was, le);
  told = λ row column u beside r at is. ⊎_elim
      (λ lt. let here = state_there old r.0 lt in
      let same = same_Some here.0 u (sym (grows r.0 here.0 here.1) ∙ r.1) in
      x.told row column u beside (r.0, here.1 ∙ ap Some same, r.2) at is)
      (λ ge. let le = mul-le-mul_right {m = length old} f.width ge in
      let was = x.short in
      let row_is = r.2 in
      let none = slice_get_past collected (row + column) (omega (arith, was, le, row_is)) in cc (none, is))
      (cases_lt r.0 (length old));
}

-- ONE BYTE

module _ (o : Overlap) (k : IsOverlap o) (e : Ends) (set : List Bool) (i row : ℕ) (u : IsUnderway o e i row set) (b : ℕ) (next : IsNext false o.seen o.bound i b) where
  abbrev f : Frame
  f = o.frame

  is_machine : IsMachine f.machine
  is_machine = let held = u.half.held in let frame = held.frame in frame.machine

  ahead : ahead_at (text_over o) i ≡ Some b
  ahead = next.beside f.machine.setting.terminator

  left : i < o.bound
  left = let some = next.left in omega (arith, some)

  -- where the set has what ends here
  module _ (read : MayRead f.machine (Some b)) where
    read_here : MayRead f.machine (ahead_at (text_over o) i)
    read_here = subst (λ v. MayRead f.machine v) (sym ahead) read

    pub adds_here : (set2 : List Bool) → AddsOnly (EndsAt f.machine u.state (Some b)) set set2 → AddsOnly (Meets o) o.old set2
    adds_here set2 adds =
        adds_more (Meets o) o.old set set2 u.adds
        (adds_as (EndsAt f.machine u.state (Some b)) (Meets o) set set2
        (λ p x. (i, met_here o k is_machine i u.state u.comes read_here p (subst (λ v. EndsAt f.machine u.state v p) (sym ahead) x))) adds)

    pub has_next : (set2 : List Bool) → AddsOnly (EndsAt f.machine u.state (Some b)) set set2 → HasEach (EndsAt f.machine u.state (Some b)) set2 →
        HasEach (MeetsBefore o (i + 1)) set2
    has_next set2 adds each =
        has_here o k is_machine i u.state u.comes set2 read_here (λ p lt x. each p lt (subst (λ v. EndsAt f.machine u.state v p) ahead x))
        (each_kept (MeetsBefore o i) (EndsAt f.machine u.state (Some b)) set set2 adds u.has)

    pub comes_next : (to : State) → Leads f.machine u.state (Some b) to → ComesTo o (i + 1) to
    comes_next to leads = comes_on o k is_machine i u.state u.comes to left read_here (subst (λ v. Leads f.machine u.state v to) (sym ahead) leads)

  -- over cells that need no look
  module _ (classes : List ℕ) (same : classes ≡ f.classes) (byte : b < 256) where
    abbrev column : ℕ
    column = slice_index_or classes b 0

    abbrev cell : ℕ
    cell = slice_index_or e.half.store.cells.items (row + column) 0

    goes : (to : State) (row2 : ℕ) → MayRead f.machine (Some b) → Leads f.machine u.state (Some b) to → IsRow f.width e.half.store.states row2 to →
        HasEach (EndsAt f.machine u.state (Some b)) set → IsUnderway o e (i + 1) row2 set
    goes to row2 read leads there each = record {
      half = u.half;
      state = to;
      in_row = there;
      comes = comes_next read to leads;
      collected = u.collected;
      adds = u.adds;
      has = has_next read set (adds_none (EndsAt f.machine u.state (Some b)) set) each;
    }

    led : cell ≢ unknown → cell ≢ quit → MayRead f.machine (Some b) × ((to : State) × Leads f.machine u.state (Some b) to × Names f.width e.half.store.states cell to)
    led known readable =
        leads_to f e.half.store.states (Some b) (Leads f.machine u.state (Some b)) cell
        (cell_here f e.half.store e.half.store.cells.items classes row b u.state u.half.held refl same byte u.in_row known) readable

    pub over_plain : cell < unknown → IsUnderway o e (i + 1) cell set
    over_plain lt =
        let l = led (λ z. omega (arith, z, lt)) (λ z. omega (arith, z, lt)) in
        let to = l.1 in
        let p = cells.plain f e.half.store u.half.held cell to.0 to.2 lt in
        goes to.0 cell l.0 to.1 p.0 (λ q short x. absurd (overlap_law.unmet f.machine u.state to.0 (Some b) k.overlaps to.1 p.1 x.0 x.1))

    pub over_collected : met ≤ cell → cell - met < unknown → slice_get e.collected.items (row + column) ≡ Some true → IsUnderway o e (i + 1) (cell - met) set
    over_collected le lt is =
        let l = led (λ z. omega (arith, z, le)) (λ z. omega (arith, z, lt)) in
        let to = l.1 in
        let p = cells.marked f e.half.store u.half.held cell to.0 to.2 le lt in
        let frame = let held = u.half.held in held.frame in
        let size = frame.size in
        let here : slice_get f.classes b ≡ Some column = subst (λ xs. slice_get xs b ≡ Some column) same
        (slice_get-get_or classes b 0 (subst (λ xs. b < length xs) (sym same) (omega (arith, size, byte)))) in
        goes to.0 (cell - met) l.0 to.1 p.0 (u.collected.told row column u.state (Some b) u.in_row here is)

-- A STEP

-- the set told no more than it may
pub told_some : (o : Overlap) (e : Ends) (set : List Bool) → IsHalf o.frame e.half → AddsOnly (Meets o) o.old set → IsTold o e false set
told_some o e set half adds = record { half = half; adds = adds; has = λ never. absurd (true≢false (sym never)) }

pub told_all : (o : Overlap) (e : Ends) (set : List Bool) → IsHalf o.frame e.half → AddsOnly (Meets o) o.old set → HasEach (Meets o) set → IsTold o e true set
told_all o e set half adds has = record { half = half; adds = adds; has = λ _. has }

pub place_of_row : (o : Overlap) (e : Ends) (set : List Bool) (i row : ℕ) → IsUnderway o e i row set → IsPlace o.frame e.half.store row
place_of_row o e set i row u = let r = u.in_row in record { id = r.0; there = slice_get_within e.half.store.states r.0 u.state r.1; row_is = r.2 }

-- WHERE A SEARCH BEGINS

module _ (o : Overlap) (k : IsOverlap o) (e : Ends) (half : IsHalf o.frame e.half) (beside : Option ℕ) (cell : ℕ) (is : beside ≡ behind_at (text_of 0 o.seen) o.from)
    (known : IsKnown o.frame e.half.store.states beside (Begins o.frame.machine o.anchored beside) cell) (readable : cell ≢ quit) where
  begun_here : MayRead o.frame.machine beside × ((to : State) × Begins o.frame.machine o.anchored beside to × Names o.frame.width e.half.store.states cell to)
  begun_here = leads_to o.frame e.half.store.states beside (Begins o.frame.machine o.anchored beside) cell known readable

  own_machine : IsMachine o.frame.machine
  own_machine = let held = half.held in let frame = held.frame in frame.machine

  comes_first : ComesTo o o.from begun_here.1.0
  comes_first =
      let b = begun_here in
      begun o k own_machine b.1.0 (subst (λ v. MayRead o.frame.machine v) is b.0) (subst (λ v. Begins o.frame.machine o.anchored v b.1.0) is b.1.1)

  pub begin_dies : has_died cell ≡ true → IsTold o e true o.old
  begin_dies died =
      let b = begun_here in
      told_all o e o.old half (adds_none (Meets o) o.old)
      (has_dead o k own_machine o.from b.1.0 comes_first o.old (sym (died_or_not o.frame e.half.store half.held cell b.1.0 b.1.2) ∙ died) (has_none o k own_machine o.old))

  pub begin_goes : (row : ℕ) → row ≡ row_of cell → has_died cell ≡ false → e.collected.items ≡ [] → IsUnderway o e o.from row o.old
  begin_goes row e_is alive none =
      let b = begun_here in record {
        half = half;
        state = b.1.0;
        in_row = subst (λ r. IsRow o.frame.width e.half.store.states r b.1.0) (sym e_is) (row_going o.frame e.half.store half.held cell b.1.0 b.1.2 alive);
        comes = comes_first;
        collected = subst (λ xs. AreCollected o.frame e.half.store.states xs o.old) (sym none) (none_collected o.frame e.half.store.states o.old);
        adds = adds_none (Meets o) o.old;
        has = has_none o k own_machine o.old;
      }

-- WHAT ENDS AT A STATE

module _ (a : Automaton) (f : Frame) (u s : State) (beside : Option ℕ) (list : List ℕ) (same : frame_of a Overlapping ≡ f) (is : u ≡ s)
    (ends : (q : ℕ) → HasPlace q list ↔ EndsHere (machine_of a Overlapping).setting u beside q) where
  pub ends_added : (old new : List Bool) → AddsOnly (IsAmong (machine_of a Overlapping).setting.places list) old new → AddsOnly (EndsAt f.machine s beside) old new
  ends_added old new h =
      subst (λ (g : Frame). AddsOnly (EndsAt g.machine s beside) old new) same
      (subst (λ v. AddsOnly (EndsAt (machine_of a Overlapping) v beside) old new) is
      (adds_as (IsAmong (machine_of a Overlapping).setting.places list) (EndsAt (machine_of a Overlapping) u beside) old new (λ p x. (x.0, (ends x.0).0 x.1, x.2)) h))

  pub ends_each : (new : List Bool) → HasEach (IsAmong (machine_of a Overlapping).setting.places list) new → HasEach (EndsAt f.machine s beside) new
  ends_each new h =
      subst (λ (g : Frame). HasEach (EndsAt g.machine s beside) new) same
      (subst (λ v. HasEach (EndsAt (machine_of a Overlapping) v beside) new) is (λ p lt x. h p lt (x.0, (ends x.0).1 x.1, x.2)))

-- AFTER A LOOK

pub so_kept : (kept : Bool) → not kept ≡ false → kept ≡ true
so_kept true e = refl
so_kept false e = absurd (true≢false e)

module _ (a : Automaton) (o : Overlap) (k : IsOverlap o) (same : frame_of a Overlapping ≡ o.frame) (e : Ends) (set : List Bool) (i row : ℕ) (u : IsUnderway o e i row set)
    (b : ℕ) (next : IsNext false o.seen o.bound i b) (byte : b < 256) (read : MayRead o.frame.machine (Some b)) (set2 : List Bool)
    (adds : AddsOnly (EndsAt o.frame.machine u.state (Some b)) set set2) where
  pub look_some : (e2 : Ends) → IsHalf o.frame e2.half → IsTold o e2 false set2
  look_some e2 half = told_some o e2 set2 half (adds_here o k e set i row u b next read set2 adds)

  pub look_full : (e2 : Ends) → IsHalf o.frame e2.half → ((p : ℕ) → p < length set2 → Has set2 p) → IsTold o e2 true set2
  look_full e2 half all = told_all o e2 set2 half (adds_here o k e set i row u b next read set2 adds) (λ p lt met. all p lt)

  module _ (each : HasEach (EndsAt o.frame.machine u.state (Some b)) set2) (store : Store) (was : store ≡ e.half.store) (e2 : Ends) (half : IsHalf o.frame e2.half) (cell : ℕ)
      (readable : cell ≢ quit)
      (leads : (s : State) → IsRow o.frame.width store.states row s → IsKnown o.frame e2.half.store.states (Some b) (Leads o.frame.machine s (Some b)) cell) where
    led_to : MayRead o.frame.machine (Some b) × ((to : State) × Leads o.frame.machine u.state (Some b) to × Names o.frame.width e2.half.store.states cell to)
    led_to =
        leads_to o.frame e2.half.store.states (Some b) (Leads o.frame.machine u.state (Some b)) cell
        (leads u.state (subst (λ (s : Store). IsRow o.frame.width s.states row u.state) (sym was) u.in_row)) readable

    a_machine : IsMachine o.frame.machine
    a_machine = let held = half.held in let frame = held.frame in frame.machine

    pub look_dies : has_died cell ≡ true → IsTold o e2 true set2
    look_dies died =
        let l = led_to in
        let to = l.1 in
        told_all o e2 set2 half (adds_here o k e set i row u b next read set2 adds)
        (has_dead o k a_machine (i + 1) to.0 (comes_next o k e set i row u b next read to.0 to.1) set2
        (sym (died_or_not o.frame e2.half.store half.held cell to.0 to.2) ∙ died) (has_next o k e set i row u b next read set2 adds each))

    pub look_goes : (row2 : ℕ) → row2 ≡ row_of cell → has_died cell ≡ false → AreCollected o.frame e2.half.store.states e2.collected.items set2 →
        IsUnderway o e2 (i + 1) row2 set2
    look_goes row2 is alive collected =
        let l = led_to in
        let to = l.1 in record {
          half = half;
          state = to.0;
          in_row = subst (λ r. IsRow o.frame.width e2.half.store.states r to.0) (sym is) (row_going o.frame e2.half.store half.held cell to.0 to.2 alive);
          comes = comes_next o k e set i row u b next read to.0 to.1;
          collected = collected;
          adds = adds_here o k e set i row u b next read set2 adds;
          has = has_next o k e set i row u b next read set2 adds each;
        }

    -- the cell is collected from then on
    pub look_collects : (collected2 : List Bool) → length collected2 ≤ max (length e.collected.items) (row + column_of o.frame.classes o.frame.width (Alone (Some b)) + 1) →
        ((index : ℕ) → slice_get collected2 index ≡ Some true →
        (slice_get e.collected.items index ≡ Some true) ⊎ (index ≡ row + column_of o.frame.classes o.frame.width (Alone (Some b)))) →
        AreCollected o.frame store.states collected2 set2
    look_collects collected2 short told =
        subst (λ (s : Store). AreCollected o.frame s.states collected2 set2) (sym was)
        (one_collected a o.frame e.half.store row b u.state e.collected.items collected2 set2 same u.half.held byte u.in_row each short told
        (collected_kept o.frame e.half.store.states e.collected.items set set2 (EndsAt o.frame.machine u.state (Some b)) adds u.collected))

-- AT THE BOUND

module _ (o : Overlap) (k : IsOverlap o) (e : Ends) (set : List Bool) (row : ℕ) (u : IsUnderway o e o.bound row set) (beside : Option ℕ)
    (is : beside ≡ ahead_at (text_over o) o.bound) (read : MayRead o.frame.machine beside) (set2 : List Bool)
    (adds : AddsOnly (EndsAt o.frame.machine u.state beside) set set2) where
  bound_machine : IsMachine o.frame.machine
  bound_machine = let held = u.half.held in let frame = held.frame in frame.machine

  read_bound : MayRead o.frame.machine (ahead_at (text_over o) o.bound)
  read_bound = subst (λ v. MayRead o.frame.machine v) is read

  adds_bound : AddsOnly (Meets o) o.old set2
  adds_bound =
      adds_more (Meets o) o.old set set2 u.adds
      (adds_as (EndsAt o.frame.machine u.state beside) (Meets o) set set2
      (λ p x. (o.bound, met_here o k bound_machine o.bound u.state u.comes read_bound p (subst (λ v. EndsAt o.frame.machine u.state v p) is x))) adds)

  pub bound_some : (e2 : Ends) → IsHalf o.frame e2.half → IsTold o e2 false set2
  bound_some e2 half = told_some o e2 set2 half adds_bound

  pub bound_all : (e2 : Ends) → IsHalf o.frame e2.half → HasEach (EndsAt o.frame.machine u.state beside) set2 → IsTold o e2 true set2
  bound_all e2 half each =
      told_all o e2 set2 half adds_bound
      (has_bound o k bound_machine set2
      (has_here o k bound_machine o.bound u.state u.comes set2 read_bound (λ p lt x. each p lt (subst (λ v. EndsAt o.frame.machine u.state v p) (sym is) x))
      (each_kept (MeetsBefore o o.bound) (EndsAt o.frame.machine u.state beside) set set2 adds u.has)))

-- where bytes are counted, the search stands as before
pub served : (o : Overlap) (e : Ends) (h : Half) (i row : ℕ) (set : List Bool) → h.store ≡ e.half.store → h.scratch ≡ e.half.scratch → IsUnderway o e i row set →
    IsUnderway o (record e { half = h }) i row set
served o e h i row set store scratch u = record {
  half = record {
    held = subst (λ (s : Store). Held o.frame s) (sym store) u.half.held;
    scratch = scratch ∙ u.half.scratch;
  };
  state = u.state;
  in_row = subst (λ (s : Store). IsRow o.frame.width s.states row u.state) (sym store) u.in_row;
  comes = u.comes;
  collected = subst (λ (s : Store). AreCollected o.frame s.states e.collected.items set) (sym store) u.collected;
  adds = u.adds;
  has = u.has;
}
