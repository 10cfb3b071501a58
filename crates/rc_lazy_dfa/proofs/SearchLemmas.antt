-- What the cells of a cache say to a search.
use Rattle.std.proofs.Common.{◌≡◌, ◌≢◌, ℕ, ◌<◌, ◌*◌, Bool, true, false, true≢false, List, length, Option, Some, None, Result, Ok, Err, IfOk, IfErr, slice_get, inl, inr, ⊎_elim, refl, sym, subst, ap, ◌∙◌, arith}
use Rattle.std.proofs.lemmas.Option.{slice_get_cases, slice_get_within}
use Rattle.rc_determinize.specs.States.{State}
use Rattle.rc_dfa.specs.Automata.{machine_of}
use Rattle.rc_text.specs.declared.types.Anchored.{Anchored}
use Rattle.rc_dfa.specs.Machine.{Machine, Begins, Leads}
use Rattle.rc_dfa.specs.Symbols.{LeadsTagged, BeginsTagged}
use Rattle.rc_dfa.specs.declared.symbols.Symbol.{Symbol}
use Rattle.rc_table_search.specs.Views.{IsEnd, IsSame, IsStart, IsStartBeside, IsStep, IsStepOver, Knows, LeadsTo}
use Rattle.rc_table_search.specs.Walks.{cell_by, skip}
use Rattle.rc_table_search.specs.Refusals.{is_memory}
use Rattle.rc_table_search.specs.declared.refusal.Refusal.{Refusal}
use Rattle.rc_table_search.specs.declared.refusal.Refusal.TheVariants.{Memory, Short}
use Rattle.rc_lazy_dfa.specs.Cells.{has_died, row_of}
use Rattle.rc_lazy_dfa.specs.Stores.{Frame, Held, IsKnown, IsKnownBy, IsRefused, IsRow, LeadsByLetter, BeginsByLetter, Names, Spends, goes_back}
use Rattle.rc_lazy_dfa.specs.declared.letters.Letter.TheVariants.{Tagged}
use Rattle.rc_lazy_dfa.specs.Courses.{MayGiveUp, direction_of, frame_in, view_of}
use Rattle.rc_lazy_dfa.specs.Halves.{IsPlace}
use Rattle.rc_lazy_dfa.specs.Rows.{IsRowOf}
use Rattle.rc_lazy_dfa.specs.declared.half.Half.{Half}
use Rattle.rc_lazy_dfa.specs.declared.lazy.Lazy.{Lazy}
use Rattle.rc_lazy_dfa.specs.declared.store.Store.{Store}
use Rattle.rc_lazy_dfa.proofs.CellLemmas.{cell_here}
use Rattle.rc_lazy_dfa.proofs.NameLemmas.{died_or_not, is_read, met_or_not, named_row, row_going}

pub refused_may : (f : Frame) (a b : Store) (e : Refusal) → IsRefused f a b e → MayGiveUp f a b 1 (is_memory e)
refused_may f a b Memory h = tt
refused_may f a b Short h = h

-- the rows of states
got : (xs : List State) (k : ℕ) → k < length xs → (t : State) × (slice_get xs k ≡ Some t)
got xs k lt = elim (slice_get_cases xs k).1 [
  | inl x ↦ (x.0, x.2)
  | inr past ↦ let le = past.0 in absurd (omega (arith, lt, le))
]

pub place_of : (f : Frame) (s : Store) (row : ℕ) (t : State) → IsRow f.width s.states row t → IsPlace f s row
place_of f s row t r = record { id = r.0; there = slice_get_within s.states r.0 t r.1; row_is = r.2 }

pub state_of : (f : Frame) (s : Store) (row : ℕ) → IsPlace f s row → (t : State) × IsRow f.width s.states row t
state_of f s row p = let x = got s.states p.id p.there in (x.0, (p.id, x.1, p.row_is))

-- where something goes on, the cell names a row
pub place_known : (f : Frame) (s : Store) (beside : Option ℕ) (To : State → Type 0) (cell : ℕ) → Held f s → IsKnown f s.states beside To cell → has_died cell ≡ false →
    IsPlace f s (row_of cell)
place_known f s beside To cell h (inl k) alive = absurd (true≢false (ap has_died (sym k.0) ∙ alive))
place_known f s beside To cell h (inr k) alive = let t = k.1 in place_of f s (row_of cell) t.0 (row_going f s h cell t.0 t.2 alive)

module _ (l : Lazy) (backwards : Bool) (h : Half) (held : Held (frame_in l backwards) h.store) where
  leads : (cell : ℕ) (t : State) → Names (frame_in l backwards).width h.store.states cell t →
      LeadsTo ((view_of l backwards).HasState h (machine_of l.automaton (direction_of backwards))) false cell t
  leads cell t n = record {
    is_read = (is_read (frame_in l backwards) h.store held cell t n).0;
    died = died_or_not (frame_in l backwards) h.store held cell t n;
    found = met_or_not (frame_in l backwards) h.store held cell t n;
    in_row = ⊎_elim (λ never. absurd (true≢false (sym never))) (λ ne. (refl, named_row (frame_in l backwards) h.store held cell t n ne));
  }

  known : (beside : Option ℕ) (To : State → Type 0) (cell : ℕ) → IsKnown (frame_in l backwards) h.store.states beside To cell →
      Knows (view_of l backwards) h (machine_of l.automaton (direction_of backwards)) beside To cell
  known beside To cell (inl k) = inl k
  known beside To cell (inr k) = let t = k.1 in inr (k.0, (t.0, t.1, leads cell t.0 t.2))

  pub knows : (beside : Option ℕ) (To : Machine → State → Type 0) (cell : ℕ) →
      IsKnown (frame_in l backwards) h.store.states beside (To (machine_of l.automaton (direction_of backwards))) cell →
      (m : Machine) → machine_of l.automaton (direction_of backwards) ≡ m → Knows (view_of l backwards) h m beside (To m) cell
  knows beside To cell k m same =
      subst (λ m. Knows (view_of l backwards) h m beside (To m) cell) same (known beside (To (machine_of l.automaton (direction_of backwards))) cell k)

  -- each cell that is known
  pub told : (cells classes : List ℕ) → cells ≡ h.store.cells.items → classes ≡ (frame_in l backwards).classes → (m : Machine) (r b : ℕ) (s : State) →
      (view_of l backwards).HasState h m r s → b < 256 → (false ≡ false → cell_by cells classes r b ≢ skip) →
      Knows (view_of l backwards) h m (Some b) (Leads m s (Some b)) (cell_by cells classes r b)
  told cells classes same_cells same_classes m r b s here byte ne =
      knows (Some b) (λ m. Leads m s (Some b)) (cell_by cells classes r b)
      (cell_here (frame_in l backwards) h.store cells classes r b s held same_cells same_classes byte here.1 (ne refl)) m here.0

-- the automaton steps in the direction of the search
same_way : (l : Lazy) (backwards : Bool) → goes_back (machine_of l.automaton (direction_of backwards)).direction ≡ backwards
same_way l false = refl
same_way l true = refl

-- the cell of a step or of a start, if the call gave one
pub ok_so : {A E : Type 0} (P Q : A → Type 0) → ((a : A) → P a → Q a) → (r : Result A E) → IfOk r P → IfOk r Q
ok_so P Q f (Ok a) h = f a h
ok_so P Q f (Err e) h = h

pub err_so : {A E : Type 0} (P Q : E → Type 0) → ((e : E) → P e → Q e) → (r : Result A E) → IfErr r P → IfErr r Q
err_so P Q f (Ok a) h = h
err_so P Q f (Err e) h = f e h

module _ (l : Lazy) (backwards : Bool) (old new : Half) (held : Held (frame_in l backwards) new.store) where
  pub start_says : (anchored : Anchored) (beside : Option ℕ) (cell : ℕ) →
      IsKnown (frame_in l backwards) new.store.states beside (Begins (machine_of l.automaton (direction_of backwards)) anchored beside) cell →
      IsStart (view_of l backwards) new anchored beside cell
  start_says anchored beside cell k = record {
    is_row = place_known (frame_in l backwards) new.store beside (Begins (machine_of l.automaton (direction_of backwards)) anchored beside) cell held k;
    begins = λ m of asked. knows l backwards new held beside (λ m. Begins m anchored beside) cell k m of;
  }

  pub step_says : (row b cell : ℕ) → IsPlace (frame_in l backwards) old.store row →
      ((s : State) → IsRow (frame_in l backwards).width old.store.states row s →
      IsKnown (frame_in l backwards) new.store.states (Some b) (Leads (machine_of l.automaton (direction_of backwards)) s (Some b)) cell) →
      IsStep (view_of l backwards) old new row b cell
  step_says row b cell p k =
      let t = state_of (frame_in l backwards) old.store row p in record {
        is_row = place_known (frame_in l backwards) new.store (Some b) (Leads (machine_of l.automaton (direction_of backwards)) t.0 (Some b)) cell held (k t.0 t.1);
        leads = λ m s has. knows l backwards new held (Some b) (λ m. Leads m s (Some b)) cell (k s has.1) m has.0;
      }

  -- what a symbol leads to, which is always read
  over : (y : Symbol) (To : State → Type 0) (cell : ℕ) → IsKnownBy (frame_in l backwards) new.store.states (Tagged y) To cell →
      (t : State) × To t × Names (frame_in l backwards).width new.store.states cell t
  over y To cell (inl k) = absurd (k.1 tt)
  over y To cell (inr k) = k.1

  pub start_beside_says : (anchored : Anchored) (y : Symbol) (cell : ℕ) →
      IsKnownBy (frame_in l backwards) new.store.states (Tagged y) (BeginsByLetter (frame_in l backwards) anchored (Tagged y)) cell →
      IsStartBeside (view_of l backwards) backwards new anchored y cell
  start_beside_says anchored y cell k =
      let x = over y (BeginsByLetter (frame_in l backwards) anchored (Tagged y)) cell k in record {
        is_row = λ alive. place_of (frame_in l backwards) new.store (row_of cell) x.0 (row_going (frame_in l backwards) new.store held cell x.0 x.2 alive);
        begins = λ m of asked.
            subst (λ m. (s : State) × BeginsTagged backwards m anchored y s × LeadsTo ((view_of l backwards).HasState new m) false cell s) of
            (x.0, subst (λ b. BeginsTagged b (machine_of l.automaton (direction_of backwards)) anchored y x.0) (same_way l backwards) x.1, leads l backwards new held cell x.0 x.2);
      }

  pub step_over_says : (row : ℕ) (y : Symbol) (cell : ℕ) → IsPlace (frame_in l backwards) old.store row →
      ((s : State) → IsRow (frame_in l backwards).width old.store.states row s →
      IsKnownBy (frame_in l backwards) new.store.states (Tagged y) (LeadsByLetter (frame_in l backwards) s (Tagged y)) cell) →
      IsStepOver (view_of l backwards) backwards old new row y cell
  step_over_says row y cell p k =
      let here = state_of (frame_in l backwards) old.store row p in
      let to = over y (LeadsByLetter (frame_in l backwards) here.0 (Tagged y)) cell (k here.0 here.1) in record {
        is_row = λ alive. place_of (frame_in l backwards) new.store (row_of cell) to.0 (row_going (frame_in l backwards) new.store held cell to.0 to.2 alive);
        leads = λ m s has.
            let x = over y (LeadsByLetter (frame_in l backwards) s (Tagged y)) cell (k s has.1) in
            subst (λ m. (t : State) × LeadsTagged backwards m s y t × LeadsTo ((view_of l backwards).HasState new m) false cell t) has.0
            (x.0, subst (λ b. LeadsTagged b (machine_of l.automaton (direction_of backwards)) s y x.0) (same_way l backwards) x.1, leads l backwards new held cell x.0 x.2);
      }

-- what is found at the end, which is always read
pub end_says : (l : Lazy) (backwards : Bool) (old new : Half) (row cell : ℕ) (last : Option ℕ) →
    ((s : State) → IsRow (frame_in l backwards).width old.store.states row s →
    IsKnown (frame_in l backwards) new.store.states None (Leads (machine_of l.automaton (direction_of backwards)) s None) cell) →
    ((t : State) → Names (frame_in l backwards).width new.store.states cell t → last ≡ t.matched) → IsEnd (view_of l backwards) old row last
end_says l backwards old new row cell last k is m s has =
    subst (λ m. (t : State) × Leads m s None t × (last ≡ t.matched)) has.0
    (⊎_elim (λ u. absurd (u.1 tt)) (λ n. let t = n.1 in (t.0, t.1, is t.0 t.2)) (k s has.1))

-- only the count of bytes was changed
pub same_store : (l : Lazy) (backwards : Bool) (a b : Half) → b.store ≡ a.store → b.scratch ≡ a.scratch → IsSame (view_of l backwards) a b
same_store l backwards a b store scratch =
    let f = frame_in l backwards in record {
      cache = λ h. record { held = subst (λ (s : Store). Held f s) (sym store) h.held; scratch = scratch ∙ h.scratch };
      is_row = λ row p. subst (λ (s : Store). IsPlace f s row) (sym store) p;
      has_state = λ m row s x. (x.0, subst (λ (t : Store). IsRow f.width t.states row s) (sym store) x.1);
      spends = λ begun n x. subst (λ (s : Store). Spends f begun.store s n) (sym store) x;
    }

-- a row by these classes
pub row_here : (f : Frame) (s : Store) (classes : List ℕ) (row : ℕ) → Held f s → classes ≡ f.classes → IsPlace f s row → IsRowOf s classes row
row_here f s classes row h same p = let t = state_of f s row p in record { frame = f; held = h; same = same; state = t.0; in_row = t.1 }

pub place_here : (f : Frame) (s : Store) (classes : List ℕ) (row : ℕ) → Held f s → IsRowOf s classes row → IsPlace f s row
place_here f s classes row h x =
    let r = x.in_row in record {
      id = r.0;
      there = slice_get_within s.states r.0 x.state r.1;
      row_is = r.2 ∙ ap (λ w. r.0 * w) (sym x.held.width ∙ h.width);
    }
