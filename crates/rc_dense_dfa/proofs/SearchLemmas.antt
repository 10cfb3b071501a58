-- What the cells of a table say to a search.
use Rattle.std.proofs.Common.{◌≡◌, ◌≢◌, ◌⊎◌, ℕ, ◌+◌, ◌-◌, ◌*◌, ◌<◌, ◌≤◌, Bool, true, false, true≢false, List, length, Option, Some, None, inl, inr, refl, sym, subst, ap, ◌∙◌, arith}
use Rattle.rc_determinize.specs.Sides.{IsReadable}
use Rattle.rc_determinize.specs.States.{State}
use Rattle.rc_text.specs.declared.types.Anchored.{Anchored}
use Rattle.rc_dfa.specs.Machine.{Machine, Begins, Leads}
use Rattle.rc_dfa.specs.Runs.{IsByte}
use Rattle.rc_table_search.specs.Views.{IsStart, IsStep, Knows, LeadsTo}
use Rattle.rc_table_search.specs.Walks.{cell_by, has_died, skip}
use Rattle.rc_dense_dfa.specs.Cells.{IsNamed, quit, row_of}
use Rattle.rc_dense_dfa.specs.Tables.{IsTable, Names, cell_at, class_at, code_of, column, mode_of, start_at}
use Rattle.rc_dense_dfa.specs.Searches.{HasState, InRow, table_by, view_of}
use Rattle.rc_dense_dfa.specs.declared.table.Table.{Table}
use Rattle.rc_dense_dfa.specs.declared.dense.Dense.{Dense}
use Rattle.rc_dense_dfa.specs.declared.dense.NoCache.{NoCache}
use Rattle.rc_dense_dfa.proofs.MarkLemmas.{died_or_not, here_is, is_read, named_row, named_state, row_within, was_met}

-- where something goes on, the cell names a row
pub row_going : (d : Table) (cell : ℕ) → IsNamed d.width (length d.cells.items) cell → has_died cell ≡ false → InRow d (row_of cell)
row_going d cell named alive = named_row d.width (length d.cells.items) cell named (λ e. true≢false (ap has_died (sym e) ∙ alive))

leads : (m : Machine) (states : List State) (d : Table) (cell : ℕ) (t : State) → IsTable m states d → Names d states cell t → LeadsTo (HasState d m) true cell t
leads m states d cell t ok n = record {
  is_read = is_read m states d cell t ok n;
  died = died_or_not m states d cell t ok n;
  found = was_met m states d cell t ok n;
  in_row = λ _. record { states = states; is_table = ok; is_row = named_state m states d cell t ok n };
}

pub knows : (d : Dense) (backwards : Bool) (c : NoCache) (m : Machine) (states : List State) (beside : Option ℕ) (To : State → Type 0) (cell : ℕ) →
    IsTable m states (table_by backwards d) →
    ((cell ≡ quit) × (¬ IsReadable m.setting.needs beside)) ⊎ (IsReadable m.setting.needs beside × ((t : State) × To t × Names (table_by backwards d) states cell t)) →
    Knows (view_of d backwards) c m beside To cell
knows d backwards c m states beside To cell ok (inl k) = inl k
knows d backwards c m states beside To cell ok (inr k) =
    let t = k.1 in inr (k.0, (t.0, t.1, leads m states (table_by backwards d) cell t.0 ok t.2))

-- the cell of a row and a byte
pub told : (d : Dense) (backwards : Bool) (c : NoCache) (m : Machine) (r b cell : ℕ) (s : State) → HasState (table_by backwards d) m r s → b < 256 →
    cell ≡ cell_at (table_by backwards d) (r + class_at (table_by backwards d) b) → Knows (view_of d backwards) c m (Some b) (Leads m s (Some b)) cell
told d backwards c m r b cell s has byte is =
    subst (λ k. Knows (view_of d backwards) c m (Some b) (Leads m s (Some b)) k) (sym is)
    (knows d backwards c m has.states (Some b) (Leads m s (Some b)) (cell_at (table_by backwards d) (r + class_at (table_by backwards d) b)) has.is_table
    (has.is_table.leads r b s byte has.is_row))

pub step_says : (d : Dense) (backwards : Bool) (old new : NoCache) (row b cell : ℕ) → b < 256 →
    cell ≡ cell_at (table_by backwards d) (row + class_at (table_by backwards d) b) →
    IsNamed (table_by backwards d).width (length (table_by backwards d).cells.items) cell → IsStep (view_of d backwards) old new row b cell
step_says d backwards old new row b cell byte is named = record {
  is_row = row_going (table_by backwards d) cell named;
  leads = λ m s has. told d backwards new m row b cell s has byte is;
}

pub start_says : (d : Dense) (backwards : Bool) (c : NoCache) (anchored : Anchored) (beside : Option ℕ) (cell : ℕ) → IsByte beside →
    cell ≡ start_at (table_by backwards d) (mode_of anchored * ((table_by backwards d).width + 1) + column (table_by backwards d) beside) →
    IsNamed (table_by backwards d).width (length (table_by backwards d).cells.items) cell → IsStart (view_of d backwards) c anchored beside cell
start_says d backwards c anchored beside cell byte is named =
    let t = table_by backwards d in record {
      is_row = row_going t cell named;
      begins = λ m of asked.
          subst (λ k. Knows (view_of d backwards) c m beside (Begins m anchored beside) k) (sym is)
          (knows d backwards c m of.0.0 beside (Begins m anchored beside) (start_at t (mode_of anchored * (t.width + 1) + column t beside)) of.0.1
          (of.0.1.begins anchored beside asked byte));
    }

-- as a run reads it
pub told_here : (d : Dense) (backwards : Bool) (c : NoCache) (cells classes : List ℕ) → cells ≡ (table_by backwards d).cells.items →
    classes ≡ (table_by backwards d).classes.items → (m : Machine) (r b : ℕ) (s : State) → HasState (table_by backwards d) m r s → b < 256 →
    (true ≡ false → cell_by cells classes r b ≢ skip) → Knows (view_of d backwards) c m (Some b) (Leads m s (Some b)) (cell_by cells classes r b)
told_here d backwards c cells classes same_cells same_classes m r b s has byte _ =
    told d backwards c m r b (cell_by cells classes r b) s has byte
    (here_is (table_by backwards d) cells classes r b same_cells same_classes (row_within m has.states (table_by backwards d) r s has.is_table has.is_row) byte)

-- WHAT CODES SAY

pub some_code : (code : ℕ) (found : Option ℕ) → 0 < code → code ≡ code_of found → Some (code - 1) ≡ found
some_code code None lt e = absurd (omega (arith, lt, e))
some_code code (Some k) lt e = ap Some (omega (arith, e))

pub none_code : (code : ℕ) (found : Option ℕ) → code ≤ 0 → code ≡ code_of found → None ≡ found
none_code code None le e = refl
none_code code (Some k) le e = absurd (omega (arith, le, e))
