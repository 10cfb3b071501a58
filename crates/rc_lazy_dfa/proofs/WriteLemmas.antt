-- What stays true where cells are written, and states are added or let go.
use Rattle.std.proofs.Common.{length-append, ◌≡◌, ℕ, ◌+◌, ◌*◌, ◌<◌, ◌≤◌, List, [], ◌∷◌, ◌++◌, length, replicate, set, Some, None, slice_index_or, inl, inr, sym, subst, ap, ◌∙◌, add-one, arith, length-set}
use Rattle.std.proofs.lemmas.Bool.{cases_eq}
use Rattle.std.proofs.Math.Nat.{mul-le-mul_right, suc-mul}
use Rattle.std.proofs.lemmas.List.{length_push, length-replicate, get_or-append-add, get_or-set_same, get_or-set_other, get_or_append_left, get_or-replicate}
use Rattle.std.proofs.lemmas.Option.{slice_get_within}
use Rattle.rc_determinize.specs.States.{State}
use Rattle.rc_dfa.specs.declared.symbols.Symbol.{Symbol}
use Rattle.rc_dfa.specs.Machine.{Alphabet, bytes, symbols}
use Rattle.rc_dfa.specs.Samples.{class_count}
use Rattle.rc_dfa.specs.Symbols.{columns_for}
use Rattle.rc_lazy_dfa.specs.Cells.{unknown}
use Rattle.rc_dfa.specs.Laws.{IsWithin}
use Rattle.rc_dfa.proofs.ListLemmas.{get_more, get_parts}
use Rattle.rc_lazy_dfa.specs.declared.store.Store.{Store}
use Rattle.rc_lazy_dfa.specs.Stores.{Grows, Held, Spends, AreWithin, listed_by, count_of, weight_of, Names, IsKnownBy, Frame, IsFrame, IsRow, IsCell, IsColumn, LeadsByLetter, BeginsByLetter, AreCells, AreStarts, mode_of}
use Rattle.rc_lazy_dfa.specs.declared.letters.Letter.{Letter}
use Rattle.rc_lazy_dfa.specs.declared.letters.Letter.TheVariants.{Alone, Tagged}
use Rattle.rc_lazy_dfa.specs.Moves.{HasCell, HasStart, Writes}
use Rattle.rc_lazy_dfa.proofs.RowLemmas.{same_row, same_column}

-- the columns of symbols lie behind those of bytes, and before that of the end
wide_enough : (f : Frame) → IsFrame f → class_count f.classes < f.width
wide_enough f k = enough f.machine.alphabet k.columns
  where
    enough : (a : Alphabet) → f.width ≡ columns_for a f.classes + 1 → class_count f.classes < f.width
    enough bytes e = omega (arith, e)
    enough symbols e = omega (arith, e)

pub byte_inside : (f : Frame) (b column : ℕ) → IsFrame f → IsColumn f (Alone (Some b)) column → column + 1 < f.width
byte_inside f b column k x =
    let lt = k.below b column x in
    let le = wide_enough f k in
    omega (arith, lt, le)

pub symbol_between : (f : Frame) (y : Symbol) (column : ℕ) → IsFrame f → IsColumn f (Tagged y) column → (class_count f.classes ≤ column) × (column + 1 < f.width)
symbol_between f y column k x =
    let is = x.1 in
    let inside = k.columning.inside y x.0.1 in
    let wide : f.width ≡ columns_for symbols f.classes + 1 = subst (λ a. f.width ≡ columns_for a f.classes + 1) x.0.0 k.columns in
    (omega (arith, is), omega (arith, is, inside, wide))

pub column_inside : (f : Frame) (letter : Letter) (column : ℕ) → IsFrame f → IsColumn f letter column → column < f.width
column_inside f (Alone None) column k e = omega (arith, e)
column_inside f (Alone (Some b)) column k e = let h = byte_inside f b column k e in omega (arith, h)
column_inside f (Tagged y) column k e = let h = (symbol_between f y column k e).1 in omega (arith, h)

-- A CELL IS WRITTEN

pub cells_written : (f : Frame) (states : List State) (cells : List ℕ) (row column cell : ℕ) → IsFrame f → AreCells f states cells →
    HasCell f states row column cell → AreCells f states (set cells (row + column) cell)
cells_written f states cells row column cell k a h =
    let at = h.row_is in
    let below = h.inside in
    let lt = h.there in
    let n = a.rows in
    let le = mul-le-mul_right {n = length states} f.width lt in
    let inside : row + column < length cells = omega (arith, at, below, n, le) in record {
      rows = length-set cells (row + column) cell ∙ n;
      told = λ r c s letter is_row is_column. elim (cases_eq (r + c) (row + column)) [
        | inl e ↦
            let at2 = is_row.2 in
            let sum : is_row.0 * f.width + c ≡ h.id * f.width + column = omega (arith, at2, at, e) in
            let ids = same_row f.width is_row.0 h.id c column (column_inside f letter c k is_column) below sum in
            let same_c = same_column f.width is_row.0 h.id c column ids sum in
            let same_r : r ≡ row = at2 ∙ ap (λ i. i * f.width) ids ∙ sym at in
            let value : slice_index_or (set cells (row + column) cell) (r + c) unknown ≡ cell =
            ap (λ i. slice_index_or (set cells (row + column) cell) i unknown) e ∙ get_or-set_same cells (row + column) cell unknown inside in
            subst (λ (v : ℕ). IsCell f states letter (LeadsByLetter f s letter) v) (sym value)
            (h.cell_is s letter (subst (λ (v : ℕ). IsRow f.width states v s) same_r is_row) (subst (λ (v : ℕ). IsColumn f letter v) same_c is_column))
        | inr ne ↦
            subst (λ (v : ℕ). IsCell f states letter (LeadsByLetter f s letter) v) (sym (get_or-set_other cells (row + column) (r + c) cell unknown ne))
            (a.told r c s letter is_row is_column)
      ];
    }

pub starts_written : (f : Frame) (states : List State) (starts : List ℕ) (mode column cell : ℕ) → IsFrame f → AreStarts f states starts →
    HasStart f states mode column cell → AreStarts f states (set starts (mode * f.width + column) cell)
starts_written f states starts mode column cell k a h =
    let below = h.inside in
    let lt = h.there in
    let n = a.size in
    let le = mul-le-mul_right {n = length f.machine.entries + 2} f.width lt in
    let inside : mode * f.width + column < length starts = omega (arith, below, n, le) in record {
      size = length-set starts (mode * f.width + column) cell ∙ n;
      told = λ anchored c letter asked is_column. elim (cases_eq (mode_of anchored * f.width + c) (mode * f.width + column)) [
        | inl e ↦
            let modes = same_row f.width (mode_of anchored) mode c column (column_inside f letter c k is_column) below e in
            let same_c = same_column f.width (mode_of anchored) mode c column modes e in
            let value : slice_index_or (set starts (mode * f.width + column) cell) (mode_of anchored * f.width + c) unknown ≡ cell =
            ap (λ i. slice_index_or (set starts (mode * f.width + column) cell) i unknown) e
            ∙ get_or-set_same starts (mode * f.width + column) cell unknown inside in
            subst (λ (v : ℕ). IsCell f states letter (BeginsByLetter f anchored letter) v) (sym value)
            (h.cell_is anchored letter modes asked (subst (λ (v : ℕ). IsColumn f letter v) same_c is_column))
        | inr ne ↦
            subst (λ (v : ℕ). IsCell f states letter (BeginsByLetter f anchored letter) v)
            (sym (get_or-set_other starts (mode * f.width + column) (mode_of anchored * f.width + c) cell unknown ne)) (a.told anchored c letter asked is_column)
      ];
    }

-- no more is spent
pub spends_written : (f : Frame) (a b c : Store) (n : ℕ) → Spends f a b n → Writes b c → Spends f a c n
spends_written f a b c n s w =
    let k = s.counts in
    let clears = w.clears in
    let used = w.used in
    let len : length c.states ≡ length b.states = ap (λ (xs : List State). length xs) w.states in record {
      capacity = w.capacity ∙ s.capacity;
      counts = record {
        rises = let le = k.rises in omega (arith, le, clears);
        few = let le = k.few in omega (arith, le, clears);
        grown = let le = k.grown in omega (arith, le, len);
        kept = λ same less. subst (λ xs. Grows a.states xs) (sym w.states) (k.kept (sym clears ∙ same) less);
        dropped = λ lt. let le = k.dropped (omega (arith, lt, clears)) in omega (arith, le, len);
      };
      added = elim s.added [
        | inl x ↦ let le = x.1 in inl (clears ∙ x.0, omega (arith, le, used))
        | inr x ↦ inr x
      ];
    }

-- A STATE IS ADDED

one_more_times : (n w : ℕ) → (n + 1) * w ≡ n * w + w
one_more_times n w = ap (λ k. k * w) (add-one n) ∙ suc-mul n w

names_kept : (width : ℕ) (old new : List State) (cell : ℕ) (s : State) → Grows old new → Names width old cell s → Names width new cell s
names_kept width old new cell s k (inl h) = inl h
names_kept width old new cell s k (inr h) = let r = h.1 in inr (h.0, (r.0, k r.0 s r.1, r.2), h.2)

known_kept : (f : Frame) (old new : List State) (letter : Letter) (To : State → Type 0) (cell : ℕ) → Grows old new →
    IsKnownBy f old letter To cell → IsKnownBy f new letter To cell
known_kept f old new letter To cell k (inl h) = inl h
known_kept f old new letter To cell k (inr h) = let n = h.1 in inr (h.0, (n.0, n.1, names_kept f.width old new cell n.0 k n.2))

cell_kept : (f : Frame) (old new : List State) (letter : Letter) (To : State → Type 0) (cell : ℕ) → Grows old new →
    IsCell f old letter To cell → IsCell f new letter To cell
cell_kept f old new letter To cell k (inl h) = inl h
cell_kept f old new letter To cell k (inr h) = inr (known_kept f old new letter To cell k h)

more : (states : List State) (s : State) → Grows states (states ++ s ∷ [])
more states s = λ id t e. get_more states (s ∷ []) id t e

pub cells_grown : (f : Frame) (states : List State) (cells : List ℕ) (s : State) → IsFrame f → AreCells f states cells →
    AreCells f (states ++ s ∷ []) (cells ++ replicate f.width unknown)
cells_grown f states cells s k a =
    let n = a.rows in
    let len = length-append cells (replicate f.width unknown) in
    let blank = length-replicate f.width unknown in
    let grown = length_push states s in
    let product : (length states + 1) * f.width ≡ length states * f.width + f.width = one_more_times (length states) f.width in
    let all = ap (λ i. i * f.width) grown in record {
      rows = omega (arith, n, len, blank, product, all);
      told = λ r c t letter is_row is_column.
          let at = is_row.2 in
          let below = column_inside f letter c k is_column in
          elim (get_parts states s is_row.0 t is_row.1) [
            | inl old ↦
                let lt = slice_get_within states is_row.0 t old in
                let le = mul-le-mul_right {n = length states} f.width lt in
                let inside : r + c < length cells = omega (arith, at, below, n, le) in
                subst (λ (v : ℕ). IsCell f (states ++ s ∷ []) letter (LeadsByLetter f t letter) v)
                (sym (get_or_append_left cells (replicate f.width unknown) unknown (r + c) inside))
                (cell_kept f states (states ++ s ∷ []) letter (LeadsByLetter f t letter) _ (more states s)
                (a.told r c t letter (is_row.0, old, at) is_column))
            | inr new ↦
                let place = ap (λ i. i * f.width) new.0 in
                let here : r + c ≡ length cells + c = omega (arith, at, place, n) in
                inl (ap (λ i. slice_index_or (cells ++ replicate f.width unknown) i unknown) here
                ∙ get_or-append-add cells (replicate f.width unknown) c unknown ∙ get_or-replicate f.width c unknown unknown below)
          ];
    }

pub starts_grown : (f : Frame) (states : List State) (starts : List ℕ) (s : State) → AreStarts f states starts → AreStarts f (states ++ s ∷ []) starts
starts_grown f states starts s a = record {
  size = a.size;
  told = λ anchored c letter asked is_column.
      cell_kept f states (states ++ s ∷ []) letter (BeginsByLetter f anchored letter) _ (more states s) (a.told anchored c letter asked is_column);
}

pub within_grown : (f : Frame) (states : List State) (s : State) → AreWithin f states → IsWithin f.machine s → AreWithin f (states ++ s ∷ [])
within_grown f states s a w = record {
  each = λ id t e. elim (get_parts states s id t e) [
    | inl old ↦ a.each id t old
    | inr new ↦ subst (λ u. IsWithin f.machine u) new.1 w
  ];
}

listed_more : (states : List State) (s : State) → listed_by (states ++ s ∷ []) ≡ listed_by states + length s.list
listed_more [] s = omega arith
listed_more (t ∷ ts) s = let h = listed_more ts s in omega (arith, h)

pub count_grown : (f : Frame) (states : List State) (s : State) → count_of f (states ++ s ∷ []) ≡ count_of f states + weight_of f.width s
count_grown f states s =
    let listed = listed_more states s in
    let grown = length_push states s in
    let product : (length states + 3 + 1) * f.width ≡ (length states + 3) * f.width + f.width = one_more_times (length states + 3) f.width in
    let rows : (length (states ++ s ∷ []) + 3) * f.width ≡ (length states + 3 + 1) * f.width =
    ap (λ i. i * f.width) (omega (arith, grown)) in
    omega (arith, listed, grown, product, rows)

-- THE TABLE

-- a state was added, with a row of which nothing is known
pub record HasGrown (f : Frame) (s n : Store) (t : State) : Type 0 where
  pub states : n.states ≡ s.states ++ t ∷ []
  pub cells : n.cells.items ≡ s.cells.items ++ replicate f.width unknown
  pub starts : n.starts.items ≡ s.starts.items
  pub width : n.width ≡ s.width
  pub capacity : n.capacity ≡ s.capacity
  pub used : n.used ≡ s.used + weight_of f.width t

pub held_grown : (f : Frame) (s n : Store) (t : State) → Held f s → IsWithin f.machine t → s.used + weight_of f.width t ≤ s.capacity → HasGrown f s n t → Held f n
held_grown f s n t h w room k =
    let used = k.used in
    let was = h.used in
    let capacity = k.capacity in
    let grown = count_grown f s.states t in
    let states = sym k.states in
    let roomy = h.roomy in
    let fits = h.fits in record {
      frame = h.frame;
      width = k.width ∙ h.width;
      within = subst (λ xs. AreWithin f xs) states (within_grown f s.states t h.within w);
      cells = subst (λ xs. AreCells f xs n.cells.items) states (subst (λ ys. AreCells f (s.states ++ t ∷ []) ys) (sym k.cells)
          (cells_grown f s.states s.cells.items t h.frame h.cells));
      starts = subst (λ xs. AreStarts f xs n.starts.items) states (subst (λ ys. AreStarts f (s.states ++ t ∷ []) ys) (sym k.starts)
          (starts_grown f s.states s.starts.items t h.starts));
      used = used ∙ ap (λ u. u + weight_of f.width t) was ∙ sym grown ∙ ap (λ xs. count_of f xs) states;
      light = omega (arith, used, room, capacity);
      roomy = omega (arith, roomy, capacity);
      fits = omega (arith, fits, capacity);
    }
