-- Steps by cells.
use Rattle.std.proofs.Common.{◌≡◌, ◌≢◌, ℕ, ◌+◌, ◌*◌, ◌<◌, List, [], ◌∷◌, zero, suc, length, Some, None, slice_get, slice_index_or, IsTrue, Bool, true, false, true≢false, inl, inr, refl, sym, subst, ap, ◌∙◌, arith}
use Rattle.std.proofs.Math.Nat.{mul-le-mul_right}
use Rattle.std.proofs.lemmas.Option.{slice_get_within, slice_get-get_or, get_or_from_slice_get, same_Some}
use Rattle.rc_text.specs.declared.types.Anchored.{Anchored}
use Rattle.rc_text.specs.declared.types.Anchored.TheVariants.{No, Yes, Pattern}
use Rattle.rc_determinize.specs.States.{State}
use Rattle.rc_determinize.specs.Steps.{AreBelow}
use Rattle.rc_dfa.specs.declared.automaton.Automaton.{Automaton}
use Rattle.rc_dfa.specs.declared.automaton.Direction.{Direction}
use Rattle.rc_dfa.specs.declared.automaton.Direction.TheVariants.{Forwards, Overlapping, Backwards}
use Rattle.rc_dfa.specs.Automata.{machine_of, alphabet_in, is_backwards, classes_of}
use Rattle.rc_dfa.specs.Machine.{entry_bound, IsAsked}
use Rattle.rc_dfa.specs.Laws.{IsWithin}
use Rattle.rc_lazy_dfa.specs.Cells.{unknown, column_of}
use Rattle.rc_lazy_dfa.specs.Stores.{Grows, Frame, IsFrame, Held, IsRow, IsKnownBy, IsCell, IsColumn, IsLetter, LeadsByLetter, BeginsByLetter, MayReadLetter, frame_of, goes_back, mode_of}
use Rattle.rc_lazy_dfa.specs.declared.letters.Letter.{Letter}
use Rattle.rc_lazy_dfa.specs.declared.letters.Letter.TheVariants.{Alone, Tagged}
use Rattle.rc_lazy_dfa.specs.Moves.{HasCell, HasStart}
use Rattle.rc_lazy_dfa.specs.Halves.{IsPlace}
use Rattle.rc_lazy_dfa.specs.declared.store.Store.{Store}
use Rattle.rc_lazy_dfa.proofs.RowLemmas.{row_inside, row_small, same_row}
use Rattle.rc_dfa.proofs.WithinLemmas.{machine_law}
use Rattle.rc_lazy_dfa.proofs.WriteLemmas.{column_inside, byte_inside, symbol_between}

pub column_is : (f : Frame) (letter : Letter) → IsFrame f → IsLetter f.machine.alphabet letter → IsColumn f letter (column_of f.classes f.width letter)
column_is f (Alone None) k byte = let w = k.wide in omega (arith, w)
column_is f (Alone (Some b)) k byte = let n = k.size in slice_get-get_or f.classes b 0 (omega (arith, n, byte))
column_is f (Tagged y) k read = (read, refl)

pub below_by : (f g : Frame) (u : State) → g ≡ f → IsWithin f.machine u → AreBelow (entry_bound g.machine.direction (length g.machine.setting.places)) u.list
below_by f g u same w = subst (λ (k : Frame). AreBelow (entry_bound k.machine.direction (length k.machine.setting.places)) u.list) (sym same) w.below

pub led_by : (f g : Frame) (s u t : State) (letter : Letter) → g ≡ f → u ≡ s → LeadsByLetter g u letter t → LeadsByLetter f s letter t
led_by f g s u t letter same is h = subst (λ (k : Frame). LeadsByLetter k s letter t) same (subst (λ v. LeadsByLetter g v letter t) is h)

pub begun_by : (f g : Frame) (t : State) (anchored : Anchored) (letter : Letter) → g ≡ f → BeginsByLetter g anchored letter t → BeginsByLetter f anchored letter t
begun_by f g t anchored letter same h = subst (λ (k : Frame). BeginsByLetter k anchored letter t) same h

pub unread_by : (f g : Frame) (b : Bool) (letter : Letter) → g ≡ f → b ≡ false → (MayReadLetter g.machine letter → IsTrue b) → ¬ MayReadLetter f.machine letter
unread_by f g b letter same is h r = true≢false (sym (h (subst (λ (k : Frame). MayReadLetter k.machine letter) (sym same) r)) ∙ is)

pub read_by : (f g : Frame) (b : Bool) (letter : Letter) → g ≡ f → b ≡ true → (IsTrue b → MayReadLetter g.machine letter) → MayReadLetter f.machine letter
read_by f g b letter same is h = subst (λ (k : Frame). MayReadLetter k.machine letter) same (h is)

-- the automaton steps as its machine does
pub goes_so : (a : Automaton) (d : Direction) → is_backwards d ≡ goes_back (machine_of a d).direction
goes_so a Forwards = refl
goes_so a Overlapping = refl
goes_so a Backwards = refl

pub letter_by : (f : Frame) (a : Automaton) (d : Direction) (letter : Letter) → frame_of a d ≡ f → IsLetter f.machine.alphabet letter → IsLetter (alphabet_in a) letter
letter_by f a d letter same h = subst (λ (k : Frame). IsLetter k.machine.alphabet letter) (sym same) h

-- ways of anchoring are told apart by their numbers
same_mode : (a b : Anchored) → mode_of a ≡ mode_of b → a ≡ b
same_mode No No e = refl
same_mode No Yes e = absurd (omega (arith, e))
same_mode No (Pattern p) e = absurd (omega (arith, e))
same_mode Yes No e = absurd (omega (arith, e))
same_mode Yes Yes e = refl
same_mode Yes (Pattern p) e = absurd (omega (arith, e))
same_mode (Pattern p) No e = absurd (omega (arith, e))
same_mode (Pattern p) Yes e = absurd (omega (arith, e))
same_mode (Pattern p) (Pattern q) e = let same : p ≡ q = omega (arith, e) in ap Pattern same

-- ANY OTHER LETTER OF THE COLUMN

pub record AreAlike (f : Frame) (a b : Letter) : Type 0 where
  pub read : MayReadLetter f.machine b → MayReadLetter f.machine a
  pub reads : MayReadLetter f.machine a → MayReadLetter f.machine b
  pub lead : (s t : State) → LeadsByLetter f s a t → LeadsByLetter f s b t
  pub begin : (anchored : Anchored) (s : State) → BeginsByLetter f anchored a s → BeginsByLetter f anchored b s

pub alike_beside : (f : Frame) (a b : Letter) (column : ℕ) → IsFrame f → IsColumn f a column → IsColumn f b column → AreAlike f a b
alike_beside f (Alone None) (Alone None) column k x y = record { read = λ h. h; reads = λ h. h; lead = λ s t h. h; begin = λ anchored s h. h }
alike_beside f (Alone None) (Alone (Some b)) column k x y = let h = byte_inside f b column k y in absurd (omega (arith, h, x))
alike_beside f (Alone None) (Tagged z) column k x y = let h = (symbol_between f z column k y).1 in absurd (omega (arith, h, x))
alike_beside f (Alone (Some a)) (Alone None) column k x y = let h = byte_inside f a column k x in absurd (omega (arith, h, y))
alike_beside f (Alone (Some a)) (Alone (Some b)) column k x y =
    let there = k.alike a b column x y in
    let back = k.alike b a column y x in record { read = back.read; reads = there.read; lead = there.lead; begin = there.begin }
alike_beside f (Alone (Some a)) (Tagged z) column k x y =
    let l = k.below a column x in
    let h = (symbol_between f z column k y).0 in absurd (omega (arith, h, l))
alike_beside f (Tagged z) (Alone None) column k x y = let h = (symbol_between f z column k x).1 in absurd (omega (arith, h, y))
alike_beside f (Tagged z) (Alone (Some b)) column k x y =
    let l = k.below b column y in
    let h = (symbol_between f z column k x).0 in absurd (omega (arith, h, l))
alike_beside f (Tagged z) (Tagged w) column k x y =
    let same = sym x.1 ∙ y.1 in record {
      read = λ h. h;
      reads = λ h. h;
      lead = k.columning.lead (goes_back f.machine.direction) z w x.0.1 y.0.1 same;
      begin = k.columning.begin (goes_back f.machine.direction) z w x.0.1 y.0.1 same;
    }

-- a step that is known for one letter is known for all of the column
leads_alike : (f : Frame) (states : List State) (a b : Letter) (s : State) (cell : ℕ) → AreAlike f a b → IsKnownBy f states a (LeadsByLetter f s a) cell →
    IsKnownBy f states b (LeadsByLetter f s b) cell
leads_alike f states a b s cell k (inl h) = inl (h.0, λ r. h.1 (k.read r))
leads_alike f states a b s cell k (inr h) = let n = h.1 in inr (k.reads h.0, (n.0, k.lead s n.0 n.1, n.2))

begins_alike : (f : Frame) (states : List State) (a b : Letter) (anchored : Anchored) (cell : ℕ) → AreAlike f a b →
    IsKnownBy f states a (BeginsByLetter f anchored a) cell → IsKnownBy f states b (BeginsByLetter f anchored b) cell
begins_alike f states a b anchored cell k (inl h) = inl (h.0, λ r. h.1 (k.read r))
begins_alike f states a b anchored cell k (inr h) = let n = h.1 in inr (k.reads h.0, (n.0, k.begin anchored n.0 n.1, n.2))

-- CELLS

known_or : (f : Frame) (states : List State) (letter : Letter) (To : State → Type 0) (cell : ℕ) → cell ≢ unknown → IsCell f states letter To cell →
    IsKnownBy f states letter To cell
known_or f states letter To cell ne (inl h) = absurd (ne h)
known_or f states letter To cell ne (inr h) = h

same_default : (xs : List ℕ) (i d : ℕ) → i < length xs → slice_index_or xs i unknown ≡ slice_index_or xs i d
same_default xs i d lt = get_or_from_slice_get xs i (slice_index_or xs i d) unknown (slice_get-get_or xs i d lt)

pub column_by : (f : Frame) (a : Automaton) (d : Direction) (w column : ℕ) (letter : Letter) → frame_of a d ≡ f → w ≡ f.width →
    column ≡ column_of (classes_of a) w letter → column ≡ column_of f.classes f.width letter
column_by f a d w column letter same w_is is =
    is ∙ ap (λ v. column_of (classes_of a) v letter) w_is ∙ ap (λ (k : Frame). column_of k.classes f.width letter) same

-- what a cell that is known says
pub cell_says : (f : Frame) (s : Store) (row column cell d : ℕ) (letter : Letter) (t : State) → Held f s → IsLetter f.machine.alphabet letter → column ≡ column_of f.classes f.width letter →
    cell ≡ slice_index_or s.cells.items (row + column) d → cell ≢ unknown → IsRow f.width s.states row t → IsKnownBy f s.states letter (LeadsByLetter f t letter) cell
cell_says f s row column cell d letter t h byte is value ne r =
    let at : IsColumn f letter column = subst (λ c. IsColumn f letter c) (sym is) (column_is f letter h.frame byte) in
    let below = column_inside f letter column h.frame at in
    let inside = row_inside f s h row t r in
    let lt : row + column < length s.cells.items = omega (arith, below, inside) in
    let e : slice_index_or s.cells.items (row + column) unknown ≡ cell = same_default s.cells.items (row + column) d lt ∙ sym value in
    known_or f s.states letter (LeadsByLetter f t letter) cell ne
    (subst (λ (c : ℕ). IsCell f s.states letter (LeadsByLetter f t letter) c) e (h.cells.told row column t letter r at))

mode_below : (f : Frame) (anchored : Anchored) → IsAsked f.machine anchored → mode_of anchored < length f.machine.entries + 2
mode_below f No a = omega arith
mode_below f Yes a = omega arith
mode_below f (Pattern p) a = omega (arith, a)

pub start_inside : (f : Frame) (s : Store) (anchored : Anchored) (column : ℕ) (letter : Letter) → Held f s → IsAsked f.machine anchored → IsColumn f letter column →
    mode_of anchored * f.width + column < length s.starts.items
start_inside f s anchored column letter h asked at =
    let below = column_inside f letter column h.frame at in
    let lt = mode_below f anchored asked in
    let n = h.starts.size in
    let le = mul-le-mul_right {n = length f.machine.entries + 2} f.width lt in
    omega (arith, below, n, le)

-- so its index is small
pub start_fits : (f : Frame) (s : Store) (anchored : Anchored) (mode column : ℕ) (letter : Letter) → Held f s → IsAsked f.machine anchored →
    IsLetter f.machine.alphabet letter → mode ≡ mode_of anchored → column ≡ column_of f.classes f.width letter → mode * s.width + column < 18446744073709551616
start_fits f s anchored mode column letter h asked byte mode_is is =
    let at : IsColumn f letter column = subst (λ c. IsColumn f letter c) (sym is) (column_is f letter h.frame byte) in
    let inside = start_inside f s anchored column letter h asked at in
    let size = h.starts.size in
    let used = h.used in
    let light = h.light in
    let fits = h.fits in
    let product : mode * s.width ≡ mode_of anchored * f.width = ap (λ n. n * s.width) mode_is ∙ ap (λ w. mode_of anchored * w) h.width in
    omega (arith, inside, size, used, light, fits, product)

pub start_says : (f : Frame) (s : Store) (anchored : Anchored) (column cell d : ℕ) (letter : Letter) → Held f s → IsAsked f.machine anchored → IsLetter f.machine.alphabet letter →
    column ≡ column_of f.classes f.width letter → cell ≡ slice_index_or s.starts.items (mode_of anchored * f.width + column) d → cell ≢ unknown →
    IsKnownBy f s.states letter (BeginsByLetter f anchored letter) cell
start_says f s anchored column cell d letter h asked byte is value ne =
    let at : IsColumn f letter column = subst (λ c. IsColumn f letter c) (sym is) (column_is f letter h.frame byte) in
    let lt = start_inside f s anchored column letter h asked at in
    let e : slice_index_or s.starts.items (mode_of anchored * f.width + column) unknown ≡ cell =
    same_default s.starts.items (mode_of anchored * f.width + column) d lt ∙ sym value in
    known_or f s.states letter (BeginsByLetter f anchored letter) cell ne
    (subst (λ (c : ℕ). IsCell f s.states letter (BeginsByLetter f anchored letter) c) e (h.starts.told anchored column letter asked at))

-- what a letter leads to has places of the program, each once
leads_within : (f : Frame) (s t : State) (letter : Letter) → IsFrame f → LeadsByLetter f s letter t → IsWithin f.machine t
leads_within f s t (Alone beside) k h = machine_law.leads f.machine s t beside k.machine h
leads_within f s t (Tagged y) k h = machine_law.leads_over f.machine s t _ k.machine h

pub begins_within : (f : Frame) (t : State) (anchored : Anchored) (letter : Letter) → IsFrame f → BeginsByLetter f anchored letter t → IsWithin f.machine t
begins_within f t anchored (Alone beside) k h = machine_law.begins f.machine anchored beside t k.machine h
begins_within f t anchored (Tagged y) k h = machine_law.begins_beside f.machine anchored _ t k.machine h

module _ (f : Frame) (s : Store) (row : ℕ) (h : Held f s) (p : IsPlace f s row) where
  here : (u : State) × (slice_get s.states p.id ≡ Some u)
  here = there s.states p.id p.there
    where
      there : (xs : List State) (i : ℕ) → i < length xs → (u : State) × (slice_get xs i ≡ Some u)
      there [] i lt = absurd (omega (arith, lt))
      there (x ∷ xs) zero lt = (x, refl)
      there (x ∷ xs) (suc i) lt = there xs i (omega (arith, lt))

  row_here : IsRow f.width s.states row here.0
  row_here = (p.id, here.1, p.row_is)

  -- a letter's cell is one of those that are held, and its index is small
  pub cell_inside : (column : ℕ) (letter : Letter) → IsLetter f.machine.alphabet letter → column ≡ column_of f.classes f.width letter →
      (row + column < length s.cells.items) × (row + column < 18446744073709551616)
  cell_inside column letter read is =
      let at : IsColumn f letter column = subst (λ c. IsColumn f letter c) (sym is) (column_is f letter h.frame read) in
      let below = column_inside f letter column h.frame at in
      let inside = row_inside f s h row here.0 row_here in
      let small = row_small f s h row here.0 row_here in
      (omega (arith, below, inside), omega (arith, below, small))

  pub led_within : (letter : Letter) (t : State) → ((u : State) → IsRow f.width s.states row u → LeadsByLetter f u letter t) → IsWithin f.machine t
  led_within letter t lead = leads_within f here.0 t letter h.frame (lead here.0 row_here)

  -- the same state stands in the row where states were added
  module _ (new : List State) (k : Grows s.states new) where
    pub there_still : p.id < length new
    there_still = slice_get_within new p.id here.0 (k p.id here.0 here.1)

    pub same_still : (u : State) → IsRow f.width new row u → IsRow f.width s.states row u
    same_still u r =
        let w : 0 < f.width = h.frame.wide in
        let at = r.2 in
        let was = p.row_is in
        let sum : r.0 * f.width + 0 ≡ p.id * f.width + 0 = omega (arith, at, was) in
        let ids : r.0 ≡ p.id = same_row f.width r.0 p.id 0 0 w w sum in
        let is : here.0 ≡ u = same_Some here.0 u (sym (k p.id here.0 here.1) ∙ ap (λ i. slice_get new i) (sym ids) ∙ r.1) in
        (p.id, here.1 ∙ ap Some is, was)

-- what is written where the step was made
pub cell_made : (f : Frame) (states : List State) (row column cell : ℕ) (letter : Letter) → IsFrame f → IsLetter f.machine.alphabet letter → column ≡ column_of f.classes f.width letter →
    (id : ℕ) → id < length states → row ≡ id * f.width →
    ((s : State) → IsRow f.width states row s → IsKnownBy f states letter (LeadsByLetter f s letter) cell) → HasCell f states row column cell
cell_made f states row column cell letter k byte is id there at known =
    let here : IsColumn f letter column = subst (λ c. IsColumn f letter c) (sym is) (column_is f letter k byte) in record {
      id = id;
      there = there;
      row_is = at;
      inside = column_inside f letter column k here;
      cell_is = λ s other r other_is. inr (leads_alike f states letter other s cell (alike_beside f letter other column k here other_is) (known s r));
    }

pub start_made : (f : Frame) (states : List State) (anchored : Anchored) (mode column cell : ℕ) (letter : Letter) → IsFrame f → IsLetter f.machine.alphabet letter →
    mode ≡ mode_of anchored → IsAsked f.machine anchored → column ≡ column_of f.classes f.width letter →
    IsKnownBy f states letter (BeginsByLetter f anchored letter) cell → HasStart f states mode column cell
start_made f states anchored mode column cell letter k byte mode_is asked is known =
    let here : IsColumn f letter column = subst (λ c. IsColumn f letter c) (sym is) (column_is f letter k byte) in record {
      there = let lt = mode_below f anchored asked in omega (arith, lt, mode_is);
      inside = column_inside f letter column k here;
      cell_is = λ other b same a other_is.
          let e : anchored ≡ other = same_mode anchored other (sym mode_is ∙ sym same) in
          inr (begins_alike f states letter b other cell (alike_beside f letter b column k here other_is)
          (subst (λ o. IsKnownBy f states letter (BeginsByLetter f o letter) cell) e known));
    }
