-- The table that its parts make.
use Rattle.std.proofs.Common.{◌≡◌, ℕ, zero, suc, ◌+◌, ◌*◌, ◌/◌, ◌%◌, ◌<◌, ◌≤◌, ◌⊎◌, Bool, true, false, ◌||◌, is_some, nat_eq, IsTrue, List, length, Option, Some, None, slice_get, slice_index_or, if◌then◌else◌, ⊎_elim, refl, inl, inr, sym, subst, ap, ◌∙◌, arith}
use Rattle.std.specs.Prelude.{IfSome}
use Rattle.std.specs.List.{All}
use Rattle.std.proofs.Math.Nat.{mul-le-mul_left}
use Rattle.std.proofs.lemmas.Nat.{div-add-mod'}
use Rattle.std.proofs.lemmas.Bool.{cases_lt, le-leb}
use Rattle.std.proofs.lemmas.Option.{slice_get_within, slice_get-get_or, get_or_from_slice_get}
use Rattle.rc_text.specs.declared.types.Anchored.{Anchored}
use Rattle.rc_text.specs.declared.types.Anchored.TheVariants.{No, Yes, Pattern}
use Rattle.rc_determinize.specs.Sides.{IsReadable}
use Rattle.rc_determinize.specs.States.{State}
use Rattle.rc_dfa.specs.Machine.{Machine, bytes, Begins, Leads, IsAsked, IsClassing, AreOfOneClass, is_dead}
use Rattle.rc_dfa.specs.Runs.{IsByte}
use Rattle.rc_dense_dfa.specs.Cells.{quit, skip, row_of, IsNamed, IsMarkedAs, AreMarked}
use Rattle.rc_dense_dfa.specs.Tables.{IsTable, marks, Names, mode_of, class_at, cell_at, start_at, column, dead_state}
use Rattle.rc_dense_dfa.specs.Rows.{IsCell, IsCellOf, IsStartOf, IsBeside, AreFilled, AreRows, AreStarts, AreEnds, AreTells, AreIdles, AreParts}
use Rattle.rc_dense_dfa.specs.Makes.{IsMade, IsRefused, weight_by}
use Rattle.rc_dense_dfa.specs.declared.error.TableError.{TableError}
use Rattle.rc_dense_dfa.specs.declared.names.Names as code
use Rattle.rc_dense_dfa.specs.declared.table.Table.{Table}
use Rattle.rc_dense_dfa.proofs.FillLemmas.{row_there}
use Rattle.rc_dense_dfa.proofs.MarkLemmas.{name_row}
use Rattle.rc_dense_dfa.proofs.NameLemmas.{row_below}

-- CLASSES

-- the class of a byte, a byte of it, and how the two are alike
there : (m : Machine) (classes samples : List ℕ) (b : ℕ) → IsClassing m classes samples → b < 256 →
    (c : ℕ) × (slice_get samples (slice_index_or classes b 0) ≡ Some c) × AreOfOneClass m c b × AreOfOneClass m b c
there m classes samples b k lt =
    let size = k.size in
    let here = slice_get-get_or classes b 0 (omega (arith, size, lt)) in
    let f = k.sampled b _ here in
    (f.0, f.2, k.alike f.0 b _ f.3 here, k.alike b f.0 _ here f.3)

pub has_samples : (m : Machine) (classes samples : List ℕ) → IsClassing m classes samples → 0 < length samples
has_samples m classes samples k =
    let t = there m classes samples 0 k (omega arith) in
    let w = slice_get_within samples (slice_index_or classes 0 0) t.0 t.1 in
    omega (arith, w)

pub classes_below : (m : Machine) (classes samples : List ℕ) → IsClassing m classes samples → All (λ c. c < length samples) classes
classes_below m classes samples k = λ b d lt.
    let f = k.sampled b _ (slice_get-get_or classes b d lt) in
    slice_get_within samples (slice_index_or classes b d) f.0 f.2

-- CELLS THAT NAME ROWS

-- what holds of each cell, by its row and its column
each_filled : (columns rows : ℕ) (Holds : ℕ → ℕ → ℕ → Type 0) (cells : List ℕ) (P : ℕ → Type 0) → 0 < columns → length cells ≡ rows * columns →
    AreFilled columns Holds cells → ((row column cell : ℕ) → row < rows → column < columns → Holds row column cell → P cell) → All P cells
each_filled columns rows Holds cells P wide len f h = λ k d lt.
    let at : k / columns * columns + k % columns ≡ k = div-add-mod' k columns in
    let below : k % columns < columns = omega (arith, wide) in
    let within : k / columns * columns + k % columns < length cells = omega (arith, at, lt) in
    let inside : k / columns < rows = row_there columns (k / columns) (k % columns) rows (omega (arith, within, len)) in
    let same = ap (λ i. slice_index_or cells i quit) at ∙ get_or_from_slice_get cells k (slice_index_or cells k d) quit (slice_get-get_or cells k d lt) in
    subst P same (h (k / columns) (k % columns) _ inside below (f.told (k / columns) (k % columns) below within))

or_true : (a b : Bool) → IsTrue b → IsTrue (a || b)
or_true true b h = refl
or_true false b h = h

-- the name that a marked cell has
marked_name : (name cell marked : ℕ) → cell ≡ name → IsMarkedAs cell marked → (skips : Bool) × (marked ≡ name + (if skips then skip else 0))
marked_name name cell marked is (inl e) = (false, omega (arith, e, is))
marked_name name cell marked is (inr e) = let more = e.1 in (true, omega (arith, more, is))

-- a cell of a state that has a row
named_cell : (m : Machine) (w n : ℕ) (states : List State) (beside : Option ℕ) (To : State → Type 0) (cell marked : ℕ) → 0 < w → n ≡ length states * w →
    length states * w < 2305843009213693952 → IsCell m w states beside To cell → IsMarkedAs cell marked → IsNamed w n marked
named_cell m w n states beside To cell marked wide len small (inl h) how =
    subst (IsNamed w n) (sym (⊎_elim (λ e. e ∙ h.0) (λ e. absurd (e.0 h.0)) how)) refl
named_cell m w n states beside To cell marked wide len small (inr h) how =
    let t = h.1.0 in
    let name = h.1.2 in
    let below = row_below states name.0 t w wide name.1 small in
    let there = slice_get_within states name.0 t name.1 in
    let product = mul-le-mul_left w there in
    let k = marked_name (name.0 * w + marks t) cell marked name.2 how in
    let is : row_of marked ≡ name.0 * w = name_row (name.0 * w) marked (is_some t.matched) (is_dead t) k.0 (omega (arith, below, wide)) k.1 in
    or_true (nat_eq marked quit) _ (le-leb (row_of marked + w) n (omega (arith, is, product, len)))

asked_of : (m : Machine) (mode : ℕ) → mode < length m.entries + 2 → (anchored : Anchored) × (mode_of anchored ≡ mode) × IsAsked m anchored
asked_of m zero lt = (No, refl, tt)
asked_of m (suc zero) lt = (Yes, refl, tt)
asked_of m (suc (suc p)) lt = (Pattern p, omega arith, omega arith)

beside_of : (samples : List ℕ) (column : ℕ) → column < length samples + 1 → (beside : Option ℕ) × IsBeside samples column beside
beside_of samples column lt = elim (cases_lt column (length samples)) [
  | inl below ↦ (Some (slice_index_or samples column 0), slice_get-get_or samples column 0 below)
  | inr past ↦ (None, omega (arith, lt, past))
]

-- what holds of each cell, however it is marked, holds of those that were
each_marked : (cells after : List ℕ) (P : ℕ → Type 0) → AreMarked cells after → All (λ cell. (marked : ℕ) → IsMarkedAs cell marked → P marked) cells → All P after
each_marked cells after P marked all = λ k d lt.
    let len = marked.len in
    let each = marked.each k in
    let here : k < length cells = omega (arith, len, lt) in
    let same = get_or_from_slice_get after k (slice_index_or after k quit) d (slice_get-get_or after k quit lt) in
    subst P (sym same) (all k quit here (slice_index_or after k quit) each)

pub cells_named : (m : Machine) (samples : List ℕ) (states : List State) (cells after : List ℕ) (n : ℕ) → 0 < length samples → n ≡ length states * length samples →
    length states * length samples < 2305843009213693952 → AreRows m samples states (length states) 0 cells → AreMarked cells after →
    All (IsNamed (length samples) n) after
cells_named m samples states cells after n wide count small a marked =
    let len = a.len in
    let size : length cells ≡ length states * length samples = omega (arith, len) in
    each_marked cells after (IsNamed (length samples) n) marked
    (each_filled (length samples) (length states) (IsCellOf m samples states) cells
    (λ cell. (marked : ℕ) → IsMarkedAs cell marked → IsNamed (length samples) n marked) wide size a.filled
    (λ row column cell inside below h after_all how.
    let s = slice_index_or states row dead_state in
    let b = slice_index_or samples column 0 in
    named_cell m (length samples) n states (Some b) (Leads m s (Some b)) cell after_all wide count small
    (h s b (slice_get-get_or states row dead_state inside) (slice_get-get_or samples column 0 below)) how))

pub starts_named : (m : Machine) (samples : List ℕ) (states : List State) (starts : List ℕ) (n : ℕ) → 0 < length samples → n ≡ length states * length samples →
    length states * length samples < 2305843009213693952 → AreStarts m samples states (length m.entries + 2) 0 starts →
    All (IsNamed (length samples) n) starts
starts_named m samples states starts n wide size small a =
    let len = a.len in
    each_filled (length samples + 1) (length m.entries + 2) (IsStartOf m samples states) starts (IsNamed (length samples) n) (omega arith)
    (omega (arith, len)) a.filled
    (λ mode column cell inside below h.
    let anchored = asked_of m mode inside in
    let beside = beside_of samples column below in
    named_cell m (length samples) n states beside.0 (Begins m anchored.0 beside.0) cell cell wide size small
    (h anchored.0 beside.0 anchored.1 anchored.2 beside.1) (inl refl))

-- THE TABLE

abbrev Told : Machine → Table → List State → Option ℕ → (State → Type 0) → ℕ → Type 0
Told m d states beside To cell =
    ((cell ≡ quit) × (¬ IsReadable m.setting.needs beside))
    ⊎ (IsReadable m.setting.needs beside × ((t : State) × To t × Names d states cell t))

-- the cell of one byte tells the same of another
told_by : (m : Machine) (d : Table) (w : ℕ) (states : List State) (a b : Option ℕ) (Here There : State → Type 0) (cell marked : ℕ) → d.width ≡ w →
    (IsReadable m.setting.needs a → IsReadable m.setting.needs b) → (IsReadable m.setting.needs b → IsReadable m.setting.needs a) →
    ((t : State) → Here t → There t) → IsCell m w states a Here cell → IsMarkedAs cell marked → Told m d states b There marked
told_by m d w states a b Here There cell marked width to back same (inl h) how =
    inl (⊎_elim (λ e. e ∙ h.0) (λ e. absurd (e.0 h.0)) how, λ r. h.1 (back r))
told_by m d w states a b Here There cell marked width to back same (inr h) how =
    let n = h.1.2 in
    let k = marked_name (n.0 * w + marks h.1.0) cell marked n.2 how in
    inr (to h.0, (h.1.0, same h.1.0 h.1.1, (n.0 * w, (n.0, n.1, ap (λ k. n.0 * k) (sym width)), k.0, k.1)))

within_row : (row rows columns column : ℕ) → row < rows → column < columns → row * columns + column < rows * columns
within_row row rows columns column inside below = let product = mul-le-mul_left columns inside in omega (arith, product, below)

leads_by : (m : Machine) (samples : List ℕ) (states : List State) (d : Table) (cells : List ℕ) (id row b : ℕ) (s : State) → IsClassing m d.classes.items samples →
    d.width ≡ length samples → AreRows m samples states (length states) 0 cells → AreMarked cells d.cells.items → b < 256 → slice_get states id ≡ Some s → row ≡ id * d.width →
    Told m d states (Some b) (Leads m s (Some b)) (cell_at d (row + class_at d b))
leads_by m samples states d cells id row b s k width a marked lt here is =
    let t = there m d.classes.items samples b k lt in
    let below = slice_get_within samples (class_at d b) t.0 t.1 in
    let len = a.len in
    let inside = within_row id (length states) (length samples) (class_at d b) (slice_get_within states id s here) below in
    let told = a.filled.told id (class_at d b) below (omega (arith, len, inside)) s t.0 here t.1 in
    let at : id * length samples + class_at d b ≡ row + class_at d b = ap (λ n. n + class_at d b) (ap (λ n. id * n) (sym width) ∙ sym is) in
    subst (λ i. Told m d states (Some b) (Leads m s (Some b)) (cell_at d i)) at
    (told_by m d (length samples) states (Some t.0) (Some b) (Leads m s (Some t.0)) (Leads m s (Some b)) _ _ width t.2.read t.3.read (t.2.lead s) told
    (marked.each (id * length samples + class_at d b)))

mode_below : (m : Machine) (anchored : Anchored) → IsAsked m anchored → mode_of anchored < length m.entries + 2
mode_below m No h = omega arith
mode_below m Yes h = omega arith
mode_below m (Pattern p) h = omega (arith, h)

begins_by : (m : Machine) (samples : List ℕ) (states : List State) (d : Table) (anchored : Anchored) (beside : Option ℕ) →
    IsClassing m d.classes.items samples → d.width ≡ length samples → AreStarts m samples states (length m.entries + 2) 0 d.starts.items →
    IsAsked m anchored → IsByte beside →
    Told m d states beside (Begins m anchored beside) (start_at d (mode_of anchored * (d.width + 1) + column d beside))
begins_by m samples states d anchored None k width a asked byte =
    let len = a.len in
    let inside = within_row (mode_of anchored) (length m.entries + 2) (length samples + 1) (length samples) (mode_below m anchored asked) (omega arith) in
    let told = a.filled.told (mode_of anchored) (length samples) (omega arith) (omega (arith, len, inside)) anchored None refl asked refl in
    subst (λ n. Told m d states None (Begins m anchored None) (start_at d (mode_of anchored * (n + 1) + n))) (sym width)
    (told_by m d (length samples) states None None (Begins m anchored None) (Begins m anchored None) _ _ width (λ r. r) (λ r. r) (λ t h. h) told (inl refl))
begins_by m samples states d anchored (Some b) k width a asked byte =
    let t = there m d.classes.items samples b k byte in
    let below = slice_get_within samples (class_at d b) t.0 t.1 in
    let more : class_at d b < length samples + 1 = omega (arith, below) in
    let len = a.len in
    let inside = within_row (mode_of anchored) (length m.entries + 2) (length samples + 1) (class_at d b) (mode_below m anchored asked) more in
    let told = a.filled.told (mode_of anchored) (class_at d b) more (omega (arith, len, inside)) anchored (Some t.0) refl asked t.1 in
    subst (λ n. Told m d states (Some b) (Begins m anchored (Some b)) (start_at d (mode_of anchored * (n + 1) + class_at d b))) (sym width)
    (told_by m d (length samples) states (Some t.0) (Some b) (Begins m anchored (Some t.0)) (Begins m anchored (Some b)) _ _ width t.2.read t.3.read
    (t.2.begin anchored) told (inl refl))

pub table_by : (m : Machine) → m.alphabet ≡ bytes → (samples : List ℕ) (states : List State) (d : Table) (cells : List ℕ) → IsClassing m d.classes.items samples →
    d.width ≡ length samples → AreRows m samples states (length states) 0 cells → AreMarked cells d.cells.items → AreStarts m samples states (length m.entries + 2) 0 d.starts.items →
    AreEnds m states d.ends.items → length d.ends.items ≡ length states → AreTells states d.tells.items → length d.tells.items ≡ length states →
    AreIdles states d.idles.items → length d.idles.items ≡ length states → IsTable m states d
table_by m reads samples states d cells k width rows marked starts ends ends_len tells tells_len idles idles_len = record {
  reads = reads;
  rows = let len = rows.len in let same = marked.len in let size : length d.cells.items ≡ length states * length samples = omega (arith, len, same) in size ∙ ap (λ n. length states * n) (sym width);
  leads = λ row b s lt r. leads_by m samples states d cells r.0 row b s k width rows marked lt r.1 r.2;
  ends = λ id s e. let w = slice_get_within states id s e in ends id s (omega (arith, w, ends_len)) e;
  tells = λ id s e. let w = slice_get_within states id s e in tells id s (omega (arith, w, tells_len)) e;
  idles = λ id s e. let w = slice_get_within states id s e in idles id s (omega (arith, w, idles_len)) e;
  begins = λ anchored beside asked byte. begins_by m samples states d anchored beside k width starts asked byte;
  starts = let len = starts.len in let size : length d.starts.items ≡ (length m.entries + 2) * (length samples + 1) = omega (arith, len) in
      size ∙ ap (λ n. (length m.entries + 2) * (n + 1)) (sym width);
}

-- FROM THE PARTS

pub refused_as : (m : Machine) (w v : ℕ) (k l : Option ℕ) (e : TableError) → w ≡ v → k ≡ l → IsRefused m w k e → IsRefused m v l e
refused_as m w v k l e width limit h = subst (λ (x : Option ℕ). IsRefused m v x e) limit (subst (λ (x : ℕ). IsRefused m x k e) width h)

light_by : (m : Machine) (w v : ℕ) (states : List State) (weight : ℕ) (limit : Option ℕ) → w ≡ v →
    IfSome limit (λ l. (weight ≡ weight_by m w states) × (weight ≤ l)) → IfSome limit (λ l. weight_by m v states ≤ l)
light_by m w v states weight None width h = tt
light_by m w v states weight (Some l) width h = subst (λ n. n ≤ l) (h.0 ∙ ap (λ n. weight_by m n states) width) h.1

module _ (m : Machine) (classes samples : List ℕ) (limit : Option ℕ) (n : code.Names) (starts cells after ends tells : List ℕ) (idles : List Bool)
    (k : IsClassing m classes samples) (p : AreParts m samples limit n starts cells ends tells idles) (marked : AreMarked cells after) where
  below_marks : length n.states * length samples < 2305843009213693952
  below_marks = subst (λ w. length n.states * w < 2305843009213693952) p.width p.are_named.small

  cell_count : length after ≡ length n.states * length samples
  cell_count = let rows = p.are_rows in let len = rows.len in let same = marked.len in omega (arith, len, same)

  pub inside_by : All (IsNamed (length samples) (length after)) after × All (IsNamed (length samples) (length after)) starts
  inside_by =
      let wide = has_samples m classes samples k in (
        cells_named m samples n.states cells after (length after) wide cell_count below_marks p.are_rows marked,
        starts_named m samples n.states starts (length after) wide cell_count below_marks p.are_starts,
      )

  pub small_by : length after < 2305843009213693952
  small_by = let small = below_marks in let count = cell_count in omega (arith, small, count)

module _ (m : Machine) (classes samples : List ℕ) (limit : Option ℕ) (n : code.Names) (starts cells ends tells : List ℕ) (idles : List Bool)
    (k : IsClassing m classes samples) (p : AreParts m samples limit n starts cells ends tells idles) where
  pub few_cells : length cells < 2305843009213693952
  few_cells = small_by m classes samples limit n starts cells cells ends tells idles k p (record { len = refl; each = λ i. inl refl })

pub made_by : (m : Machine) → m.alphabet ≡ bytes → (samples : List ℕ) (limit : Option ℕ) (n : code.Names) (cells : List ℕ) (d : Table) → IsClassing m d.classes.items samples →
    d.width ≡ length samples → AreParts m samples limit n d.starts.items cells d.ends.items d.tells.items d.idles.items → AreMarked cells d.cells.items →
    IsMade m (length samples) limit d
made_by m reads samples limit n cells d k width p marked = record {
  states = n.states;
  is_table = table_by m reads samples n.states d cells k width p.are_rows marked p.are_starts p.are_ends p.all_ends p.are_tells p.all_tells p.are_idles p.all_idles;
  are_states = p.are_named.are_states;
  first = p.first;
  width = width;
  light = light_by m n.width (length samples) n.states n.weight limit p.width
      (subst (λ (x : Option ℕ). IfSome x (λ l. (n.weight ≡ weight_by m n.width n.states) × (n.weight ≤ l))) p.limited p.are_named.weighed);
}
