-- Bytes that are told to stay.
use Rattle.std.proofs.Common.{◌≡◌, ◌≢◌, ℕ, zero, suc, ◌+◌, ◌-◌, ◌<◌, ◌≤◌, ◌⊎◌, Bool, true, false, List, [], ◌∷◌, ◌++◌, length, slice_range, slice_index_or, replicate, inl, inr, sym, subst, ap, ◌∙◌, refl, arith}
use Rattle.std.proofs.lemmas.Bool.{cases_eq, cases_lt}
use Rattle.std.proofs.lemmas.List.Elements.{All-push}
use Rattle.std.proofs.lemmas.List.{get_or-replicate, get_or_past, length-replicate}
use Rattle.rc_text.proofs.Ranges.{length-slice_range, get_or-slice_range}
use Rattle.rc_dense_dfa.specs.Cells.{met, dead, row_of, IsMarkedAs, AreMarked}
use Rattle.rc_needles.specs.declared.byte_set.ByteSet.{ByteSet}
use Rattle.rc_needles.specs.ByteSets.{AreInside}
use Rattle.rc_dense_dfa.specs.Exits.{AreLeaps, AreStays, StaysAmong}
use Rattle.rc_dense_dfa.specs.Tables.{cell_at, class_at}
use Rattle.rc_dense_dfa.specs.Searches.{InRow}
use Rattle.rc_dense_dfa.specs.declared.leaps.Leap.{Leap}
use Rattle.rc_dense_dfa.specs.declared.table.Table.{Table}
use Rattle.rc_dense_dfa.proofs.ExitLemmas.{marked_stays}
use Rattle.rc_dense_dfa.proofs.MarkLemmas.{here_is, named_here}
use Rattle.rc_table_search.specs.Walks.{Reaches, Walk, begun, byte_at, cell_of, left_of, leapt, next_of}

-- of none it is told at first
pub none_stay : (mark : ℕ) (classes cells : List ℕ) (row other n : ℕ) → AreStays mark classes cells row other (replicate n false)
none_stay mark classes cells row other n b e = elim (cases_lt b n) [
  | inl lt ↦ let none = get_or-replicate n b false false lt in cc
  | inr past ↦ let long = length-replicate n false in let none = get_or_past (replicate n false) b false (omega (arith, past, long)) in cc
]

-- a leap more, with the rows and the bytes of one
pub more_leaps : (mark : ℕ) (classes cells : List ℕ) (leaps : List Leap) (leap made : Leap) → AreLeaps mark classes cells leaps →
    AreStays mark classes cells leap.row leap.other leap.stays.flags → made.row ≡ leap.row → made.other ≡ leap.other → made.stays ≡ leap.stays →
    AreLeaps mark classes cells (leaps ++ made ∷ [])
more_leaps mark classes cells leaps leap made all one row other stays =
    All-push (λ (it : Leap). AreStays mark classes cells it.row it.other it.stays.flags) leaps made all
    (subst (λ (s : ByteSet). AreStays mark classes cells made.row made.other s.flags) (sym stays)
    (subst (λ r. AreStays mark classes cells made.row r leap.stays.flags) (sym other)
    (subst (λ r. AreStays mark classes cells r leap.other leap.stays.flags) (sym row) one)))

among_marked : (one two first second row other : ℕ) → IsMarkedAs one first → IsMarkedAs two second → one < dead → two < dead → row_of one ≡ row_of two →
    (row_of one ≢ row → row_of one ≡ other) →
    (first < met) × (second < met) × (row_of first ≡ row_of second) × (row_of first ≢ row → row_of first ≡ other)
among_marked one two first second row other m n low below same here =
    let a = marked_stays one first (row_of one) m low refl in
    let b = marked_stays two second (row_of two) n below refl in
    (a.0, b.0, a.1 ∙ same ∙ sym b.1, subst (λ r. r ≢ row → r ≡ other) (sym a.1) here)

-- marks change nothing of it
pub marked_leaps : (shown shown_cells classes cells after : List ℕ) (leaps : List Leap) → shown ≡ classes → shown_cells ≡ cells → AreMarked cells after →
    AreLeaps dead shown shown_cells leaps → AreLeaps met classes after leaps
marked_leaps shown shown_cells classes cells after leaps same same_cells marked are k none lt b told =
    let leap = slice_index_or leaps k none in
    let h = subst (λ xs. StaysAmong dead xs cells leap.row leap.other b) same
    (subst (λ xs. StaysAmong dead shown xs leap.row leap.other b) same_cells (are k none lt b told)) in
    let m = among_marked _ _ _ _ leap.row leap.other (marked.each (leap.row + slice_index_or classes b 0)) (marked.each (leap.other + slice_index_or classes b 0))
    h.below h.below_too h.same h.among in
    record { below = m.0; below_too = m.1; same = m.2; among = m.3 }

one_or_other : (at row other : ℕ) → (at ≢ row → at ≡ other) → (at ≡ row) ⊎ (at ≡ other)
one_or_other at row other among = elim (cases_eq at row) [ inl e ↦ inl e | inr ne ↦ inr (among ne) ]

-- OVER BYTES THAT STAY AMONG TWO ROWS

module _ (d : Table) (row other : ℕ) where
  abbrev Stays : ℕ → Type 0
  Stays b = StaysAmong met d.classes.items d.cells.items row other b

  -- the row to which the byte leads from each of the two
  abbrev to : ℕ → ℕ
  to b = row_of (cell_at d (row + class_at d b))

  lands : (at b : ℕ) → (at ≡ row) ⊎ (at ≡ other) → Stays b → (cell_at d (at + class_at d b) < met) × (row_of (cell_at d (at + class_at d b)) ≡ to b)
  lands at b (inl e) s = subst (λ r. (cell_at d (r + class_at d b) < met) × (row_of (cell_at d (r + class_at d b)) ≡ to b)) (sym e) (s.below, refl)
  lands at b (inr e) s = subst (λ r. (cell_at d (r + class_at d b) < met) × (row_of (cell_at d (r + class_at d b)) ≡ to b)) (sym e) (s.below_too, sym s.same)

-- over a part of a piece
module _ (d : Table) (w : Walk) (end row other : ℕ) (stays : List Bool) (forwards : w.backwards ≡ false) (leaps : w.leaps ≡ true) (cells : w.cells ≡ d.cells.items)
    (classes : w.classes ≡ d.classes.items) (in_row : InRow d w.first) (bytes : (k : ℕ) → slice_index_or w.piece k 0 < 256) (ordered : w.from ≤ end)
    (short : end ≤ length w.piece) (here : (w.first ≡ row) ⊎ (w.first ≡ other)) (are : AreStays met d.classes.items d.cells.items row other stays) where
  abbrev part : List ℕ
  part = slice_range w.piece w.from end

  abbrev b : ℕ → ℕ
  b n = slice_index_or part n 0

  byte_is : (n : ℕ) → n < end - w.from → b n ≡ slice_index_or w.piece (w.from + n) 0
  byte_is n lt = get_or-slice_range w.piece w.from end n 0 lt

  -- one byte further
  one : (n at : ℕ) → n < end - w.from → (at ≡ row) ⊎ (at ≡ other) → InRow d at → Reaches w (w.from + n) at w.before → StaysAmong met d.classes.items d.cells.items row other (b n) →
      InRow d (to d row other (b n)) × Reaches w (w.from + (n + 1)) (to d row other (b n)) w.before
  one n at lt there within x s =
      let l = lands d row other at (b n) there s in
      let byte = byte_is n lt in
      let small : b n < 256 = let fits = bytes (w.from + n) in omega (arith, byte, fits) in
      let low = l.0 in
      let is : cell_of w (w.from + n) at ≡ cell_at d (at + class_at d (b n)) =
      ap (λ way. slice_index_or w.cells (at + slice_index_or w.classes (byte_at way w.piece (w.from + n)) 0) 0) forwards
      ∙ ap (λ c. slice_index_or w.cells (at + slice_index_or w.classes c 0) 0) (sym byte) ∙ here_is d w.cells w.classes at (b n) cells classes within small in
      let named = named_here d d.cells.items d.classes.items at (b n) refl refl within small in
      let same = here_is d d.cells.items d.classes.items at (b n) refl refl within small in
      let some : 0 < left_of w.backwards (length w.piece) (w.from + n) = subst (λ way. 0 < left_of way (length w.piece) (w.from + n)) (sym forwards) (omega (arith, lt, short)) in
      let next : next_of w.backwards (w.from + n) ≡ w.from + (n + 1) = let e = ap (λ way. next_of way (w.from + n)) forwards in omega (arith, e) in (
        subst (λ r. InRow d r) (ap row_of same ∙ l.1) (named (λ e. omega (arith, same, e, low))),
        subst (λ i. Reaches w i (to d row other (b n)) w.before) next
            (leapt (w.from + n) at (to d row other (b n)) x (record { within = omega (arith, lt, short); some = some }) leaps (subst (λ c. c < met) (sym is) low)
            (sym (ap row_of is ∙ l.1))),
      )

  many : (n : ℕ) → n < end - w.from → ((k : ℕ) → k < n + 1 → StaysAmong met d.classes.items d.cells.items row other (b k)) →
      InRow d (to d row other (b n)) × Reaches w (w.from + (n + 1)) (to d row other (b n)) w.before
  many zero lt all =
      let first : w.from ≡ w.from + 0 = omega arith in
      one 0 w.first lt here in_row (subst (λ i. Reaches w i w.first w.before) first begun) (all 0 (omega arith))
  many (suc n) lt all =
      let s = all n (omega arith) in
      let before : w.from + (n + 1) ≡ w.from + suc n = omega arith in
      let y = many n (omega (arith, lt)) (λ k less. all k (omega (arith, less))) in
      one (suc n) (to d row other (b n)) lt (one_or_other (to d row other (b n)) row other s.among) y.0 (subst (λ i. Reaches w i (to d row other (b n)) w.before) before y.1)
      (all (suc n) (omega arith))

  long : length part ≡ end - w.from
  long = length-slice_range w.piece w.from end short

  -- the cell of the last of so many bytes, in the row in which the run stood
  abbrev last : ℕ → ℕ
  last n = cell_at d (w.first + class_at d (slice_index_or part (n - 1) 0))

  pub leapt_over : (n : ℕ) → 0 < n → n ≤ length part → AreInside stays part n →
      InRow d (row_of (last n)) × Reaches w (w.from + n) (row_of (last n)) w.before
  leapt_over n some le all =
      let l = lands d row other w.first (b (n - 1)) here (are (b (n - 1)) (all (n - 1) (omega (arith, some)))) in
      let place : w.from + (n - 1 + 1) ≡ w.from + n = omega (arith, some) in
      let y = many (n - 1) (omega (arith, some, le, long)) (λ k lt. are (b k) (all k (omega (arith, lt, some)))) in (
        subst (λ r. InRow d r) (sym l.1) y.0,
        subst (λ r. Reaches w (w.from + n) r w.before) (sym l.1) (subst (λ i. Reaches w i (to d row other (b (n - 1))) w.before) place y.1),
      )
