-- Bytes over which a run stays in its row.
use Rattle.std.proofs.Common.{◌≡◌, ℕ, true, zero, suc, ◌+◌, ◌*◌, ◌<◌, ◌≤◌, false, List, [], ◌∷◌, ◌++◌, length, slice_index_or, inl, inr, sym, subst, ap, ◌∙◌, arith}
use Rattle.std.proofs.lemmas.Bool.{cases_lt}
use Rattle.std.proofs.lemmas.List.{get_or_append_left, get_or_past, length_push}
use Rattle.std.proofs.Math.Seq.{get_or-append_seam}
use Rattle.rc_dense_dfa.specs.Cells.{met, dead, row_of, IsMarkedAs, AreMarked}
use Rattle.rc_dense_dfa.specs.Exits.{AreExitsOf, Stays, is_exit}
use Rattle.rc_dense_dfa.specs.Tables.{cell_at, class_at}
use Rattle.rc_dense_dfa.specs.Searches.{InRow}
use Rattle.rc_dense_dfa.specs.declared.exits.Exits.{Exits}
use Rattle.rc_dense_dfa.specs.declared.exits.Exits.TheVariants.{Many}
use Rattle.rc_dense_dfa.specs.declared.table.Table.{Table}
use Rattle.rc_table_search.specs.Walks.{Reaches, Walk, begun, byte_at, cell_of, left_of, leapt, next_of}
use Rattle.rc_dense_dfa.proofs.MarkLemmas.{here_is}

-- EXITS OF ROWS

many_exits : (mark : ℕ) (classes cells : List ℕ) (row : ℕ) → AreExitsOf mark classes cells row Many
many_exits mark classes cells row b lt e = cc e

pub exits_more : (classes cells : List ℕ) (width row : ℕ) (exits : List Exits) (e : Exits) → row ≡ length exits * width →
    ((k : ℕ) → AreExitsOf dead classes cells (k * width) (slice_index_or exits k Many)) → AreExitsOf dead classes cells row e →
    (k : ℕ) → AreExitsOf dead classes cells (k * width) (slice_index_or (exits ++ e ∷ []) k Many)
exits_more classes cells width row exits e at told here k = elim (cases_lt k (length exits)) [
  | inl lt ↦ subst (AreExitsOf dead classes cells (k * width)) (sym (get_or_append_left exits (e ∷ []) Many k lt)) (told k)
  | inr past ↦ elim (cases_lt (length exits) k) [
    | inl over ↦
        let grown = length_push exits e in
        subst (AreExitsOf dead classes cells (k * width)) (sym (get_or_past (exits ++ e ∷ []) k Many (omega (arith, over, grown))))
        (many_exits dead classes cells (k * width))
    | inr le ↦
        let last : length exits ≡ k = omega (arith, past, le) in
        subst (λ i. AreExitsOf dead classes cells (i * width) (slice_index_or (exits ++ e ∷ []) i Many)) last
        (subst (AreExitsOf dead classes cells (length exits * width)) (sym (get_or-append_seam exits e [] Many))
        (subst (λ r. AreExitsOf dead classes cells r e) at here))
  ]
]

pub marked_stays : (cell after row : ℕ) → IsMarkedAs cell after → cell < dead → row_of cell ≡ row → (after < met) × (row_of after ≡ row)
marked_stays cell after row (inl e) lt is = (omega (arith, e, lt), ap row_of e ∙ is)
marked_stays cell after row (inr e) lt is = let more = e.1 in (omega (arith, more, lt), omega (arith, more, is))

-- marks change nothing of it
pub marked_exits : (shown shown_cells classes cells after : List ℕ) (row : ℕ) (e : Exits) → shown ≡ classes → shown_cells ≡ cells → AreMarked cells after →
    AreExitsOf dead shown shown_cells row e → AreExitsOf met classes after row e
marked_exits shown shown_cells classes cells after row e same same_cells marked are b lt none =
    let h = subst (λ xs. Stays dead xs cells row b) same (subst (λ xs. Stays dead shown xs row b) same_cells (are b lt none)) in
    marked_stays _ _ row (marked.each (row + slice_index_or classes b 0)) h.0 h.1

-- OVER A PIECE

module _ (d : Table) (w : Walk) (forwards : w.backwards ≡ false) (leaps : w.leaps ≡ true) (cells : w.cells ≡ d.cells.items) (classes : w.classes ≡ d.classes.items)
    (in_row : InRow d w.first) (begins : w.from ≡ 0) (bytes : (k : ℕ) → slice_index_or w.piece k 0 < 256) where
  stay : (n : ℕ) → n ≤ length w.piece → ((k : ℕ) → k < n → Stays met d.classes.items d.cells.items w.first (slice_index_or w.piece k 0)) → Reaches w n w.first w.before
  stay zero le h = subst (λ i. Reaches w i w.first w.before) begins begun
  stay (suc n) le h =
      let b = slice_index_or w.piece n 0 in
      let s = h n (omega arith) in
      let is : cell_of w n w.first ≡ cell_at d (w.first + class_at d b) =
      ap (λ way. slice_index_or w.cells (w.first + slice_index_or w.classes (byte_at way w.piece n) 0) 0) forwards
      ∙ here_is d w.cells w.classes w.first b cells classes in_row (bytes n) in
      let some : 0 < left_of w.backwards (length w.piece) n = subst (λ way. 0 < left_of way (length w.piece) n) (sym forwards) (omega (arith, le)) in
      let next : next_of w.backwards n ≡ suc n = let e = ap (λ way. next_of way n) forwards in omega (arith, e) in
      subst (λ i. Reaches w i w.first w.before) next
      (leapt n w.first w.first (stay n (omega (arith, le)) (λ k lt. h k (omega (arith, lt)))) (record { within = omega (arith, le); some = some }) leaps
      (subst (λ c. c < met) (sym is) s.0) (sym (ap row_of is ∙ s.1)))

  -- all bytes before the first exit
  pub passed : (e : Exits) (n : ℕ) → AreExitsOf met d.classes.items d.cells.items w.first e → n ≤ length w.piece →
      ((k : ℕ) → k < n → is_exit e (slice_index_or w.piece k 0) ≡ false) → Reaches w n w.first w.before
  passed e n are le none = stay n le (λ i lt. are _ (bytes i) (none i lt))
