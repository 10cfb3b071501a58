-- One more byte of a run.
use Rattle.std.proofs.Common.{◌≡◌, ℕ, ◌+◌, ◌-◌, ◌<◌, ◌≤◌, Bool, true, false, List, Option, Some, slice_index_or, sym, subst, ap, ◌∙◌, arith}
use Rattle.rc_table_search.specs.Walks.{HasByte, Reaches, Walk, byte_at, cell_by, cell_of, dead, left_of, met, next_of, row_of, skip, walk_from, begun, plain, leapt, found}

-- the byte that is read next is a byte
pub small : (backwards : Bool) (piece : List ℕ) (place : ℕ) → ((k : ℕ) → slice_index_or piece k 0 < 256) → byte_at backwards piece place < 256
small false piece place all = all place
small true piece place all = all (place - 1)

-- fewer bytes are left then
pub fewer : (backwards : Bool) (len place : ℕ) → place ≤ len → 0 < left_of backwards len place →
    (next_of backwards place ≤ len) × (left_of backwards len place ≡ left_of backwards len (next_of backwards place) + 1)
fewer false len place within some = (omega (arith, within, some), omega (arith, within, some))
fewer true len place within some = (omega (arith, within, some), omega (arith, within, some))

-- the cell that a loop reads
pub read_here : (w : Walk) (cells classes piece : List ℕ) (row place b : ℕ) → cells ≡ w.cells → classes ≡ w.classes → piece ≡ w.piece →
    b ≡ byte_at w.backwards piece place → cell_by cells classes row b ≡ cell_of w place row
read_here w cells classes piece row place b same_cells same_classes same_piece is =
    ap (λ xs. cell_by xs classes row b) same_cells ∙ ap (λ xs. cell_by w.cells xs row b) same_classes ∙ ap (cell_by w.cells w.classes row) is
    ∙ ap (λ xs. cell_by w.cells w.classes row (byte_at w.backwards xs place)) same_piece

module _ (w : Walk) (place row cell : ℕ) (noted : Option (ℕ × ℕ)) (x : Reaches w place row noted) (byte : HasByte w place) (is : cell ≡ cell_of w place row) where
  pub goes_plain : cell < skip → Reaches w (next_of w.backwards place) cell noted
  goes_plain lt =
      subst (λ r. Reaches w (next_of w.backwards place) r noted) (sym is)
      (Reaches.plain place row x byte (subst (λ c. c < skip) is lt))

  pub goes_leapt : w.leaps ≡ true → skip ≤ cell → cell < dead → Reaches w (next_of w.backwards place) (cell - skip) noted
  goes_leapt leaps low high =
      Reaches.leapt place row (cell - skip) x byte leaps (subst (λ c. c < met) is (omega (arith, high)))
      (subst (λ c. cell - skip ≡ row_of c) is (omega (arith, low, high)))

  pub goes_found : met ≤ cell → cell - met < skip → Reaches w (next_of w.backwards place) (cell - met) (Some (cell - met, w.start + place))
  goes_found low high =
      subst (λ c. Reaches w (next_of w.backwards place) (c - met) (Some (c - met, w.start + place))) (sym is)
      (Reaches.found place row x byte (subst (λ c. met ≤ c) is low) (subst (λ c. c - met < skip) is high))

-- a run that goes on from where it came
pub reaches_on : (w : Walk) (place row : ℕ) (noted : Option (ℕ × ℕ)) → Reaches w place row noted → (to last : ℕ) (now : Option (ℕ × ℕ)) →
    Reaches (walk_from w place row noted) to last now → Reaches w to last now
reaches_on w place row noted x to last now begun = x
reaches_on w place row noted x to last now (plain p r y byte lt) =
    plain p r (reaches_on w place row noted x p r now y) (record { within = byte.within; some = byte.some }) lt
reaches_on w place row noted x to last now (leapt p r k y byte leaps lt is) =
    leapt p r k (reaches_on w place row noted x p r now y) (record { within = byte.within; some = byte.some }) leaps lt is
reaches_on w place row noted x to last now (found p r y byte low high) =
    found p r (reaches_on w place row noted x p r _ y) (record { within = byte.within; some = byte.some }) low high

-- a run forwards that leaps
pub forwards_on : (w : Walk) (backwards leaps : Bool) → w.backwards ≡ backwards → w.leaps ≡ leaps → (place row : ℕ) (noted : Option (ℕ × ℕ)) → Reaches w place row noted →
    (to last : ℕ) (now : Option (ℕ × ℕ)) → Reaches (record {
      backwards = backwards;
      leaps = leaps;
      cells = w.cells;
      classes = w.classes;
      piece = w.piece;
      start = w.start;
      from = place;
      first = row;
      before = noted;
    }) to last now → Reaches w to last now
forwards_on w backwards leaps same_way same_leaps place row noted x to last now y =
    let B : Bool → Bool → Type 0 = λ way leap. Reaches (record {
      backwards = way;
      leaps = leap;
      cells = w.cells;
      classes = w.classes;
      piece = w.piece;
      start = w.start;
      from = place;
      first = row;
      before = noted;
    }) to last now in
    reaches_on w place row noted x to last now (subst (λ way. B way w.leaps) (sym same_way) (subst (λ leap. B backwards leap) (sym same_leaps) y))
