-- The places that are entered first or after a byte, marked a place at a time.
use Rattle.std.proofs.Common.{◌≡◌, ℕ, ◌+◌, ◌<◌, ◌≤◌, Bool, true, false, List, [], ◌∷◌, ◌++◌, length, Option, Some, slice_get, slice_set, slice_index_or, get_or-set_same, get_or-set_other, ⊎_elim, sym, subst, ap, ◌∙◌, arith}
use Rattle.std.proofs.lemmas.Bool.{cases_eq, cases_lt}
use Rattle.rc_program.specs.Program.{Place, place_at}
use Rattle.rc_program.proofs.WayLemmas.{past_places}
use Rattle.rc_onepass.specs.OnePass.{IsEntered, Takes, at_first, by_byte}
use Rattle.rc_onepass.specs.declared.row.Row.{Row}
use Rattle.rc_onepass.proofs.LinkLemmas.{get_kept, get_pushed}

-- Each place is marked that is entered after a byte from one of the first `count`.
abbrev pub AreMarked : List Place → ℕ → ℕ → List Bool → Type 0
AreMarked places len count flags =
    (k b q : ℕ) → k < count → q < len → Takes (place_at places k) b q → slice_index_or flags q false ≡ true

-- one more place, which leads there or nowhere
pub mark_more : (places : List Place) (len count : ℕ) (flags now : List Bool) (place : Place) → place_at places count ≡ place →
    ((q : ℕ) → q < len → slice_index_or flags q false ≡ true → slice_index_or now q false ≡ true) →
    ((b q : ℕ) → q < len → Takes place b q → slice_index_or now q false ≡ true) → AreMarked places len count flags → AreMarked places len (count + 1) now
mark_more places len count flags now place here kept marked all k b q l in_places takes =
    ⊎_elim (λ less. kept q in_places (all k b q less in_places takes))
    (λ ge. let same : k ≡ count = omega (arith, l, ge) in
    marked b q in_places (subst (λ p. Takes p b q) (ap (λ n. place_at places n) same ∙ here) takes))
    (cases_lt k count)

pub set_kept : (flags : List Bool) (j q : ℕ) → q < length flags → slice_index_or flags q false ≡ true → slice_index_or (slice_set flags j true) q false ≡ true
set_kept flags j q l e =
    ⊎_elim (λ same. subst (λ n. slice_index_or (slice_set flags n true) q false ≡ true) same (get_or-set_same flags q true false l))
    (λ other. get_or-set_other flags j q true false other ∙ e) (cases_eq q j)

-- a place that leads over a byte is one of the places
takes_within : (places : List Place) (m b q : ℕ) → Takes (place_at places m) b q → m < length places
takes_within places m b q takes =
    ⊎_elim (λ l. l)
    (λ ge. let none = subst (λ p. Takes p b q) (past_places places m ge) takes in absurd (let l = none.1 in omega (arith, l)))
    (cases_lt m (length places))

-- all are marked
pub all_marked : (places : List Place) (len count : ℕ) (flags : List Bool) → len ≡ length places → len ≤ count →
    (0 < len → slice_index_or flags 0 false ≡ true) → AreMarked places len count flags → (q : ℕ) → q < len → IsEntered places q →
    slice_index_or flags q false ≡ true
all_marked places len count flags long all first marked q l at_first = first l
all_marked places len count flags long all first marked q l (by_byte m b takes) =
    marked m b q (let w = takes_within places m b q takes in omega (arith, w, long, all)) l takes

-- Each of the first `count` places has a row if it is marked.
abbrev pub AreThere : ℕ → List Bool → List (Option Row) → Type 0
AreThere count flags rows = (q : ℕ) → q < count → slice_index_or flags q false ≡ true → (row : Row) × (slice_get rows q ≡ Some (Some row))

-- one more place
pub there_more : (count : ℕ) (flags : List Bool) (rows more : List (Option Row)) (row : Option Row) → more ≡ rows ++ row ∷ [] → length rows ≡ count →
    (slice_index_or flags count false ≡ true → (r : Row) × (row ≡ Some r)) → AreThere count flags rows → AreThere (count + 1) flags more
there_more count flags rows more row e long last all q l marked =
    ⊎_elim
    (λ less. let r = all q less marked in
    (r.0, ap (λ xs. slice_get xs q) e ∙ get_kept rows (row ∷ []) q (Some r.0) r.1))
    (λ ge. let same : q ≡ count = omega (arith, l, ge) in
    let r = last (subst (λ n. slice_index_or flags n false ≡ true) same marked) in (
      r.0,
      ap (λ n. slice_get more n) (same ∙ sym long) ∙ ap (λ xs. slice_get xs (length rows)) e ∙ get_pushed rows row ∙ ap (λ x. Some x) r.1,
    ))
    (cases_lt q count)
