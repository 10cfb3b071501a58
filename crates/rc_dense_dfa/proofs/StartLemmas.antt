-- The index of the cell at which a search begins.
use Rattle.std.proofs.Common.{◌≡◌, ℕ, zero, suc, ◌+◌, ◌*◌, ◌<◌, ◌≤◌, ◌⊎◌, min, length, slice_index_or, inl, inr, sym, ap, ◌∙◌, arith}
use Rattle.std.proofs.lemmas.Bool.{cases_lt}
use Rattle.std.proofs.lemmas.List.{get_or_past}
use Rattle.rc_dense_dfa.specs.Cells.{quit}
use Rattle.rc_dense_dfa.specs.Tables.{start_at}
use Rattle.rc_dense_dfa.specs.declared.table.Table.{Table}

stops_sum : (len exact column product index : ℕ) → len < 18446744073709551615 → product ≡ min exact 18446744073709551615 →
    index ≡ min (product + column) 18446744073709551615 → (index ≡ exact + column) ⊎ ((len ≤ index) × (len ≤ exact + column))
stops_sum len exact column product index small b c =
    elim (cases_lt (exact + column) 18446744073709551616) [
      | inl lt ↦ inl (omega (arith, b, c, lt))
      | inr le ↦ inr (omega (arith, b, c, le, small), omega (arith, le, small))
    ]

stops_wide : (len width mode column columns product index : ℕ) → len < 18446744073709551615 → columns ≡ 18446744073709551615 →
    18446744073709551616 ≤ width + 1 → product ≡ min (mode * columns) 18446744073709551615 → index ≡ min (product + column) 18446744073709551615 →
    (index ≡ mode * (width + 1) + column) ⊎ ((len ≤ index) × (len ≤ mode * (width + 1) + column))
stops_wide len width zero column columns product index small a wide b c =
    let e : zero * columns ≡ zero * (width + 1) = omega arith in
    stops_sum len (zero * (width + 1)) column product index small (b ∙ ap (λ n. min n 18446744073709551615) e) c
stops_wide len width (suc k) column columns product index small a wide b c =
    let more : columns ≤ suc k * columns = omega arith in
    let most : width + 1 ≤ suc k * (width + 1) = omega arith in
    inr (omega (arith, a, b, c, small, more), omega (arith, wide, small, most))

-- sums and products that stop at the greatest number are right, or past the end of the list
stops_past : (len width mode column columns product index : ℕ) → len < 18446744073709551615 → columns ≡ min (width + 1) 18446744073709551615 →
    product ≡ min (mode * columns) 18446744073709551615 → index ≡ min (product + column) 18446744073709551615 →
    (index ≡ mode * (width + 1) + column) ⊎ ((len ≤ index) × (len ≤ mode * (width + 1) + column))
stops_past len width mode column columns product index small a b c =
    elim (cases_lt (width + 1) 18446744073709551616) [
      | inl lt ↦
          let e : columns ≡ width + 1 = omega (arith, a, lt) in
          stops_sum len (mode * (width + 1)) column product index small (b ∙ ap (λ n. min (mode * n) 18446744073709551615) e) c
      | inr le ↦ stops_wide len width mode column columns product index small (omega (arith, a, le)) le b c
    ]

pub start_index : (d : Table) (mode column columns product index : ℕ) → columns ≡ min (d.width + 1) 18446744073709551615 →
    product ≡ min (mode * columns) 18446744073709551615 → index ≡ min (product + column) 18446744073709551615 →
    slice_index_or d.starts.items index quit ≡ start_at d (mode * (d.width + 1) + column)
start_index d mode column columns product index a b c =
    let small = d.starts.small in
    let long = d.starts.ok in
    elim (stops_past (length d.starts.items) d.width mode column columns product index (omega (arith, small, long)) a b c) [
      | inl e ↦ ap (λ i. slice_index_or d.starts.items i quit) e
      | inr h ↦ get_or_past d.starts.items index quit h.0 ∙ sym (get_or_past d.starts.items (mode * (d.width + 1) + column) quit h.1)
    ]
