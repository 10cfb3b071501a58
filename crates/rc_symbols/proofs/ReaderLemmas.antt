-- Readers know each symbol, forwards and backwards.
use Rattle.std.proofs.Common.{◌≡◌, ℕ, ◌+◌, ◌≤◌, length, ⊎_elim, sym, ap, ◌∙◌, refl, arith, Bool, Option, Some, None}
use Rattle.std.specs.Char.{encode_utf8}
use Rattle.std.specs.Option.{option_map}
use Rattle.std.proofs.lemmas.Bool.{cases_lt, cases_eq, eq-eqb, ne_eqb}
use Rattle.std.proofs.lemmas.Option.{none-some}
use Rattle.rc_program.specs.Looks.{is_word_scalar}
use Rattle.rc_program.specs.Scalars.{scalar_at, scalar_before}
use Rattle.rc_program.specs.Text.{Text, behind, beyond}
use Rattle.rc_program.proofs.SideLemmas.{scalar_law}
use Rattle.rc_symbols.specs.Symbols.{Tag, Symbol, IsSymbolAt, IsScalarAt, IsAround}
use Rattle.rc_symbols.specs.Readers.{Left, count_down, read, IsCut, IsLeftAhead, IsLeftBehind, ReaderLaw}
use Rattle.rc_symbols.proofs.SymbolLemmas.{some, few, fits, read_back, found_back, apart, nothing_opens, opened, shut, stray, head_of}

-- where it is not cut in front, nor begins there
around_cut : (t : Text) (i j c n : ℕ) → IsCut t i j c n → IsAround t i j c n
around_cut t i j c n k = record { is = k.is; begins = omega (arith, k.begins); ends = k.ends }

around_next : (t : Text) (i j c n : ℕ) → IsCut t (i + 1) j c n → IsAround t i j c n
around_next t i j c n k = record { is = k.is; begins = omega (arith, k.begins); ends = omega (arith, k.ends) }

module _ (t : Text) (i : ℕ) (y : Symbol) (s : IsSymbolAt t i y) where
  -- so many bytes of the scalar are left ahead, the one at i among them
  ahead : (j c n left : ℕ) (word : Bool) (first : Tag) → IsAround t i j c n → i + left ≡ j + n → word ≡ is_word_scalar c →
      (y.shuts ≡ (count_down left word first).last) × IsLeftAhead t (i + 1) (count_down left word first).left
  ahead j c n left word first a e w =
      ⊎_elim
      (λ one. rw (eq-eqb left 1 one) (
        shut t i y s j c n a ∙ (rw (eq-eqb (i + 1) (j + n) (omega (arith, e, one))) (ap Some (sym w))),
        λ k d m cut. let p = apart t i j k c d n m a (around_next t i k d m cut) in omega (arith, e, one, p.0, p.2, cut.ends),
      ))
      (λ ne. rw (ne_eqb left 1 ne) (
        shut t i y s j c n a ∙ (rw (ne_eqb (i + 1) (j + n) (λ h. ne (omega (arith, e, h)))) refl),
        (
          j,
          c,
          n,
          record { is = a.is; begins = omega (arith, a.begins); ends = omega (arith, e, a.ends, ne) },
          omega (arith, e, a.ends),
          w,
        ),
      ))
      (cases_eq left 1)

  -- the same of the bytes behind
  back : (j c n left : ℕ) (word : Bool) (first : Tag) → IsAround t i j c n → j + left ≡ i + 1 → word ≡ is_word_scalar c →
      (y.opens ≡ (count_down left word first).last) × IsLeftBehind t i (count_down left word first).left
  back j c n left word first a e w =
      ⊎_elim
      (λ one. rw (eq-eqb left 1 one) (
        opened t i y s j c n a ∙ (rw (eq-eqb i j (omega (arith, e, one))) (ap Some (sym w))),
        λ k d m cut. let p = apart t i j k c d n m a (around_cut t i k d m cut) in omega (arith, e, one, p.0, cut.begins),
      ))
      (λ ne. rw (ne_eqb left 1 ne) (
        opened t i y s j c n a ∙ (rw (ne_eqb i j (λ h. ne (omega (arith, e, h)))) refl),
        (
          j,
          c,
          n,
          record { is = a.is; begins = omega (arith, e, a.begins, ne); ends = a.ends },
          omega (arith, e, a.begins),
          w,
        ),
      ))
      (cases_eq left 1)

  forwards : (left : Left) (o : Option (ℕ × ℕ)) → scalar_at (beyond t i) ≡ o → IsLeftAhead t i left →
      (y.opens ≡ (read left o).first) × (y.shuts ≡ (read left o).last) × IsLeftAhead t (i + 1) (read left o).left
  forwards (Some p) o e h =
      let a = around_cut t i h.0 h.1 h.2 h.3 in
      let r = ahead h.0 h.1 h.2 p.0 p.1 None a h.4 h.5 in
      (opened t i y s h.0 h.1 h.2 a ∙ (rw (ne_eqb i h.0 (λ same. omega (arith, same, h.3.begins))) refl), r.0, r.1)
  forwards None (Some z) e h =
      let is : IsScalarAt t i z.0 z.1 = record { inside = s.inside.0; scalar = e } in
      let more = some t i z.0 z.1 is in
      let a : IsAround t i i z.0 z.1 = record { is = is; begins = omega arith; ends = omega (arith, more) } in
      let r = ahead i z.0 z.1 z.1 (is_word_scalar z.0) (Some (is_word_scalar z.0)) a refl refl in
      (opened t i y s i z.0 z.1 a ∙ (rw (eq-eqb i i refl) refl), r.0, r.1)
  forwards None None e h =
      let alone : (j c n : ℕ) → ¬ IsAround t i j c n = λ j c n a.
      ⊎_elim (λ l. h j c n (record { is = a.is; begins = l; ends = a.ends }))
      (λ g. let same : j ≡ i = omega (arith, g, a.begins) in none-some (c, n) (sym e ∙ ap (λ k. scalar_at (beyond t k)) (sym same) ∙ a.is.scalar))
      (cases_lt j i) in
      let r = stray t i y s alone in
      (r.0, r.1, λ j c n cut. alone j c n (around_next t i j c n cut))

  backwards : (left : Left) (o : Option ℕ) → t.slice_end ≤ length t.content → scalar_before (behind t (i + 1)) ≡ o → IsLeftBehind t (i + 1) left →
      (y.shuts ≡ (read left (option_map (λ c. (c, length (encode_utf8 c))) o)).first)
      × (y.opens ≡ (read left (option_map (λ c. (c, length (encode_utf8 c))) o)).last)
      × IsLeftBehind t i (read left (option_map (λ c. (c, length (encode_utf8 c))) o)).left
  backwards (Some p) o bounded e h =
      let a = around_next t i h.0 h.1 h.2 h.3 in
      let r = back h.0 h.1 h.2 p.0 p.1 None a h.4 h.5 in
      (shut t i y s h.0 h.1 h.2 a ∙ (rw (ne_eqb (i + 1) (h.0 + h.2) (λ same. omega (arith, same, h.3.ends))) refl), r.0, r.1)
  backwards None (Some c) bounded e h =
      let f = found_back t (i + 1) c (omega (arith, s.inside.1)) (omega (arith, s.inside.1, bounded)) e in
      let size : f.1 ≡ length (encode_utf8 c) = ((scalar_law.begins (beyond t f.0) c f.1).0 f.2.scalar).1 in
      let more = some t f.0 c f.1 f.2 in
      let end = f.3 in
      let a : IsAround t i f.0 c f.1 = record { is = f.2; begins = omega (arith, end, more); ends = omega (arith, end) } in
      let r = back f.0 c f.1 (length (encode_utf8 c)) (is_word_scalar c) (Some (is_word_scalar c)) a (omega (arith, end, size)) refl in
      (shut t i y s f.0 c f.1 a ∙ (rw (eq-eqb (i + 1) (f.0 + f.1) (sym end)) refl), r.0, r.1)
  backwards None None bounded e h =
      let alone : (j c n : ℕ) → ¬ IsAround t i j c n = λ j c n a.
      ⊎_elim (λ l. h j c n (record { is = a.is; begins = omega (arith, a.begins); ends = l }))
      (λ g. let same : j + n ≡ i + 1 = omega (arith, g, a.ends) in
      none-some c (sym e ∙ ap (λ k. scalar_before (behind t k)) (sym same) ∙ read_back t j c n a.is))
      (cases_lt (i + 1) (j + n)) in
      let r = stray t i y s alone in
      (r.1, r.0, λ j c n cut. alone j c n (around_cut t i j c n cut))

pub reader_law : ReaderLaw
reader_law = record {
  starts = λ t j c n cut. let low = cut.is.inside in omega (arith, low, cut.begins);
  reads = λ t i left y h s. forwards t i y s left (scalar_at (beyond t i)) refl h;
  decodes = λ t i b low e h. nothing_opens t i low (λ c n is. h (head_of t i c n b is e).0);
  near = λ t i j c n cut. let most = few t j c n cut.is in (omega (arith, most, cut.ends), omega (arith, most, cut.begins));
  starts_back = λ t j c n cut. let f = fits t j c n cut.is in omega (arith, f, cut.ends);
  reads_back = λ t i left y bounded h s. backwards t i y s left (scalar_before (behind t (i + 1))) bounded refl h;
}
