-- The scalars of a text lie apart, and decide the symbols of their bytes.
use Rattle.std.proofs.Common.{◌≡◌, ◌↔◌, ℕ, ◌+◌, ◌-◌, ◌<◌, ◌≤◌, List, [], ◌∷◌, ◌++◌, length, take, drop, ⊎_elim, sym, subst, ap, ◌∙◌, refl, arith, ◌==◌, Option, Some, None, slice_get, slice_range, if◌then◌else◌, length-append, length-take}
use Rattle.std.specs.Option.{option_map}
use Rattle.std.specs.Char.{IsScalar, encode_utf8}
use Rattle.std.proofs.lemmas.Bool.{cases_lt, cases_eq, and_from, le-leb, lt-ltb, eq-eqb, ne_eqb}
use Rattle.std.proofs.lemmas.List.{take_at, take-take, drop_at, drop-take, drop-drop}
use Rattle.std.proofs.lemmas.Option.{same_Some, slice_get_within}
use Rattle.rc_text.proofs.Ranges.{slice_range-append, slice_get-slice_range, length-slice_range}
use Rattle.rc_program.specs.Looks.{side_before, side_after, is_word_scalar}
use Rattle.rc_program.specs.Scalars.{scalar_at, scalar_before}
use Rattle.rc_program.specs.Text.{Text, behind, beyond}
use Rattle.rc_program.proofs.SideLemmas.{scalar_law, scalar_at-encode, scalar_before-encode}
use Rattle.rc_symbols.specs.Symbols.{tag_of, Symbol, IsSymbolAt, IsScalarAt, IsAround, BeginsScalar, SymbolLaw}
use Rattle.rc_symbols.proofs.ShapeLemmas.{IsShape, shape_of, head_begins, head_apart, head_one, one_head, head_few, head_some}

-- an element of a list that was cut
got : (xs : List ℕ) (i p k b : ℕ) → slice_get (slice_range xs i p) k ≡ Some b → slice_get xs (i + k) ≡ Some b
got xs i p k b e =
    let short = slice_get_within (slice_range xs i p) k b e in
    let few = length-take (p - i) (drop i xs) in
    sym (slice_get-slice_range xs i p k (omega (arith, short, few))) ∙ e

module _ (t : Text) (j c n : ℕ) (is : IsScalarAt t j c n) where
  abbrev shape : IsShape (beyond t j) n
  shape = shape_of (beyond t j) c n is.scalar

  pub head_at : slice_get t.content j ≡ Some shape.head
  head_at =
      let e : j ≡ j + 0 = omega arith in
      subst (λ k. slice_get t.content k ≡ Some shape.head) (sym e) (got t.content j t.slice_end 0 shape.head shape.first)

  pub some : 0 < n
  some = head_some shape.head n shape.heads

  pub few : n ≤ 4
  few = head_few shape.head n shape.heads

  pub next_at : (i : ℕ) → j < i → i < j + n → (b : ℕ) × (slice_get t.content i ≡ Some b) × (128 ≤ b) × (b < 192)
  next_at i low high =
      let o = shape.others (i - j) (omega (arith, low)) (omega (arith, low, high)) in
      let e : i ≡ j + (i - j) = omega (arith, low) in
      (o.0, subst (λ k. slice_get t.content k ≡ Some o.0) (sym e) (got t.content j t.slice_end (i - j) o.0 o.1), o.2, o.3)

  abbrev spelling : IsScalar c × (n ≡ length (encode_utf8 c)) × ((rest : List ℕ) × (beyond t j ≡ encode_utf8 c ++ rest))
  spelling = (scalar_law.begins (beyond t j) c n).0 is.scalar

  -- its bytes are those of the slice from there on
  pub fits : j + n ≤ t.slice_end
  fits =
      let few = length-take (t.slice_end - j) (drop j t.content) in
      let all = ap length spelling.2.1 ∙ length-append (encode_utf8 c) spelling.2.0 in
      let more = some in
      omega (arith, few, all, spelling.1, more)

  spelled : slice_range t.content j (j + n) ≡ encode_utf8 c
  spelled =
      let e : j + n - j ≡ n = omega arith in
      let le : n ≤ t.slice_end - j = let f = fits in omega (arith, f) in
      ap (λ k. take k (drop j t.content)) e
      ∙ sym (take-take n (t.slice_end - j) (drop j t.content) le)
      ∙ ap (take n) spelling.2.1
      ∙ take_at (encode_utf8 c) spelling.2.0 n (sym spelling.1)

  -- it is read back from its end
  pub read_back : scalar_before (behind t (j + n)) ≡ Some c
  read_back =
      ap scalar_before (sym (slice_range-append t.content t.slice_start j (j + n) is.inside (omega arith)) ∙ ap (λ bs. behind t j ++ bs) spelled)
      ∙ scalar_before-encode (behind t j) c spelling.0

-- what ends before a position is a scalar of the slice
pub found_back : (t : Text) (i c : ℕ) → i ≤ t.slice_end → i ≤ length t.content → scalar_before (behind t i) ≡ Some c →
    (j : ℕ) × (n : ℕ) × IsScalarAt t j c n × (j + n ≡ i)
found_back t i c inside short e =
    let r = (scalar_law.ends (behind t i) c).0 e in
    let size = length-slice_range t.content t.slice_start i short in
    let all = ap length r.1.1 ∙ length-append r.1.0 (encode_utf8 c) in
    let more = some_bytes c r.0 in
    let j = t.slice_start + length r.1.0 in
    let end : j + length (encode_utf8 c) ≡ i = omega (arith, size, all, more) in
    let piece : slice_range t.content j i ≡ encode_utf8 c =
    later t.content t.slice_start i (length r.1.0) (omega (arith, size, all)) ∙ ap (drop (length r.1.0)) r.1.1 ∙ drop_at r.1.0 (encode_utf8 c) (length r.1.0) refl in
    let ahead : beyond t j ≡ encode_utf8 c ++ beyond t i =
    sym (slice_range-append t.content j i t.slice_end (omega (arith, end)) inside) ∙ ap (λ bs. bs ++ beyond t i) piece in
    (j, length (encode_utf8 c), record { inside = omega arith; scalar = ap scalar_at ahead ∙ scalar_at-encode c (beyond t i) r.0 }, end)
  where
    some_bytes : (c : ℕ) → IsScalar c → 0 < length (encode_utf8 c)
    some_bytes c ok = head_some _ _ (shape_of (encode_utf8 c ++ []) c (length (encode_utf8 c)) (scalar_at-encode c [] ok)).heads

    later : (xs : List ℕ) (a p k : ℕ) → k ≤ p - a → slice_range xs (a + k) p ≡ drop k (slice_range xs a p)
    later xs a p k h =
        let rest : p - (a + k) ≡ p - a - k = omega arith in
        let all : k + (p - a - k) ≡ p - a = omega (arith, h) in
        ap (λ n. take n (drop (a + k) xs)) rest ∙ ap (take (p - a - k)) (sym (drop-drop k a xs)) ∙ sym (drop-take k (p - a - k) (drop a xs))
        ∙ ap (λ n. drop k (take n (drop a xs))) all

-- a byte of one is none of another
before_other : (t : Text) (j k c d n m : ℕ) → IsScalarAt t j c n → IsScalarAt t k d m → j < k → k < j + n → ⊥
before_other t j k c d n m a b low high =
    let x = next_at t j c n a k low high in
    let y = head_at t k d m b in
    let same = same_Some _ _ (sym x.1 ∙ y) in
    ⊎_elim (λ l. omega (arith, same, l, x.2)) (λ g. omega (arith, same, g, x.3)) (head_apart _ m (shape_of (beyond t k) d m b.scalar).heads)

same_start : (t : Text) (i j k c d n m : ℕ) → IsAround t i j c n → IsAround t i k d m → j ≡ k
same_start t i j k c d n m a b =
    ⊎_elim (λ l. absurd (before_other t j k c d n m a.is b.is l (omega (arith, b.begins, a.ends))))
    (λ ge. ⊎_elim (λ l. absurd (before_other t k j d c m n b.is a.is l (omega (arith, a.begins, b.ends)))) (λ le. omega (arith, ge, le)) (cases_lt k j))
    (cases_lt j k)

pub apart : (t : Text) (i j k c d n m : ℕ) → IsAround t i j c n → IsAround t i k d m → (j ≡ k) × (c ≡ d) × (n ≡ m)
apart t i j k c d n m a b =
    let e = same_start t i j k c d n m a b in
    let both : (c, n) ≡ (d, m) = same_Some (c, n) (d, m) (sym a.is.scalar ∙ ap (λ x. scalar_at (beyond t x)) e ∙ b.is.scalar) in
    (e, ap (λ (z : ℕ × ℕ). z.0) both, ap (λ (z : ℕ × ℕ). z.1) both)

-- tags by the scalars
map_twice : (o : Option (ℕ × ℕ)) → option_map is_word_scalar (option_map (λ (s : ℕ × ℕ). s.0) o) ≡ option_map (λ (s : ℕ × ℕ). is_word_scalar s.0) o
map_twice None = refl
map_twice (Some s) = refl

tag_after : (bs : List ℕ) → tag_of (side_after bs) ≡ option_map (λ (s : ℕ × ℕ). is_word_scalar s.0) (scalar_at bs)
tag_after [] = refl
tag_after (b ∷ bs) = map_twice (scalar_at (b ∷ bs))

tag_before : (bs : List ℕ) → tag_of (side_before bs) ≡ option_map is_word_scalar (scalar_before bs)
tag_before [] = refl
tag_before (b ∷ bs) = refl

none_of : {X : Type 0} (o : Option X) → ((x : X) → o ≡ Some x → ⊥) → o ≡ None
none_of None h = refl
none_of (Some x) h = absurd (h x refl)

pub nothing_opens : (t : Text) (i : ℕ) → t.slice_start ≤ i → ((c n : ℕ) → ¬ IsScalarAt t i c n) → scalar_at (beyond t i) ≡ None
nothing_opens t i low h = none_of (scalar_at (beyond t i)) (λ s e. h s.0 s.1 (record { inside = low; scalar = e }))

pub nothing_shuts : (t : Text) (i : ℕ) → i ≤ t.slice_end → i ≤ length t.content → ((j c n : ℕ) → IsScalarAt t j c n → j + n ≡ i → ⊥) →
    scalar_before (behind t i) ≡ None
nothing_shuts t i inside short h =
    none_of (scalar_before (behind t i)) (λ c e. let r = found_back t i c inside short e in h r.0 c r.1 r.2 r.3)

module _ (t : Text) (i : ℕ) (y : Symbol) (s : IsSymbolAt t i y) where
  abbrev before_end : i + 1 ≤ length t.content
  before_end = let w = slice_get_within t.content i y.byte s.byte in omega (arith, w)

  opens_by : (o : Option (ℕ × ℕ)) → scalar_at (beyond t i) ≡ o → y.opens ≡ option_map (λ (z : ℕ × ℕ). is_word_scalar z.0) o
  opens_by o e = s.opens ∙ tag_after (beyond t i) ∙ ap (option_map (λ (z : ℕ × ℕ). is_word_scalar z.0)) e

  shuts_by : (o : Option ℕ) → scalar_before (behind t (i + 1)) ≡ o → y.shuts ≡ option_map is_word_scalar o
  shuts_by o e = s.shuts ∙ tag_before (behind t (i + 1)) ∙ ap (option_map is_word_scalar) e

  pub opened : (j c n : ℕ) → IsAround t i j c n → y.opens ≡ (if i == j then Some (is_word_scalar c) else None)
  opened j c n a =
      ⊎_elim
      (λ e. rw (eq-eqb i j e) (opens_by (Some (c, n)) (ap (λ k. scalar_at (beyond t k)) e ∙ a.is.scalar)))
      (λ ne. rw (ne_eqb i j ne)
      (opens_by None
      (nothing_opens t i s.inside.0
      (λ d m is. let more = some t i d m is in
      ne (sym (apart t i j i c d n m a (record { is = is; begins = omega arith; ends = omega (arith, more) })).0)))))
      (cases_eq i j)

  pub shut : (j c n : ℕ) → IsAround t i j c n → y.shuts ≡ (if i + 1 == j + n then Some (is_word_scalar c) else None)
  shut j c n a =
      ⊎_elim
      (λ e. rw (eq-eqb (i + 1) (j + n) e) (shuts_by (Some c) (ap (λ k. scalar_before (behind t k)) e ∙ read_back t j c n a.is)))
      (λ ne. rw (ne_eqb (i + 1) (j + n) ne)
      (shuts_by None
      (nothing_shuts t (i + 1) (omega (arith, s.inside.1)) before_end
      (λ k d m is e. let more = some t k d m is in
      let p = apart t i j k c d n m a (record { is = is; begins = omega (arith, e, more); ends = omega (arith, e) }) in
      ne (omega (arith, e, p.0, p.2))))))
      (cases_eq (i + 1) (j + n))

  pub stray : ((j c n : ℕ) → ¬ IsAround t i j c n) → (y.opens ≡ None) × (y.shuts ≡ None)
  stray h = (
    opens_by None
        (nothing_opens t i s.inside.0
        (λ c n is. let more = some t i c n is in h i c n (record { is = is; begins = omega arith; ends = omega (arith, more) }))),
    shuts_by None
        (nothing_shuts t (i + 1) (omega (arith, s.inside.1)) before_end
        (λ j c n is e. let more = some t j c n is in h j c n (record { is = is; begins = omega (arith, e, more); ends = omega (arith, e) }))),
  )

pub head_of : (t : Text) (j c n b : ℕ) → IsScalarAt t j c n → slice_get t.content j ≡ Some b → BeginsScalar b × ((b < 128) ↔ (n ≡ 1))
head_of t j c n b is e =
    let z = shape_of (beyond t j) c n is.scalar in
    let same : z.head ≡ b = same_Some z.head b (sym (head_at t j c n is) ∙ e) in
    subst (λ x. BeginsScalar x × ((x < 128) ↔ (n ≡ 1))) same (head_begins z.head n z.heads, (head_one z.head n z.heads, one_head z.head n z.heads))

pub symbol_law : SymbolLaw
symbol_law = record {
  apart = apart;
  first = head_of;
  other = λ t i j c n b a low e.
      let z = next_at t j c n a.is i low a.ends in
      let same : z.0 ≡ b = same_Some z.0 b (sym z.1 ∙ e) in
      and_from _ _ (le-leb 128 b (omega (arith, same, z.2))) (lt-ltb b 192 (omega (arith, same, z.3)));
  opens = λ t i j c n y a s. opened t i y s j c n a;
  shuts = λ t i j c n y a s. shut t i y s j c n a;
  strays = λ t i y h s. stray t i y s h;
  ends = λ t i c inside bounded. (
    (λ e. found_back t i c inside (omega (arith, inside, bounded)) e),
    (λ r. ap (λ k. scalar_before (behind t k)) (sym r.3) ∙ read_back t r.0 c r.1 r.2),
  );
}
