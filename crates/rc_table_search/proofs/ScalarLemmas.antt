-- The scalars that a piece has whole decide the symbols of their bytes.
use Rattle.std.proofs.Common.{◌≡◌, ◌≢◌, ℕ, ◌+◌, ◌-◌, ◌<◌, ◌≤◌, ◌==◌, Bool, true, false, true≢false, not, List, ◌++◌, length, take, drop, Some, None, slice_get, slice_range, if◌then◌else◌, ⊎_elim, refl, sym, subst, ap, ap₂, ◌∙◌, arith, length-append, length-drop}
use Rattle.std.specs.Char.{encode_utf8}
use Rattle.std.proofs.lemmas.Bool.{cases_eq, cases_lt, eq-eqb, ne_eqb}
use Rattle.std.proofs.lemmas.List.{append_assoc, drop-drop, drop-take, take_all}
use Rattle.std.proofs.lemmas.Option.{same_Some, slice_get-get_or}
use Rattle.rc_text.specs.Text.{Searched, slice_end}
use Rattle.rc_text.proofs.Ranges.{slice_range-append}
use Rattle.rc_program.specs.Scalars.{scalar_at}
use Rattle.rc_program.specs.Sought.{text_of}
use Rattle.rc_program.specs.Text.{Text, before_at, after_at}
use Rattle.rc_program.proofs.SideLemmas.{scalar_law}
use Rattle.rc_symbols.specs.Symbols as text
use Rattle.rc_symbols.specs.Symbols.{tag_of, IsScalarAt, IsAround, IsSymbolAt}
use Rattle.rc_symbols.proofs.SymbolLemmas.{next_at, symbol_law}
use Rattle.rc_dfa.specs.Symbols.{opens_of, shuts_of, symbol_of}
use Rattle.rc_dfa.specs.declared.symbols.Tagged.TheVariants.{Neither, First, Last}
use Rattle.rc_table_search.specs.declared.scalars.Scalar.{Scalar}
use Rattle.rc_table_search.specs.Decodes.{Has, IsWhole, entry_of, exit_of, near_of, rest_of, tag_in}
use Rattle.rc_table_search.specs.Walks.{byte_at, first_of, left_of, next_of}
use Rattle.rc_table_search.specs.Ways.{IsBeside, IsBounded, IsOn, LiesWithin, offset_of}
use Rattle.rc_table_search.proofs.WayLemmas.{there_of}

-- What begins some bytes begins those that go on with them.
begins_on : (bs more : List ℕ) (c n : ℕ) → scalar_at bs ≡ Some (c, n) → scalar_at (bs ++ more) ≡ Some (c, n)
begins_on bs more c n e =
    let h = (scalar_law.begins bs c n).0 e in
    (scalar_law.begins (bs ++ more) c n).1 (h.0, h.1, (h.2.0 ++ more, ap (λ xs. xs ++ more) h.2.1 ∙ append_assoc (encode_utf8 c) h.2.0 more))

-- A scalar that begins at the place has no more bytes than there are from there on.
pub scalar_inside : (piece : List ℕ) (first c n : ℕ) → scalar_at (take (length piece - first) (drop first piece)) ≡ Some (c, n) → first ≤ length piece →
    first + n ≤ length piece
scalar_inside piece first c n e le =
    let bs = take (length piece - first) (drop first piece) in
    let short = length-drop first piece in
    let same : bs ≡ drop first piece = take_all (length piece - first) (drop first piece) (omega (arith, short)) in
    let h = (scalar_law.begins bs c n).0 e in
    let count = h.1 in
    let all = ap length (sym same ∙ h.2.1) in
    let size = length-append (encode_utf8 c) h.2.0 in
    omega (arith, count, all, size, short, le)

pub later : (xs : List ℕ) (a p k : ℕ) → k ≤ p - a → slice_range xs (a + k) p ≡ drop k (slice_range xs a p)
later xs a p k h =
    let rest : p - (a + k) ≡ p - a - k = omega arith in
    let all : k + (p - a - k) ≡ p - a = omega (arith, h) in
    ap (λ n. take n (drop (a + k) xs)) rest ∙ ap (take (p - a - k)) (sym (drop-drop k a xs)) ∙ sym (drop-take k (p - a - k) (drop a xs))
    ∙ ap (λ n. drop k (take n (drop a xs))) all

-- what a scalar tells of a byte, by whether it is the first, or the last
opens_by : (first last word : Bool) → opens_of (if first then First word else if last then Last word else Neither) ≡ (if first then Some word else None)
opens_by true last word = refl
opens_by false true word = refl
opens_by false false word = refl

shuts_by : (first last word : Bool) → (first ≡ true → last ≡ false) →
    shuts_of (if first then First word else if last then Last word else Neither) ≡ (if last then Some word else None)
shuts_by true true word several = absurd (true≢false (several refl))
shuts_by true false word several = refl
shuts_by false true word several = refl
shuts_by false false word several = refl

same_eq : (a b c d : ℕ) → (a ≡ b → c ≡ d) → (c ≡ d → a ≡ b) → (a == b) ≡ (c == d)
same_eq a b c d to from =
    ⊎_elim (λ e. eq-eqb a b e ∙ sym (eq-eqb c d (to e))) (λ ne. ne_eqb a b ne ∙ sym (ne_eqb c d (λ h. ne (from h)))) (cases_eq a b)

module _ (terminator : ℕ) (seen : Searched) (start : ℕ) (piece : List ℕ) (low : seen.slice.start ≤ start) (high : start + length piece ≤ slice_end seen)
    (is : piece ≡ slice_range seen.content start (start + length piece)) (s : Scalar) (whole : IsWhole piece s) where
  is_scalar : s.first ≤ length piece → IsScalarAt (text_of terminator seen) (start + s.first) whole.code whole.count
  is_scalar le =
      let end = start + length piece in
      let more = slice_range seen.content end (slice_end seen) in
      let here : slice_range seen.content (start + s.first) end ≡ drop s.first piece =
      later seen.content start end s.first (omega (arith, le)) ∙ ap (drop s.first) (sym is) in record {
        inside = omega (arith, low);
        scalar = ap scalar_at (sym (slice_range-append seen.content (start + s.first) end (slice_end seen) (omega (arith, le)) high) ∙ ap (λ xs. xs ++ more) here)
            ∙ begins_on (drop s.first piece) more whole.code whole.count whole.is;
      }

  module _ (k p b : ℕ) (has : Has s k) (short : k < length piece) (past : 128 ≤ b) (at : p ≡ start + k) (there : slice_get seen.content p ≡ Some b) where
    abbrev is_here : IsScalarAt (text_of terminator seen) (start + s.first) whole.code whole.count
    is_here = is_scalar (omega (arith, has.0, short))

    -- it has more bytes than this one
    several : whole.count ≢ 1
    several one =
        let end = whole.end in
        ⊎_elim (λ lt. omega (arith, has.1, end, one, lt))
        (λ ge.
        let e : start + s.first ≡ p = omega (arith, ge, has.0, at) in
        let small = (symbol_law.first (text_of terminator seen) (start + s.first) whole.code whole.count b is_here (ap (slice_get seen.content) e ∙ there)).1.1 one in
        omega (arith, small, past))
        (cases_lt s.first k)

    around : IsAround (text_of terminator seen) p (start + s.first) whole.code whole.count
    around = let end = whole.end in record { is = is_here; begins = omega (arith, has.0, at); ends = omega (arith, has.1, end, at) }

    abbrev symbol : text.Symbol
    symbol = record { byte = b; opens = tag_of (after_at (text_of terminator seen) p); shuts = tag_of (before_at (text_of terminator seen) (p + 1)) }

    inside : (seen.slice.start ≤ p) × (p < slice_end seen)
    inside = (omega (arith, low, at), omega (arith, high, short, at))

    symbol_here : IsSymbolAt (text_of terminator seen) p symbol
    symbol_here = record { inside = inside; byte = there; opens = refl; shuts = refl }

    first_is : (k == s.first) ≡ (p == start + s.first)
    first_is = same_eq k s.first p (start + s.first) (λ e. omega (arith, e, at)) (λ e. omega (arith, e, at))

    last_is : (k + 1 == s.end) ≡ (p + 1 == start + s.first + whole.count)
    last_is =
        let end = whole.end in
        same_eq (k + 1) s.end (p + 1) (start + s.first + whole.count) (λ e. omega (arith, e, at, end)) (λ e. omega (arith, e, at, end))

    not_both : (k == s.first) ≡ true → (k + 1 == s.end) ≡ false
    not_both t =
        let end = whole.end in
        ⊎_elim (λ e. ne_eqb (k + 1) s.end (λ h. several (omega (arith, e, h, end)))) (λ ne. absurd (true≢false (sym t ∙ ne_eqb k s.first ne))) (cases_eq k s.first)

    -- What it tells of the byte.
    pub symbol_in : IsSymbolAt (text_of terminator seen) p (symbol_of (record { byte = b; tagged = tag_in s k }))
    symbol_in = record {
      inside = inside;
      byte = there;
      opens = opens_by (k == s.first) (k + 1 == s.end) s.is_word ∙ ap₂ (λ x w. if x then Some w else None) first_is whole.is_word
          ∙ sym (symbol_law.opens (text_of terminator seen) p (start + s.first) whole.code whole.count symbol around symbol_here);
      shuts = shuts_by (k == s.first) (k + 1 == s.end) s.is_word not_both ∙ ap₂ (λ x w. if x then Some w else None) last_is whole.is_word
          ∙ sym (symbol_law.shuts (text_of terminator seen) p (start + s.first) whole.code whole.count symbol around symbol_here);
    }

-- where a piece is read first
pub first_inside : (backwards : Bool) (len : ℕ) → 0 < len → (first_of backwards len ≤ len) × (0 < left_of backwards len (first_of backwards len))
first_inside false len some = (omega arith, omega (arith, some))
first_inside true len some = (omega arith, omega (arith, some))

-- the offset of the byte that is read next of a piece
pub offset_within : (backwards : Bool) (len place : ℕ) → place ≤ len → 0 < left_of backwards len place → offset_of backwards place < len
offset_within false len place le some = omega (arith, some)
offset_within true len place le some = omega (arith, le, some)

pub offset_next : (backwards : Bool) (len start place : ℕ) → 0 < left_of backwards len place → offset_of backwards (start + place) ≡ start + offset_of backwards place
offset_next false len start place some = omega arith
offset_next true len start place some = omega (arith, some)

pub some_left : (backwards : Bool) (len place : ℕ) → 0 < left_of backwards len place → backwards ≡ true → 1 ≤ place
some_left false len place some never = cc never
some_left true len place some e = omega (arith, some)

pub not_last : (backwards : Bool) (len start place : ℕ) → 0 < left_of backwards len place → backwards ≡ false → start + place < start + len
not_last false len start place some e = omega (arith, some)
not_last true len start place some never = cc never

-- the piece lies in the slice
pub piece_inside : (backwards : Bool) (seen : Searched) (from bound start len : ℕ) → IsBounded backwards seen bound → IsBounded (not backwards) seen from →
    IsOn backwards from (start + first_of backwards len) → LiesWithin backwards start len bound → (seen.slice.start ≤ start) × (start + len ≤ slice_end seen)
piece_inside false seen from bound start len inside began further within = (omega (arith, began, further), omega (arith, inside, within))
piece_inside true seen from bound start len inside began further within = (omega (arith, inside, within), omega (arith, began, further))

-- the symbol of the byte that is read next of a piece
pub symbol_found : (backwards : Bool) (terminator : ℕ) (seen : Searched) (start place here b : ℕ) (piece : List ℕ) (s : Scalar) → seen.slice.start ≤ start →
    start + length piece ≤ slice_end seen → piece ≡ slice_range seen.content start (start + length piece) → place ≤ length piece →
    0 < left_of backwards (length piece) place → here ≡ offset_of backwards place → 128 ≤ b → IsWhole piece s → Has s here →
    IsBeside backwards seen.content (start + place) b →
    IsSymbolAt (text_of terminator seen) (offset_of backwards (start + place)) (symbol_of (record { byte = b; tagged = tag_in s here }))
symbol_found backwards terminator seen start place here b piece s low high is le some same past whole has there =
    let lt = offset_within backwards (length piece) place le some in
    symbol_in terminator seen start piece low high is s whole here (offset_of backwards (start + place)) b has (omega (arith, lt, same)) past
    (offset_next backwards (length piece) start place some ∙ ap (λ k. start + k) (sym same)) (there_of backwards seen.content (start + place) b there)

-- at a place of a scalar of which bytes are left to read
pub rest_some : (backwards : Bool) (s : Scalar) (place len : ℕ) → s.first ≤ place → place ≤ s.end → s.end ≤ len → 0 < rest_of backwards s place →
    (place ≤ len) × (0 < left_of backwards len place) × Has s (offset_of backwards place) × (s.first ≤ next_of backwards place) × (next_of backwards place ≤ s.end)
    × (rest_of backwards s place ≡ rest_of backwards s (next_of backwards place) + 1)
rest_some false s place len low high within some = (
  omega (arith, high, within),
  omega (arith, some, within),
  (low, omega (arith, some)),
  omega (arith, low),
  omega (arith, some),
  omega (arith, some),
)
rest_some true s place len low high within some = (
  omega (arith, high, within),
  omega (arith, some),
  (omega (arith, some), omega (arith, high, some)),
  omega (arith, some),
  omega (arith, high),
  omega (arith, some),
)

-- what it tells of its bytes in turn
pub near_tag : (backwards : Bool) (s : Scalar) (place : ℕ) → s.first + 2 ≤ s.end → place ≡ entry_of backwards s → near_of backwards s ≡ tag_in s (offset_of backwards place)
near_tag false s place two is =
    sym (ap (λ x. if x then First s.is_word else if place + 1 == s.end then Last s.is_word else Neither) (eq-eqb place s.first is))
near_tag true s place two is =
    sym (ap₂ (λ x y. if x then First s.is_word else if y then Last s.is_word else Neither) (ne_eqb (place - 1) s.first (λ e. omega (arith, e, is, two)))
    (eq-eqb (place - 1 + 1) s.end (omega (arith, is, two))))

pub mid_tag : (backwards : Bool) (s : Scalar) (place : ℕ) → s.first < place → place < s.end → 1 < rest_of backwards s place → Neither ≡ tag_in s (offset_of backwards place)
mid_tag false s place low high more =
    sym (ap₂ (λ x y. if x then First s.is_word else if y then Last s.is_word else Neither) (ne_eqb place s.first (λ e. omega (arith, e, low)))
    (ne_eqb (place + 1) s.end (λ e. omega (arith, e, more))))
mid_tag true s place low high more =
    sym (ap₂ (λ x y. if x then First s.is_word else if y then Last s.is_word else Neither) (ne_eqb (place - 1) s.first (λ e. omega (arith, e, more)))
    (ne_eqb (place - 1 + 1) s.end (λ e. omega (arith, e, low, high))))

pub far_tag : (backwards : Bool) (s : Scalar) (place : ℕ) → s.first < place → place < s.end → rest_of backwards s place ≤ 1 →
    near_of (not backwards) s ≡ tag_in s (offset_of backwards place)
far_tag false s place low high last =
    sym (ap₂ (λ x y. if x then First s.is_word else if y then Last s.is_word else Neither) (ne_eqb place s.first (λ e. omega (arith, e, low)))
    (eq-eqb (place + 1) s.end (omega (arith, high, last))))
far_tag true s place low high last =
    sym (ap (λ x. if x then First s.is_word else if place - 1 + 1 == s.end then Last s.is_word else Neither) (eq-eqb (place - 1) s.first (omega (arith, low, last))))

pub entry_at : (backwards : Bool) (s : Scalar) (place : ℕ) → s.first + 2 ≤ s.end → place ≡ entry_of backwards s →
    (s.first ≤ place) × (place ≤ s.end) × (0 < rest_of backwards s place)
entry_at false s place two is = (omega (arith, is), omega (arith, is, two), omega (arith, is, two))
entry_at true s place two is = (omega (arith, is, two), omega (arith, is), omega (arith, is, two))

pub inner_next : (backwards : Bool) (s : Scalar) (place : ℕ) → s.first < place → place < s.end → 1 < rest_of backwards s place →
    (s.first < next_of backwards place) × (next_of backwards place < s.end)
inner_next false s place low high more = (omega (arith, low), omega (arith, more))
inner_next true s place low high more = (omega (arith, more), omega (arith, high))

pub rest_inside : (backwards : Bool) (s : Scalar) (place : ℕ) → s.first < place → place < s.end → 0 < rest_of backwards s place
rest_inside false s place low high = omega (arith, high)
rest_inside true s place low high = omega (arith, low)

-- the places after its byte that is read first, and after its byte that is read last
pub entry_next : (backwards : Bool) (s : Scalar) (place : ℕ) → s.first + 2 ≤ s.end → place ≡ entry_of backwards s →
    (s.first < next_of backwards place) × (next_of backwards place < s.end)
entry_next false s place two is = (omega (arith, is), omega (arith, is, two))
entry_next true s place two is = (omega (arith, is, two), omega (arith, is, two))

pub exit_next : (backwards : Bool) (s : Scalar) (place : ℕ) → s.first < place → place < s.end → rest_of backwards s place ≤ 1 → next_of backwards place ≡ exit_of backwards s
exit_next false s place low high last = omega (arith, high, last)
exit_next true s place low high last = omega (arith, low, last)

-- each of its bytes is past ASCII, if it has more than one
scalar_past : (piece : List ℕ) (s : Scalar) (place b : ℕ) → IsWhole piece s → s.first + 2 ≤ s.end → Has s place → slice_get piece place ≡ Some b → 128 ≤ b
scalar_past piece s place b whole two has there =
    let t : Text = record { content = piece; slice_start = 0; slice_end = length piece; terminator = 0 } in
    let end = whole.end in
    let short = length-drop s.first piece in
    let is : IsScalarAt t s.first whole.code whole.count = record {
      inside = omega arith;
      scalar = ap scalar_at (take_all (length piece - s.first) (drop s.first piece) (omega (arith, short))) ∙ whole.is;
    } in
    ⊎_elim
    (λ same.
    ⊎_elim
    (λ lt.
    let one = (symbol_law.first t s.first whole.code whole.count b is (subst (λ k. slice_get piece k ≡ Some b) same there)).1.0 lt in
    absurd (omega (arith, one, end, two)))
    (λ ge. ge) (cases_lt b 128))
    (λ ne.
    let o = next_at t s.first whole.code whole.count is place (omega (arith, has.0, ne)) (omega (arith, has.1, end)) in
    subst (λ k. 128 ≤ k) (same_Some o.0 b (sym o.1 ∙ there)) o.2)
    (cases_eq place s.first)

-- and so that which is read next
pub past_here : (backwards : Bool) (piece : List ℕ) (s : Scalar) (place b : ℕ) → IsWhole piece s → s.first + 2 ≤ s.end → place ≤ length piece →
    0 < left_of backwards (length piece) place → Has s (offset_of backwards place) → b ≡ byte_at backwards piece place → 128 ≤ b
past_here false piece s place b whole two le some has is =
    scalar_past piece s place b whole two has
    (subst (λ k. slice_get piece place ≡ Some k) (sym is) (slice_get-get_or piece place 0 (omega (arith, some))))
past_here true piece s place b whole two le some has is =
    scalar_past piece s (place - 1) b whole two has
    (subst (λ k. slice_get piece (place - 1) ≡ Some k) (sym is)
    (slice_get-get_or piece (place - 1) 0 (omega (arith, le, some))))
