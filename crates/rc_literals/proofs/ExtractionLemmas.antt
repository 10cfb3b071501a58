-- The prefixes of patterns: the loops that gather them, and what they are good for.
use Rattle.std.proofs.Common.{◌≡◌, ℕ, zero, suc, ◌+◌, ◌-◌, ◌<◌, ◌≤◌, List, [], ◌∷◌, ◌++◌, length, map, min, take, drop, Bool, true, false, get_or, Vec, Global, option_map, take-append-drop, ◌&&◌, ◌||◌, nat_le, nat_lt, IsTrue, Option, Some, None, All, sym, ap, subst, ◌∙◌, refl, arith, inl, inr, ⊎_elim, slice_get}
use Rattle.std.specs.Prelude.{encode_utf8, if◌then◌else◌, unwrap_or, IfSome, IfNone}
use Rattle.std.specs.List.{filter, flat_map, range_with_len}
use Rattle.std.specs.Char.{IsScalar}
use lib.Utf8.{scalar}
use Rattle.std.proofs.lemmas.Bool.{cases_Bool, cases_lt, and_parts, false≢true}
use Rattle.std.proofs.lemmas.Bool.Decides.{nat_tests}
use Rattle.std.proofs.lemmas.Option.{none-some, same_Some, slice_get-map, slice_get-get_or}
use Rattle.std.proofs.lemmas.List.{map-id, length-append, length-drop, take_all, take_min, drop_all, at_drop_more}
use Rattle.std.proofs.Math.Nat.{min_comm, min-le_left}
use Rattle.std.proofs.lemmas.List.Elements.{All-more, All-weaker}
use Rattle.rc_pattern.specs.Re.{Re, Range, empty, literal, byte_in, char_in, look, repeat, capture, cat, alt, none}
use Rattle.rc_pattern.specs.Meaning.{class_meaning, meaning, kind_meaning, alt_all, cat_all}
use Rattle.rc_pattern.specs.declared.hir.Class.{Class}
use Rattle.rc_pattern.specs.declared.hir.Class.TheVariants.{Unicode, Bytes}
use Rattle.rc_pattern.specs.declared.hir.Hir.{Hir}
use Rattle.rc_pattern.specs.declared.hir.HirKind.{HirKind}
use Rattle.rc_pattern.specs.declared.hir.HirKind.TheVariants as HirKind
use Rattle.rc_pattern.proofs.FoldLemmas.{kind_Concat}
use Rattle.rc_program.specs.Text.{Text}
use Rattle.rc_program.specs.Program.{in_ranges}
use Rattle.rc_program.specs.Spells.{Stands, Turns, Spells, SpelledBy}
use Rattle.rc_literals.specs.Literals.{Covers}
use Rattle.rc_needles.specs.Needles.{StandsAt}
use Rattle.rc_literals.specs.Extraction.{are_too_many, greatest_count, greatest_length, greatest_whole, range_bytes, range_chars, is_still, both, spelled_bytes, whole_bytes, crossed, may_cross, lengthened, begun_by, may_copy, copied, begun_again, greatest_copies, first_bytes, filled, grown, Extends}
use Rattle.rc_literals.specs.Prefixes.{ArePrefixes}
use Rattle.rc_needles.specs.Tables.{IsUsable, needles_in}
use Rattle.rc_needles.proofs.RelationLemmas.{range_of}
use Rattle.rc_literals.proofs.CoverLemmas.{stands_first}

-- the needle is one of the list
abbrev pub IsAmong : List (List ℕ) → List ℕ → Type 0
IsAmong needles needle = (k : ℕ) × (slice_get needles k ≡ Some needle)

-- the content from i to j begins with a needle
abbrev pub IsBegun : List (List ℕ) → List ℕ → ℕ → ℕ → Type 0
IsBegun needles content i j =
    (k : ℕ) × (needle : List ℕ) × (slice_get needles k ≡ Some needle) × StandsAt content needle i × (i + length needle ≤ j)

-- each text that the pattern spells begins with a needle
abbrev pub Holds : List (List ℕ) → Re → Type 0
Holds needles h = (t : Text) (i j : ℕ) → Spells t h i j → IsBegun needles t.content i j

-- Two lists of needles.

among_left : (ws vs : List (List ℕ)) (w : List ℕ) → IsAmong ws w → IsAmong (ws ++ vs) w
among_left ws vs w a = (a.0, get_more ws a.0 a.1)
  where
    get_more : (xs : List (List ℕ)) (k : ℕ) → slice_get xs k ≡ Some w → slice_get (xs ++ vs) k ≡ Some w
    get_more [] k e = absurd (none-some w e)
    get_more (x ∷ xs) zero e = e
    get_more (x ∷ xs) (suc k) e = get_more xs k e

among_right : (ws vs : List (List ℕ)) (w : List ℕ) → IsAmong vs w → IsAmong (ws ++ vs) w
among_right [] vs w a = a
among_right (x ∷ ws) vs w a = let b = among_right ws vs w a in (suc b.0, b.1)

holds_among : (ws vs : List (List ℕ)) (h : Re) → ((w : List ℕ) → IsAmong ws w → IsAmong vs w) → Holds ws h → Holds vs h
holds_among ws vs h keeps holds t i j s = let b = holds t i j s in let a = keeps b.1 (b.0, b.2) in (a.0, b.1, a.1, b.3, b.4)

-- What is spelled goes forward.

pub turns_on : (R : ℕ → ℕ → Type 0) → ((i j : ℕ) → R i j → i ≤ j) → (n i j : ℕ) → Turns R n i j → i ≤ j
turns_on R on zero i j h = omega (arith, h)
turns_on R on (suc n) i j h = let a = on i h.0 h.1 in let b = turns_on R on n h.0 j h.2 in omega (arith, a, b)

pub spells_on : (t : Text) (h : Re) (i j : ℕ) → Spells t h i j → i ≤ j
spells_on t empty i j s = omega (arith, s)
spells_on t (literal bs) i j s = let r = (range_of t.content bs i j s).0 in omega (arith, r)
spells_on t (byte_in rs) i j s = let r = s.3 in omega (arith, r)
spells_on t (char_in rs) i j s = let r = (range_of t.content (encode_utf8 s.0) i j s.3).0 in omega (arith, r)
spells_on t (look l) i j s = let r = s.1 in omega (arith, r)
spells_on t (repeat min max greedy a) i j s = turns_on (Spells t a) (λ k l r. spells_on t a k l r) s.0 i j s.3
spells_on t (capture n name a) i j s = spells_on t a i j s
spells_on t (cat a rest) i j s = let x = spells_on t a i s.0 s.1 in let y = spells_on t rest s.0 j s.2 in omega (arith, x, y)
spells_on t (alt a rest) i j (inl s) = spells_on t a i j s
spells_on t (alt a rest) i j (inr s) = spells_on t rest i j s
spells_on t none i j never = absurd never

begun_later : (ws : List (List ℕ)) (content : List ℕ) (i j k : ℕ) → j ≤ k → IsBegun ws content i j → IsBegun ws content i k
begun_later ws content i j k le b = (b.0, b.1, b.2, b.3, omega (arith, le, b.4))

-- Which patterns begin with needles.

pub holds_literal : (ws : List (List ℕ)) (bs w rest : List ℕ) → bs ≡ w ++ rest → IsAmong ws w → Holds ws (literal bs)
holds_literal ws bs w rest is among t i j s =
    let r = (range_of t.content bs i j s).0 in
    let long : length bs ≡ length w + length rest = ap length is ∙ length-append w rest in
    (among.0, w, among.1, stands_first t.content w rest i j (subst (λ z. Stands t.content z i j) is s), omega (arith, r, long))

among_numbers : (f : ℕ → List ℕ) (a n b : ℕ) → a ≤ b → b < a + n → IsAmong (map f (range_with_len a n)) (f b)
among_numbers f a zero b low high = absurd (omega (arith, low, high))
among_numbers f a (suc n) b low high =
    elim (cases_lt a b) [
      | inl l ↦ let r = among_numbers f (a + 1) n b (omega (arith, l)) (omega (arith, high)) in (suc r.0, r.1)
      | inr l ↦ let e : a ≡ b = omega (arith, l, low) in (0, ap (λ z. Some (f z)) e)
    ]

among_scalars : (a n c : ℕ) → IsScalar c → a ≤ c → c < a + n → IsAmong (map encode_utf8 (filter scalar (range_with_len a n))) (encode_utf8 c)
among_scalars a zero c is low high = absurd (omega (arith, low, high))
among_scalars a (suc n) c is low high =
    elim (cases_lt a c) [
      | inl l ↦
          let r = among_scalars (a + 1) n c is (omega (arith, l)) (omega (arith, high)) in
          elim (cases_Bool (scalar a)) [
            | inl t ↦ rw t (suc r.0, r.1)
            | inr f ↦ rw f r
          ]
      | inr l ↦
          let e : c ≡ a = omega (arith, l, low) in
          let t : scalar a ≡ true = subst IsScalar e is in
          rw t (0, ap (λ z. Some (encode_utf8 z)) (sym e))
    ]

byte_among : (rs : List Range) (b : ℕ) → IsTrue (in_ranges rs b) → IsAmong (flat_map range_bytes rs) (b ∷ [])
byte_among [] b is = absurd (false≢true is)
byte_among (r ∷ rs) b is =
    elim (cases_Bool (nat_le r.0 b && nat_le b r.1)) [
      | inl y ↦
          let p = and_parts (nat_le r.0 b) (nat_le b r.1) y in
          let low : r.0 ≤ b = let e = p.0 in grind (arith, nat_tests) in
          let high : b ≤ r.1 = let e = p.1 in grind (arith, nat_tests) in
          among_left (range_bytes r) (flat_map range_bytes rs) (b ∷ [])
          (among_numbers (λ x. x ∷ []) r.0 (r.1 + 1 - r.0) b low (omega (arith, low, high)))
      | inr f ↦
          among_right (range_bytes r) (flat_map range_bytes rs) (b ∷ []) (byte_among rs b (subst (λ z. IsTrue (z || in_ranges rs b)) f is))
    ]

char_among : (rs : List Range) (c : ℕ) → IsScalar c → IsTrue (in_ranges rs c) → IsAmong (flat_map range_chars rs) (encode_utf8 c)
char_among [] c scalar is = absurd (false≢true is)
char_among (r ∷ rs) c scalar is =
    elim (cases_Bool (nat_le r.0 c && nat_le c r.1)) [
      | inl y ↦
          let p = and_parts (nat_le r.0 c) (nat_le c r.1) y in
          let low : r.0 ≤ c = let e = p.0 in grind (arith, nat_tests) in
          let high : c ≤ r.1 = let e = p.1 in grind (arith, nat_tests) in
          among_left (range_chars r) (flat_map range_chars rs) (encode_utf8 c)
          (among_scalars r.0 (r.1 + 1 - r.0) c scalar low (omega (arith, low, high)))
      | inr f ↦
          among_right (range_chars r) (flat_map range_chars rs) (encode_utf8 c)
          (char_among rs c scalar (subst (λ z. IsTrue (z || in_ranges rs c)) f is))
    ]

holds_bytes : (rs : List Range) → Holds (flat_map range_bytes rs) (byte_in rs)
holds_bytes rs t i j s =
    let a = byte_among rs s.0 s.2 in let e = s.3 in (a.0, s.0 ∷ [], a.1, (s.1, omega arith), omega (arith, e))

holds_chars : (rs : List Range) → Holds (flat_map range_chars rs) (char_in rs)
holds_chars rs t i j s =
    let a = char_among rs s.0 s.1 s.2 in
    let r = (range_of t.content (encode_utf8 s.0) i j s.3).0 in
    (a.0, encode_utf8 s.0, a.1, subst (Stands t.content (encode_utf8 s.0) i) r s.3, omega (arith, r))

pub holds_repeat : (ws : List (List ℕ)) (min : ℕ) (max : Option ℕ) (greedy : Bool) (a : Re) → 0 < min → Holds ws a → Holds ws (repeat min max greedy a)
holds_repeat ws min max greedy a some holds t i j s = by_turns s.0 s.1 s.3
  where
    by_turns : (n : ℕ) → min ≤ n → Turns (Spells t a) n i j → IsBegun ws t.content i j
    by_turns zero le turns = absurd (omega (arith, some, le))
    by_turns (suc n) le turns =
        begun_later ws t.content i turns.0 j (turns_on (Spells t a) (λ x y r. spells_on t a x y r) n turns.0 j turns.2) (holds t i turns.0 turns.1)

still_spells : (a : Re) → is_still a ≡ true → (t : Text) (i j : ℕ) → Spells t a i j → i ≡ j
still_spells empty is t i j s = s
still_spells (look l) is t i j s = s.1
still_spells (literal bs) is t i j s = absurd (false≢true is)
still_spells (byte_in rs) is t i j s = absurd (false≢true is)
still_spells (char_in rs) is t i j s = absurd (false≢true is)
still_spells (repeat min max greedy a) is t i j s = absurd (false≢true is)
still_spells (capture n name a) is t i j s = absurd (false≢true is)
still_spells (cat a rest) is t i j s = absurd (false≢true is)
still_spells (alt a rest) is t i j s = absurd (false≢true is)
still_spells none is t i j s = absurd (false≢true is)

-- A list that is filled.

append-nil-more : (xs : List (List ℕ)) (w : List ℕ) (ws : List (List ℕ)) → (xs ++ w ∷ []) ++ ws ≡ xs ++ w ∷ ws
append-nil-more [] w ws = refl
append-nil-more (x ∷ xs) w ws = ap (λ zs. x ∷ zs) (append-nil-more xs w ws)

no_more : (xs : List (List ℕ)) → xs ≡ xs ++ []
no_more [] = refl
no_more (x ∷ xs) = ap (λ zs. x ∷ zs) (no_more xs)

-- where there was room, they were added, and there are no more than are kept
pub filled_some : (most : ℕ) (list ws new : List (List ℕ)) → length list ≤ most → filled most list ws ≡ Some new →
    (new ≡ list ++ ws) × (length new ≤ most)
filled_some most list [] new le e =
    let same : list ≡ new = same_Some list new e in (sym same ∙ no_more list, subst (λ z. length z ≤ most) same le)
filled_some most list (w ∷ ws) new le e =
    ⊎_elim
    (λ t.
    let room : length list < most = let r = t in grind (arith, nat_tests) in
    let long = length-append list (w ∷ []) in
    let h = filled_some most (list ++ w ∷ []) ws new (omega (arith, room, long)) (rw t at e) in
    (h.0 ∙ append-nil-more list w ws, h.1))
    (λ f. absurd (none-some new (rw f at e)))
    (cases_Bool (nat_lt (length list) most))

-- What is spelled whole, and what lengthens it.

-- the content from i to j is a needle
abbrev pub IsWhole : List (List ℕ) → List ℕ → ℕ → ℕ → Type 0
IsWhole needles content i j =
    (k : ℕ) × (needle : List ℕ) × (slice_get needles k ≡ Some needle) × StandsAt content needle i × (i + length needle ≡ j)

-- each text that the pattern spells is a needle
abbrev pub AreWhole : List (List ℕ) → Re → Type 0
AreWhole needles h = (t : Text) (i j : ℕ) → Spells t h i j → IsWhole needles t.content i j

whole_bytes_in : (rs : List Range) → AreWhole (flat_map range_bytes rs) (byte_in rs)
whole_bytes_in rs t i j s = let a = byte_among rs s.0 s.2 in let e = s.3 in (a.0, s.0 ∷ [], a.1, (s.1, omega arith), omega (arith, e))

whole_chars_in : (rs : List Range) → AreWhole (flat_map range_chars rs) (char_in rs)
whole_chars_in rs t i j s =
    let a = char_among rs s.0 s.1 s.2 in
    let r = (range_of t.content (encode_utf8 s.0) i j s.3).0 in
    (a.0, encode_utf8 s.0, a.1, subst (Stands t.content (encode_utf8 s.0) i) r s.3, omega (arith, r))

whole_literal : (bs : List ℕ) → AreWhole (bs ∷ []) (literal bs)
whole_literal bs t i j s =
    let r = (range_of t.content bs i j s).0 in
    (0, bs, refl, subst (Stands t.content bs i) r s, omega (arith, r))

kept_whole : (xs vs : List (List ℕ)) (h : Re) → filled greatest_whole [] xs ≡ Some vs → AreWhole xs h → AreWhole vs h
kept_whole xs vs h e whole = subst (λ z. AreWhole z h) (sym (filled_some greatest_whole [] xs vs (omega arith) e).0) whole

whole_among : (ws vs : List (List ℕ)) (h : Re) → ((w : List ℕ) → IsAmong ws w → IsAmong vs w) → AreWhole ws h → AreWhole vs h
whole_among ws vs h keeps whole t i j s = let b = whole t i j s in let a = keeps b.1 (b.0, b.2) in (a.0, b.1, a.1, b.3, b.4)

whole_either : (us vs : List (List ℕ)) (a rest : Re) → AreWhole us a → AreWhole vs rest → AreWhole (us ++ vs) (alt a rest)
whole_either us vs a rest one other t i j (inl s) = whole_among us (us ++ vs) a (λ w. among_left us vs w) one t i j s
whole_either us vs a rest one other t i j (inr s) = whole_among vs (us ++ vs) rest (λ w. among_right us vs w) other t i j s

spelled_whole : (a : Re) (vs : List (List ℕ)) → spelled_bytes a ≡ Some vs → AreWhole vs a
spelled_whole empty vs e = absurd (none-some vs e)
spelled_whole (literal bs) vs e =
    ⊎_elim (λ y. subst (λ z. AreWhole z (literal bs)) (same_Some (bs ∷ []) vs (rw y at e)) (whole_literal bs))
    (λ f. absurd (none-some vs (rw f at e))) (cases_Bool (nat_le (length bs) greatest_length))
spelled_whole (byte_in rs) vs e = subst (λ z. AreWhole z (byte_in rs)) (same_Some (flat_map range_bytes rs) vs e) (whole_bytes_in rs)
spelled_whole (char_in rs) vs e = subst (λ z. AreWhole z (char_in rs)) (same_Some (flat_map range_chars rs) vs e) (whole_chars_in rs)
spelled_whole (look l) vs e = absurd (none-some vs e)
spelled_whole (repeat min max greedy a) vs e = absurd (none-some vs e)
spelled_whole (capture n name a) vs e = spelled_whole a vs e
spelled_whole (cat a rest) vs e = absurd (none-some vs e)
spelled_whole (alt a rest) vs e =
    by_both (spelled_bytes a) (spelled_bytes rest) (λ us. spelled_whole a us) (λ us. spelled_whole rest us) e
  where
    by_both : (o p : Option (List (List ℕ))) → ((us : List (List ℕ)) → o ≡ Some us → AreWhole us a) →
        ((us : List (List ℕ)) → p ≡ Some us → AreWhole us rest) → both o p ≡ Some vs → AreWhole vs (alt a rest)
    by_both None p one other is = absurd (none-some vs is)
    by_both (Some us) None one other is = absurd (none-some vs is)
    by_both (Some us) (Some ws) one other is =
        subst (λ z. AreWhole z (alt a rest)) (same_Some (us ++ ws) vs is) (whole_either us ws a rest (one us refl) (other ws refl))
spelled_whole none vs e = λ t i j never. absurd never

are_whole : (a : Re) (vs : List (List ℕ)) → whole_bytes a ≡ Some vs → AreWhole vs a
are_whole a vs e = by_spelled (spelled_bytes a) (λ ws. spelled_whole a ws) e
  where
    by_spelled : (o : Option (List (List ℕ))) → ((ws : List (List ℕ)) → o ≡ Some ws → AreWhole ws a) → grown greatest_whole [] o ≡ Some vs → AreWhole vs a
    by_spelled None whole is = absurd (none-some vs is)
    by_spelled (Some ws) whole is = kept_whole ws vs a is (whole ws refl)

among_map : (f : List ℕ → List ℕ) (vs : List (List ℕ)) (v : List ℕ) → IsAmong vs v → IsAmong (map f vs) (f v)
among_map f vs v a = (a.0, slice_get-map f vs a.0 ∙ ap (option_map f) a.1)

among_crossed : (ws vs : List (List ℕ)) (w v : List ℕ) → IsAmong ws w → IsAmong vs v → IsAmong (crossed ws vs) (w ++ v)
among_crossed ws vs w v a b = at_number ws a.0 a.1
  where
    at_number : (xs : List (List ℕ)) (k : ℕ) → slice_get xs k ≡ Some w → IsAmong (crossed xs vs) (w ++ v)
    at_number [] k e = absurd (none-some w e)
    at_number (x ∷ xs) zero e =
        among_left (map (λ u. x ++ u) vs) (crossed xs vs) (w ++ v)
        (subst (λ z. IsAmong (map (λ u. z ++ u) vs) (w ++ v)) (sym (same_Some x w e)) (among_map (λ u. w ++ u) vs v b))
    at_number (x ∷ xs) (suc k) e = among_right (map (λ u. x ++ u) vs) (crossed xs vs) (w ++ v) (at_number xs k e)

pub stands_joined : (content w v : List ℕ) (i m j : ℕ) → Stands content w i m → Stands content v m j → Stands content (w ++ v) i j
stands_joined content [] v i m j a b = subst (λ z. Stands content v z j) (sym a) b
stands_joined content (x ∷ xs) v i m j a b = (a.0, stands_joined content xs v (i + 1) m j a.1 b)

whole_crossed : (ws vs : List (List ℕ)) (content : List ℕ) (i m j : ℕ) → IsWhole ws content i m → IsWhole vs content m j → IsWhole (crossed ws vs) content i j
whole_crossed ws vs content i m j a b =
    let c = among_crossed ws vs a.1 b.1 (a.0, a.2) (b.0, b.2) in
    let long = length-append a.1 b.1 in
    let one = a.4 in
    let two = b.4 in
    let end : m + length b.1 ≡ i + length (a.1 ++ b.1) = omega (arith, long, one) in (
      c.0,
      a.1 ++ b.1,
      c.1,
      subst (Stands content (a.1 ++ b.1) i) end (stands_joined content a.1 b.1 i m (m + length b.1) (subst (Stands content a.1 i) one a.3) b.3),
      omega (arith, long, one, two),
    )

begun_whole : (ws : List (List ℕ)) (content : List ℕ) (i m j : ℕ) → m ≤ j → IsWhole ws content i m → IsBegun ws content i j
begun_whole ws content i m j le a = let e = a.4 in (a.0, a.1, a.2, a.3, omega (arith, le, e))

may_whole : (ws : List (List ℕ)) (a : Re) (o : Option (List (List ℕ))) → whole_bytes a ≡ o → may_cross ws o ≡ true → AreWhole (unwrap_or o []) a
may_whole ws a None is may = absurd (false≢true may)
may_whole ws a (Some vs) is may = are_whole a vs is

-- what is lengthened by what is read behind still begins each text
lengthened_begin : (rest : Re) (ws : List (List ℕ)) (t : Text) (i m j : ℕ) → IsWhole ws t.content i m → Spells t rest m j →
    IsBegun (lengthened ws rest) t.content i j
lengthened_begin empty ws t i m j a s = begun_whole ws t.content i m j (spells_on t empty m j s) a
lengthened_begin (literal bs) ws t i m j a s = begun_whole ws t.content i m j (spells_on t (literal bs) m j s) a
lengthened_begin (byte_in rs) ws t i m j a s = begun_whole ws t.content i m j (spells_on t (byte_in rs) m j s) a
lengthened_begin (char_in rs) ws t i m j a s = begun_whole ws t.content i m j (spells_on t (char_in rs) m j s) a
lengthened_begin (look l) ws t i m j a s = begun_whole ws t.content i m j (spells_on t (look l) m j s) a
lengthened_begin (repeat min max greedy h) ws t i m j a s = begun_whole ws t.content i m j (spells_on t (repeat min max greedy h) m j s) a
lengthened_begin (capture n name h) ws t i m j a s = begun_whole ws t.content i m j (spells_on t (capture n name h) m j s) a
lengthened_begin (cat h rest) ws t i m j a s =
    ⊎_elim
    (λ y.
    rw y (lengthened_begin rest (crossed ws (unwrap_or (whole_bytes h) [])) t i s.0 j
    (whole_crossed ws (unwrap_or (whole_bytes h) []) t.content i m s.0 a (may_whole ws h (whole_bytes h) refl y t m s.0 s.1)) s.2))
    (λ f. rw f (begun_whole ws t.content i m j (spells_on t (cat h rest) m j s) a))
    (cases_Bool (may_cross ws (whole_bytes h)))
lengthened_begin (alt h rest) ws t i m j a s = begun_whole ws t.content i m j (spells_on t (alt h rest) m j s) a
lengthened_begin none ws t i m j a s = absurd s

-- what is lengthened by copies still begins each text
copied_begin : (n : ℕ) (h : Re) (ws vs : List (List ℕ)) → AreWhole vs h → (t : Text) (k i m j : ℕ) → n ≤ k → IsWhole ws t.content i m →
    Turns (Spells t h) k m j → IsBegun (copied ws vs n) t.content i j
copied_begin zero h ws vs whole t k i m j le a turns = begun_whole ws t.content i m j (turns_on (Spells t h) (λ x y r. spells_on t h x y r) k m j turns) a
copied_begin (suc n) h ws vs whole t zero i m j le a turns = absurd (omega (arith, le))
copied_begin (suc n) h ws vs whole t (suc k) i m j le a turns =
    ⊎_elim
    (λ y.
    rw y (copied_begin n h (crossed ws vs) vs whole t k i turns.0 j (omega (arith, le))
    (whole_crossed ws vs t.content i m turns.0 a (whole t m turns.0 turns.1)) turns.2))
    (λ f. rw f (begun_whole ws t.content i m j (turns_on (Spells t h) (λ x y r. spells_on t h x y r) (suc k) m j turns) a))
    (cases_Bool (may_copy ws vs))

holds_copies : (vs : List (List ℕ)) (more : ℕ) (max : Option ℕ) (greedy : Bool) (a : Re) → AreWhole vs a →
    Holds (copied vs vs (min more greatest_copies)) (repeat (suc more) max greedy a)
holds_copies vs more max greedy a whole t i j s = by_turns s.0 s.1 s.3
  where
    by_turns : (n : ℕ) → suc more ≤ n → Turns (Spells t a) n i j → IsBegun (copied vs vs (min more greatest_copies)) t.content i j
    by_turns zero le turns = absurd (omega (arith, le))
    by_turns (suc n) le turns =
        let less = min-le_left more greatest_copies in
        copied_begin (min more greatest_copies) a vs vs whole t n i turns.0 j (omega (arith, less, le)) (whole t i turns.0 turns.1) turns.2

holds_either : (ws : List (List ℕ)) (a rest : Re) → Holds ws a → Holds ws rest → Holds ws (alt a rest)
holds_either ws a rest one other t i j (inl s) = one t i j s
holds_either ws a rest one other t i j (inr s) = other t i j s

-- the prefixes of a pattern are what each text begins with that it spells
pub first_hold : (h : Re) (ws : List (List ℕ)) → first_bytes h ≡ Some ws → Holds ws h
first_hold empty ws e = absurd (none-some ws e)
first_hold (literal bs) ws e =
    subst (λ z. Holds z (literal bs)) (same_Some (take greatest_length bs ∷ []) ws e)
    (holds_literal (take greatest_length bs ∷ []) bs (take greatest_length bs) (drop greatest_length bs) (sym (take-append-drop greatest_length bs)) (0, refl))
first_hold (byte_in rs) ws e =
    subst (λ z. Holds z (byte_in rs)) (sym (filled_some greatest_whole [] (flat_map range_bytes rs) ws (omega arith) e).0) (holds_bytes rs)
first_hold (char_in rs) ws e =
    subst (λ z. Holds z (char_in rs)) (sym (filled_some greatest_whole [] (flat_map range_chars rs) ws (omega arith) e).0) (holds_chars rs)
first_hold (look l) ws e = absurd (none-some ws e)
first_hold (repeat zero max greedy a) ws e = absurd (none-some ws e)
first_hold (repeat (suc more) max greedy a) ws e = by_whole (whole_bytes a) refl (λ first. first_hold a ws first) e
  where
    by_whole : (o : Option (List (List ℕ))) → whole_bytes a ≡ o → (first_bytes a ≡ Some ws → Holds ws a) →
        begun_again o (first_bytes a) more ≡ Some ws → Holds ws (repeat (suc more) max greedy a)
    by_whole None is first begun = holds_repeat ws (suc more) max greedy a (omega arith) (first begun)
    by_whole (Some vs) is first begun =
        subst (λ z. Holds z (repeat (suc more) max greedy a)) (same_Some (copied vs vs (min more greatest_copies)) ws begun)
        (holds_copies vs more max greedy a (are_whole a vs is))
first_hold (capture n name a) ws e = first_hold a ws e
first_hold (cat a rest) ws e =
    ⊎_elim
    (λ y t i j s.
    let same : i ≡ s.0 = still_spells a y t i s.0 s.1 in
    subst (λ z. IsBegun ws t.content z j) (sym same) (first_hold rest ws (rw y at e) t s.0 j s.2))
    (λ f. by_whole (whole_bytes a) refl (λ begun. first_hold a ws begun) (rw f at e))
    (cases_Bool (is_still a))
  where
    by_whole : (o : Option (List (List ℕ))) → whole_bytes a ≡ o → (first_bytes a ≡ Some ws → Holds ws a) →
        begun_by o (first_bytes a) rest ≡ Some ws → Holds ws (cat a rest)
    by_whole None is first begun t i j s = begun_later ws t.content i s.0 j (spells_on t rest s.0 j s.2) (first begun t i s.0 s.1)
    by_whole (Some vs) is first begun t i j s =
        subst (λ z. IsBegun z t.content i j) (same_Some (lengthened vs rest) ws begun)
        (lengthened_begin rest vs t i s.0 j (are_whole a vs is t i s.0 s.1) s.2)
first_hold (alt a rest) ws e =
    by_both (first_bytes a) (first_bytes rest) (λ vs. first_hold a vs) (λ vs. first_hold rest vs) e
  where
    by_both : (o p : Option (List (List ℕ))) → ((vs : List (List ℕ)) → o ≡ Some vs → Holds vs a) →
        ((vs : List (List ℕ)) → p ≡ Some vs → Holds vs rest) → both o p ≡ Some ws → Holds ws (alt a rest)
    by_both None p one other is = absurd (none-some ws is)
    by_both (Some us) None one other is = absurd (none-some ws is)
    by_both (Some us) (Some vs) one other is =
        subst (λ z. Holds z (alt a rest)) (same_Some (us ++ vs) ws is)
        (holds_either (us ++ vs) a rest (holds_among us (us ++ vs) a (λ w. among_left us vs w) (one us refl))
        (holds_among vs (us ++ vs) rest (λ w. among_right us vs w) (other vs refl)))
first_hold none ws e = λ t i j never. absurd never

spelled_alt : (t : Text) (n : ℕ) (hs : List Re) (p i j : ℕ) → SpelledBy t n hs p i j → Spells t (alt_all hs) i j
spelled_alt t n [] p i j never = absurd never
spelled_alt t n (h ∷ hs) p i j (inl s) = inl s.1
spelled_alt t n (h ∷ hs) p i j (inr s) = inr (spelled_alt t (n + 1) hs p i j s)

-- the alternation of the patterns begins with needles, so these cover them
pub covers_alt : (ws : List (List ℕ)) (hs : List Re) → Holds ws (alt_all hs) → (t : Text) → Covers t hs ws
covers_alt ws hs holds t p i j s = holds t i j (spelled_alt t 0 hs p i j s)

pub one_more_held : {X : Type 0} (P Q : X → Type 0) (xs : List X) (i : ℕ) (d : X) → i < length xs → ((y : X) → P y → Q y) →
    All P (take i xs) → Q (get_or xs i d) → All Q (take (i + 1) xs)
one_more_held P Q xs i d inside weaker before here = All-more Q xs i d inside (All-weaker P Q weaker (take i xs) before) here

pub all_held : {X : Type 0} (P : X → Type 0) (xs : List X) (n : ℕ) → length xs ≤ n → All P (take n xs) → All P xs
all_held P xs n le all = subst (All P) (take_all n xs le) all

-- A list that grows.

abbrev then_grown : ℕ → Option (List (List ℕ)) → Option (List (List ℕ)) → Option (List (List ℕ))
then_grown most None ws = None
then_grown most (Some list) ws = grown most list ws

then_none : (most : ℕ) (o : Option (List (List ℕ))) → None ≡ then_grown most o None
then_none most None = refl
then_none most (Some list) = refl

filled_append : (most : ℕ) (list ws vs : List (List ℕ)) → filled most list (ws ++ vs) ≡ then_grown most (filled most list ws) (Some vs)
filled_append most list [] vs = refl
filled_append most list (w ∷ ws) vs =
    ⊎_elim (λ t. rw t (filled_append most (list ++ w ∷ []) ws vs)) (λ f. rw f refl) (cases_Bool (nat_lt (length list) most))

grown_both : (most : ℕ) (list : List (List ℕ)) (o p : Option (List (List ℕ))) → grown most list (both o p) ≡ then_grown most (grown most list o) p
grown_both most list None p = refl
grown_both most list (Some ws) None = then_none most (filled most list ws)
grown_both most list (Some ws) (Some vs) = filled_append most list ws vs

-- where there was none, they are too many
pub filled_none : (most : ℕ) (list ws : List (List ℕ)) → filled most list ws ≡ None → most < length list + length ws
filled_none most list [] e = absurd (none-some list (sym e))
filled_none most list (w ∷ ws) e =
    ⊎_elim
    (λ t.
    let long = length-append list (w ∷ []) in
    let h = filled_none most (list ++ w ∷ []) ws (rw t at e) in
    omega (arith, h, long))
    (λ f. let full : most ≤ length list = let r = f in grind (arith, nat_tests) in omega (arith, full))
    (cases_Bool (nat_lt (length list) most))

-- The loops.

module _ {X : Type 0} (f : X → Option (List (List ℕ))) where
  -- the prefixes of each
  abbrev pub each : List X → Option (List (List ℕ))
  each [] = Some []
  each (x ∷ xs) = both (f x) (each xs)

module _ (most : ℕ) {X : Type 0} (f : X → Option (List (List ℕ))) where
  -- so many are added, and these are left
  abbrev pub IsLeft : List (List ℕ) → List (List ℕ) → List X → ℕ → Type 0
  IsLeft begun list xs i = grown most begun (each f xs) ≡ grown most list (each f (drop i xs))

  turned : (begun list new : List (List ℕ)) (xs : List X) (i : ℕ) (x d : X) (done : Bool) → i < length xs → x ≡ get_or xs i d →
      IsLeft begun list xs i → Extends most done list new (f x) →
      grown most begun (each f xs) ≡ then_grown most (if done then Some new else None) (each f (drop (i + 1) xs))
  turned begun list new xs i x d done inside is inv adds =
      inv ∙ ap (grown most list) (at_drop_more (each f) xs i d inside ∙ ap (λ y. both (f y) (each f (drop (i + 1) xs))) (sym is))
      ∙ grown_both most list (f x) (each f (drop (i + 1) xs)) ∙ ap (λ o. then_grown most o (each f (drop (i + 1) xs))) adds

  pub turn_taken : (begun list new : List (List ℕ)) (xs : List X) (i : ℕ) (x d : X) (done : Bool) → i < length xs → x ≡ get_or xs i d →
      IsLeft begun list xs i → Extends most done list new (f x) → done ≡ true → IsLeft begun new xs (i + 1)
  turn_taken begun list new xs i x d done inside is inv adds e =
      turned begun list new xs i x d done inside is inv adds
      ∙ ap (λ b. then_grown most (if b then Some new else None) (each f (drop (i + 1) xs))) e

  pub turn_failed : (begun list new : List (List ℕ)) (xs : List X) (i : ℕ) (x d : X) (done : Bool) → i < length xs → x ≡ get_or xs i d →
      IsLeft begun list xs i → Extends most done list new (f x) → done ≡ false → grown most begun (each f xs) ≡ None
  turn_failed begun list new xs i x d done inside is inv adds e =
      turned begun list new xs i x d done inside is inv adds
      ∙ ap (λ b. then_grown most (if b then Some new else None) (each f (drop (i + 1) xs))) e

  pub turns_done : (begun list : List (List ℕ)) (xs : List X) (i : ℕ) → length xs ≤ i → IsLeft begun list xs i → grown most begun (each f xs) ≡ Some list
  turns_done begun list xs i le inv = inv ∙ ap (λ ys. grown most list (each f ys)) (drop_all i xs le)

pub each_alt : (hs : List Hir) → each (λ h. first_bytes (meaning h)) hs ≡ first_bytes (alt_all (map meaning hs))
each_alt [] = refl
each_alt (h ∷ hs) = ap (both (first_bytes (meaning h))) (each_alt hs)

pub each_spelled : (hs : List Hir) → each (λ h. spelled_bytes (meaning h)) hs ≡ spelled_bytes (alt_all (map meaning hs))
each_spelled [] = refl
each_spelled (h ∷ hs) = ap (both (spelled_bytes (meaning h))) (each_spelled hs)

pub each_needle : (vs : List (Vec ℕ Global)) → each (λ v. Some (v.items ∷ [])) vs ≡ Some (needles_in vs)
each_needle [] = refl
each_needle (v ∷ vs) = ap (both (Some (v.items ∷ []))) (each_needle vs)

pub each_some : {X : Type 0} (r : X → Range) (g : Range → List (List ℕ)) (xs : List X) →
    each (λ x. Some (g (r x))) xs ≡ Some (flat_map g (map r xs))
each_some r g [] = refl
each_some r g (x ∷ xs) = ap (both (Some (g (r x)))) (each_some r g xs)

-- one number more of a range
pub number_taken : (most : ℕ) (begun list new : List (List ℕ)) (whole : Option (List (List ℕ))) (f : ℕ → List ℕ) (number end : ℕ) → number < end →
    grown most begun whole ≡ filled most list (map f (range_with_len number (end - number))) → Extends most true list new (Some (f number ∷ [])) →
    grown most begun whole ≡ filled most new (map f (range_with_len (number + 1) (end - (number + 1))))
number_taken most begun list new whole f number end inside inv e =
    let n : end - number ≡ suc (end - (number + 1)) = omega (arith, inside) in
    let rest = map f (range_with_len (number + 1) (end - (number + 1))) in
    inv ∙ ap (λ m. filled most list (map f (range_with_len number m))) n ∙ filled_append most list (f number ∷ []) rest
    ∙ ap (λ o. then_grown most o (Some rest)) e

pub number_failed : (most : ℕ) (begun list new : List (List ℕ)) (whole : Option (List (List ℕ))) (f : ℕ → List ℕ) (number end : ℕ) → number < end →
    grown most begun whole ≡ filled most list (map f (range_with_len number (end - number))) → Extends most false list new (Some (f number ∷ [])) →
    grown most begun whole ≡ None
number_failed most begun list new whole f number end inside inv e =
    let n : end - number ≡ suc (end - (number + 1)) = omega (arith, inside) in
    let rest = map f (range_with_len (number + 1) (end - (number + 1))) in
    inv ∙ ap (λ m. filled most list (map f (range_with_len number m))) n ∙ filled_append most list (f number ∷ []) rest
    ∙ ap (λ o. then_grown most o (Some rest)) e

-- the scalars from a number up to an end, as UTF-8
abbrev pub scalars_left : ℕ → ℕ → List (List ℕ)
scalars_left number end = map encode_utf8 (filter scalar (range_with_len number (end - number)))

scalars_one : (number end : ℕ) → number < end → scalar number ≡ true → scalars_left number end ≡ encode_utf8 number ∷ scalars_left (number + 1) end
scalars_one number end inside is =
    let n : end - number ≡ suc (end - (number + 1)) = omega (arith, inside) in
    ap (λ m. map encode_utf8 (filter scalar (range_with_len number m))) n ∙ rw is refl

scalar_turned : (most : ℕ) (begun list new : List (List ℕ)) (whole : Option (List (List ℕ))) (w : List ℕ) (number end : ℕ) (done : Bool) → number < end →
    IsScalar number → w ≡ encode_utf8 number → grown most begun whole ≡ filled most list (scalars_left number end) → Extends most done list new (Some (w ∷ [])) →
    grown most begun whole ≡ then_grown most (if done then Some new else None) (Some (scalars_left (number + 1) end))
scalar_turned most begun list new whole w number end done inside is same inv adds =
    let rest = scalars_left (number + 1) end in
    inv ∙ ap (filled most list) (scalars_one number end inside is ∙ ap (λ z. z ∷ rest) (sym same)) ∙ filled_append most list (w ∷ []) rest
    ∙ ap (λ o. then_grown most o (Some rest)) adds

pub scalar_taken : (most : ℕ) (begun list new : List (List ℕ)) (whole : Option (List (List ℕ))) (w : List ℕ) (number end : ℕ) (done : Bool) → number < end →
    IsScalar number → w ≡ encode_utf8 number → grown most begun whole ≡ filled most list (scalars_left number end) → Extends most done list new (Some (w ∷ [])) →
    done ≡ true → grown most begun whole ≡ filled most new (scalars_left (number + 1) end)
scalar_taken most begun list new whole w number end done inside is same inv adds e =
    scalar_turned most begun list new whole w number end done inside is same inv adds
    ∙ ap (λ b. then_grown most (if b then Some new else None) (Some (scalars_left (number + 1) end))) e

pub scalar_failed : (most : ℕ) (begun list new : List (List ℕ)) (whole : Option (List (List ℕ))) (w : List ℕ) (number end : ℕ) (done : Bool) → number < end →
    IsScalar number → w ≡ encode_utf8 number → grown most begun whole ≡ filled most list (scalars_left number end) → Extends most done list new (Some (w ∷ [])) →
    done ≡ false → grown most begun whole ≡ None
scalar_failed most begun list new whole w number end done inside is same inv adds e =
    scalar_turned most begun list new whole w number end done inside is same inv adds
    ∙ ap (λ b. then_grown most (if b then Some new else None) (Some (scalars_left (number + 1) end))) e

pub scalar_passed : (number end : ℕ) → number < end → ¬ IsScalar number → scalars_left number end ≡ scalars_left (number + 1) end
scalar_passed number end inside never =
    let n : end - number ≡ suc (end - (number + 1)) = omega (arith, inside) in
    ⊎_elim (λ t. absurd (never t))
    (λ f. ap (λ m. map encode_utf8 (filter scalar (range_with_len number m))) n ∙ rw f refl)
    (cases_Bool (scalar number))

-- The first member of a concatenation that may read.

module _ (f : Hir → Re) where
  -- the prefixes of a concatenation
  abbrev pub of_members : List Hir → Option (List (List ℕ))
  of_members xs = first_bytes (cat_all (map f xs))

  one_on : (xs : List Hir) (i : ℕ) (x d : Hir) → i < length xs → x ≡ get_or xs i d →
      of_members (drop i xs) ≡ first_bytes (cat (f x) (cat_all (map f (drop (i + 1) xs))))
  one_on xs i x d inside is =
      at_drop_more of_members xs i d inside ∙ ap (λ y. first_bytes (cat (f y) (cat_all (map f (drop (i + 1) xs))))) (sym is)

  pub still_passed : (xs : List Hir) (i : ℕ) (x d : Hir) → i < length xs → x ≡ get_or xs i d → of_members xs ≡ of_members (drop i xs) →
      is_still (f x) ≡ true → of_members xs ≡ of_members (drop (i + 1) xs)
  still_passed xs i x d inside is inv here = inv ∙ one_on xs i x d inside is ∙ rw here refl

  pub still_ends : (xs : List Hir) (i : ℕ) (x d : Hir) → i < length xs → x ≡ get_or xs i d → of_members xs ≡ of_members (drop i xs) →
      is_still (f x) ≡ false →
      IfSome (slice_get xs i) (λ y. of_members xs ≡ begun_by (whole_bytes (f y)) (first_bytes (f y)) (cat_all (map f (drop (i + 1) xs))))
  still_ends xs i x d inside is inv here =
      subst (λ o. IfSome o (λ y. of_members xs ≡ begun_by (whole_bytes (f y)) (first_bytes (f y)) (cat_all (map f (drop (i + 1) xs)))))
      (sym (slice_get-get_or xs i d inside ∙ ap Some (sym is))) (inv ∙ one_on xs i x d inside is ∙ rw here refl)

  pub still_all : (xs : List Hir) (i : ℕ) → length xs ≤ i → of_members xs ≡ of_members (drop i xs) → of_members xs ≡ None
  still_all xs i le inv = inv ∙ ap of_members (drop_all i xs le)

-- Copies of what is repeated.

pub copies_begun : (before list vs : List (List ℕ)) (n : ℕ) → before ≡ [] → list ≡ before ++ map (λ v. [] ++ v) vs → copied vs vs n ≡ copied list vs (n - 0)
copies_begun before list vs n nil e =
    ap (λ ws. copied ws vs n) (sym (e ∙ ap (λ ws. ws ++ map (λ v. [] ++ v) vs) nil ∙ map-id vs))
    ∙ ap (copied list vs) (let all : n ≡ n - 0 = omega arith in all)

pub copies_stopped : (ws vs : List (List ℕ)) (n : ℕ) → may_copy ws vs ≡ false → copied ws vs n ≡ ws
copies_stopped ws vs zero e = refl
copies_stopped ws vs (suc n) e = rw e refl

pub one_copied : (ws vs : List (List ℕ)) (n k : ℕ) → k < n → may_copy ws vs ≡ true → copied ws vs (n - k) ≡ copied (crossed ws vs) vs (n - (k + 1))
one_copied ws vs n k inside e =
    let left : n - k ≡ suc (n - (k + 1)) = omega (arith, inside) in
    ap (copied ws vs) left ∙ rw e refl

-- what stands from a place on
pub rest_taken : (xs : List Hir) (n : ℕ) → take (length xs - n) (drop n xs) ≡ drop n xs
rest_taken xs n = take_all (length xs - n) (drop n xs) (omega (arith, length-drop n xs))

-- The prefixes of a concatenation are those of the member at its place, and what is behind it.

module _ (h : Hir) (k : HirKind) (subs : Vec Hir Global) (value : kind_meaning k ≡ meaning h) (is : k ≡ HirKind.Concat subs) where
  whole : (xs : List Hir) → xs ≡ subs.items → first_bytes (meaning h) ≡ of_members meaning xs
  whole xs same =
      ap first_bytes (sym value ∙ ap kind_meaning is ∙ kind_Concat subs) ∙ ap (of_members meaning) (sym same)

  pub concat_first : (xs ys zs : List Hir) (n : ℕ) (sub d : Hir) → xs ≡ subs.items → ys ≡ subs.items → zs ≡ drop (n + 1) xs →
      IfSome (slice_get xs n) (λ y. of_members meaning xs
      ≡ begun_by (whole_bytes (meaning y)) (first_bytes (meaning y)) (cat_all (map meaning (drop (n + 1) xs)))) →
      n < length ys → sub ≡ get_or ys n d →
      begun_by (whole_bytes (meaning sub)) (first_bytes (meaning sub)) (cat_all (map meaning zs)) ≡ first_bytes (meaning h)
  concat_first xs ys zs n sub d first second rest still inside at =
      let got : slice_get xs n ≡ Some sub = ap (λ us. slice_get us n) (first ∙ sym second) ∙ slice_get-get_or ys n d inside ∙ ap Some (sym at) in
      let here = subst (λ o. IfSome o (λ y. of_members meaning xs
      ≡ begun_by (whole_bytes (meaning y)) (first_bytes (meaning y)) (cat_all (map meaning (drop (n + 1) xs))))) got still in
      ap (λ us. begun_by (whole_bytes (meaning sub)) (first_bytes (meaning sub)) (cat_all (map meaning us))) rest ∙ sym (whole xs first ∙ here)

  pub concat_none : (xs ys : List Hir) (n : ℕ) → xs ≡ subs.items → ys ≡ subs.items → IfNone (slice_get xs n) (of_members meaning xs ≡ None) →
      length ys ≤ n → first_bytes (meaning h) ≡ None
  concat_none xs ys n first second still past =
      let long : length xs ≤ n = omega (arith, past, ap length first, ap length second) in
      whole xs first ∙ subst (λ o. IfNone o (of_members meaning xs ≡ None)) (nothing_past xs n long) still
    where
      nothing_past : (us : List Hir) (m : ℕ) → length us ≤ m → slice_get us m ≡ None
      nothing_past [] m l = refl
      nothing_past (u ∷ us) zero l = absurd (omega (arith, l))
      nothing_past (u ∷ us) (suc m) l = nothing_past us m (omega (arith, l))

-- The prefixes of patterns.

-- those of a class are its members, if these are kept
class_first : (class : Class) → first_bytes (class_meaning class) ≡ whole_bytes (class_meaning class)
class_first (Unicode rs) = refl
class_first (Bytes rs) = refl

module _ (class : Class) (empty members : List (List ℕ)) (none : empty ≡ []) (done : Bool)
    (adds : Extends greatest_whole done empty members (spelled_bytes (class_meaning class))) where
  members_first : first_bytes (class_meaning class) ≡ (if done then Some members else None)
  members_first = class_first class ∙ ap (λ z. grown greatest_whole z (spelled_bytes (class_meaning class))) (sym none) ∙ adds

  pub members_unknown : (list : List (List ℕ)) → done ≡ false → grown greatest_count list (first_bytes (class_meaning class)) ≡ None
  members_unknown list f = ap (grown greatest_count list) (members_first ∙ ap (λ b. if b then Some members else None) f)

  pub members_known : done ≡ true → Some members ≡ first_bytes (class_meaning class)
  members_known t = sym (members_first ∙ ap (λ b. if b then Some members else None) t)

pub literal_prefix : (bs : List ℕ) (n : ℕ) → n ≡ min (length bs) greatest_length → take n bs ≡ take greatest_length bs
literal_prefix bs n e = ap (λ m. take m bs) (e ∙ min_comm (length bs) greatest_length) ∙ take_min greatest_length bs

module _ (hs : List Re) (begun new : List (List ℕ)) (done : Bool) (empty : begun ≡ []) (adds : Extends greatest_count done begun new (first_bytes (alt_all hs))) where
  whole_list : (found : Option (List (List ℕ))) → grown greatest_count begun found ≡ Some new → found ≡ Some new × (length new ≤ greatest_count)
  whole_list None e = absurd (none-some new e)
  whole_list (Some ws) e =
      let none : length begun ≡ 0 = ap length empty in
      let h = filled_some greatest_count begun ws new (omega (arith, none)) e in
      (ap Some (sym (h.0 ∙ ap (λ z. z ++ ws) empty)), h.1)

  pub are_prefixes : done ≡ true → IsUsable new → are_too_many new ≡ false → ArePrefixes hs new
  are_prefixes t usable kept =
      let h = whole_list (first_bytes (alt_all hs)) (adds ∙ ap (λ b. if b then Some new else None) t) in record {
        are = h.0;
        usable = usable;
        few = h.1;
        kept = kept;
      }

  pub no_room : done ≡ false → (ws : List (List ℕ)) → ¬ ArePrefixes hs ws
  no_room f ws p =
      let e : filled greatest_count begun ws ≡ None = ap (grown greatest_count begun) (sym p.are) ∙ adds ∙ ap (λ b. if b then Some new else None) f in
      let none : length begun ≡ 0 = ap length empty in
      let many = filled_none greatest_count begun ws e in
      let few = p.few in
      absurd (omega (arith, many, few, none))

  pub not_usable : done ≡ true → ¬ IsUsable new → (ws : List (List ℕ)) → ¬ ArePrefixes hs ws
  not_usable t never ws p =
      let h = whole_list (first_bytes (alt_all hs)) (adds ∙ ap (λ b. if b then Some new else None) t) in
      absurd (never (subst IsUsable (same_Some ws new (sym p.are ∙ h.0)) p.usable))

  pub not_kept : done ≡ true → are_too_many new ≡ true → (ws : List (List ℕ)) → ¬ ArePrefixes hs ws
  not_kept t many ws p =
      let h = whole_list (first_bytes (alt_all hs)) (adds ∙ ap (λ b. if b then Some new else None) t) in
      false≢true (sym p.kept ∙ ap are_too_many (same_Some ws new (sym p.are ∙ h.0)) ∙ many)
