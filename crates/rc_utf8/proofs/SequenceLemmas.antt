-- What the code adds to a list of sequences.
use Rattle.std.proofs.Common.{◌≡◌, ℕ, suc, ◌+◌, ◌-◌, ◌<◌, ◌≤◌, List, [], ◌∷◌, ◌++◌, length, drop, take, map, sym, ap, ap₂, ◌∙◌, refl, arith, drop-cons, get_or, append_assoc, Bool, true, false, true≢false, ◌&&◌, ◌==◌, nat_le, max, min}
use Rattle.std.specs.Char.{encode_utf8}
use Rattle.std.proofs.lemmas.Bool.{eq-eqb, le-leb}
use Rattle.std.proofs.lemmas.List.{append-nil}
use Rattle.rc_pattern.specs.Re.{Range}
use Rattle.rc_pattern.specs.Meaning.{byte_range, char_range}
use Rattle.rc_pattern.specs.declared.hir.ClassBytesRange.{ClassBytesRange}
use Rattle.rc_pattern.specs.declared.hir.ClassUnicodeRange.{ClassUnicodeRange}
use Rattle.rc_utf8.specs.Bytes.{Sequence, between, pieces, all_pieces, if_some, after, behind, all_are, from_bytes, to_bytes, over_one, over_both, within_bytes, piece_sequences, sequences}

-- the bytes behind the first
abbrev pub left_of : List ℕ → List ℕ
left_of xs = take (length xs - 1) (drop 1 xs)

left_is : (a : ℕ) (xs : List ℕ) → left_of (a ∷ xs) ≡ xs
left_is a xs = let e : suc (length xs) - 1 ≡ length xs = omega arith in ap (λ n. take n xs) e ∙ all xs
  where
    all : (xs : List ℕ) → take (length xs) xs ≡ xs
    all [] = refl
    all (x ∷ xs) = ap (λ ys. x ∷ ys) (all xs)

after_append : (rs : List Range) (xs ys : List Sequence) → after rs (xs ++ ys) ≡ after rs xs ++ after rs ys
after_append rs [] ys = refl
after_append rs (s ∷ xs) ys = ap (λ ss. (rs ++ s.0, s.1) ∷ ss) (after_append rs xs ys)

after_both : (rs us : List Range) (ss : List Sequence) → after (rs ++ us) ss ≡ after rs (after us ss)
after_both rs us [] = refl
after_both rs us (s ∷ ss) = ap₂ (λ (qs : List Range) (xs : List Sequence). (qs, s.1) ∷ xs) (append_assoc rs us s.0) (after_both rs us ss)

pub after_none : (ss : List Sequence) → after [] ss ≡ ss
after_none [] = refl
after_none (s ∷ ss) = ap (λ xs. s ∷ xs) (after_none ss)

-- behind the ranges and one more byte
pub after_longer : (rs : List Range) (us vs : List ClassBytesRange) (b : ℕ) (ss : List Sequence) → us ≡ vs → map byte_range vs ≡ rs ++ (b, b) ∷ [] →
    after (map byte_range us) ss ≡ after rs (behind b ss)
after_longer rs us vs b ss e f = ap (λ qs. after (map byte_range qs) ss) e ∙ ap (λ qs. after qs ss) f ∙ after_both rs ((b, b) ∷ []) ss

-- some sequences are added, and then others
pub two_added : (rs : List Range) (old mid new xs ys all : List Sequence) → mid ≡ old ++ after rs xs → new ≡ mid ++ after rs ys → all ≡ xs ++ ys →
    new ≡ old ++ after rs all
two_added rs old mid new xs ys all a b e =
    b ∙ ap (λ ss. ss ++ after rs ys) a ∙ append_assoc old (after rs xs) (after rs ys)
    ∙ ap (λ ss. old ++ ss) (sym (after_append rs xs ys)) ∙ ap (λ ss. old ++ after rs ss) (sym e)

pub from_split : (low : List ℕ) (last : ℕ) → 1 ≤ length low → false ≡ (all_are 128 (left_of low) && nat_le (get_or low 0 0) last) →
    from_bytes low last ≡ behind (get_or low 0 0) (from_bytes (left_of low) 191) ++ if_some (get_or low 0 0 + 1) last (length (left_of low))
from_split [] last some h = absurd (omega (arith, some))
from_split (a ∷ xs) last some h =
    let e = left_is a xs in
    let f : (all_are 128 xs && nat_le a last) ≡ false = sym (h ∙ ap (λ ys. all_are 128 ys && nat_le a last) e) in
    rw f (ap (λ ys. behind a (from_bytes ys 191) ++ if_some (a + 1) last (length ys)) (sym e))

pub to_split : (high : List ℕ) → 1 ≤ length high → false ≡ all_are 191 (left_of high) →
    to_bytes high ≡ if_some 128 (get_or high 0 0 - 1) (length (left_of high)) ++ behind (get_or high 0 0) (to_bytes (left_of high))
to_split [] some h = absurd (omega (arith, some))
to_split (b ∷ bs) some h =
    let e = left_is b bs in
    let f : all_are 191 bs ≡ false = sym (h ∙ ap (all_are 191) e) in
    rw f (ap (λ ys. if_some 128 (b - 1) (length ys) ++ behind b (to_bytes ys)) (sym e))

pub both_split : (v : Bool) (xs : List ℕ) (b : ℕ) (bs : List ℕ) → false ≡ v → over_both v xs b bs ≡ from_bytes xs (b - 1) ++ behind b (to_bytes bs)
both_split true xs b bs h = absurd (true≢false (sym h))
both_split false xs b bs h = refl

pub within_split : (low high : List ℕ) → 1 ≤ length low → 1 ≤ length high → false ≡ (length (left_of low) == 0) → get_or low 0 0 ≡ get_or high 0 0 →
    false ≡ (all_are 128 (left_of low) && all_are 191 (left_of high)) →
    within_bytes low high ≡ behind (get_or low 0 0) (within_bytes (left_of low) (left_of high))
within_split [] high some also more e h = absurd (omega (arith, some))
within_split (a ∷ xs) [] some also more e h = absurd (omega (arith, also))
within_split (a ∷ []) (b ∷ bs) some also more e h = absurd (true≢false (sym more))
within_split (a ∷ c ∷ xs) (b ∷ bs) some also more e h =
    let i = left_is a (c ∷ xs) in
    let j = left_is b bs in
    let f : (all_are 128 (c ∷ xs) && all_are 191 bs) ≡ false = sym (h ∙ ap₂ (λ x y. all_are 128 x && all_are 191 y) i j) in
    rw (eq-eqb a b e) (ap (λ v. over_one v a (length (c ∷ xs)) (within_bytes (c ∷ xs) bs)) f
    ∙ ap₂ (λ x y. behind a (within_bytes x y)) (sym i) (sym j))

-- the piece between two bounds
pub between_sequences : (least most from to : ℕ) (r : Range) (low high : List ℕ) → from ≡ max r.0 least → to ≡ min r.1 most → from ≤ to →
    low ≡ encode_utf8 from → high ≡ encode_utf8 to → after [] (within_bytes low high) ≡ sequences (between least most r)
between_sequences least most from to r low high f t le l h =
    after_none (within_bytes low high)
    ∙ ap₂ within_bytes (l ∙ ap encode_utf8 f) (h ∙ ap encode_utf8 t)
    ∙ rw (le-leb (max r.0 least) (min r.1 most) (omega (arith, f, t, le))) (sym (append-nil (piece_sequences (max r.0 least, min r.1 most))))

pub sequences_append : (xs ys : List Range) → sequences (xs ++ ys) ≡ sequences xs ++ sequences ys
sequences_append [] ys = refl
sequences_append (p ∷ xs) ys =
    ap (λ ss. piece_sequences p ++ ss) (sequences_append xs ys) ∙ sym (append_assoc (piece_sequences p) (sequences xs) (sequences ys))

-- one more range of a class
pub class_more : (rs : List ClassUnicodeRange) (i : ℕ) (d : ClassUnicodeRange) (old new all : List Sequence) → i < length rs →
    new ≡ old ++ sequences (pieces (char_range (get_or rs i d))) → old ++ sequences (all_pieces (map char_range (drop i rs))) ≡ all →
    new ++ sequences (all_pieces (map char_range (drop (i + 1) rs))) ≡ all
class_more rs i d old new all h f g =
    let r = get_or rs i d in
    let k : suc i ≡ i + 1 = omega arith in
    let left = sequences (all_pieces (map char_range (drop (i + 1) rs))) in
    let split : drop i rs ≡ r ∷ drop (i + 1) rs = drop-cons rs i d h ∙ ap (λ n. r ∷ drop n rs) k in
    ap (λ ss. ss ++ left) f ∙ append_assoc old (sequences (pieces (char_range r))) left
    ∙ ap (λ ss. old ++ ss) (sym (sequences_append (pieces (char_range r)) (all_pieces (map char_range (drop (i + 1) rs)))))
    ∙ ap (λ qs. old ++ sequences (all_pieces (map char_range qs))) (sym split) ∙ g
