-- What is told of the two sides decides each assertion, and the byte ahead each way that reads.
use Rattle.std.proofs.Common.{◌≡◌, ℕ, ◌<◌, ◌≤◌, List, [], ◌∷◌, map, length, drop, Option, Some, None, Bool, true, false, IsTrue, nat_le, ◌&&◌, ◌||◌, if◌then◌else◌, slice_index, ⊎_elim, sym, subst, ap, ap₂, ◌∙◌, refl, arith}
use Rattle.std.specs.List.{AllByRecursion}
use Rattle.std.proofs.lemmas.Bool.{cases_lt, cases_Bool, lt-ltb, le-ltb, le-leb, lt-leb, ne_eqb}
use Rattle.rc_pattern.specs.declared.hir.Look.{Look}
use Rattle.rc_pattern.specs.declared.hir.Look.TheVariants.{Start, End, StartLF, EndLF, StartCRLF, EndCRLF, WordAscii, WordAsciiNegate, WordUnicode, WordUnicodeNegate, WordStartAscii, WordEndAscii, WordStartUnicode, WordEndUnicode, WordStartHalfAscii, WordEndHalfAscii, WordStartHalfUnicode, WordEndHalfUnicode}
use Rattle.rc_program.specs.Scalars.{scalar_at, whole_scalar, scalar_of_last}
use Rattle.rc_program.specs.Looks.{Side, nothing, stands, side_before, side_after, is_word_byte, is_unicode_word, is_broken}
use Rattle.rc_program.specs.Program.{Place, choice, byte, branch, scalar, guard, slot, accept, Way, stays, reads, in_ranges, branch_ways, ways_out, place_at}
use Rattle.rc_program.proofs.WordLemmas.{is_word_scalar-ascii}
use Rattle.rc_utf8.specs.Laws.{IsBytePlace}
use Rattle.rc_determinize.specs.Steps.{still, ahead_of}
use Rattle.rc_determinize.specs.declared.sides.Seen.{Seen}
use Rattle.rc_determinize.specs.declared.sides.Asked.{Asked}
use Rattle.rc_determinize.specs.Sides.{seen_by, side_of, seen_of, holds_by, HoldsLaw, is_unicode, IsPlain, asked, asks, byte_of, HasLook, told, out_seen, AreAlike, ranges_of, holds_both}

-- the facts about both sides decide the assertion
pub holds_law : HoldsLaw
holds_law terminator before after Start = refl
holds_law terminator before after End = refl
holds_law terminator before after StartLF = refl
holds_law terminator before after EndLF = refl
holds_law terminator before after StartCRLF = refl
holds_law terminator before after EndCRLF = refl
holds_law terminator before after WordAscii = refl
holds_law terminator before after WordAsciiNegate = refl
holds_law terminator before after WordUnicode = refl
holds_law terminator before after WordUnicodeNegate = refl
holds_law terminator before after WordStartAscii = refl
holds_law terminator before after WordEndAscii = refl
holds_law terminator before after WordStartUnicode = refl
holds_law terminator before after WordEndUnicode = refl
holds_law terminator before after WordStartHalfAscii = refl
holds_law terminator before after WordEndHalfAscii = refl
holds_law terminator before after WordStartHalfUnicode = refl
holds_law terminator before after WordEndHalfUnicode = refl

-- what is asked for is enough
pub asked_enough : (needs : Asked) (before after : Seen) (l : Look) → asks l needs.facts → (IsTrue (is_unicode l) → IsTrue needs.unicode) →
    holds_by (asked needs before) (asked needs after) l ≡ holds_by before after l
asked_enough n b a Start h u = rw h refl
asked_enough n b a End h u = rw h refl
asked_enough n b a StartLF h u = rw (h.0, h.1) refl
asked_enough n b a EndLF h u = rw (h.0, h.1) refl
asked_enough n b a StartCRLF h u = rw (h.0, h.1, h.2) refl
asked_enough n b a EndCRLF h u = rw (h.0, h.1, h.2) refl
asked_enough n b a WordAscii h u = rw h refl
asked_enough n b a WordAsciiNegate h u = rw h refl
asked_enough n b a WordUnicode h u = rw (u refl) refl
asked_enough n b a WordUnicodeNegate h u = rw (u refl) refl
asked_enough n b a WordStartAscii h u = rw h refl
asked_enough n b a WordEndAscii h u = rw h refl
asked_enough n b a WordStartUnicode h u = rw (u refl) refl
asked_enough n b a WordEndUnicode h u = rw (u refl) refl
asked_enough n b a WordStartHalfAscii h u = rw h refl
asked_enough n b a WordEndHalfAscii h u = rw h refl
asked_enough n b a WordStartHalfUnicode h u = rw (u refl) refl
asked_enough n b a WordEndHalfUnicode h u = rw (u refl) refl

-- a byte of ASCII, or nothing, is all that stands there
plain_side : (side : Side) → IsPlain side → side ≡ side_of (byte_of side)
plain_side nothing p = refl
plain_side (stands b c) p = ap (stands b) (p.1 ∙ (rw (lt-ltb b 128 p.0) refl))

-- where Unicode isn't asked for, the byte tells all
unasked : (needs : Asked) (terminator : ℕ) (side : Side) → needs.unicode ≡ false →
    asked needs (seen_by terminator side) ≡ asked needs (seen_of terminator (byte_of side))
unasked needs terminator nothing h = refl
unasked needs terminator (stands b c) h = rw h refl

-- what is told of a side is told of its byte, if that may be read
pub told_byte : (needs : Asked) (terminator : ℕ) (side : Side) → (IsTrue needs.unicode → IsPlain side) →
    asked needs (seen_by terminator side) ≡ told needs terminator (byte_of side)
told_byte needs terminator side plain =
    ⊎_elim (λ u. ap (λ x. asked needs (seen_by terminator x)) (plain_side side (plain u)))
    (λ u. unasked needs terminator side u) (cases_Bool needs.unicode)

-- of a byte of 128 or more, no word byte
large_word : (b : ℕ) → 128 ≤ b → is_word_byte b ≡ false
large_word b h =
    rw (
      le-leb 48 b (omega (arith, h)),
      lt-leb b 57 (omega (arith, h)),
      le-leb 65 b (omega (arith, h)),
      lt-leb b 90 (omega (arith, h)),
      ne_eqb b 95 (λ e. omega (arith, h, e)),
      le-leb 97 b (omega (arith, h)),
      lt-leb b 122 (omega (arith, h)),
    ) refl

-- the facts of a byte about Unicode's words
pub byte_letter : (b : ℕ) → is_word_byte b ≡ is_unicode_word (side_of (Some b))
byte_letter b =
    ⊎_elim (λ l. rw (lt-ltb b 128 l) (sym (is_word_scalar-ascii b l))) (λ g. rw (le-ltb b 128 g) (large_word b g)) (cases_lt b 128)

pub byte_broken : (b : ℕ) → nat_le 128 b ≡ is_broken (side_of (Some b))
byte_broken b =
    ⊎_elim (λ l. rw (lt-ltb b 128 l, lt-leb 128 b l) refl) (λ g. rw (le-ltb b 128 g, le-leb 128 b g) refl) (cases_lt b 128)

-- a byte of ASCII ahead is a scalar
pub plain_after : (bs : List ℕ) → ((b : ℕ) → byte_of (side_after bs) ≡ Some b → b < 128) → IsPlain (side_after bs)
plain_after [] h = tt
plain_after (b ∷ bs) h = let l = h b refl in (l, rw (lt-ltb b 128 l) refl)

drop_last : (b : ℕ) (bs : List ℕ) → drop (length bs) (b ∷ bs) ≡ slice_index (b ∷ bs) (length bs) ∷ []
drop_last b [] = refl
drop_last b (c ∷ bs) = drop_last c bs

-- and one behind
pub plain_before : (bs : List ℕ) → ((b : ℕ) → byte_of (side_before bs) ≡ Some b → b < 128) → IsPlain (side_before bs)
plain_before [] h = tt
plain_before (b ∷ bs) h =
    let x = slice_index (b ∷ bs) (length bs) in
    let l : x < 128 = h x refl in
    let one : scalar_of_last 1 (b ∷ bs) ≡ Some x =
    subst (λ (n : ℕ). whole_scalar (drop n (b ∷ bs)) (scalar_at (drop n (b ∷ bs))) ≡ Some x) (omega arith)
    (subst (λ xs. whole_scalar xs (scalar_at xs) ≡ Some x) (sym (drop_last b bs)) (rw (lt-ltb x 128 l) refl)) in
    (l, rw one refl)

-- assertions that agree give the same ways
pub same_ways_out : (test other : Look → Bool) (bytes : List ℕ) (place : Place) →
    ((l : Look) → HasLook l place → test l ≡ other l) → ways_out test bytes place ≡ ways_out other bytes place
same_ways_out test other bytes (choice ns) same = refl
same_ways_out test other bytes (byte rs n) same = refl
same_ways_out test other bytes (branch ts) same = refl
same_ways_out test other bytes (scalar rs n) same = refl
same_ways_out test other bytes (guard l n) same = ap (λ b. if b then stays n ∷ [] else []) (same l refl)
same_ways_out test other bytes (slot s n) same = refl
same_ways_out test other bytes (accept p) same = refl

-- the first byte decides
pub one_byte : (test : Look → Bool) (b : ℕ) (bs : List ℕ) (place : Place) → IsBytePlace place →
    ways_out test (b ∷ bs) place ≡ ways_out test (b ∷ []) place
one_byte test b bs (choice ns) h = refl
one_byte test b bs (byte rs n) h = refl
one_byte test b bs (branch ts) h = refl
one_byte test b bs (scalar rs n) h = absurd h
one_byte test b bs (guard l n) h = refl
one_byte test b bs (slot s n) h = refl
one_byte test b bs (accept p) h = refl

still_choice : (ns : List ℕ) → map stays ns ≡ still (map stays ns)
still_choice [] = refl
still_choice (n ∷ ns) = ap (λ x. stays n ∷ x) (still_choice ns)

still_branch : (b : ℕ) (ts : List ((ℕ × ℕ) × ℕ)) → [] ≡ still (branch_ways b ts)
still_branch b [] = refl
still_branch b (t ∷ ts) = both (nat_le t.0.0 b && nat_le b t.0.1) (still_branch b ts)
  where
    both : (v : Bool) → [] ≡ still (branch_ways b ts) → [] ≡ still (if v then reads 1 t.1 ∷ branch_ways b ts else branch_ways b ts)
    both true h = h
    both false h = h

-- where nothing may be read, what is left are the ways that read nothing
pub still_are : (test : Look → Bool) (after : Option ℕ) (place : Place) → IsBytePlace place →
    ways_out test [] place ≡ still (ways_out test (ahead_of after) place)
still_are test after (choice ns) h = still_choice ns
still_are test None (byte rs n) h = refl
still_are test (Some b) (byte rs n) h = both (in_ranges rs b)
  where
    both : (v : Bool) → [] ≡ still (if v then reads 1 n ∷ [] else [])
    both false = refl
    both true = refl
still_are test None (branch ts) h = refl
still_are test (Some b) (branch ts) h = still_branch b ts
still_are test after (scalar rs n) h = absurd h
still_are test after (guard l n) h = both (test l)
  where
    both : (v : Bool) → (if v then stays n ∷ [] else []) ≡ still (if v then stays n ∷ [] else [])
    both false = refl
    both true = refl
still_are test after (slot s n) h = refl
still_are test after (accept p) h = refl

-- bytes that no range parts are read alike

same_in_ranges : (rs : List (ℕ × ℕ)) (b c : ℕ) → AllByRecursion (holds_both b c) rs → in_ranges rs b ≡ in_ranges rs c
same_in_ranges [] b c h = refl
same_in_ranges (r ∷ rs) b c h = ap₂ (λ x y. x || y) h.0 (same_in_ranges rs b c h.1)

same_branch : (ts : List ((ℕ × ℕ) × ℕ)) (b c : ℕ) → AllByRecursion (holds_both b c) (map (λ (t : (ℕ × ℕ) × ℕ). t.0) ts) →
    branch_ways b ts ≡ branch_ways c ts
same_branch [] b c h = refl
same_branch (t ∷ ts) b c h =
    ap₂ (λ (v : Bool) (ws : List Way). if v then reads 1 t.1 ∷ ws else ws) h.0 (same_branch ts b c h.1)

pub uncut : (test : Look → Bool) (b c : ℕ) (place : Place) → IsBytePlace place → AllByRecursion (holds_both b c) (ranges_of place) →
    ways_out test (b ∷ []) place ≡ ways_out test (c ∷ []) place
uncut test b c (choice ns) p h = refl
uncut test b c (byte rs n) p h = ap (λ v. if v then reads 1 n ∷ [] else []) (same_in_ranges rs b c h)
uncut test b c (branch ts) p h = same_branch ts b c h
uncut test b c (scalar rs n) p h = absurd p
uncut test b c (guard l n) p h = refl
uncut test b c (slot s n) p h = refl
uncut test b c (accept q) p h = refl

-- bytes that are alike lead every place by the same ways
pub alike_out : (places : List Place) (needs : Asked) (terminator b c : ℕ) (behind : Seen) → AreAlike places needs terminator b c →
    out_seen places needs terminator behind (Some b) ≡ out_seen places needs terminator behind (Some c)
alike_out places needs terminator b c behind a =
    ap (λ (x : Seen). λ (q : ℕ). ways_out (holds_by behind x) (b ∷ []) (place_at places q)) a.told_same
    ∙ (λ i q. a.read_same q (holds_by behind (told needs terminator (Some c))) i)
