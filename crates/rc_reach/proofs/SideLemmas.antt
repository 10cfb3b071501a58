-- What a place and an assertion know of the bytes ahead.
use Rattle.std.proofs.Common.{◌≡◌, ℕ, ◌≤◌, ◌||◌, ◌&&◌, not, List, [], ◌∷◌, take, Bool, if◌then◌else◌, sym, ap, ap₂, ◌∙◌, refl, take-take}
use Rattle.rc_pattern.specs.declared.hir.Look.{Look}
use Rattle.rc_pattern.specs.declared.hir.Look.TheVariants.{Start, End, StartLF, EndLF, StartCRLF, EndCRLF, WordAscii, WordAsciiNegate, WordUnicode, WordUnicodeNegate, WordStartAscii, WordEndAscii, WordStartUnicode, WordEndUnicode, WordStartHalfAscii, WordEndHalfAscii, WordStartHalfUnicode, WordEndHalfUnicode}
use Rattle.rc_program.specs.Scalars.{scalar_at}
use Rattle.rc_program.specs.Looks.{Side, side_after, is_edge, has_byte, is_ascii_word, differ, holds_between}
use Rattle.rc_program.specs.Program.{Place, choice, byte, branch, scalar, guard, slot, accept, Way, over_byte, over_scalar, in_ranges, branch_ways, ways_out, reads, stays}
use Rattle.rc_program.proofs.SideLemmas.{scalar_at-take, side_after-take}
use Rattle.rc_reach.specs.Reads.{looks_ahead, sight}

-- bytes that are the same up to k
module _ (xs ys : List ℕ) (k : ℕ) (same : take k xs ≡ take k ys) where
  pub one : 1 ≤ k → take 1 xs ≡ take 1 ys
  one h = sym (take-take 1 k xs h) ∙ ap (take 1) same ∙ take-take 1 k ys h

  pub same_after : 4 ≤ k → side_after xs ≡ side_after ys
  same_after h = sym (side_after-take k xs h) ∙ ap side_after same ∙ side_after-take k ys h

  pub same_scalar : 4 ≤ k → scalar_at xs ≡ scalar_at ys
  same_scalar h = sym (scalar_at-take k xs h) ∙ ap scalar_at same ∙ scalar_at-take k ys h

edge_by_one : (xs : List ℕ) → is_edge (side_after xs) ≡ is_edge (side_after (take 1 xs))
edge_by_one [] = refl
edge_by_one (x ∷ xs) = refl

byte_by_one : (b : ℕ) (xs : List ℕ) → has_byte b (side_after xs) ≡ has_byte b (side_after (take 1 xs))
byte_by_one b [] = refl
byte_by_one b (x ∷ xs) = refl

word_by_one : (xs : List ℕ) → is_ascii_word (side_after xs) ≡ is_ascii_word (side_after (take 1 xs))
word_by_one [] = refl
word_by_one (x ∷ xs) = refl

over_by_one : (f : ℕ → List Way) (xs : List ℕ) → over_byte f xs ≡ over_byte f (take 1 xs)
over_by_one f [] = refl
over_by_one f (x ∷ xs) = refl

module _ (xs ys : List ℕ) (k : ℕ) (same : take k xs ≡ take k ys) where
  same_edge : 1 ≤ k → is_edge (side_after xs) ≡ is_edge (side_after ys)
  same_edge h = edge_by_one xs ∙ ap (λ zs. is_edge (side_after zs)) (one xs ys k same h) ∙ sym (edge_by_one ys)

  same_byte : (b : ℕ) → 1 ≤ k → has_byte b (side_after xs) ≡ has_byte b (side_after ys)
  same_byte b h = byte_by_one b xs ∙ ap (λ zs. has_byte b (side_after zs)) (one xs ys k same h) ∙ sym (byte_by_one b ys)

  same_word : 1 ≤ k → is_ascii_word (side_after xs) ≡ is_ascii_word (side_after ys)
  same_word h = word_by_one xs ∙ ap (λ zs. is_ascii_word (side_after zs)) (one xs ys k same h) ∙ sym (word_by_one ys)

  same_over : (f : ℕ → List Way) → 1 ≤ k → over_byte f xs ≡ over_byte f ys
  same_over f h = over_by_one f xs ∙ ap (over_byte f) (one xs ys k same h) ∙ sym (over_by_one f ys)

  -- an assertion holds alike where as many bytes ahead are the same as it looks at
  pub same_look : (terminator : ℕ) (before : Side) (l : Look) → looks_ahead l ≤ k →
      holds_between terminator before (side_after xs) l ≡ holds_between terminator before (side_after ys) l
  same_look terminator before Start h = refl
  same_look terminator before End h = same_edge h
  same_look terminator before StartLF h = refl
  same_look terminator before EndLF h = ap₂ ◌||◌ (same_edge h) (same_byte terminator h)
  same_look terminator before StartCRLF h = ap (λ b. is_edge before || has_byte 10 before || (has_byte 13 before && not b)) (same_byte 10 h)
  same_look terminator before EndCRLF h =
      ap₂ ◌||◌ (ap₂ ◌||◌ (same_edge h) (same_byte 13 h)) (ap (λ b. b && not (has_byte 13 before)) (same_byte 10 h))
  same_look terminator before WordAscii h = ap (differ (is_ascii_word before)) (same_word h)
  same_look terminator before WordAsciiNegate h = ap (λ b. not (differ (is_ascii_word before) b)) (same_word h)
  same_look terminator before WordUnicode h = ap (λ a. holds_between terminator before a WordUnicode) (same_after xs ys k same h)
  same_look terminator before WordUnicodeNegate h = ap (λ a. holds_between terminator before a WordUnicodeNegate) (same_after xs ys k same h)
  same_look terminator before WordStartAscii h = ap (λ b. not (is_ascii_word before) && b) (same_word h)
  same_look terminator before WordEndAscii h = ap (λ b. is_ascii_word before && not b) (same_word h)
  same_look terminator before WordStartUnicode h = ap (λ a. holds_between terminator before a WordStartUnicode) (same_after xs ys k same h)
  same_look terminator before WordEndUnicode h = ap (λ a. holds_between terminator before a WordEndUnicode) (same_after xs ys k same h)
  same_look terminator before WordStartHalfAscii h = refl
  same_look terminator before WordEndHalfAscii h = ap not (same_word h)
  same_look terminator before WordStartHalfUnicode h = refl
  same_look terminator before WordEndHalfUnicode h = ap (λ a. holds_between terminator before a WordEndHalfUnicode) (same_after xs ys k same h)

  -- the ways out of a place are the same where as many bytes ahead are
  pub same_ways_out : (test1 test2 : Look → Bool) (q : Place) → sight q ≤ k →
      ((l : Look) → looks_ahead l ≤ k → test1 l ≡ test2 l) → ways_out test1 xs q ≡ ways_out test2 ys q
  same_ways_out test1 test2 (choice ns) h looks = refl
  same_ways_out test1 test2 (byte rs n) h looks = same_over (λ b. if in_ranges rs b then reads 1 n ∷ [] else []) h
  same_ways_out test1 test2 (branch ts) h looks = same_over (λ b. branch_ways b ts) h
  same_ways_out test1 test2 (scalar rs n) h looks = ap (over_scalar rs n) (same_scalar xs ys k same h)
  same_ways_out test1 test2 (guard l n) h looks = ap (λ b. if b then stays n ∷ [] else []) (looks l h)
  same_ways_out test1 test2 (slot j n) h looks = refl
  same_ways_out test1 test2 (accept p) h looks = refl
