-- What a mark that stands alone is read as, under the flags that hold.
use Rattle.std.specs.Prelude.{◌≡◌, ℕ, ◌-◌, Bool, true, false, not, ◌&&◌, ◌==◌, nat_le, List, [], ◌∷◌, Some, encode_utf8_all}
use Rattle.std.specs.List.{list_any}
use Rattle.unicode.specs.CaseFolding.{fold_pairs}
use Rattle.rc_pattern.specs.Re.{Re, Range, look}
use Rattle.rc_pattern.specs.Meaning.{literal_of}
use Rattle.rc_pattern.specs.Dots.{dot_of}
use Rattle.rc_tokens.specs.Text.{is_letter}
use Rattle.rc_tokens.specs.declared.tokens.Assertion.{Assertion}
use Rattle.rc_parser.specs.Settings.{Settings}
use Rattle.rc_parser.specs.Pieces.{Subpattern, leaf, deeper, set_re, has_dot, dot_kind, look_of}
use Rattle.rc_parser.specs.declared.flags.Flags.{Flags}
use Rattle.rc_class_sets.specs.Sets.{CodeSet, AreRangesOf}
use Rattle.rc_full_lists.specs.declared.items.Item.{Item}
use Rattle.rc_full_lists.specs.Items.{HasCodes, item_set}
use Rattle.rc_full_lists.specs.Lists.{one}
use Rattle.rc_full_parser.specs.Marks as mark
use Rattle.rc_full_parser.specs.Marks.{Mark}
use Rattle.rc_full_parser.specs.declared.marks.Piece.{Piece}
use Rattle.rc_full_parser.specs.declared.marks.Piece.TheVariants as piece

-- something else folds with the character
abbrev pub has_cases : Bool → ℕ → Bool
has_cases true c = list_any (λ (pair : ℕ × ℕ). pair.0 == c) fold_pairs
has_cases false c = is_letter c

abbrev pub is_folded : Flags → ℕ → Bool
is_folded f c = f.case_insensitive && has_cases f.unicode c

-- With u off a byte of 128 or more stands for itself, else for the character with its number.
abbrev pub is_high : Flags → ℕ → Bool
is_high f b = not f.unicode && nat_le 128 b

module _ (s : Settings) (f : Flags) where
  -- the class of a set, which holds no byte of 128 or more if the pattern is of UTF-8
  pub record IsClass (p : CodeSet) (re : Re) : Type 0 where
    pub ranges : List Range
    pub are_ranges : AreRangesOf f.unicode p ranges
    pub allowed : set_re s f ranges ≡ Some re

  abbrev pub folded_set : Item → CodeSet
  folded_set i = item_set f.unicode f.case_insensitive i

  -- A character is its bytes in UTF-8, or under i the class of all that folds with it.
  pub data IsCharacter : ℕ → Re → Type 0 where
    plain : (c : ℕ) → is_folded f c ≡ false → IsCharacter c (literal_of (encode_utf8_all (c ∷ [])))
    cases : (c : ℕ) (re : Re) → is_folded f c ≡ true → IsClass (folded_set (one c)) re → IsCharacter c re

  pub data IsPiece : Piece → Subpattern → Type 0 where
    character : (c : ℕ) (re : Re) → IsCharacter c re → IsPiece (piece.Character c) (leaf re)
    low_byte : (b : ℕ) (re : Re) → is_high f b ≡ false → IsCharacter b re → IsPiece (piece.Byte b) (leaf re)
    high_byte : (b : ℕ) → is_high f b ≡ true → s.utf8 ≡ false → IsPiece (piece.Byte b) (leaf (literal_of (b ∷ [])))
    set : (i : Item) (re : Re) → IsClass (folded_set i) re → IsPiece (piece.Set i) (leaf re)
    dot : has_dot s f ≡ true → IsPiece piece.Dot (leaf (dot_of (dot_kind s f)))
    asserts : (a : Assertion) → IsPiece (piece.Asserts a) (leaf (look (look_of f a)))

  -- a list with these codes, nested so deep
  pub data IsListPart : CodeSet → ℕ → Subpattern → Type 0 where
    list : (p : CodeSet) (d : ℕ) (re : Re) (part : Subpattern) → IsClass p re → deeper s re (d - 1) ≡ Some part → IsListPart p d part

-- a set that is a piece is one of characters, or with u off of bytes
abbrev pub HasCodesOf : Bool → Piece → Type 0
HasCodesOf unicode (piece.Set i) = HasCodes unicode i
HasCodesOf unicode (piece.Character c) = Unit {0}
HasCodesOf unicode (piece.Byte b) = Unit {0}
HasCodesOf unicode piece.Dot = Unit {0}
HasCodesOf unicode (piece.Asserts a) = Unit {0}

abbrev pub HasCodesAt : Bool → Mark → Type 0
HasCodesAt unicode (mark.stands k) = HasCodesOf unicode k
HasCodesAt unicode mark.bar = Unit {0}
HasCodesAt unicode mark.closes = Unit {0}
HasCodesAt unicode (mark.sets to) = Unit {0}
HasCodesAt unicode (mark.opens k x) = Unit {0}
HasCodesAt unicode (mark.repeats b) = Unit {0}
HasCodesAt unicode mark.brackets = Unit {0}
