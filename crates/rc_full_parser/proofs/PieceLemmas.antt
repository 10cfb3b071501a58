-- A mark that stands alone is read as one item.
use Rattle.std.proofs.Common.{◌≡◌, ℕ, ◌-◌, refl, ap, sym, ◌∙◌, true≢false}
use Rattle.std.proofs.lemmas.Option.{same_Some}
use Rattle.rc_pattern.specs.Re.{Re}
use Rattle.rc_parser.specs.Settings.{Settings}
use Rattle.rc_parser.specs.Pieces.{Subpattern, leaf, deeper, set_re}
use Rattle.rc_parser.specs.declared.flags.Flags.{Flags}
use Rattle.rc_class_sets.specs.Sets.{CodeSet}
use Rattle.rc_class_sets.proofs.RangeLemmas.{ranges_law}
use Rattle.rc_full_parser.specs.declared.marks.Piece.{Piece}
use Rattle.rc_full_parser.specs.Pieces.{IsClass, IsCharacter, plain, cases, IsPiece, character, low_byte, high_byte, set, dot, asserts, IsListPart, list}

module _ (s : Settings) (f : Flags) where
  one_class : (p : CodeSet) (a b : Re) → IsClass s f p a → IsClass s f p b → a ≡ b
  one_class p a b x y =
      same_Some a b (sym x.allowed ∙ ap (set_re s f) (ranges_law f.unicode p x.ranges y.ranges x.are_ranges y.are_ranges) ∙ y.allowed)

  one_character : (c : ℕ) (a b : Re) → IsCharacter s f c a → IsCharacter s f c b → a ≡ b
  one_character _ _ _ (plain c h) (plain _ g) = refl
  one_character _ _ _ (plain c h) (cases _ b g y) = absurd (true≢false (sym g ∙ h))
  one_character _ _ _ (cases c a h x) (plain _ g) = absurd (true≢false (sym h ∙ g))
  one_character _ _ _ (cases c a h x) (cases _ b g y) = one_class _ a b x y

  pub one_piece : (k : Piece) (p q : Subpattern) → IsPiece s f k p → IsPiece s f k q → p ≡ q
  one_piece _ _ _ (character c a x) (character _ b y) = ap leaf (one_character c a b x y)
  one_piece _ _ _ (low_byte n a h x) (low_byte _ b g y) = ap leaf (one_character n a b x y)
  one_piece _ _ _ (low_byte n a h x) (high_byte _ g e) = absurd (true≢false (sym g ∙ h))
  one_piece _ _ _ (high_byte n h e) (low_byte _ b g y) = absurd (true≢false (sym h ∙ g))
  one_piece _ _ _ (high_byte n h e) (high_byte _ g d) = refl
  one_piece _ _ _ (set i a x) (set _ b y) = ap leaf (one_class _ a b x y)
  one_piece _ _ _ (dot h) (dot g) = refl
  one_piece _ _ _ (asserts a) (asserts _) = refl

  pub one_list_part : (p : CodeSet) (d : ℕ) (q r : Subpattern) → IsListPart s f p d q → IsListPart s f p d r → q ≡ r
  one_list_part _ _ _ _ (list p d a q x e) (list _ _ b r y g) =
      same_Some q r (sym e ∙ ap (λ z. deeper s z (d - 1)) (one_class p a b x y) ∙ g)
