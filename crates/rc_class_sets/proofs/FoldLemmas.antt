-- Folding by the table of pairs is folding by simple case folding, and keeps sets closed; the folding of bytes.
use Rattle.std.proofs.Common.{◌≡◌, ◌≢◌, ℕ, ◌+◌, ◌-◌, ◌<◌, ◌⊎◌, inl, inr, ⊎_elim, Bool, true, false, not, ◌&&◌, ◌||◌, ◌==◌, nat_le, List, refl, sym, ap, subst, ◌∙◌, true≢false, eqb-true, eq-eqb, arith, if◌then◌else◌}
use Rattle.std.specs.List.{list_any}
use Rattle.std.proofs.lemmas.List.Folds.{Any-from_list_any, list_any_at}
use Rattle.std.proofs.lemmas.Bool.{and_parts, or_cases, lt-ltb}
use Rattle.unicode.specs.CaseFolding.{simple_fold, fold_pairs}
use Rattle.unicode.proofs.FoldPairsLemmas.{IsFoldPairs-fold_pairs}
use Rattle.rc_pattern.specs.Re.{Range}
use Rattle.rc_tokens.specs.Classes.{class_of, is_code}
use Rattle.rc_tokens.specs.Members.{Has, IsOtherCase}
use Rattle.rc_tokens.proofs.ClassLemmas.{if_elim, class_codes}
use Rattle.rc_tokens.proofs.ClassMembers.{members_law}
use Rattle.rc_class_sets.specs.Sets.{CodeSet, Denote, AreRangesOf}
use Rattle.rc_class_sets.specs.Folding.{other_case, folded, FoldLaw, IsClosed, FoldOrderLaw}
use Rattle.rc_class_sets.proofs.SetLemmas.{or_left, or_right, within, inside}

-- ---- characters

abbrev brings : CodeSet → ℕ → ℕ × ℕ → Bool
brings p c pair = (pair.1 == c) && p pair.0

and_both : (a b : Bool) → a ≡ true → b ≡ true → (a && b) ≡ true
and_both true b e f = f
and_both false b e f = absurd (true≢false (sym e))

by_table : (p : CodeSet) (c d : ℕ) → d ≢ c → simple_fold d ≡ simple_fold c → p d ≡ true → list_any (brings p c) fold_pairs ≡ true
by_table p c d apart e h =
    let at = (IsFoldPairs-fold_pairs d c).1 (apart, e) in
    list_any_at (brings p c) fold_pairs at.0 (d, c) at.1 (ap (brings p c) at.2 ∙ and_both (c == c) (p d) (eq-eqb c c refl) h)

from_other : (p : CodeSet) (c d : ℕ) (same : Bool) → (d == c) ≡ same → simple_fold d ≡ simple_fold c → p d ≡ true → folded true p c ≡ true
from_other p c d true is e h = or_left (p c) _ (subst (λ x. p x ≡ true) (eqb-true d c is) h)
from_other p c d false is e h = or_right (p c) _ (by_table p c d (λ same. true≢false (sym (eq-eqb d c same) ∙ is)) e h)

to_other : (p : CodeSet) (c : ℕ) → list_any (brings p c) fold_pairs ≡ true → (d : ℕ) × (simple_fold d ≡ simple_fold c) × (p d ≡ true)
to_other p c h =
    let a = Any-from_list_any (brings p c) fold_pairs h in
    let parts = and_parts (a.1.1 == c) (p a.1.0) a.4 in
    let alike = (IsFoldPairs-fold_pairs a.1.0 a.1.1).0 (a.0, a.2, a.3) in
    (a.1.0, alike.1 ∙ ap simple_fold (eqb-true a.1.1 c parts.0), parts.1)

pub fold_law : FoldLaw
fold_law p c = (
  λ h. ⊎_elim (λ e. (c, refl, e)) (to_other p c) (or_cases (p c) _ h),
  λ (d, e, h). from_other p c d (d == c) refl e h,
)

-- ---- closed sets

same_bool : (a b : Bool) → (a ≡ true → b ≡ true) → (b ≡ true → a ≡ true) → a ≡ b
same_bool true true h g = refl
same_bool true false h g = sym (h refl)
same_bool false true h g = g refl
same_bool false false h g = refl

moves : (p : CodeSet) (c d : ℕ) → simple_fold c ≡ simple_fold d → folded true p c ≡ true → folded true p d ≡ true
moves p c d e h = let w = (fold_law p c).0 h in (fold_law p d).1 (w.0, w.1 ∙ e, w.2)

two : (f : Bool → Bool → Bool) (p q : CodeSet) → IsClosed p → IsClosed q → IsClosed (λ c. f (p c) (q c))
two f p q h g c d e = ap (λ b. f b (q c)) (h c d e) ∙ ap (f (p d)) (g c d e)

back : (p : CodeSet) (c : ℕ) → IsClosed p → folded true p c ≡ true → p c ≡ true
back p c h e = let w = (fold_law p c).0 e in sym (h w.0 c w.1) ∙ w.2

pub fold_order_law : FoldOrderLaw
fold_order_law = record {
  of_folded = λ p c d e. same_bool (folded true p c) (folded true p d) (moves p c d e) (moves p d c (sym e));
  of_union = two (λ a b. a || b);
  of_intersection = two (λ a b. a && b);
  of_difference = two (λ a b. a && not b);
  of_symmetric_difference = two (λ a b. (a && not b) || (not a && b));
  of_complement = λ p h c d e. ap not (h c d e);
  again = λ p c h. same_bool (folded true p c) (p c) (back p c h) (or_left (p c) _);
}

-- ---- bytes

other_is : (c d : ℕ) → IsOtherCase c d → other_case c ≡ d
other_is c d (inl (a, b, e)) = if_elim (λ x. x ≡ d) (nat_le 65 c && nat_le c 90) (c + 32) (if nat_le 97 c && nat_le c 122 then c - 32 else c)
    (λ _. sym e) (λ f. absurd (true≢false (sym (within (65, 90) c (a, b)) ∙ f)))
other_is c d (inr (a, b, e)) = if_elim (λ x. x ≡ d) (nat_le 65 c && nat_le c 90) (c + 32) (if nat_le 97 c && nat_le c 122 then c - 32 else c)
    (λ f. let low = inside (65, 90) c f in absurd (omega (arith, a, low.1)))
    (λ _. if_elim (λ x. x ≡ d) (nat_le 97 c && nat_le c 122) (c - 32) c
    (λ _. omega (arith, a, e)) (λ f. absurd (true≢false (sym (within (97, 122) c (a, b)) ∙ f))))

byte_of : (c d : ℕ) → IsOtherCase c d → d < 256
byte_of c d (inl (a, b, e)) = omega (arith, b, e)
byte_of c d (inr (a, b, e)) = omega (arith, b, e)

brought : (p : CodeSet) (rs : List Range) (c : ℕ) → Denote false p rs → is_code false c ≡ true → p (other_case c) ≡ true → Has rs c ⊎ ((d : ℕ) × IsOtherCase c d × Has rs d)
brought p rs c v is = if_elim (λ x. p x ≡ true → Has rs c ⊎ ((d : ℕ) × IsOtherCase c d × Has rs d)) (nat_le 65 c && nat_le c 90) (c + 32) (if nat_le 97 c && nat_le c 122 then c - 32 else c)
    (λ y e. let at = inside (65, 90) c y in
    inr (c + 32, inl (at.0, at.1, refl), (v.members (c + 32) (lt-ltb (c + 32) 256 (omega (arith, at.1)))).1 e))
    (λ _. if_elim (λ x. p x ≡ true → Has rs c ⊎ ((d : ℕ) × IsOtherCase c d × Has rs d)) (nat_le 97 c && nat_le c 122) (c - 32) c
    (λ y e. let at = inside (97, 122) c y in
    inr (c - 32, inr (at.0, at.1, omega (arith, at.0)), (v.members (c - 32) (lt-ltb (c - 32) 256 (omega (arith, at.1)))).1 e))
    (λ _ e. inl ((v.members c is).1 e)))

pub bytes_folded : (p : CodeSet) (rs : List Range) → Denote false p rs → AreRangesOf false (folded false p) (class_of false true false rs)
bytes_folded p rs v = record {
  denote = record {
    codes = class_codes false true false rs v.codes;
    members = λ c is. let m = members_law.members false true false rs c v.codes is in (
      λ h. ⊎_elim (λ w. or_left (p c) _ ((v.members c is).0 w))
          (λ (d, o, w). or_right (p c) _ (ap p (other_is c d o) ∙ (v.members d (lt-ltb d 256 (byte_of c d o))).0 w)) (m.0 h),
      λ t. m.1 (⊎_elim (λ e. inl ((v.members c is).1 e)) (brought p rs c v is) (or_cases (p c) _ t)),
    );
  };
  in_order = members_law.in_order false true false rs v.codes;
}
