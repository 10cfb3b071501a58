-- Which patterns have a match, as marks, and whether there is one, as a test.
use mathlib.Core.Logic.{inl, inr, ⊎_elim}
use Rattle.std.proofs.Common.{◌≡◌, ◌∙◌, ◌<◌, ℕ, Bool, true, false, List, length, Option, Some, None, ap, refl, replicate, slice_get, subst, sym}
use Rattle.std.specs.Prelude.{◌↔◌, IsSome, IsTrue, is_some}
use Rattle.std.proofs.lemmas.List.{get_or-replicate, length-replicate}
use Rattle.std.proofs.lemmas.Option.{get_or_from_slice_get, slice_get_within}
use Rattle.rc_text.specs.Found.{Found}
use Rattle.rc_pattern_set.specs.Sets.{Has}
use Rattle.rc_program.specs.Answer.{Search}
use Rattle.rc_pikevm.specs.PatternSpans.{AddsSpelled, HasSpan}
use Rattle.searcher.specs.Places.{AreMarks, AreMarksOf, IsMark}

-- a test that is true exactly where there is one
pub told_some : (b : Bool) (o : Option Found) → IsTrue b ↔ IsSome o → b ≡ is_some o
told_some true o h = sym (h.0 refl)
told_some false None h = refl
told_some false (Some m) h = h.1 refl

no_member : (n p : ℕ) → ¬ Has (replicate n false) p
no_member n p e =
    let there = get_or_from_slice_get (replicate n false) p true false e in
    let inside = subst (λ l. p < l) (length-replicate n false) (slice_get_within (replicate n false) p true e) in
    true_false (sym there ∙ get_or-replicate n p false false inside)
  where
    true_false : true ≡ false → ⊥
    true_false e = cc

mark_same : {P Q : Type 0} (mark : Option ℕ) → P ↔ Q → IsMark P mark → IsMark Q mark
mark_same mark h (inl m) = inl (h.0 m.0, m.1)
mark_same mark h (inr m) = inr ((λ q. m.0 (h.1 q)), m.1)

-- a set that was empty, and took up the patterns that have a match, tells which these are
pub marks_of : (n k : ℕ) (s : Search) (old new : List Bool) (marks : List ℕ) → k ≡ n → old ≡ replicate k false → AddsSpelled s old new →
    AreMarksOf new marks → AreMarks n s marks
marks_of n k s old new marks many empty adds are = record { marked = λ p inside. mark_same (slice_get marks p) (same p) (are p inside) }
  where
    long : length old ≡ n
    long = ap length empty ∙ length-replicate k false ∙ many

    same : (p : ℕ) → Has new p ↔ ((p < n) × HasSpan s p)
    same p = (
      λ h. ⊎_elim (λ o. absurd (no_member k p (subst (λ xs. Has xs p) empty o))) (λ m. (subst (λ l. p < l) long m.0, m.1)) ((adds.members p).0 h),
      λ m. (adds.members p).1 (inr (subst (λ l. p < l) (sym long) m.0, m.1)),
    )
