-- Starts that stand by the way of anchoring and what stands beside.
use Rattle.std.proofs.Common.{◌≡◌, ℕ, ◌+◌, ◌<◌, List, [], ◌∷◌, ◌++◌, length, Option, Some, None, refl, sym, subst, ap, ◌∙◌, arith}
use Rattle.std.proofs.lemmas.List.{length_push}
use Rattle.std.proofs.lemmas.Option.{slice_get_within}
use Rattle.rc_text.specs.declared.types.Anchored.{Anchored}
use Rattle.rc_text.specs.declared.types.Anchored.TheVariants.{No, Yes, Pattern}
use Rattle.rc_determinize.specs.States.{State}
use Rattle.rc_dfa.specs.Machine.{Machine, Begins}
use Rattle.rc_dense_dfa.specs.Tables.{mode_of}
use Rattle.rc_dense_dfa.specs.Rows.{IsCell, IsStartOf, IsBeside, AreStarts}
use Rattle.rc_dense_dfa.proofs.FillLemmas.{Kept, cell_kept, filled_more}

same_mode : (a b : Anchored) → mode_of a ≡ mode_of b → a ≡ b
same_mode No No e = refl
same_mode No Yes e = absurd (omega arith)
same_mode No (Pattern p) e = absurd (omega arith)
same_mode Yes No e = absurd (omega arith)
same_mode Yes Yes e = refl
same_mode Yes (Pattern p) e = absurd (omega arith)
same_mode (Pattern p) No e = absurd (omega arith)
same_mode (Pattern p) Yes e = absurd (omega arith)
same_mode (Pattern p) (Pattern q) e = let same : p ≡ q = omega arith in ap Pattern same

same_beside : (samples : List ℕ) (column : ℕ) (a b : Option ℕ) → IsBeside samples column a → IsBeside samples column b → a ≡ b
same_beside samples column None None h k = refl
same_beside samples column None (Some b) h k = let w = slice_get_within samples column b k in absurd (omega (arith, w, h))
same_beside samples column (Some a) None h k = let w = slice_get_within samples column a h in absurd (omega (arith, w, k))
same_beside samples column (Some a) (Some b) h k = sym h ∙ k

-- the cell of one start is that of its place
pub start_of : (m : Machine) (samples : List ℕ) (states : List State) (w column cell : ℕ) (anchored : Anchored) (beside : Option ℕ) → w ≡ length samples →
    IsBeside samples column beside → IsCell m w states beside (Begins m anchored beside) cell → IsStartOf m samples states (mode_of anchored) column cell
start_of m samples states w column cell anchored beside width at c = λ other b mode asked here.
    let way : anchored ≡ other = sym (same_mode other anchored mode) in
    let byte : beside ≡ b = same_beside samples column beside b at here in
    subst (λ (n : ℕ). IsCell m n states b (Begins m other b) cell) width
    (subst (λ (x : Option ℕ). IsCell m w states x (Begins m other x) cell) byte
    (subst (λ (x : Anchored). IsCell m w states beside (Begins m x beside) cell) way c))

pub starts_kept : (m : Machine) (samples : List ℕ) (old new : List State) (mode column : ℕ) (starts : List ℕ) → Kept old new →
    AreStarts m samples old mode column starts → AreStarts m samples new mode column starts
starts_kept m samples old new mode column starts k a = record {
  filled = record {
    told = λ r c below within anchored beside e asked here.
        cell_kept m (length samples) old new beside (Begins m anchored beside) _ k (a.filled.told r c below within anchored beside e asked here);
  };
  len = a.len;
}

pub start_more : (m : Machine) (samples : List ℕ) (old new : List State) (mode column cell : ℕ) (starts : List ℕ) → Kept old new →
    column < length samples + 1 → AreStarts m samples old mode column starts → IsStartOf m samples new mode column cell →
    AreStarts m samples new mode (column + 1) (starts ++ cell ∷ [])
start_more m samples old new mode column cell starts k below a c =
    let b = starts_kept m samples old new mode column starts k a in
    let len = a.len in
    record {
      filled = filled_more (length samples + 1) (IsStartOf m samples new) starts cell mode column b.filled a.len below c;
      len = rw length_push (omega (arith, len));
    }

pub mode_done : (m : Machine) (samples : List ℕ) (states : List State) (mode : ℕ) (starts : List ℕ) →
    AreStarts m samples states mode (length samples + 1) starts → AreStarts m samples states (mode + 1) 0 starts
mode_done m samples states mode starts a = let len = a.len in record { filled = a.filled; len = omega (arith, len) }
