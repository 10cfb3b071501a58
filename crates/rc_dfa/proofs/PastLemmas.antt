-- Columns of the bytes past ASCII.
use Rattle.std.proofs.Common.{◌≡◌, ℕ, ◌+◌, ◌<◌, List, [], ◌∷◌, ◌++◌, length, get_or, ⊎_elim, ap, ◌∙◌, refl, arith}
use Rattle.std.proofs.lemmas.Bool.{cases_eq}
use Rattle.std.proofs.lemmas.List.{length-append, get_or_push, get_or_append_left}
use Rattle.rc_dfa.specs.Past.{AreColumns, column_past}

-- those of the bytes below i
pub record AreColumnsSoFar (classes columns : List ℕ) (i : ℕ) : Type 0 where
  pub long : length columns ≡ i
  pub each : (b : ℕ) → b < i → get_or columns b 0 ≡ column_past classes b

pub none_yet : (classes columns : List ℕ) → columns ≡ [] → AreColumnsSoFar classes columns 0
none_yet classes columns e = rw e (record { long = refl; each = λ b h. absurd (omega (arith, h)) })

pub one_more : (classes columns grown : List ℕ) (i x : ℕ) → grown ≡ columns ++ x ∷ [] → x ≡ column_past classes i → AreColumnsSoFar classes columns i →
    AreColumnsSoFar classes grown (i + 1)
one_more classes columns grown i x is new v =
    let size = length-append columns (x ∷ []) in
    let long = v.long in
    rw is (record {
      long = omega (arith, size, long);
      each = λ b h. ⊎_elim
          (λ same. ap (λ k. get_or (columns ++ x ∷ []) k 0) (same ∙ omega (arith, long)) ∙ get_or_push columns x 0 (length columns) refl ∙ new ∙ ap (column_past classes) (omega (arith, same)))
          (λ ne. get_or_append_left columns (x ∷ []) 0 b (omega (arith, h, ne, long)) ∙ v.each b (omega (arith, h, ne)))
          (cases_eq b i);
    })

pub all_have : (classes columns : List ℕ) (i : ℕ) → i ≡ 256 → AreColumnsSoFar classes columns i → AreColumns classes columns
all_have classes columns i e v = record { long = v.long ∙ e; each = λ b h. v.each b (omega (arith, h, e)) }
