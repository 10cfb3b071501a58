-- Beginnings of bytes.
use Rattle.std.proofs.Common.{◌≡◌, ℕ, ◌+◌, ◌<◌, List, length, drop, Bool, true, false, get_or, Some, option_map, sym, ap, subst, ◌∙◌, refl, arith, inl, inr, slice_get, Vec}
use Rattle.std.specs.List.{starts_with}
use Rattle.std.specs.Prelude.{eqb}
use Rattle.std.proofs.lemmas.Bool.{cases_lt, false≢true}
use Rattle.std.proofs.lemmas.Bool.Decides.{Decides-eqb}
use Rattle.std.proofs.lemmas.Option.{same_Some, slice_get-map, slice_get_read}
use Rattle.std.proofs.lemmas.Slice.Eq.{starts_is}
use Rattle.rc_literals.specs.Prefixes.{BeginsWith}
use Rattle.rc_needles.specs.Tables.{needles_in}

-- the needle of a number, read from the vectors
pub needle_got : {Y : Type 0} (vs us : List (Vec ℕ Y)) (i : ℕ) (v : Vec ℕ Y) → us ≡ vs → i < length us → v ≡ get_or us i v →
    slice_get (needles_in vs) i ≡ Some v.items
needle_got vs us i v e inside is =
    ap (λ xs. slice_get (needles_in xs) i) (sym e) ∙ slice_get-map (λ w. w.items) us i
    ∙ ap (option_map (λ w. w.items)) (slice_get_read us (length us) i v refl inside is)

pub begins_when : (bytes needle : List ℕ) (r : Bool) → r ≡ starts_with eqb bytes needle → r ≡ true → BeginsWith bytes needle
begins_when bytes needle r e t = (drop (length needle) bytes, (starts_is Decides-eqb bytes needle r e).0 t)

pub begins_not : (bytes needle : List ℕ) (r : Bool) → r ≡ starts_with eqb bytes needle → r ≡ false → ¬ BeginsWith bytes needle
begins_not bytes needle r e f b = absurd (false≢true (sym f ∙ (starts_is Decides-eqb bytes needle r e).1 b.0 b.1))

-- one more needle isn't a beginning
pub one_more_not : (needles : List (List ℕ)) (bytes w : List ℕ) (i : ℕ) →
    ((k : ℕ) (needle : List ℕ) → k < i → slice_get needles k ≡ Some needle → ¬ BeginsWith bytes needle) → slice_get needles i ≡ Some w →
    ¬ BeginsWith bytes w → (k : ℕ) (needle : List ℕ) → k < i + 1 → slice_get needles k ≡ Some needle → ¬ BeginsWith bytes needle
one_more_not needles bytes w i before got never k needle l e b =
    elim (cases_lt k i) [
      | inl h ↦ before k needle h e b
      | inr h ↦
          let q : k ≡ i = omega arith in
          never (subst (BeginsWith bytes) (same_Some needle w (sym e ∙ ap (slice_get needles) q ∙ got)) b)
    ]
