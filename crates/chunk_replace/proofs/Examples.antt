-- Worked rows of the definitions.
use Rattle.std.proofs.Common.{◌≡◌, [], ◌∷◌, codes, inl, inr, refl, arith}
use Rattle.chunk_replace.specs.Replaced.{replaced_from}
use Rattle.chunk_replace.specs.Template.{byte, group, named, IsReadAs}

template : IsReadAs (byte 97 ∷ byte 36 ∷ group 2 ∷ named (codes "y") ∷ []) (codes "a$$${02}${y}")
template = (
  codes "a",
  codes "$$${02}${y}",
  inl (97, refl, λ e. omega (arith, e), refl),
  (
    codes "$$",
    codes "${02}${y}",
    inr (codes "$", (refl, refl), refl),
    (
      codes "${02}",
      codes "${y}",
      inr (codes "{02}", (codes "02", (record { digits = (omega arith, (omega arith, (omega arith, tt))); small = omega arith }, refl), refl), refl),
      (codes "${y}", [], inr (codes "{y}", (codes "y", (refl, refl), refl), refl), refl, refl),
      refl,
    ),
    refl,
  ),
  refl,
)

replaced : replaced_from (codes "xabyb") (λ c. codes "-") 0 (record { start = 1; walk = (0, 1) ∷ (1, 3) ∷ [] } ∷ record { start = 4; walk = (0, 4) ∷ (1, 5) ∷ [] } ∷ []) ≡ codes "x-y-"
replaced = refl

none : replaced_from (codes "xy") (λ c. codes "-") 0 [] ≡ codes "xy"
none = refl
