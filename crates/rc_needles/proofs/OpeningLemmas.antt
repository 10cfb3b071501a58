-- Places whose three bytes have no bit.
use Rattle.std.proofs.Common.{◌≡◌, ℕ, ◌+◌, ◌<◌, List, length, true, false, slice_index, ap, ◌∙◌, arith}
use Rattle.std.proofs.lemmas.Bool.Decides.{nat_tests}
use Rattle.rc_needles.specs.Openings.{IsOpened, opens}
use Rattle.rc_needles.specs.Teddies.{MayStand}
use Rattle.rc_needles.specs.Tables.{Agrees}

-- no needle stands there
pub shut : (words piece needle : List ℕ) (at : ℕ) → at + 2 < length piece → slice_index piece (at + 2) < 256 →
    false ≡ opens words (slice_index piece at) (slice_index piece (at + 1)) (slice_index piece (at + 2)) → IsOpened words needle → ¬ Agrees piece needle at
shut words piece needle at l small none opened agrees =
    let here : at ≡ at + 0 = omega arith in
    let third : ℕ = slice_index piece (at + 2) in
    let a : slice_index piece at ≡ slice_index needle 0 = ap (slice_index piece) here ∙ agrees 0 (omega (arith, opened.long)) (omega (arith, l)) in
    let b : slice_index piece (at + 1) ≡ slice_index needle 1 = agrees 1 (omega (arith, opened.long)) (omega (arith, l)) in
    let may : MayStand needle 2 third = λ m. agrees 2 m l in
    let yes = opened.each third small may in
    let both : false ≡ true = none ∙ ap (λ x. opens words x (slice_index piece (at + 1)) third) a ∙ ap (λ x. opens words (slice_index needle 0) x third) b ∙ yes in
    grind (arith, nat_tests)
