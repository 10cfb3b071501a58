-- What the flags of a place tell that reads.
use Rattle.std.proofs.Common.{◌≡◌, ℕ, ◌<◌, List, [], sym, subst, ap, ◌∙◌, refl, arith, ⊎_elim, Bool, true, false, MatchBool}
use Rattle.std.proofs.Math.Logic.{∥∥₁_elim}
use Rattle.std.proofs.lemmas.Bool.{cases_Bool}
use Rattle.std.specs.List.{Contains}
use Rattle.rc_program.specs.Heads.{silent, Reaches, here, on, may_take, MayGoOn}
use Rattle.rc_program.specs.Program.{Place, byte, scalar, in_ranges, place_at}
use Rattle.rc_program.proofs.HeadsLemmas.{ascii_leads}
use denote.Struct.Props.{props}

reached_is : (places : List Place) {p q : ℕ} → silent (place_at places p) ≡ [] → Reaches places p q → q ≡ p
reached_is places none here = refl
reached_is places none (on m c r) = absurd (omega (arith, (subst (λ ns. Contains ns m) none c).1))

module _ (places : List Place) (p b : ℕ) (none : silent (place_at places p) ≡ []) where
  goes_by : MayGoOn places p b → may_take (place_at places p) b ≡ true
  goes_by may =
      ∥∥₁_elim may (hlevel props)
      (λ r. subst (λ q. may_take (place_at places q) b ≡ true) (reached_is places none r.1) r.2)

  bars_by : ¬ MayGoOn places p b → may_take (place_at places p) b ≡ false
  bars_by never = ⊎_elim (λ e. absurd (never ∣ (p, here, e) ∣₁)) (λ e. e) (cases_Bool (may_take (place_at places p) b))

  -- the flag is what the place takes
  pub flag_is : (goes : Bool) → MatchBool goes (MayGoOn places p b) (¬ MayGoOn places p b) → goes ≡ may_take (place_at places p) b
  flag_is true m = sym (goes_by m)
  flag_is false m = sym (bars_by m)

pub byte_flag : (places : List Place) (p b n : ℕ) (rs : List (ℕ × ℕ)) (goes : Bool) → place_at places p ≡ byte rs n →
    MatchBool goes (MayGoOn places p b) (¬ MayGoOn places p b) → goes ≡ in_ranges rs b
byte_flag places p b n rs goes is m = flag_is places p b (ap silent is) goes m ∙ ap (λ q. may_take q b) is

pub scalar_flag : (places : List Place) (p b n : ℕ) (rs : List (ℕ × ℕ)) (goes : Bool) → place_at places p ≡ scalar rs n → b < 128 →
    MatchBool goes (MayGoOn places p b) (¬ MayGoOn places p b) → goes ≡ in_ranges rs b
scalar_flag places p b n rs goes is low m =
    flag_is places p b (ap silent is) goes m ∙ ap (λ q. may_take q b) is ∙ ascii_leads rs b low
