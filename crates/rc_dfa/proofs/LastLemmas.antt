-- The match places of one pattern.
use Rattle.std.proofs.Common.{◌≡◌, ℕ, ◌≤◌, ◌↔◌, List, length, Some, true≢false, IsTrue, eqb-true, eq-eqb, sym, subst, ap, refl}
use Rattle.rc_program.specs.Program.{Place, choice, byte, branch, scalar, guard, slot, accept, place_at, is_match_place}
use Rattle.rc_determinize.specs.Steps.{HasPlace}
use Rattle.rc_determinize.proofs.LastLemmas.{AreMatches, all_of_them}

-- the test says whether it is the match place of the pattern
is_accept : (p : ℕ) (place : Place) → IsTrue (is_match_place (Some p) place) → place ≡ accept p
is_accept p (choice ns) h = absurd (true≢false (sym h))
is_accept p (byte rs n) h = absurd (true≢false (sym h))
is_accept p (branch ts) h = absurd (true≢false (sym h))
is_accept p (scalar rs n) h = absurd (true≢false (sym h))
is_accept p (guard l n) h = absurd (true≢false (sym h))
is_accept p (slot k n) h = absurd (true≢false (sym h))
is_accept p (accept q) h = ap accept (eqb-true q p h)

pub accepts : (p : ℕ) (place : Place) → IsTrue (is_match_place (Some p) place) ↔ (place ≡ accept p)
accepts p place = (is_accept p place, λ e. subst (λ x. IsTrue (is_match_place (Some p) x)) (sym e) (eq-eqb p p refl))

pub all_accept : (p : ℕ) (places : List Place) (list : List ℕ) (i : ℕ) → length places ≤ i → AreMatches (Some p) places list i →
    (q : ℕ) → HasPlace q list ↔ (place_at places q ≡ accept p)
all_accept p places list i past v q =
    let a = all_of_them (Some p) places list i past v q in
    let b = accepts p (place_at places q) in
    (λ h. b.0 (a.0 h), λ h. a.1 (b.1 h))
