-- The first of the pieces that are left, and the others.
use Rattle.std.proofs.Common.{◌≡◌, ◌∙◌, ◌-◌, ℕ, zero, suc, Bool, false, List, [], ◌∷◌, Option, Some, None, MatchOption, ap, refl, arith}
use Rattle.rc_text.specs.Found.{Found}
use Rattle.rc_text.specs.Text.{Searched, high}
use Rattle.rc_text.specs.declared.types.Span.{Span}
use Rattle.rc_program.specs.Matches.{pieces_left}
use Rattle.rc_pikevm_search.specs.Moved.{IsMoved}
use Rattle.api_meta.specs.Left.{few_in, unless_done}
use Rattle.api_meta.specs.declared.iterators.Pieces.{Pieces}

pub same_high : (i j : Searched) → IsMoved i j → high j ≡ high i
same_high i j m = rw (m.content, m.end, m.slice) refl

-- a piece up to the next match
pub cut : (n : ℕ) (done : Bool) (from hi to : ℕ) (m : Found) (ms rest : List Found) (start : ℕ) (piece : Span) → done ≡ false → ms ≡ m ∷ rest → to ≡ hi →
    start ≡ m.end → piece ≡ record { start = from; end = m.start } →
    unless_done done (pieces_left (suc (suc n)) from hi ms) ≡ piece ∷ unless_done done (pieces_left (suc n) start to rest)
cut n done from hi to m ms rest start piece going e h a p = rw (going, e, h, a, p) refl

-- with more than one piece allowed, the first of them
pub few_step : (limit lower : ℕ) (p q : Pieces) (i j : Searched) (r : Option Span) → (limit ≡ 0 → ⊥) → (limit ≡ 1 → ⊥) → lower ≡ limit - 1 →
    ((n : ℕ) → MatchOption r ((few_in n p i ≡ []) × (few_in n q j ≡ [])) (λ piece. few_in (suc (suc n)) p i ≡ piece ∷ few_in (suc n) q j)) →
    MatchOption r ((few_in limit p i ≡ []) × (few_in lower q j ≡ [])) (λ piece. few_in limit p i ≡ piece ∷ few_in lower q j)
few_step zero lower p q i j r none one less f = absurd (none refl)
few_step (suc zero) lower p q i j r none one less f = absurd (one refl)
few_step (suc (suc n)) lower p q i j None none one less f = ((f (suc (suc n))).0, (f lower).1)
few_step (suc (suc n)) lower p q i j (Some piece) none one less f =
    let same : suc n ≡ lower = omega (arith, less) in f n ∙ ap (λ k. piece ∷ few_in k q j) same
