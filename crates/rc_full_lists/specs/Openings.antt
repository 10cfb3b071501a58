-- What comes first in a list: `^`, and then hyphens or one `]`, which stand for themselves.
use Rattle.std.specs.Prelude.{◌≡◌, ℕ, Bool, true, false, ◌||◌, ◌∷◌, Option, Some, None}
use Rattle.rc_tokens.specs.Text.{Characters, is_at}
use Rattle.rc_full_lists.specs.Parts.{Passes}

module _ (verbose : Bool) where
  -- all hyphens at the front, and the gaps behind each
  pub data Hyphens : Characters → Characters → Type 0 where
    none : (t : Characters) → is_at 45 t ≡ false → Hyphens t t
    more : (t u v : Characters) → Passes verbose t u → Hyphens u v → Hyphens (45 ∷ t) v

  pub data Sign : Characters → Bool → Characters → Type 0 where
    without_caret : (t : Characters) → is_at 94 t ≡ false → Sign t false t
    caret : (t u : Characters) → Passes verbose t u → Sign (94 ∷ t) true u

  -- what leads: nothing, the hyphen, or the bracket
  pub data Lead : Characters → Option ℕ → Characters → Type 0 where
    nothing : (t : Characters) → (is_at 45 t || is_at 93 t) ≡ false → Lead t None t
    hyphens : (t u v : Characters) → Passes verbose t u → Hyphens u v → Lead (45 ∷ t) (Some 45) v
    bracket : (t u : Characters) → Passes verbose t u → Lead (93 ∷ t) (Some 93) u

  -- behind `[`: whether the list is negated, what leads, and the rest
  pub data IsOpening : Characters → Bool → Option ℕ → Characters → Type 0 where
    opening : (t a b c : Characters) (negated : Bool) (lead : Option ℕ) → Passes verbose t a → Sign a negated b → Lead b lead c →
        IsOpening t negated lead c

-- a text opens a list in one way
abbrev pub OpensInOneWay : Type 0
OpensInOneWay = (verbose : Bool) (t u v : Characters) (m n : Bool) (a b : Option ℕ) → IsOpening verbose t m a u → IsOpening verbose t n b v →
    (m ≡ n) × (a ≡ b) × (u ≡ v)
