-- What comes first in a list, and that it is so in one way.
use Rattle.std.proofs.Common.{◌≡◌, ℕ, ◌≤◌, ◌<◌, Bool, true, false, ◌==◌, [], ◌∷◌, Option, Some, None, length, drop, refl, ap, sym, subst, ◌∙◌, arith, true≢false, if◌then◌else◌}
use Rattle.unicode.specs.Binary.{is_white_space}
use Rattle.rc_tokens.specs.Text.{Characters, is_at}
use Rattle.rc_tokens.proofs.StepLemmas.{at_splits}
use Rattle.rc_tokens.proofs.ClassLemmas.{if_elim}
use Rattle.rc_full_tokens.specs.Skips.{behind_gaps}
use Rattle.rc_full_lists.specs.Parts.{Passes}
use Rattle.rc_full_lists.specs.Read.{passed}
use Rattle.rc_full_lists.specs.Openings.{Hyphens, none, more, Sign, without_caret, caret, Lead, nothing, hyphens, bracket, IsOpening, opening, OpensInOneWay}
use Rattle.rc_full_lists.proofs.PartLemmas.{passes_there, passed_passes}

-- ---- steps

gaps_shorter : (b : Bool) (t : Characters) → length (behind_gaps b t) ≤ length t
gaps_shorter true [] = omega arith
gaps_shorter false [] = omega arith
gaps_shorter true (c ∷ t) =
    if_elim (λ x. length x ≤ length (c ∷ t)) (c == 10) (behind_gaps false t) (behind_gaps true t)
    (λ _. let h = gaps_shorter false t in omega (arith, h)) (λ _. let h = gaps_shorter true t in omega (arith, h))
gaps_shorter false (c ∷ t) =
    if_elim (λ x. length x ≤ length (c ∷ t)) (c == 35) (behind_gaps true t) (if is_white_space c then behind_gaps false t else c ∷ t)
    (λ _. let h = gaps_shorter true t in omega (arith, h))
    (λ _. if_elim (λ x. length x ≤ length (c ∷ t)) (is_white_space c) (behind_gaps false t) (c ∷ t)
    (λ _. let h = gaps_shorter false t in omega (arith, h)) (λ _. omega arith))

pub passed_shorter : (x : Bool) (t : Characters) → length (passed x t) ≤ length t
passed_shorter true t = gaps_shorter false t
passed_shorter false t = omega arith

pub hyphen_shorter : (x : Bool) (t r u : Characters) → is_at 45 t ≡ true → r ≡ drop 1 t → u ≡ passed x r → length u < length t
hyphen_shorter x t r u at e f =
    let shorter : length u ≤ length (drop 1 t) = subst (λ y. length y ≤ length (drop 1 t)) (sym (f ∙ ap (passed x) e)) (passed_shorter x (drop 1 t)) in
    let splits : length t ≡ length (45 ∷ drop 1 t) = ap length (at_splits 45 t at) in
    omega (arith, shorter, splits)

-- the text behind a sign, and its gaps
behind : (x : Bool) (t r u : Characters) → r ≡ drop 1 t → u ≡ passed x r → Passes x (drop 1 t) u
behind x t r u e f = subst (λ y. Passes x (drop 1 t) y) (sym (f ∙ ap (passed x) e)) (passed_passes x (drop 1 t))

pub hyphen_more : (x : Bool) (t r u v : Characters) → is_at 45 t ≡ true → r ≡ drop 1 t → u ≡ passed x r → Hyphens x u v → Hyphens x t v
hyphen_more x t r u v at e f h = subst (λ y. Hyphens x y v) (sym (at_splits 45 t at)) (more (drop 1 t) u v (behind x t r u e f) h)

pub sign_caret : (x : Bool) (t r u : Characters) → is_at 94 t ≡ true → r ≡ drop 1 t → u ≡ passed x r → Sign x t true u
sign_caret x t r u at e f = subst (λ y. Sign x y true u) (sym (at_splits 94 t at)) (caret (drop 1 t) u (behind x t r u e f))

pub sign_none : (x : Bool) (t : Characters) → is_at 94 t ≡ false → Sign x t false t
sign_none x t h = without_caret t h

pub lead_hyphens : (x : Bool) (t r u v : Characters) → is_at 45 t ≡ true → r ≡ drop 1 t → u ≡ passed x r → Hyphens x u v → Lead x t (Some 45) v
lead_hyphens x t r u v at e f h = subst (λ y. Lead x y (Some 45) v) (sym (at_splits 45 t at)) (hyphens (drop 1 t) u v (behind x t r u e f) h)

pub lead_bracket : (x : Bool) (t r u : Characters) → is_at 93 t ≡ true → r ≡ drop 1 t → u ≡ passed x r → Lead x t (Some 93) u
lead_bracket x t r u at e f = subst (λ y. Lead x y (Some 93) u) (sym (at_splits 93 t at)) (bracket (drop 1 t) u (behind x t r u e f))

pub lead_none : (x : Bool) (t : Characters) → is_at 45 t ≡ false → is_at 93 t ≡ false → Lead x t None t
lead_none x t h g = nothing t (rw h g)

pub opens_so : (x : Bool) (t a b c : Characters) (negated : Bool) (lead : Option ℕ) → a ≡ passed x t → Sign x a negated b → Lead x b lead c →
    IsOpening x t negated lead c
opens_so x t a b c negated lead e s l = opening t a b c negated lead (subst (λ y. Passes x t y) (sym e) (passed_passes x t)) s l

-- ---- in one way

one_gap : (x : Bool) (t u v : Characters) → Passes x t u → Passes x t v → u ≡ v
one_gap x t u v p q = passes_there x t u p ∙ sym (passes_there x t v q)

one_run : (x : Bool) (t u v : Characters) → Hyphens x t u → Hyphens x t v → u ≡ v
one_run x _ _ _ (none t h) (none _ g) = refl
one_run x _ _ _ (none _ h) (more t u v p r) = absurd (true≢false h)
one_run x _ _ _ (more t u v p r) (none _ g) = absurd (true≢false g)
one_run x _ _ _ (more t u v p r) (more _ w z q s) = one_run x u v z r (subst (λ y. Hyphens x y z) (one_gap x t w u q p) s)

one_sign : (x : Bool) (t u v : Characters) (m n : Bool) → Sign x t m u → Sign x t n v → (m ≡ n) × (u ≡ v)
one_sign x _ _ _ _ _ (without_caret t h) (without_caret _ g) = (refl, refl)
one_sign x _ _ _ _ _ (without_caret _ h) (caret t u p) = absurd (true≢false h)
one_sign x _ _ _ _ _ (caret t u p) (without_caret _ g) = absurd (true≢false g)
one_sign x _ _ _ _ _ (caret t u p) (caret _ v q) = (refl, one_gap x t u v p q)

one_lead : (x : Bool) (t u v : Characters) (a b : Option ℕ) → Lead x t a u → Lead x t b v → (a ≡ b) × (u ≡ v)
one_lead x _ _ _ _ _ (nothing t h) (nothing _ g) = (refl, refl)
one_lead x _ _ _ _ _ (nothing _ h) (hyphens t u v p r) = absurd (true≢false h)
one_lead x _ _ _ _ _ (nothing _ h) (bracket t u p) = absurd (true≢false h)
one_lead x _ _ _ _ _ (hyphens t u v p r) (nothing _ g) = absurd (true≢false g)
one_lead x _ _ _ _ _ (hyphens t u v p r) (hyphens _ w z q s) = (refl, one_run x u v z r (subst (λ y. Hyphens x y z) (one_gap x t w u q p) s))
one_lead x _ _ _ _ _ (bracket t u p) (nothing _ g) = absurd (true≢false g)
one_lead x _ _ _ _ _ (bracket t u p) (bracket _ v q) = (refl, one_gap x t u v p q)

pub one_opening : OpensInOneWay
one_opening x t u v m n a b (opening _ c d _ _ _ p s l) (opening _ e f _ _ _ q r k) =
    let signs = one_sign x c d f m n s (subst (λ y. Sign x y n f) (one_gap x t e c q p) r) in
    let leads = one_lead x d u v a b l (subst (λ y. Lead x y b v) (sym signs.1) k) in
    (signs.0, leads.0, leads.1)
