-- Steps that may refuse, and what they leave.
use Rattle.std.proofs.Common.{◌≡◌, ℕ, Bool, true, false, ◌&&◌, ◌||◌, ◌==◌, ◌⊎◌, inl, inr, [], ◌∷◌, ◌++◌, Option, Some, None, drop, refl, ap, ◌∙◌, if◌then◌else◌}
use Rattle.std.proofs.lemmas.Bool.{eqb-true, false_from_ne_true}
use Rattle.std.proofs.lemmas.Option.{none-some, same_Some}
use Rattle.rc_tokens.specs.Text.{Characters, ◌>>=◌, ◌>>◌, is_at}
use Rattle.rc_tokens.specs.Lexer.{run, after_run}

pub some_parts : {A B : Type 0} (o : Option A) (f : A → Option B) (y : B) → (o >>= f) ≡ Some y → (a : A) × (o ≡ Some a) × (f a ≡ Some y)
some_parts None f y h = absurd (none-some y h)
some_parts (Some a) f y h = (a, refl, h)

pub guard_parts : {B : Type 0} (t : Bool) (o : Option B) (y : B) → (t >> o) ≡ Some y → (t ≡ true) × (o ≡ Some y)
guard_parts false o y h = absurd (none-some y h)
guard_parts true o y h = (refl, h)

pub and_parts : (a b : Bool) → (a && b) ≡ true → (a ≡ true) × (b ≡ true)
and_parts true b h = (refl, h)
and_parts false b h = absurd (cc)

pub or_parts : (a b : Bool) → (a || b) ≡ true → (a ≡ true) ⊎ (b ≡ true)
or_parts true b h = inl refl
or_parts false b h = inr h

-- a value with a rest
pub pair_parts : {A B : Type 0} (a b : A) (v u : B) → ◌≡◌ {A = Option (A × B)} (Some (a, v)) (Some (b, u)) → (a ≡ b) × (v ≡ u)
pair_parts a b v u h = let e = same_Some (a, v) (b, u) h in (ap (λ x. x.0) e, ap (λ x. x.1) e)

-- one step, and then a value of it with a rest
pub made_parts : {A K B : Type 0} (o : Option A) (f : A → K) (v : B) (k : K) (u : B) → ◌≡◌ {A = Option (K × B)} (o >>= λ a. Some (f a, v)) (Some (k, u)) →
    (a : A) × (o ≡ Some a) × (f a ≡ k) × (v ≡ u)
made_parts o f v k u h =
    let (a, e, g) = some_parts o (λ a. Some (f a, v)) (k, u) h in
    let (x, y) = pair_parts (f a) k v u g in (a, e, x, y)

pub at_splits : (d : ℕ) (t : Characters) → is_at d t ≡ true → t ≡ d ∷ drop 1 t
at_splits d [] h = absurd (cc)
at_splits d (c ∷ t) h = ap (λ x. x ∷ t) (eqb-true c d h)

pub run_splits : (test : ℕ → Bool) (t : Characters) → t ≡ run test t ++ after_run test t
run_splits test [] = refl
run_splits test (c ∷ t) = go (test c) (run_splits test t)
  where
    go : (b : Bool) → t ≡ run test t ++ after_run test t → c ∷ t ≡ (if b then c ∷ run test t else []) ++ (if b then after_run test t else c ∷ t)
    go true h = ap (λ s. c ∷ s) h
    go false h = refl

-- each character passes
abbrev pub Passes : (ℕ → Bool) → Characters → Type 0
Passes test [] = Unit {0}
Passes test (c ∷ t) = (test c ≡ true) × Passes test t

pub run_front : (test : ℕ → Bool) (f : Characters) (d : ℕ) (u : Characters) → Passes test f → test d ≡ false → run test (f ++ d ∷ u) ≡ f
run_front test [] d u h e = rw e refl
run_front test (c ∷ f) d u h e = rw (h.0) (ap (λ s. c ∷ s) (run_front test f d u h.1 e))

pub after_front : (test : ℕ → Bool) (f : Characters) (d : ℕ) (u : Characters) → Passes test f → test d ≡ false → after_run test (f ++ d ∷ u) ≡ d ∷ u
after_front test [] d u h e = rw e refl
after_front test (c ∷ f) d u h e = rw (h.0) (after_front test f d u h.1 e)

-- a character that passes is another than one that doesn't
pub other_code : (test : ℕ → Bool) (c d : ℕ) → test d ≡ false → test c ≡ true → (c == d) ≡ false
other_code test c d s h = false_from_ne_true (c == d) (λ e. clash (test c) (ap test (eqb-true c d e) ∙ s) h)
  where
    clash : (b : Bool) → b ≡ false → b ≡ true → ⊥
    clash true e f = cc
    clash false e f = cc
