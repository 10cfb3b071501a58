-- What the reader of marks finds behind a `\` is an escape that is written so.
use Rattle.std.proofs.Common.{◌≡◌, ℕ, zero, suc, ◌⊎◌, inl, inr, ⊎_elim, Bool, true, false, not, ◌&&◌, ◌||◌, ◌==◌, [], ◌∷◌, ◌++◌, Some, take, drop, refl, ap, sym, ◌∙◌, if◌then◌else◌, append_assoc}
use Rattle.std.proofs.lemmas.Option.{none-some}
use Rattle.rc_tokens.specs.Text.{Characters, ◌>>=◌, ◌>>◌, is_at, is_digit}
use Rattle.rc_tokens.specs.Marks.{Escape, short, fixed, braced, escape, stands, written_escape, escape_says, short_says, fixed_says, boundary_says, scalar_says, takes_scalar, is_brace_name, takes_more}
use Rattle.rc_tokens.specs.Lexer.{run, after_run, is_before, opens_brace, in_brace, brace_then, fixed_then, short_then, lex_escape}
use Rattle.rc_tokens.specs.declared.tokens.Escape as escapes
use Rattle.rc_tokens.proofs.StepLemmas.{guard_parts, and_parts, or_parts, made_parts, at_splits, run_splits}

-- behind `\`, t is an escape that says s, and then u
abbrev pub IsEscape : Characters → escapes.Escape → Characters → Type 0
IsEscape t s u = (e : Escape) × (escape_says e ≡ Some s) × (92 ∷ t ≡ written_escape e ++ u) × (takes_more (stands (escape e)) u ≡ false)

brace_at : (t : Characters) → is_brace_name t ≡ true → is_at 123 t ≡ true
brace_at [] h = absurd (cc)
brace_at (c ∷ []) h = h
brace_at (c ∷ d ∷ t) h = (and_parts (c == 123) (not (is_digit d)) h).0

-- what a brace opens with
opened : (c : ℕ) (t : Characters) → opens_brace c t ≡ true → (is_at 123 t ≡ true) × ((takes_scalar c ≡ true) ⊎ ((c == 98) ≡ true))
opened c t h = ⊎_elim
    (λ g. let (a, b) = and_parts (takes_scalar c) (is_at 123 t) g in (b, inl a))
    (λ g. let (a, b) = and_parts (c == 98) (is_brace_name t) g in (brace_at t b, inr a))
    (or_parts (takes_scalar c && is_at 123 t) (c == 98 && is_brace_name t) h)

in_says : (c : ℕ) (inner : Characters) → (takes_scalar c ≡ true) ⊎ ((c == 98) ≡ true) → in_brace c inner ≡ escape_says (braced c inner)
in_says c inner h = go (c == 98) (takes_scalar c) h
  where
    go : (b d : Bool) → (d ≡ true) ⊎ (b ≡ true) → (if b then boundary_says inner else scalar_says inner) ≡ (if b then boundary_says inner else d >> scalar_says inner)
    go true d h = refl
    go false true h = refl
    go false false h = absurd (⊎_elim (λ e. clash e) (λ e. clash e) h)
      where
        clash : ◌≡◌ {A = Bool} false true → ⊥
        clash e = cc

braced_sound : (c : ℕ) (t : Characters) (s : escapes.Escape) (u : Characters) → opens_brace c t ≡ true →
    brace_then c (run (is_before 125 125) (drop 1 t)) (after_run (is_before 125 125) (drop 1 t)) ≡ Some (s, u) → IsEscape (c ∷ t) s u
braced_sound c t s u o h =
    let inside : Characters = run (is_before 125 125) (drop 1 t) in
    let rest : Characters = after_run (is_before 125 125) (drop 1 t) in
    let (closed, found) = guard_parts (is_at 125 rest) (in_brace c inside >>= λ s. Some (s, drop 1 rest)) (s, u) h in
    let (s', is, same, tail) = made_parts (in_brace c inside) (λ s. s) (drop 1 rest) s u found in
    let (at, kind) = opened c t o in (
      braced c inside,
      sym (in_says c inside kind) ∙ is ∙ ap Some same,
      ap (λ x. 92 ∷ c ∷ x) (at_splits 123 t at ∙ ap (λ x. 123 ∷ x) (run_splits (is_before 125 125) (drop 1 t)
          ∙ ap (λ x. inside ++ x) (at_splits 125 rest closed ∙ ap (λ x. 125 ∷ x) tail) ∙ sym (append_assoc inside (125 ∷ []) u))),
      refl,
    )

take_drop : (n : ℕ) (t : Characters) → t ≡ take n t ++ drop n t
take_drop zero t = refl
take_drop (suc n) [] = refl
take_drop (suc n) (c ∷ t) = ap (λ x. c ∷ x) (take_drop n t)

fixed_sound : (c n : ℕ) (t : Characters) (s : escapes.Escape) (u : Characters) → fixed_then c n t ≡ Some (s, u) → IsEscape (c ∷ t) s u
fixed_sound c n t s u h =
    let (s', is, same, tail) = made_parts (fixed_says c (take n t)) (λ s. s) (drop n t) s u h in
    (fixed c (take n t), is ∙ ap Some same, ap (λ x. 92 ∷ c ∷ x) (take_drop n t ∙ ap (λ x. take n t ++ x) tail), refl)

short_sound : (c : ℕ) (t : Characters) (s : escapes.Escape) (u : Characters) → opens_brace c t ≡ false → short_then c t ≡ Some (s, u) → IsEscape (c ∷ t) s u
short_sound c t s u o h =
    let (s', is, same, tail) = made_parts (short_says c) (λ s. s) t s u h in
    (short c, is ∙ ap Some same, ap (λ x. 92 ∷ c ∷ x) tail, ap (λ x. c == 98 && is_brace_name x) (sym tail) ∙ right (takes_scalar c && is_at 123 t) (c == 98 && is_brace_name t) o)
  where
    right : (a b : Bool) → (a || b) ≡ false → b ≡ false
    right true b h = absurd (cc)
    right false b h = h

pub escape_sound : (t : Characters) (s : escapes.Escape) (u : Characters) → lex_escape t ≡ Some (s, u) → IsEscape t s u
escape_sound [] s u h = absurd (none-some (s, u) h)
escape_sound (c ∷ t) s u h = go (opens_brace c t) (c == 120) (c == 117) (c == 85) refl h
  where
    go : (o a b d : Bool) → opens_brace c t ≡ o →
        (if o then brace_then c (run (is_before 125 125) (drop 1 t)) (after_run (is_before 125 125) (drop 1 t))
        else if a then fixed_then c 2 t else if b then fixed_then c 4 t else if d then fixed_then c 8 t else short_then c t) ≡ Some (s, u) → IsEscape (c ∷ t) s u
    go true a b d e g = braced_sound c t s u e g
    go false true b d e g = fixed_sound c 2 t s u g
    go false false true d e g = fixed_sound c 4 t s u g
    go false false false true e g = fixed_sound c 8 t s u g
    go false false false false e g = short_sound c t s u e g
