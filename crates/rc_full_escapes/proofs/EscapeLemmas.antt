-- The reader of escapes finds exactly the escapes.
use Rattle.std.proofs.Common.{◌≡◌, ℕ, zero, suc, ◌≤◌, ◌⊎◌, inl, inr, ⊎_elim, Bool, true, false, not, ◌&&◌, ◌||◌, ◌==◌, nat_le, [], ◌∷◌, ◌++◌, Some, None, is_none, length, take, drop, refl, ap, sym, subst, ◌∙◌, arith, true≢false, eqb-true, codes, if◌then◌else◌}
use Rattle.std.proofs.lemmas.Option.{none-some, same_Some}
use Rattle.std.proofs.lemmas.Bool.{and_parts, false_from_ne_true}
use Rattle.rc_tokens.specs.Text.{Characters, ◌>>=◌, ◌>>◌, is_at, is_letter, is_digit, each}
use Rattle.rc_tokens.specs.Said as said
use Rattle.rc_tokens.specs.Marks.{Escape, short, fixed, braced, escape, stands, written_escape, escape_says, short_says, fixed_says, boundary_says, scalar_says, takes_scalar, is_brace_name, takes_more, sense}
use Rattle.rc_tokens.specs.Lexer.{run, after_run, lex, lex_escape}
use Rattle.rc_tokens.specs.declared.tokens.Escape as stated_escapes
use Rattle.rc_tokens.specs.declared.tokens.Escape.TheVariants as says
use Rattle.rc_tokens.specs.declared.tokens.Assertion.TheVariants.{Boundary}
use Rattle.rc_tokens.proofs.StepLemmas.{some_parts, guard_parts, pair_parts, at_splits, run_splits, other_code}
use Rattle.rc_tokens.proofs.ClassLemmas.{le_true, if_elim}
use Rattle.rc_tokens.proofs.EscapeLemmas.{escape_sound}
use Rattle.rc_tokens.proofs.AgainLemmas.{lex_again}
use Rattle.rc_full_tokens.specs.Front.{is_not}
use Rattle.rc_full_tokens.proofs.CountLemmas.{each_run, run_ends, after_ends, up, all_up}
use Rattle.rc_full_escapes.specs.declared.escapes.FullEscape.{FullEscape}
use Rattle.rc_full_escapes.specs.declared.escapes.FullEscape.TheVariants.{Stated}
use Rattle.rc_full_escapes.specs.Escapes.{is_octal, begins_octal, octal_says, opens_name, takes_name, property_letter, property_says, IsEscape, stated, digits, letter, name}
use Rattle.rc_full_escapes.specs.Escaped.{Found, stated_of, read_stated, octal_front, read_octal, named_then, read_property, escape_at, escape_behind, read_escape}

moved : (octal : Bool) (t t' : Characters) (e e' : FullEscape) (u u' : Characters) → t ≡ t' → e' ≡ e → u' ≡ u → IsEscape octal t' e' u' → IsEscape octal t e u
moved octal t t' e e' u u' x y z h =
    subst (λ t. IsEscape octal t e u) (sym x) (subst (λ e. IsEscape octal t' e u) y (subst (λ u. IsEscape octal t' e' u) z h))

not_true : (b : Bool) → not b ≡ true → b ≡ false
not_true true h = absurd (true≢false (sym h))
not_true false h = refl

-- ---- octal digits

octal_splits : (n : ℕ) (t : Characters) → t ≡ run is_octal (take n t) ++ drop (length (run is_octal (take n t))) t
octal_splits zero t = refl
octal_splits (suc n) [] = refl
octal_splits (suc n) (c ∷ t) = if_elim (λ x. c ∷ t ≡ x ++ drop (length x) (c ∷ t)) (is_octal c) (c ∷ run is_octal (take n t)) []
    (λ _. ap (λ x. c ∷ x) (octal_splits n t)) (λ _. refl)

octal_most : (n : ℕ) (t : Characters) → length (run is_octal (take n t)) ≤ n
octal_most zero t = omega arith
octal_most (suc n) [] = omega arith
octal_most (suc n) (c ∷ t) = if_elim (λ x. length x ≤ suc n) (is_octal c) (c ∷ run is_octal (take n t)) []
    (λ _. let h = octal_most n t in omega (arith, h)) (λ _. omega arith)

octal_ends : (n : ℕ) (t : Characters) →
    (length (run is_octal (take n t)) ≡ n) ⊎ (begins_octal (drop (length (run is_octal (take n t))) t) ≡ false)
octal_ends zero t = inl refl
octal_ends (suc n) [] = inr refl
octal_ends (suc n) (c ∷ t) = if_elim (λ x. (length x ≡ suc n) ⊎ (begins_octal (drop (length x) (c ∷ t)) ≡ false)) (is_octal c) (c ∷ run is_octal (take n t)) []
    (λ _. ⊎_elim (λ l. inl (ap suc l)) (λ r. inr r) (octal_ends n t)) (λ e. inr e)

octal_again : (n : ℕ) (ds u : Characters) → each is_octal ds ≡ true → length ds ≤ n → (length ds ≡ n) ⊎ (begins_octal u ≡ false) →
    run is_octal (take n (ds ++ u)) ≡ ds
octal_again zero [] u h l e = refl
octal_again (suc n) [] [] h l e = refl
octal_again (suc n) [] (c ∷ u) h l e = ⊎_elim (λ x. absurd (omega (arith, x))) (λ x. rw x refl) e
octal_again zero (c ∷ ds) u h l e = absurd (omega (arith, l))
octal_again (suc n) (c ∷ ds) u h l e =
    let parts = and_parts (is_octal c) (each is_octal ds) h in
    rw parts.0 (ap (λ x. c ∷ x) (octal_again n ds u parts.1 (omega (arith, l)) (⊎_elim (λ x. inl (omega (arith, x))) (λ x. inr x) e)))

drop_front : (ds u : Characters) → drop (length ds) (ds ++ u) ≡ u
drop_front [] u = refl
drop_front (c ∷ ds) u = drop_front ds u

octal_sound : (octal : Bool) (t : Characters) (e : FullEscape) (u : Characters) → octal ≡ true → read_octal t ≡ Some (e, u) → IsEscape octal (92 ∷ t) e u
octal_sound octal t e u on h =
    let ds = octal_front t in
    let (s, is, made) = some_parts (octal_says ds) (λ s. Some (Stated s, drop (length ds) t)) (e, u) h in
    let (same, tail) = pair_parts (Stated s) e (drop (length ds) t) u made in
    moved octal (92 ∷ t) (92 ∷ (ds ++ drop (length ds) t)) e (Stated s) u (drop (length ds) t) (ap (λ x. 92 ∷ x) (octal_splits 3 t)) same tail
    (digits ds s (drop (length ds) t) on is (each_run is_octal (take 3 t)) (octal_most 3 t) (octal_ends 3 t))

-- ---- properties

property_sound : (octal negated : Bool) (t : Characters) (e : FullEscape) (u : Characters) → read_property negated t ≡ Some (e, u) →
    IsEscape octal (92 ∷ property_letter negated ∷ t) e u
property_sound octal negated [] e u h = absurd (none-some (e, u) h)
property_sound octal negated (c ∷ t) e u h = go (c == 123) refl h
  where
    go : (b : Bool) → (c == 123) ≡ b →
        (if b then named_then negated (run (is_not 125) t) (after_run (is_not 125) t) else (property_says negated (c ∷ []) >>= λ e. Some (e, t))) ≡ Some (e, u) →
        IsEscape octal (92 ∷ property_letter negated ∷ c ∷ t) e u
    go true is h =
        let text = run (is_not 125) t in
        let rest = after_run (is_not 125) t in
        let (closed, more) = guard_parts (is_at 125 rest) (property_says negated text >>= λ e. Some (e, drop 1 rest)) (e, u) h in
        let (f, found, made) = some_parts (property_says negated text) (λ e. Some (e, drop 1 rest)) (e, u) more in
        let (same, tail) = pair_parts f e (drop 1 rest) u made in
        moved octal (92 ∷ property_letter negated ∷ c ∷ t) (92 ∷ property_letter negated ∷ 123 ∷ (text ++ 125 ∷ drop 1 rest)) e f u (drop 1 rest)
        (ap (λ x. 92 ∷ property_letter negated ∷ x ∷ t) (eqb-true c 123 is)
        ∙ ap (λ x. 92 ∷ property_letter negated ∷ 123 ∷ x) (run_splits (is_not 125) t ∙ ap (λ x. text ++ x) (at_splits 125 rest closed))) same tail
        (name negated text f (drop 1 rest) (each_run (is_not 125) t) found)
    go false is h =
        let (f, found, made) = some_parts (property_says negated (c ∷ [])) (λ e. Some (e, t)) (e, u) h in
        let (same, tail) = pair_parts f e t u made in
        moved octal (92 ∷ property_letter negated ∷ c ∷ t) (92 ∷ property_letter negated ∷ c ∷ t) e f u t refl same tail (letter negated c f t is found)

-- ---- escapes of the stated grammar

sense_again : (s : stated_escapes.Escape) → stated_of (said.Stands (sense s)) ≡ Some s
sense_again (says.Character c) = refl
sense_again (says.Byte b) = refl
sense_again (says.Perl p) = refl
sense_again (says.Assertion a) = refl

digits_are_none : each (λ c. not (is_letter c || (c == 45))) (up 10 48) ≡ true
digits_are_none = refl

-- what opens a name opens one in the stated grammar, too
brace_none : (u : Characters) → is_brace_name u ≡ false → opens_name u ≡ false
brace_none [] h = refl
brace_none (c ∷ []) h = refl
brace_none (c ∷ d ∷ u) h = go (c == 123) (is_digit d) refl h
  where
    go : (a b : Bool) → is_digit d ≡ b → (a && not b) ≡ false → (a && (is_letter d || (d == 45))) ≡ false
    go false b e h = refl
    go true false e h = absurd (true≢false h)
    go true true e h =
        let parts = and_parts (nat_le 48 d) (nat_le d 57) e in
        let low = le_true 48 d parts.0 in let high = le_true d 57 parts.1 in
        not_true (is_letter d || (d == 45)) (all_up (λ c. not (is_letter c || (c == 45))) 10 48 d digits_are_none low (omega (arith, high)))

no_name : (e : Escape) (u : Characters) → takes_more (stands (escape e)) u ≡ false → takes_name e u ≡ false
no_name (short c) u h = go (c == 98) h
  where
    go : (a : Bool) → (a && is_brace_name u) ≡ false → (a && opens_name u) ≡ false
    go false h = refl
    go true h = brace_none u h
no_name (fixed c ds) u h = refl
no_name (braced c t) u h = refl

stated_sound : (octal : Bool) (t : Characters) (e : FullEscape) (u : Characters) → read_stated (92 ∷ t) ≡ Some (e, u) → IsEscape octal (92 ∷ t) e u
stated_sound octal t e u h =
    let (r, first, more) = some_parts (lex (92 ∷ t)) (λ r. stated_of r.0 >>= λ s. Some (Stated s, r.1)) (e, u) h in
    let (s, is, made) = some_parts (stated_of r.0) (λ s. Some (Stated s, r.1)) (e, u) more in
    let (same, tail) = pair_parts (Stated s) e r.1 u made in
    let (q, found, piece) = some_parts (lex_escape t) (λ q. Some (said.Stands (sense q.0), q.1)) r first in
    let (what, rest) = pair_parts (said.Stands (sense q.0)) r.0 q.1 r.1 piece in
    let says_s : q.0 ≡ s = same_Some q.0 s (sym (sense_again q.0) ∙ ap stated_of what ∙ is) in
    let (f, it_says, written, free) = escape_sound t q.0 q.1 found in
    moved octal (92 ∷ t) (written_escape f ++ q.1) e (Stated q.0) u q.1 written (ap Stated says_s ∙ same) (rest ∙ tail)
    (stated f q.0 q.1 it_says (no_name f q.1 free))

-- ---- all escapes

behind_sound : (octal : Bool) (t : Characters) (e : FullEscape) (u : Characters) → escape_behind octal t ≡ Some (e, u) → IsEscape octal (92 ∷ t) e u
behind_sound octal [] e u h = absurd (none-some (e, u) h)
behind_sound octal (c ∷ t) e u h = go (c == 112) (c == 80) (octal && is_octal c) ((c == 98) && not (opens_name t)) refl refl refl refl h
  where
    go : (x y z w : Bool) → (c == 112) ≡ x → (c == 80) ≡ y → (octal && is_octal c) ≡ z → ((c == 98) && not (opens_name t)) ≡ w →
        (if x then read_property false t else if y then read_property true t else if z then read_octal (c ∷ t)
        else if w then Some (Stated (says.Assertion Boundary), t) else read_stated (92 ∷ c ∷ t)) ≡ Some (e, u) → IsEscape octal (92 ∷ c ∷ t) e u
    go true y z w is _ _ _ h = subst (λ x. IsEscape octal (92 ∷ x ∷ t) e u) (sym (eqb-true c 112 is)) (property_sound octal false t e u h)
    go false true z w _ is _ _ h = subst (λ x. IsEscape octal (92 ∷ x ∷ t) e u) (sym (eqb-true c 80 is)) (property_sound octal true t e u h)
    go false false true w _ _ is _ h = octal_sound octal (c ∷ t) e u (and_parts octal (is_octal c) is).0 h
    go false false false true _ _ _ is h =
        let parts = and_parts (c == 98) (not (opens_name t)) is in
        let (same, tail) = pair_parts (Stated (says.Assertion Boundary)) e t u h in
        moved octal (92 ∷ c ∷ t) (92 ∷ 98 ∷ t) e (Stated (says.Assertion Boundary)) u t (ap (λ x. 92 ∷ x ∷ t) (eqb-true c 98 parts.0)) same tail
        (stated (short 98) (says.Assertion Boundary) t refl (not_true (opens_name t) parts.1))
    go false false false false _ _ _ _ h = stated_sound octal (c ∷ t) e u h

pub all_sound : (octal : Bool) (t : Characters) (e : FullEscape) (u : Characters) → read_escape octal t ≡ Some (e, u) → IsEscape octal t e u
all_sound octal t e u h =
    let (slash, more) = guard_parts (is_at 92 t) (escape_behind octal (drop 1 t)) (e, u) h in
    subst (λ x. IsEscape octal x e u) (sym (at_splits 92 t slash)) (behind_sound octal (drop 1 t) e u more)

-- ---- each escape is found

and_no : (b : Bool) → (b && false) ≡ false
and_no true = refl
and_no false = refl

as_stated : (octal : Bool) (c : ℕ) (t : Characters) → (c == 112) ≡ false → (c == 80) ≡ false → is_octal c ≡ false →
    ((c == 98) && not (opens_name t)) ≡ false → escape_at octal c t ≡ read_stated (92 ∷ c ∷ t)
as_stated octal c t x y z w = rw x (rw y (rw (ap (λ b. octal && b) z ∙ and_no octal) (rw w refl)))

stated_again : (e : Escape) (s : stated_escapes.Escape) (u : Characters) → escape_says e ≡ Some s → takes_more (stands (escape e)) u ≡ false →
    read_stated (written_escape e ++ u) ≡ Some (Stated s, u)
stated_again e s u h free =
    ap (λ o. o >>= λ r. stated_of r.0 >>= λ s. Some (Stated s, r.1))
    (lex_again (written_escape e ++ u) (said.Stands (sense s)) u (stands (escape e), ap (λ o. o >>= λ s. Some (said.Stands s)) (ap (λ o. o >>= λ s. Some (sense s)) h), refl, free))
    ∙ ap (λ o. o >>= λ s. Some (Stated s, u)) (sense_again s)

not_short : (c d : ℕ) (s : stated_escapes.Escape) → short_says c ≡ Some s → short_says d ≡ None → (c == d) ≡ false
not_short c d s h none = false_from_ne_true (c == d) (λ e. none-some s (sym none ∙ ap short_says (sym (eqb-true c d e)) ∙ h))

octal_not_short : each (λ c. is_none (short_says c)) (up 8 48) ≡ true
octal_not_short = refl

short_not_octal : (c : ℕ) (s : stated_escapes.Escape) → short_says c ≡ Some s → is_octal c ≡ false
short_not_octal c s h = false_from_ne_true (is_octal c) (λ e.
    let parts = and_parts (nat_le 48 c) (nat_le c 55) e in
    let low = le_true 48 c parts.0 in let high = le_true c 55 parts.1 in
    true≢false (sym (all_up (λ c. is_none (short_says c)) 8 48 c octal_not_short low (omega (arith, high))) ∙ ap is_none h))

short_again : (octal : Bool) (c : ℕ) (s : stated_escapes.Escape) (u : Characters) → short_says c ≡ Some s → ((c == 98) && opens_name u) ≡ false →
    escape_at octal c u ≡ Some (Stated s, u)
short_again octal c s u h free = go (c == 98) refl free
  where
    boundary : (d : ℕ) → d ≡ 98 → short_says d ≡ Some s → says.Assertion Boundary ≡ s
    boundary d e g = same_Some (says.Assertion Boundary) s (ap short_says (sym e) ∙ g)

    go : (b : Bool) → (c == 98) ≡ b → (b && opens_name u) ≡ false → escape_at octal c u ≡ Some (Stated s, u)
    go true is free =
        let e = eqb-true c 98 is in
        ap (λ x. escape_at octal x u) e ∙ rw (and_no octal) (rw free (ap (λ s. Some (Stated s, u)) (boundary c e h)))
    go false is free =
        as_stated octal c u (not_short c 112 s h refl) (not_short c 80 s h refl) (short_not_octal c s h) (rw is refl)
        ∙ stated_again (short c) s u h (rw is refl)

-- `x`, `u` and `U` are read as in the stated grammar
letter_stated : (octal : Bool) (c : ℕ) (t : Characters) → takes_scalar c ≡ true → escape_at octal c t ≡ read_stated (92 ∷ c ∷ t)
letter_stated octal c t h = as_stated octal c t (other_code takes_scalar c 112 refl h) (other_code takes_scalar c 80 refl h)
    (go (is_octal c) refl) (rw (other_code takes_scalar c 98 refl h) refl)
  where
    go : (b : Bool) → is_octal c ≡ b → b ≡ false
    go false e = refl
    go true e =
        let parts = and_parts (nat_le 48 c) (nat_le c 55) e in
        let low = le_true 48 c parts.0 in let high = le_true c 55 parts.1 in
        absurd (true≢false (sym h ∙ not_true (takes_scalar c) (all_up (λ c. not (takes_scalar c)) 8 48 c refl low (omega (arith, high)))))

fixed_letter : (c : ℕ) (ds : Characters) (s : stated_escapes.Escape) → fixed_says c ds ≡ Some s → takes_scalar c ≡ true
fixed_letter c ds s h = go (c == 120) (c == 117) (c == 85) refl refl refl
  where
    go : (x y z : Bool) → (c == 120) ≡ x → (c == 117) ≡ y → (c == 85) ≡ z → ((x || y) || z) ≡ true
    go true y z _ _ _ = refl
    go false true z _ _ _ = refl
    go false false true _ _ _ = refl
    go false false false e f g = absurd (none-some s (sym (rw e (rw f (rw g refl))) ∙ h))

-- the name of a boundary begins with a letter
name_opens : (t v : Characters) (s : stated_escapes.Escape) → boundary_says t ≡ Some s → opens_name (123 ∷ ((t ++ codes "}") ++ v)) ≡ true
name_opens [] v s h = absurd (none-some s h)
name_opens (d ∷ t) v s h = go (d == 115) (d == 101) refl refl
  where
    letter_first : (x : ℕ) → d ≡ x → (is_letter x || (x == 45)) ≡ true → (is_letter d || (d == 45)) ≡ true
    letter_first x e g = ap (λ d. is_letter d || (d == 45)) e ∙ g

    go : (x y : Bool) → (d == 115) ≡ x → (d == 101) ≡ y → (is_letter d || (d == 45)) ≡ true
    go true y e f = letter_first 115 (eqb-true d 115 e) refl
    go false true e f = letter_first 101 (eqb-true d 101 f) refl
    go false false e f = absurd (none-some s (sym (rw e (rw f refl)) ∙ h))

property_again : (octal negated : Bool) (t : Characters) → read_escape octal (92 ∷ property_letter negated ∷ t) ≡ read_property negated t
property_again octal true t = refl
property_again octal false t = refl

if_true : {A : Type 0} (b : Bool) (x y : A) → b ≡ true → (if b then x else y) ≡ x
if_true true x y e = refl
if_true false x y e = absurd (true≢false (sym e))

octal_here : (octal : Bool) (c : ℕ) (t : Characters) → octal ≡ true → is_octal c ≡ true → escape_at octal c t ≡ read_octal (c ∷ t)
octal_here octal c t on is =
    rw (other_code is_octal c 112 refl is) (rw (other_code is_octal c 80 refl is)
    (if_true (octal && is_octal c) (read_octal (c ∷ t)) _ (rw on is)))

abbrev octal_then : Characters → Characters → Found
octal_then t ds = octal_says ds >>= λ s. Some (Stated s, drop (length ds) t)

pub all_again : (octal : Bool) (t : Characters) (e : FullEscape) (u : Characters) → IsEscape octal t e u → read_escape octal t ≡ Some (e, u)
all_again octal _ _ _ (stated (short c) s u h free) = short_again octal c s u h free
all_again octal _ _ _ (stated (fixed c ds) s u h free) = letter_stated octal c (ds ++ u) (fixed_letter c ds s h) ∙ stated_again (fixed c ds) s u h refl
all_again octal _ _ _ (stated (braced c t) s u h free) = go (c == 98) refl h ∙ stated_again (braced c t) s u h refl
  where
    rest : Characters
    rest = 123 ∷ ((t ++ codes "}") ++ u)

    go : (b : Bool) → (c == 98) ≡ b → (if b then boundary_says t else takes_scalar c >> scalar_says t) ≡ Some s → escape_at octal c rest ≡ read_stated (92 ∷ c ∷ rest)
    go false is g = letter_stated octal c rest (guard_parts (takes_scalar c) (scalar_says t) s g).0
    go true is g =
        ap (λ x. escape_at octal x rest) (eqb-true c 98 is)
        ∙ as_stated octal 98 rest refl refl refl (ap not (name_opens t u s g))
        ∙ ap (λ x. read_stated (92 ∷ x ∷ rest)) (sym (eqb-true c 98 is))
all_again octal _ _ _ (digits [] s u on h all most ends) = absurd (none-some s h)
all_again octal _ _ _ (digits (c ∷ ds) s u on h all most ends) =
    octal_here octal c (ds ++ u) on (and_parts (is_octal c) (each is_octal ds) all).0
    ∙ ap (octal_then (c ∷ (ds ++ u))) (octal_again 3 (c ∷ ds) u all most ends)
    ∙ ap (λ o. o >>= λ s. Some (Stated s, drop (length (c ∷ ds)) (c ∷ (ds ++ u)))) h
    ∙ ap (λ x. Some (Stated s, x)) (drop_front (c ∷ ds) u)
all_again octal _ _ _ (letter negated c e u other h) =
    property_again octal negated (c ∷ u) ∙ rw other (ap (λ o. o >>= λ e. Some (e, u)) h)
all_again octal _ _ _ (name negated text e u all h) =
    property_again octal negated (123 ∷ (text ++ 125 ∷ u))
    ∙ ap (λ x. named_then negated x (after_run (is_not 125) (text ++ 125 ∷ u))) (run_ends (is_not 125) text (125 ∷ u) all refl)
    ∙ ap (named_then negated text) (after_ends (is_not 125) text (125 ∷ u) all refl)
    ∙ ap (λ o. o >>= λ e. Some (e, u)) h
