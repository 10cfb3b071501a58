-- The members of a list's text, one after another.
use Rattle.std.proofs.Common.{◌≡◌, ℕ, zero, suc, ◌<◌, ◌≤◌, Bool, true, false, ◌==◌, List, [], ◌∷◌, ◌++◌, Option, Some, None, length, refl, ap, sym, subst, ◌∙◌, append_assoc, append-nil, arith, length-append, if◌then◌else◌}
use Rattle.std.proofs.lemmas.List.{nil_from_length}
use Rattle.std.proofs.lemmas.Option.{none-some}
use Rattle.std.proofs.lemmas.Bool.{eqb-true}
use Rattle.rc_tokens.specs.Text.{Characters, ◌>>=◌}
use Rattle.rc_tokens.specs.Marks.{Escape, short, fixed, braced, Atom, plain, escaped, written_escape, written_atom, member_of, escaped_member, plain_member}
use Rattle.rc_tokens.specs.Lexer.{lex_escape, lex_member, lex_members, escaped_then, plain_then}
use Rattle.rc_tokens.specs.declared.tokens.Member.{Member}
use Rattle.rc_tokens.proofs.StepLemmas.{some_parts, made_parts}
use Rattle.rc_tokens.proofs.EscapeLemmas.{escape_sound}

-- t is an atom that is the member m, and then u
abbrev pub IsAtom : Characters → Member → Characters → Type 0
IsAtom t m u = (a : Atom) × (member_of a ≡ Some m) × (t ≡ written_atom a ++ u)

pub member_sound : (t : Characters) (m : Member) (u : Characters) → lex_member t ≡ Some (m, u) → IsAtom t m u
member_sound [] m u h = absurd (none-some (m, u) h)
member_sound (c ∷ t) m u h = go (c == 92) refl h
  where
    go : (b : Bool) → (c == 92) ≡ b → (if b then escaped_then (lex_escape t) else plain_then c t) ≡ Some (m, u) → IsAtom (c ∷ t) m u
    go true e g =
        let (r, is, next) = some_parts (lex_escape t) (λ r. escaped_member r.0 >>= λ m. Some (m, r.1)) (m, u) g in
        let (m', said, same, tail) = made_parts (escaped_member r.0) (λ m. m) r.1 m u next in
        let (x, says, text, _) = escape_sound t r.0 r.1 is in
        (escaped x, ap (λ o. o >>= escaped_member) says ∙ said ∙ ap Some same, ap (λ d. d ∷ t) (eqb-true c 92 e) ∙ text ∙ ap (λ v. written_escape x ++ v) tail)
    go false e g =
        let (m', said, same, tail) = made_parts (plain_member c) (λ m. m) t m u g in
        (plain c, said ∙ ap Some same, ap (λ v. c ∷ v) tail)

written_escape_some : (e : Escape) (u : Characters) → length u < length (written_escape e ++ u)
written_escape_some (short c) u = omega arith
written_escape_some (fixed c ds) u = let h = length-append ds u in omega (arith, h)
written_escape_some (braced c t) u = let h = length-append (t ++ 125 ∷ []) u in omega (arith, h)

written_atom_some : (a : Atom) (u : Characters) → length u < length (written_atom a ++ u)
written_atom_some (plain c) u = omega arith
written_atom_some (escaped e) u = written_escape_some e u

pub member_shorter : (t : Characters) (m : Member) (u : Characters) → lex_member t ≡ Some (m, u) → length u < length t
member_shorter t m u h = let (a, _, is) = member_sound t m u h in subst (λ s. length u < length s) (sym is) (written_atom_some a u)

-- the members so far, and those of the rest
pub record Reading (text : Characters) (done : List Member) (rest : Characters) : Type 0 where
  pub room : ℕ
  pub enough : length rest ≤ room
  pub same : lex_members (length text) text ≡ (lex_members room rest >>= λ ms. Some (done ++ ms))

pub members_start : (text : Characters) → Reading text [] text
members_start text = record { room = length text; enough = omega arith; same = itself (lex_members (length text) text) }
  where
    itself : (o : Option (List Member)) → o ≡ (o >>= λ ms. Some ms)
    itself None = refl
    itself (Some ms) = refl

pub members_end : (text : Characters) (done : List Member) (rest : Characters) → Reading text done rest → length rest ≡ 0 → lex_members (length text) text ≡ Some done
members_end text done rest r h = r.same ∙ ap (λ t. lex_members r.room t >>= λ ms. Some (done ++ ms)) (nil_from_length rest h) ∙ nil r.room
  where
    nil : (n : ℕ) → (lex_members n [] >>= λ ms. Some (done ++ ms)) ≡ Some done
    nil zero = ap Some (append-nil done)
    nil (suc n) = ap Some (append-nil done)

stuck : (n : ℕ) (rest : Characters) → 0 < length rest → lex_member rest ≡ None → lex_members n rest ≡ None
stuck n [] h e = absurd (omega (arith, h))
stuck zero (c ∷ t) h e = refl
stuck (suc n) (c ∷ t) h e = ap (λ o. o >>= λ r. lex_members n r.1 >>= λ ms. Some (r.0 ∷ ms)) e

pub members_stuck : (text : Characters) (done : List Member) (rest : Characters) → Reading text done rest → 0 < length rest → lex_member rest ≡ None →
    lex_members (length text) text ≡ None
members_stuck text done rest r h e = r.same ∙ ap (λ o. o >>= λ ms. Some (done ++ ms)) (stuck r.room rest h e)

one_more : (n : ℕ) (rest : Characters) (m : Member) (u : Characters) → length rest ≤ suc n → lex_member rest ≡ Some (m, u) →
    lex_members (suc n) rest ≡ (lex_members n u >>= λ ms. Some (m ∷ ms))
one_more n [] m u h e = absurd (none-some (m, u) e)
one_more n (c ∷ t) m u h e = ap (λ o. o >>= λ r. lex_members n r.1 >>= λ ms. Some (r.0 ∷ ms)) e

pub members_step : (text : Characters) (done : List Member) (rest : Characters) (m : Member) (u : Characters) → Reading text done rest → lex_member rest ≡ Some (m, u) →
    Reading text (done ++ m ∷ []) u
members_step text done rest m u r e = go r.room r.enough r.same
  where
    shift : (o : Option (List Member)) → ((o >>= λ ms. Some (m ∷ ms)) >>= λ ms. Some (done ++ ms)) ≡ (o >>= λ ms. Some ((done ++ m ∷ []) ++ ms))
    shift None = refl
    shift (Some ms) = ap Some (sym (append_assoc done (m ∷ []) ms))

    go : (n : ℕ) → length rest ≤ n → lex_members (length text) text ≡ (lex_members n rest >>= λ ms. Some (done ++ ms)) → Reading text (done ++ m ∷ []) u
    go zero h s = let less = member_shorter rest m u e in absurd (omega (arith, h, less))
    go (suc n) h s =
        let less = member_shorter rest m u e in
        record { room = n; enough = omega (arith, h, less); same = s ∙ ap (λ o. o >>= λ ms. Some (done ++ ms)) (one_more n rest m u h e) ∙ shift (lex_members n u) }
