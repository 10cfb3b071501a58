-- Tokens and members: how they are written, and where.
use Rattle.std.proofs.Common.{◌≡◌, ◌∙◌, ◌+◌, ◌-◌, ◌<◌, ◌≤◌, ◌==◌, ◌||◌, ◌≢◌, not, ℕ, suc, Bool, true, false, List, [], ◌∷◌, ◌++◌, Some, ap, append-nil, arith, encode_utf8_all, length, length-append, refl, subst, sym, take}
use Rattle.std.proofs.lemmas.Bool.{eqb-true, ne_eqb}
use Rattle.std.proofs.lemmas.Option.{none-some, same_Some, slice_get_within, slice_get-get_or, get_or_from_slice_get}
use Rattle.std.proofs.lemmas.List.{get_or-take, length-take}
use Rattle.rc_tokens.specs.Text.{Characters, ◌>>◌}
use Rattle.rc_tokens.specs.Marks.{Amount, Atom, Escape, Mark, Opening, Operator, Piece, any, some, maybe, exactly, from, between, bar, brackets, capturing, caret, change_of, character, closes, dollar, dot, escape, escape_says, escaped, escaped_member, flagging, is_name, member_of, naming, opens, opening_says, piece_says, plain, plain_member, repeats, said, sense, setting, stands, unchanged, written, written_amount, written_atom, written_escape, written_if, written_piece, flags_of, bounds_of}
use Rattle.rc_tokens.specs.Lexer.{lex}
use Rattle.rc_tokens.specs.Said.{Said, Sense, Stands as Has, Character, Byte, Dot, PerlClass, Asserts, Members, Setting, Opens, Repeats, Named, Flagged}
use Rattle.rc_tokens.specs.declared.tokens.Assertion.{Assertion}
use Rattle.rc_tokens.specs.declared.tokens.Escape as escapes
use Rattle.rc_tokens.specs.declared.tokens.Escape.TheVariants as says
use Rattle.rc_tokens.specs.declared.tokens.Member.{Member}
use Rattle.rc_tokens.specs.declared.tokens.Member.TheVariants as member
use Rattle.rc_tokens.proofs.SoundLemmas.{lex_sound}
use Rattle.rc_tokens.proofs.StepLemmas.{guard_parts, some_parts}
use Rattle.rc_explain.specs.Reading.{IsMember, IsToken}
use Rattle.rc_explain.specs.Shown.{AreAt, Is, IsAtom, IsAssertion, IsNamed, IsSet, IsSuch, Stands}

-- one character stands at a place
pub alike : (t : Characters) (s c d : ℕ) → Stands t s c → Stands t s d → c ≡ d
alike t s c d a b = same_Some c d (sym a ∙ b)

pub at_behind : (cs t : Characters) (c s : ℕ) → AreAt t s cs → AreAt (c ∷ t) (suc s) cs
at_behind [] t c s h = tt
at_behind (d ∷ cs) t c s h = (h.0, at_behind cs t c (suc s) h.1)

at_ahead : (cs t : Characters) (c s : ℕ) → AreAt (c ∷ t) (suc s) cs → AreAt t s cs
at_ahead [] t c s h = tt
at_ahead (d ∷ cs) t c s h = (h.0, at_ahead cs t c (suc s) h.1)

-- a text begins with its beginning
pub at_front : (cs u : Characters) → AreAt (cs ++ u) 0 cs
at_front [] u = tt
at_front (c ∷ cs) u = (refl, at_behind cs (cs ++ u) c 0 (at_front cs u))

-- the first token of a text, by the number of its characters
pub token_at_front : (t : Characters) (k : Said) (u : Characters) (n : ℕ) → lex t ≡ Some (k, u) → n ≡ length t - length u → (n ≤ length t) × IsToken k t 0 n
token_at_front t k u n h is =
    let (m, says, text, alone) = lex_sound t k u h in
    let long = ap length text ∙ length-append (written m) u in (
      omega (arith, is, long),
      record {
        mark = m;
        says = says;
        here = record { here = subst (λ s. AreAt s 0 (written m)) (sym text) (at_front (written m) u); ends = omega (arith, is, long) };
      },
    )

at_narrower : (cs t : Characters) (s n : ℕ) → s + length cs ≤ n → AreAt t s cs → AreAt (take n t) s cs
at_narrower [] t s n fits h = tt
at_narrower (c ∷ cs) t s n fits h =
    let inside = slice_get_within t s c h.0 in
    let long = length-take n t in
    let before : s < n = omega (arith, fits) in (
      slice_get-get_or (take n t) s c (omega (arith, inside, long, before)) ∙ ap Some (get_or-take n t s c before ∙ get_or_from_slice_get t s c c h.0),
      at_narrower cs t (suc s) n (omega (arith, fits)) h.1,
    )

-- the text of a token is that token
pub token_alone : (t : Characters) (k : Said) (n : ℕ) → n ≤ length t → IsToken k t 0 n → IsToken k (take n t) 0 (length (take n t))
token_alone t k n fits h =
    let long = length-take n t in
    let ends = h.here.ends in
    record {
      mark = h.mark;
      says = h.says;
      here = record { here = at_narrower (written h.mark) t 0 n (omega (arith, ends)) h.here.here; ends = omega (arith, long, fits, ends) };
    }

pub at_joined : (x y t : Characters) (s : ℕ) → AreAt t s x → AreAt t (s + length x) y → AreAt t s (x ++ y)
at_joined [] y t s h g = let same : s + 0 ≡ s = omega arith in subst (λ k. AreAt t k y) same g
at_joined (c ∷ x) y t s h g =
    let next : s + suc (length x) ≡ suc s + length x = omega arith in
    (h.0, at_joined x y t (suc s) h.1 (subst (λ k. AreAt t k y) next g))

-- two texts that stand one behind the other
pub is_joined : (x y t : Characters) (s m e : ℕ) → Is x t s m → Is y t m e → Is (x ++ y) t s e
is_joined x y t s m e h g =
    let long = length-append x y in
    let first = h.ends in
    let last = g.ends in
    record { here = at_joined x y t s h.here (subst (λ k. AreAt t k y) first g.here); ends = omega (arith, long, first, last) }

-- ---- tokens that are an escape

-- the token is an escape that says this
pub record IsEscape (m : Mark) (s : Sense) : Type 0 where
  pub escape : Escape
  pub meaning : escapes.Escape
  pub says : escape_says escape ≡ Some meaning
  pub sense : sense meaning ≡ s
  pub written : written m ≡ written_escape escape

first_is : (m : Mark) (t : Characters) (c d : ℕ) (cs : Characters) → written m ≡ c ∷ cs → AreAt t 0 (written m) → Stands t 0 d → c ≡ d
first_is m t c d cs e h g = alike t 0 c d (let at = subst (AreAt t 0) e h in at.0) g

lazily : (o : Operator) (t : Characters) → AreAt t 0 (written (repeats o)) → Stands t 0 92 → ⊥
lazily o t h g = go o.amount h
  where
    go : (a : Amount) → AreAt t 0 (written_amount a ++ written_if o.lazy 63) → ⊥
    go any h = let e = alike t 0 42 92 h.0 g in omega (arith, e)
    go some h = let e = alike t 0 43 92 h.0 g in omega (arith, e)
    go maybe h = let e = alike t 0 63 92 h.0 g in omega (arith, e)
    go (exactly n) h = let e = alike t 0 123 92 h.0 g in omega (arith, e)
    go (from n) h = let e = alike t 0 123 92 h.0 g in omega (arith, e)
    go (between n m) h = let e = alike t 0 123 92 h.0 g in omega (arith, e)

same_sense : (s r : Sense) → Some (Has s) ≡ Some (Has r) → s ≡ r
same_sense s r h = cc

-- a token that begins with a backslash is an escape
pub escape_of : (m : Mark) (s : Sense) (t : Characters) → said m ≡ Some (Has s) → AreAt t 0 (written m) → Stands t 0 92 → IsEscape m s
escape_of (stands (escape e)) s t says h g =
    let (x, is, same) = some_parts (piece_says (escape e)) (λ s. Some (Has s)) (Has s) says in
    let (y, tells, sense) = some_parts (escape_says e) (λ z. Some (sense z)) x is in
    record { escape = e; meaning = y; says = tells; sense = same_Some (Rattle.rc_tokens.specs.Marks.sense y) x sense ∙ same_sense x s same; written = refl }
escape_of (stands (character c)) s t says h g =
    let e = alike t 0 c 92 h.0 g in
    absurd (none-some (Has s) (subst (λ c. said (stands (character c)) ≡ Some (Has s)) e says))
escape_of (stands dot) s t says h g = absurd (let e = alike t 0 46 92 h.0 g in omega (arith, e))
escape_of (stands caret) s t says h g = absurd (let e = alike t 0 94 92 h.0 g in omega (arith, e))
escape_of (stands dollar) s t says h g = absurd (let e = alike t 0 36 92 h.0 g in omega (arith, e))
escape_of (stands (brackets negated bracket xs)) s t says h g = absurd (let e = alike t 0 91 92 h.0 g in omega (arith, e))
escape_of bar s t says h g = absurd (let e = alike t 0 124 92 h.0 g in omega (arith, e))
escape_of (setting f) s t says h g = absurd (let e = alike t 0 40 92 h.0 g in omega (arith, e))
escape_of (opens capturing) s t says h g = absurd (let e = alike t 0 40 92 h.0 g in omega (arith, e))
escape_of (opens (naming true n)) s t says h g = absurd (let e = alike t 0 40 92 h.0 g in omega (arith, e))
escape_of (opens (naming false n)) s t says h g = absurd (let e = alike t 0 40 92 h.0 g in omega (arith, e))
escape_of (opens (flagging f)) s t says h g = absurd (let e = alike t 0 40 92 h.0 g in omega (arith, e))
escape_of closes s t says h g = absurd (let e = alike t 0 41 92 h.0 g in omega (arith, e))
escape_of (repeats o) s t says h g = absurd (lazily o t h g)

-- what an escape says, as a member of a list
abbrev pub Spells : Sense → Member → Type 0
Spells (Character c) m = m ≡ member.Character c
Spells (Byte b) m = m ≡ member.Byte b
Spells Dot m = ⊥
Spells (PerlClass p) m = m ≡ member.Perl p
Spells (Asserts a) m = ⊥
Spells (Members n b ms) m = ⊥

spelled : (x : escapes.Escape) (m : Member) → Spells (sense x) m → escaped_member x ≡ Some m
spelled (says.Character c) m h = ap Some (sym h)
spelled (says.Byte b) m h = ap Some (sym h)
spelled (says.Perl p) m h = ap Some (sym h)
spelled (says.Assertion a) m h = absurd h

-- the atom that an escape is
pub escaped_says : (e : Escape) (x : escapes.Escape) (s : Sense) (m : Member) → escape_says e ≡ Some x → sense x ≡ s → Spells s m → member_of (escaped e) ≡ Some m
escaped_says e x s m says is h = ap (λ o. Rattle.rc_tokens.specs.Text.◌>>=◌ o escaped_member) says ∙ spelled x m (subst (λ s. Spells s m) (sym is) h)

asserted : (x : escapes.Escape) (a : Assertion) → sense x ≡ Asserts a → x ≡ says.Assertion a
asserted (says.Character c) a h = absurd (cc)
asserted (says.Byte b) a h = absurd (cc)
asserted (says.Perl p) a h = absurd (cc)
asserted (says.Assertion b) a h = cc

pub assertion_of : (m : Mark) (a : Assertion) → IsEscape m (Asserts a) → IsAssertion (written m)
assertion_of m a h = record { escape = h.escape; assertion = a; says = h.says ∙ ap Some (asserted h.meaning a h.sense); written = h.written }

-- ---- tokens that stand for a set

differ : (k : Said) (s : Sense) → Some k ≡ Some (Has s) → k ≡ Has s
differ k s h = same_Some k (Has s) h

pub atom_of : (m : Mark) (s : Sense) → said m ≡ Some (Has s) → IsSet s → IsAtom (written m)
atom_of (stands p) s says set =
    let (x, is, same) = some_parts (piece_says p) (λ s. Some (Has s)) (Has s) says in
    record { piece = p; sense = s; says = is ∙ ap Some (same_sense x s same); set = set; written = refl }
atom_of bar s says set = absurd (cc)
atom_of (setting f) s says set = let (to, h, same) = some_parts (flags_of f) (λ to. Some (Setting to)) (Has s) says in absurd (cc)
atom_of (opens o) s says set = let (to, h, same) = some_parts (opening_says o) (λ s. Some (Opens s)) (Has s) says in absurd (cc)
atom_of closes s says set = absurd (cc)
atom_of (repeats o) s says set = let (b, h, same) = some_parts (bounds_of o.lazy o.amount) (λ b. Some (Repeats b)) (Has s) says in absurd (cc)

-- ---- members

-- a plain hyphen is written as one
pub hyphen_written : (a : Atom) → member_of a ≡ Some member.Hyphen → written_atom a ≡ 45 ∷ []
hyphen_written (plain c) h = go (c == 45) refl
  where
    go : (b : Bool) → (c == 45) ≡ b → c ∷ [] ≡ 45 ∷ []
    go true e = ap (λ x. x ∷ []) (eqb-true c 45 e)
    go false e =
        let (free, same) = guard_parts (not (c == 91 || c == 92 || c == 93)) (Some (member.Character c)) member.Hyphen (rw e at h) in
        absurd (cc)
hyphen_written (escaped e) h = let (x, is, same) = some_parts (escape_says e) escaped_member member.Hyphen h in absurd (none x same)
  where
    none : (x : escapes.Escape) → escaped_member x ≡ Some member.Hyphen → ⊥
    none (says.Character c) g = cc
    none (says.Byte b) g = cc
    none (says.Perl p) g = cc
    none (says.Assertion a) g = cc

-- any other character stands for itself, but for `[`, `\` and `]`
pub plain_says : (c : ℕ) → c ≢ 45 → c ≢ 91 → c ≢ 92 → c ≢ 93 → member_of (plain c) ≡ Some (member.Character c)
plain_says c hyphen opener slash closer =
    let a : (c == 45) ≡ false = ne_eqb c 45 hyphen in
    let b : (c == 91) ≡ false = ne_eqb c 91 opener in
    let d : (c == 92) ≡ false = ne_eqb c 92 slash in
    let e : (c == 93) ≡ false = ne_eqb c 93 closer in
    rw a (rw b (rw d (rw e refl)))

-- the member that an escape is
pub member_of_token : (t : Characters) (s : Sense) (m : Member) (n : ℕ) → IsToken (Has s) t 0 n → Stands t 0 92 → Spells s m → IsMember t m n
member_of_token t s m n k slash spells =
    let e = escape_of k.mark s t k.says k.here.here slash in
    record {
      atom = escaped e.escape;
      says = escaped_says e.escape e.meaning s m e.says e.sense spells;
      here = subst (λ w. Is w t 0 n) e.written k.here;
    }

-- the assertion that an escape is
pub assertion_at : (t : Characters) (a : Assertion) (n : ℕ) → IsToken (Has (Asserts a)) t 0 n → Stands t 0 92 → IsSuch IsAssertion t 0 n
assertion_at t a n k slash = record {
  cs = written k.mark;
  such = assertion_of k.mark a (escape_of k.mark (Asserts a) t k.says k.here.here slash);
  here = k.here;
}

-- a member that is one character
pub plain_at : (t : Characters) (c : ℕ) (m : Member) → Stands t 0 c → member_of (plain c) ≡ Some m → IsMember t m 1
plain_at t c m at says = record { atom = plain c; says = says; here = record { here = (at, tt); ends = refl } }

-- ---- whole texts

pub at_whole : (t : Characters) → AreAt t 0 t
at_whole t = subst (λ s. AreAt s 0 t) (append-nil t) (at_front t [])

same_whole : (t cs : Characters) → AreAt t 0 cs → length t ≡ length cs → t ≡ cs
same_whole [] [] h e = refl
same_whole [] (c ∷ cs) h e = absurd (omega (arith, e))
same_whole (d ∷ t) [] h e = absurd (omega (arith, e))
same_whole (d ∷ t) (c ∷ cs) h e =
    let first : d ≡ c = same_Some d c h.0 in
    let rest : t ≡ cs = same_whole t cs (at_ahead cs t d 0 h.1) (omega (arith, e)) in
    cc

-- a text that is a token for a set
pub atom_token : (t : Characters) (s : Sense) → IsToken (Has s) t 0 (length t) → IsSet s → IsAtom t
atom_token t s k set =
    let whole = same_whole t (written k.mark) k.here.here (let ends = k.here.ends in omega (arith, ends)) in
    subst IsAtom (sym whole) (atom_of k.mark s k.says set)

pub whole_atom : (t : Characters) → IsAtom t → IsSuch IsAtom t 0 (length t)
whole_atom t h = record { cs = t; such = h; here = record { here = at_whole t; ends = omega arith } }

-- ---- names

-- the place of the name in an opening
pub record IsNaming (t : Characters) (m : ℕ) : Type 0 where
  pub p : Bool
  pub name : Characters
  pub says : is_name name ≡ true
  pub here : AreAt t 0 (written (opens (naming p name)))
  pub ends : m ≡ length (written (opens (naming p name)))

pub naming_of : (t : Characters) (n : List ℕ) (count : ℕ) → IsToken (Opens (Named n)) t 0 count → IsNaming t count
naming_of t n count k = go k.mark k.says k.here.here k.here.ends
  where
    go : (m : Mark) → said m ≡ Some (Opens (Named n)) → AreAt t 0 (written m) → count ≡ 0 + length (written m) → IsNaming t count
    go (opens (naming p name)) says at ends =
        let (s, h, same) = some_parts (is_name name >> Some (Named (encode_utf8_all name))) (λ s. Some (Opens s)) (Opens (Named n)) says in
        let (ok, rest) = guard_parts (is_name name) (Some (Named (encode_utf8_all name))) s h in
        record { p = p; name = name; says = ok; here = at; ends = omega (arith, ends) }
    go (opens capturing) says at ends = absurd (cc)
    go (opens (flagging f)) says at ends =
        let (s, h, same) = some_parts (opening_says (flagging f)) (λ s. Some (Opens s)) (Opens (Named n)) says in
        let (to, g, is) = some_parts (change_of true unchanged f) (λ to. Some (Flagged to)) s h in absurd (cc)
    go (stands p) says at ends = let (s, h, same) = some_parts (piece_says p) (λ s. Some (Has s)) (Opens (Named n)) says in absurd (cc)
    go bar says at ends = absurd (cc)
    go (setting f) says at ends = let (to, h, same) = some_parts (flags_of f) (λ to. Some (Setting to)) (Opens (Named n)) says in absurd (cc)
    go closes says at ends = absurd (cc)
    go (repeats o) says at ends = let (b, h, same) = some_parts (bounds_of o.lazy o.amount) (λ b. Some (Repeats b)) (Opens (Named n)) says in absurd (cc)

-- one with a `P`
pub name_long : (t : Characters) (n : List ℕ) (count e : ℕ) → Stands t 2 80 → e ≡ count - 1 → IsToken (Opens (Named n)) t 0 count → IsNamed is_name t 4 e
name_long t n count e letter to k = let h = naming_of t n count k in go h.p h.name h.here h.ends h.says
  where
    go : (p : Bool) (name : Characters) → AreAt t 0 (written (opens (naming p name))) → count ≡ length (written (opens (naming p name))) → is_name name ≡ true → IsNamed is_name t 4 e
    go true name at ends says =
        let long = length-append name (62 ∷ []) in
        record { opener = 3; name = name; named = says; here = at.1.1.1; starts = refl; ends = omega (arith, ends, long, to) }
    go false name at ends says = absurd (let same = alike t 2 60 80 at.1.1.0 letter in omega (arith, same))

-- one without
pub name_short : (t : Characters) (n : List ℕ) (count e : ℕ) → (Stands t 2 80 → ⊥) → e ≡ count - 1 → IsToken (Opens (Named n)) t 0 count → IsNamed is_name t 3 e
name_short t n count e none to k = let h = naming_of t n count k in go h.p h.name h.here h.ends h.says
  where
    go : (p : Bool) (name : Characters) → AreAt t 0 (written (opens (naming p name))) → count ≡ length (written (opens (naming p name))) → is_name name ≡ true → IsNamed is_name t 3 e
    go true name at ends says = absurd (none at.1.1.0)
    go false name at ends says =
        let long = length-append name (62 ∷ []) in
        record { opener = 2; name = name; named = says; here = at.1.1; starts = refl; ends = omega (arith, ends, long, to) }
