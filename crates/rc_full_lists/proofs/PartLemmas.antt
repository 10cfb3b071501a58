-- The reader of parts finds exactly the parts.
use Rattle.std.proofs.Common.{◌≡◌, ℕ, Bool, true, false, not, ◌&&◌, ◌||◌, ◌==◌, nat_le, [], ◌∷◌, ◌++◌, Option, Some, None, is_none, drop, refl, ap, sym, subst, ◌∙◌, true≢false, eqb-true, if◌then◌else◌}
use Rattle.std.proofs.lemmas.Option.{none-some, same_Some}
use Rattle.std.proofs.lemmas.Bool.{and_parts}
use Rattle.rc_tokens.specs.Text.{Characters, ◌>>=◌, ◌>>◌, is_at, each}
use Rattle.rc_tokens.specs.Classes.{code_of}
use Rattle.rc_tokens.specs.Lexer.{run, after_run}
use Rattle.rc_tokens.specs.declared.tokens.Member.TheVariants as member
use Rattle.rc_tokens.proofs.StepLemmas.{some_parts, guard_parts, pair_parts, at_splits, run_splits}
use Rattle.rc_tokens.proofs.ClassLemmas.{le_true, if_elim}
use Rattle.rc_class_sets.proofs.SetLemmas.{le_yes}
use Rattle.rc_class_names.specs.Posix.{posix_named}
use Rattle.rc_class_names.specs.declared.posix.Posix.{Posix}
use Rattle.rc_full_tokens.specs.Front.{is_not}
use Rattle.rc_full_tokens.proofs.GapLemmas.{gaps_end, ends_there}
use Rattle.rc_full_tokens.proofs.CountLemmas.{each_run, run_ends, after_ends}
use Rattle.rc_full_escapes.specs.Escaped.{read_escape}
use Rattle.rc_full_escapes.specs.declared.escapes.FullEscape.{FullEscape}
use Rattle.rc_full_escapes.proofs.EscapeLemmas.{all_sound, all_again}
use Rattle.rc_full_lists.specs.declared.parts.Settings.{Settings}
use Rattle.rc_full_lists.specs.declared.parts.Atom.{Atom}
use Rattle.rc_full_lists.specs.declared.parts.Atom.TheVariants.{Code, Set}
use Rattle.rc_full_lists.specs.declared.parts.Part.{Part}
use Rattle.rc_full_lists.specs.declared.parts.Part.TheVariants as part
use Rattle.rc_full_lists.specs.declared.parts.Operation.{Operation}
use Rattle.rc_full_lists.specs.declared.items.Item.{Item}
use Rattle.rc_full_lists.specs.Parts.{Passes, operator_at, begins_atom, atom_of, posix_item, IsPosix, posix, IsNoPosix, IsAtom, plain, escaped, GoesOn, StandsAlone, IsPart, closes, operates, names, opens, range, single, set}
use Rattle.rc_full_lists.specs.Read.{passed, posix_then, posix_name, read_posix, read_atom, high_at, goes_on, codes, ends_range, ranged, alone, atom_then, bracket_at, plain_at, read_part}

-- ---- gaps

pub passes_there : (x : Bool) (t u : Characters) → Passes x t u → u ≡ passed x t
passes_there true t u h = ends_there t u h
passes_there false t u h = sym h

pub passed_passes : (x : Bool) (t : Characters) → Passes x t (passed x t)
passed_passes true t = gaps_end t
passed_passes false t = refl

not_true : (b : Bool) → not b ≡ true → b ≡ false
not_true true h = absurd (true≢false (sym h))
not_true false h = refl

or_none : (a b : Bool) → a ≡ false → b ≡ false → (a || b) ≡ false
or_none a b e f = rw e f

-- ---- ranges

goes_sound : (s : Settings) (t v : Characters) → goes_on s.verbose t ≡ Some v → GoesOn s t v
goes_sound s t v h =
    let first = passed s.verbose t in
    let (at, more) = guard_parts (is_at 45 first) (high_at (passed s.verbose (drop 1 first))) v h in
    let behind = passed s.verbose (drop 1 first) in
    go first behind at more
  where
    go : (first behind : Characters) → is_at 45 (passed s.verbose t) ≡ true → high_at (passed s.verbose (drop 1 (passed s.verbose t))) ≡ Some v → GoesOn s t v
    go _ _ at more =
        let first = passed s.verbose t in
        let behind = passed s.verbose (drop 1 first) in
        if_elim (λ x. x ≡ Some v → GoesOn s t v) (is_at 93 behind || is_at 45 behind) None (Some behind)
        (λ _ e. absurd (none-some v e))
        (λ high e. record {
          at = drop 1 first;
          sign = subst (λ x. Passes s.verbose t x) (at_splits 45 first at) (passed_passes s.verbose t);
          behind = subst (λ x. Passes s.verbose (drop 1 first) x) (same_Some behind v e) (passed_passes s.verbose (drop 1 first));
          high = subst (λ x. (is_at 93 x || is_at 45 x) ≡ false) (same_Some behind v e) high;
        }) more

goes_again : (s : Settings) (t v : Characters) → GoesOn s t v → goes_on s.verbose t ≡ Some v
goes_again s t v g =
    ap (λ x. is_at 45 x >> high_at (passed s.verbose (drop 1 x))) (sym (passes_there s.verbose t (45 ∷ g.at) g.sign))
    ∙ ap high_at (sym (passes_there s.verbose g.at v g.behind)) ∙ rw g.high refl

stands_sound : (s : Settings) (t : Characters) → goes_on s.verbose t ≡ None → StandsAlone s t
stands_sound s t h v g = none-some v (sym h ∙ goes_again s t v g)

stands_again : (s : Settings) (t : Characters) → StandsAlone s t → goes_on s.verbose t ≡ None
stands_again s t alone = go (goes_on s.verbose t) refl
  where
    go : (o : Option Characters) → goes_on s.verbose t ≡ o → o ≡ None
    go None e = refl
    go (Some v) e = absurd (alone v (goes_sound s t v e))

-- ---- atoms

abbrev as_atom : Characters → Atom → Option (Atom × Characters)
as_atom t a = Some (a, t)

abbrev as_code : Characters → ℕ → Option (Atom × Characters)
as_code t n = Some (Code n, t)

atom_sound : (s : Settings) (t : Characters) (a : Atom) (u : Characters) → read_atom s t ≡ Some (a, u) → IsAtom s t a u
atom_sound s [] a u h = absurd (none-some (a, u) h)
atom_sound s (c ∷ t) a u h = go (c == 92) refl h
  where
    go : (b : Bool) → (c == 92) ≡ b →
        (if b then (read_escape s.octal (c ∷ t) >>= λ r. atom_of s.unicode r.0 >>= as_atom r.1)
        else (code_of s.unicode (member.Character c) >>= as_code t)) ≡ Some (a, u) → IsAtom s (c ∷ t) a u
    go true is h =
        let (r, found, more) = some_parts (read_escape s.octal (c ∷ t)) (λ r. atom_of s.unicode r.0 >>= as_atom r.1) (a, u) h in
        let (b, says, made) = some_parts (atom_of s.unicode r.0) (as_atom r.1) (a, u) more in
        let (same, tail) = pair_parts b a r.1 u made in
        subst (λ u. IsAtom s (c ∷ t) a u) tail (escaped (c ∷ t) r.1 r.0 a (all_sound s.octal (c ∷ t) r.0 r.1 found) (says ∙ ap Some same))
    go false is h =
        let (n, code, made) = some_parts (code_of s.unicode (member.Character c)) (as_code t) (a, u) h in
        let (same, tail) = pair_parts (Code n) a t u made in
        subst (λ a. IsAtom s (c ∷ t) a u) same (subst (λ u. IsAtom s (c ∷ t) (Code n) u) tail (plain c n t is code))

slash_first : (octal : Bool) (c : ℕ) (t : Characters) (e : FullEscape) (u : Characters) → read_escape octal (c ∷ t) ≡ Some (e, u) → (c == 92) ≡ true
slash_first octal c t e u h = (guard_parts (c == 92) _ (e, u) h).0

atom_again : (s : Settings) (t : Characters) (a : Atom) (u : Characters) → IsAtom s t a u → read_atom s t ≡ Some (a, u)
atom_again s _ _ _ (plain c n t other code) = rw other (ap (λ o. o >>= as_code t) code)
atom_again s _ _ _ (escaped [] u e a is says) = absurd (none-some (e, u) (all_again s.octal [] e u is))
atom_again s _ _ _ (escaped (c ∷ t) u e a is says) =
    let found = all_again s.octal (c ∷ t) e u is in
    ap (λ b. if b then (read_escape s.octal (c ∷ t) >>= λ r. atom_of s.unicode r.0 >>= as_atom r.1)
    else (code_of s.unicode (member.Character c) >>= as_code t)) (slash_first s.octal c t e u found)
    ∙ ap (λ o. o >>= λ r. atom_of s.unicode r.0 >>= as_atom r.1) found
    ∙ ap (λ o. o >>= as_atom u) says

-- ---- POSIX classes

then_sound : (negated : Bool) (front t : Characters) (i : Item) (u : Characters) → each (λ c. not (c == 58)) front ≡ true →
    posix_then negated front t ≡ Some (i, u) → IsPosix (91 ∷ 58 ∷ (if negated then 94 ∷ (front ++ t) else front ++ t)) i u
then_sound negated front t i u word h =
    let (closed, more) = guard_parts (is_at 58 t && is_at 93 (drop 1 t)) (posix_named front >>= λ class. Some (posix_item negated class, drop 2 t)) (i, u) h in
    let (colon, bracket) = and_parts (is_at 58 t) (is_at 93 (drop 1 t)) closed in
    let (class, known, made) = some_parts (posix_named front) (λ class. Some (posix_item negated class, drop 2 t)) (i, u) more in
    let (same, tail) = pair_parts (posix_item negated class) i (drop 2 t) u made in
    subst (λ x. IsPosix (91 ∷ 58 ∷ (if negated then 94 ∷ (front ++ x) else front ++ x)) i u)
    (sym (at_splits 58 t colon ∙ ap (λ x. 58 ∷ x) (at_splits 93 (drop 1 t) bracket ∙ ap (λ x. 93 ∷ x) (drop_two t ∙ tail))))
    (subst (λ i. IsPosix (91 ∷ 58 ∷ (if negated then 94 ∷ (front ++ 58 ∷ 93 ∷ u) else front ++ 58 ∷ 93 ∷ u)) i u) same
    (posix negated front u class word known))
  where
    drop_two : (t : Characters) → drop 1 (drop 1 t) ≡ drop 2 t
    drop_two [] = refl
    drop_two (c ∷ []) = refl
    drop_two (c ∷ d ∷ t) = refl

posix_sound : (t : Characters) (i : Item) (u : Characters) → read_posix t ≡ Some (i, u) → IsPosix t i u
posix_sound [] i u h = absurd (none-some (i, u) h)
posix_sound (c ∷ []) i u h = absurd (none-some (i, u) (sym (no (c == 91)) ∙ h))
  where
    no : (b : Bool) → ((b && false) >> posix_name false []) ≡ None
    no true = refl
    no false = refl
posix_sound (c ∷ d ∷ t) i u h =
    let (signs, more) = guard_parts ((c == 91) && (d == 58)) (if is_at 94 t then posix_name true (drop 1 t) else posix_name false t) (i, u) h in
    let (bracket, colon) = and_parts (c == 91) (d == 58) signs in
    subst (λ x. IsPosix (x ∷ d ∷ t) i u) (sym (eqb-true c 91 bracket)) (subst (λ x. IsPosix (91 ∷ x ∷ t) i u) (sym (eqb-true d 58 colon))
    (if_elim (λ x. x ≡ Some (i, u) → IsPosix (91 ∷ 58 ∷ t) i u) (is_at 94 t) (posix_name true (drop 1 t)) (posix_name false t)
    (λ caret h. subst (λ x. IsPosix (91 ∷ 58 ∷ x) i u) (sym (at_splits 94 t caret ∙ ap (λ x. 94 ∷ x) (run_splits (is_not 58) (drop 1 t))))
    (then_sound true (run (is_not 58) (drop 1 t)) (after_run (is_not 58) (drop 1 t)) i u (each_run (is_not 58) (drop 1 t)) h))
    (λ _ h. subst (λ x. IsPosix (91 ∷ 58 ∷ x) i u) (sym (run_splits (is_not 58) t))
    (then_sound false (run (is_not 58) t) (after_run (is_not 58) t) i u (each_run (is_not 58) t) h)) more))

name_again : (negated : Bool) (name u : Characters) (class : Posix) → each (λ c. not (c == 58)) name ≡ true → posix_named name ≡ Some class →
    posix_name negated (name ++ 58 ∷ 93 ∷ u) ≡ Some (posix_item negated class, u)
name_again negated name u class word known =
    ap (λ x. posix_then negated x (after_run (is_not 58) (name ++ 58 ∷ 93 ∷ u))) (run_ends (is_not 58) name (58 ∷ 93 ∷ u) word refl)
    ∙ ap (posix_then negated name) (after_ends (is_not 58) name (58 ∷ 93 ∷ u) word refl)
    ∙ ap (λ o. o >>= λ class. Some (posix_item negated class, u)) known

-- no name begins with `^`
no_caret : (name u : Characters) (class : Posix) → posix_named name ≡ Some class → is_at 94 (name ++ 58 ∷ 93 ∷ u) ≡ false
no_caret [] u class h = refl
no_caret (c ∷ name) u class h = go (c == 94) refl
  where
    go : (b : Bool) → (c == 94) ≡ b → b ≡ false
    go false e = refl
    go true e = absurd (none-some class (ap (λ x. posix_named (x ∷ name)) (sym (eqb-true c 94 e)) ∙ h))

posix_again : (t : Characters) (i : Item) (u : Characters) → IsPosix t i u → read_posix t ≡ Some (i, u)
posix_again _ _ _ (posix true name u class word known) = name_again true name u class word known
posix_again _ _ _ (posix false name u class word known) = rw (no_caret name u class known) (name_again false name u class word known)

-- ---- parts

none_posix : (t : Characters) → read_posix t ≡ None → IsNoPosix t
none_posix t h i u p = none-some (i, u) (sym h ∙ posix_again t i u p)

ranged_sound : (s : Settings) (t : Characters) (c : ℕ) (v : Characters) (p : Part) (u : Characters) → begins_atom t ≡ true → IsAtom s t (Code c) v →
    ranged s c v (goes_on s.verbose v) ≡ Some (p, u) → IsPart s t p u
ranged_sound s t c v p u begins atom h = go (goes_on s.verbose v) refl h
  where
    ends : (b : Characters) → GoesOn s v b → (q : Atom × Characters) → read_atom s b ≡ Some q → ends_range c q ≡ Some (p, u) → IsPart s t p u
    ends b on (Set i, w) read h = absurd (none-some (p, u) h)
    ends b on (Code high, w) read h =
        let (least, made) = guard_parts (nat_le c high) (Some (codes c high, w)) (p, u) h in
        let (same, tail) = pair_parts (codes c high) p w u made in
        subst (λ p. IsPart s t p u) same (subst (λ u. IsPart s t (codes c high) u) tail
        (range t v b w c high begins atom on (atom_sound s b (Code high) w read) (le_true c high least)))

    go : (o : Option Characters) → goes_on s.verbose v ≡ o → ranged s c v o ≡ Some (p, u) → IsPart s t p u
    go None e h =
        let (same, tail) = pair_parts (codes c c) p v u h in
        subst (λ p. IsPart s t p u) same (subst (λ u. IsPart s t (codes c c) u) tail (single t v c begins atom (stands_sound s v e)))
    go (Some b) e h =
        let (q, read, more) = some_parts (read_atom s b) (ends_range c) (p, u) h in
        ends b (goes_sound s v b e) q read more

then_part : (s : Settings) (t : Characters) (q : Atom × Characters) (p : Part) (u : Characters) → begins_atom t ≡ true → IsAtom s t q.0 q.1 →
    atom_then s q ≡ Some (p, u) → IsPart s t p u
then_part s t (Code c, v) p u begins atom h = ranged_sound s t c v p u begins atom h
then_part s t (Set i, v) p u begins atom h = go (goes_on s.verbose v) refl h
  where
    go : (o : Option Characters) → goes_on s.verbose v ≡ o → alone i v o ≡ Some (p, u) → IsPart s t p u
    go None e h =
        let (same, tail) = pair_parts (part.Has i) p v u h in
        subst (λ p. IsPart s t p u) same (subst (λ u. IsPart s t (part.Has i) u) tail (set t v i begins atom (stands_sound s v e)))
    go (Some b) e h = absurd (none-some (p, u) h)

pub part_sound : (s : Settings) (t : Characters) (p : Part) (u : Characters) → read_part s t ≡ Some (p, u) → IsPart s t p u
part_sound s t p u h = go (is_at 93 t) (is_at 91 t) refl refl h
  where
    bracket : (o : Option (Item × Characters)) → is_at 91 t ≡ true → read_posix t ≡ o → bracket_at t o ≡ Some (p, u) → IsPart s t p u
    bracket (Some r) at e h =
        let (same, tail) = pair_parts (part.Has r.0) p r.1 u h in
        subst (λ p. IsPart s t p u) same (subst (λ u. IsPart s t (part.Has r.0) u) tail (names t r.1 r.0 (posix_sound t r.0 r.1 e)))
    bracket None at e h =
        let (same, tail) = pair_parts part.Opens p (drop 1 t) u h in
        let splits = at_splits 91 t at in
        subst (λ p. IsPart s t p u) same (subst (λ u. IsPart s t part.Opens u) tail (subst (λ x. IsPart s x part.Opens (drop 1 t)) (sym splits)
        (opens (drop 1 t) (subst (λ x. IsNoPosix x) splits (none_posix t e)))))

    other : (o : Option Operation) → operator_at t ≡ o → is_at 93 t ≡ false → is_at 91 t ≡ false → plain_at s t o ≡ Some (p, u) → IsPart s t p u
    other (Some o) e _ _ h =
        let (same, tail) = pair_parts (part.Operates o) p (drop 2 t) u h in
        subst (λ p. IsPart s t p u) same (subst (λ u. IsPart s t (part.Operates o) u) tail (operates t o e))
    other None e x y h =
        let (q, read, more) = some_parts (read_atom s t) (atom_then s) (p, u) h in
        then_part s t q p u (rw y (rw x (ap is_none e))) (atom_sound s t q.0 q.1 read) more

    go : (x y : Bool) → is_at 93 t ≡ x → is_at 91 t ≡ y →
        (if x then Some (part.Closes, drop 1 t) else if y then bracket_at t (read_posix t) else plain_at s t (operator_at t)) ≡ Some (p, u) → IsPart s t p u
    go true y at _ h =
        let (same, tail) = pair_parts part.Closes p (drop 1 t) u h in
        subst (λ p. IsPart s t p u) same (subst (λ u. IsPart s t part.Closes u) tail (subst (λ x. IsPart s x part.Closes (drop 1 t)) (sym (at_splits 93 t at)) (closes (drop 1 t))))
    go false true _ at h = bracket (read_posix t) at refl h
    go false false x y h = other (operator_at t) refl x y h

-- a text at which an atom begins is read as one
atom_first : (s : Settings) (t : Characters) (a : Atom) (v : Characters) → begins_atom t ≡ true → IsAtom s t a v → read_part s t ≡ atom_then s (a, v)
atom_first s t a v begins atom =
    let (no_open, more) = and_parts (not (is_at 91 t)) (not (is_at 93 t) && is_none (operator_at t)) begins in
    let (no_close, none) = and_parts (not (is_at 93 t)) (is_none (operator_at t)) more in
    rw (not_true (is_at 93 t) no_close) (rw (not_true (is_at 91 t) no_open)
    (ap (plain_at s t) (no_operator (operator_at t) none) ∙ ap (λ o. o >>= atom_then s) (atom_again s t a v atom)))
  where
    no_operator : (o : Option Operation) → is_none o ≡ true → o ≡ None
    no_operator None h = refl
    no_operator (Some o) h = absurd (true≢false (sym h))

operator_first : (s : Settings) (t : Characters) (o : Operation) → operator_at t ≡ Some o → (is_at 93 t ≡ false) × (is_at 91 t ≡ false)
operator_first s [] o h = absurd (none-some o h)
operator_first s (c ∷ t) o h = (go 93 (λ _. refl), go 91 (λ _. refl))
  where
    go : (d : ℕ) → ((t : Characters) → operator_at (d ∷ t) ≡ None) → (c == d) ≡ false
    go d none = go' (c == d) refl
      where
        go' : (b : Bool) → (c == d) ≡ b → b ≡ false
        go' false e = refl
        go' true e = absurd (none-some o (sym (none t) ∙ ap (λ x. operator_at (x ∷ t)) (sym (eqb-true c d e)) ∙ h))

none_read : (t : Characters) → IsNoPosix t → read_posix t ≡ None
none_read t never = go (read_posix t) refl
  where
    go : (o : Option (Item × Characters)) → read_posix t ≡ o → o ≡ None
    go None e = refl
    go (Some r) e = absurd (never r.0 r.1 (posix_sound t r.0 r.1 e))

pub part_again : (s : Settings) (t : Characters) (p : Part) (u : Characters) → IsPart s t p u → read_part s t ≡ Some (p, u)
part_again s _ _ _ (closes t) = refl
part_again s _ _ _ (operates t o is) =
    let first = operator_first s t o is in
    rw first.0 (rw first.1 (ap (plain_at s t) is))
part_again s _ _ _ (names _ _ _ (posix negated name u class word known)) =
    ap (bracket_at (91 ∷ 58 ∷ (if negated then 94 ∷ (name ++ 58 ∷ 93 ∷ u) else name ++ 58 ∷ 93 ∷ u)))
    (posix_again _ (posix_item negated class) u (posix negated name u class word known))
part_again s _ _ _ (opens t never) = ap (bracket_at (91 ∷ t)) (none_read (91 ∷ t) never)
part_again s _ _ _ (range t a b u low high begins atom on end least) =
    atom_first s t (Code low) a begins atom ∙ ap (ranged s low a) (goes_again s a b on)
    ∙ ap (λ o. o >>= ends_range low) (atom_again s b (Code high) u end) ∙ rw (le_yes low high least) refl
part_again s _ _ _ (single t u c begins atom stands) =
    atom_first s t (Code c) u begins atom ∙ ap (ranged s c u) (stands_again s u stands)
part_again s _ _ _ (set t u i begins atom stands) =
    atom_first s t (Set i) u begins atom ∙ ap (alone i u) (stands_again s u stands)
