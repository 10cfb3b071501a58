-- What the reader of marks finds is a mark that is written so.
use Rattle.std.proofs.Common.{◌≡◌, ℕ, zero, suc, Bool, true, false, not, ◌&&◌, ◌==◌, ◌<◌, arith, nat_le, List, [], ◌∷◌, ◌++◌, Option, Some, None, length, drop, refl, ap, sym, subst, ◌∙◌, if◌then◌else◌, append_assoc, append-nil, encode_utf8_all, length-append}
use Rattle.std.proofs.lemmas.Bool.{eqb-true}
use Rattle.std.proofs.lemmas.Option.{none-some, same_Some}
use Rattle.rc_tokens.specs.Text.{Characters, ◌>>=◌, ◌>>◌, is_at, is_digit}
use Rattle.rc_tokens.specs.Said.{Said, Stands, Bar, Setting, Opens, Closes, Repeats, Character, Dot, Asserts, Members, Capturing, Named, Flagged}
use Rattle.rc_tokens.specs.Marks.{short, fixed, braced, Amount, any, some, maybe, exactly, from, between, Mark, stands, bar, setting, opens, closes, repeats, character, dot, caret, dollar, escape, brackets, capturing, naming, flagging, Atom, written, written_amount, written_atom, written_atoms, written_escape, written_if, bounds, bounds_of, count, unchanged, change_of, flags_of, is_name, is_list, members_of, sense, said, takes_more, BeginsWithMark}
use Rattle.rc_tokens.specs.Lexer.{run, after_run, is_before, past, repeats_then, second, counts, flags_then, name_then, group, opening, lex_escape, inner, after_inner, lex_member, lex_members, list_inside, list, piece_then, lex}
use Rattle.rc_tokens.specs.declared.tokens.Member.{Member}
use Rattle.rc_tokens.specs.declared.tokens.Assertion.TheVariants.{Caret, Dollar}
use Rattle.rc_tokens.proofs.StepLemmas.{some_parts, guard_parts, and_parts, pair_parts, made_parts, at_splits, run_splits}
use Rattle.rc_tokens.proofs.EscapeLemmas.{escape_sound}
use Rattle.rc_tokens.proofs.MemberLemmas.{member_sound}

moved : (s t : Characters) (k : Said) (u : Characters) → t ≡ s → BeginsWithMark s k u → BeginsWithMark t k u
moved s t k u e (m, says, is, alone) = (m, says, e ∙ is, alone)

as_pair : (t : Characters) (r : Said × Characters) (k : Said) (u : Characters) → BeginsWithMark t r.0 r.1 → Some r ≡ Some (k, u) → BeginsWithMark t k u
as_pair t r k u h e = let same = same_Some r (k, u) e in subst (λ (x : Said × Characters). BeginsWithMark t x.0 x.1) same h

-- ---- operators

repeated : (a : Amount) (min : ℕ) (max : Option ℕ) → ((lazy : Bool) → bounds_of lazy a ≡ Some (bounds lazy min max)) → (t : Characters) →
    BeginsWithMark (written_amount a ++ t) (Repeats (bounds (is_at 63 t) min max)) (past 63 t)
repeated a min max h t = go (is_at 63 t) refl
  where
    go : (b : Bool) → is_at 63 t ≡ b → BeginsWithMark (written_amount a ++ t) (Repeats (bounds b min max)) (if b then drop 1 t else t)
    go true e = (
      repeats (record { amount = a; lazy = true }),
      ap (λ o. o >>= λ b. Some (Repeats b)) (h true),
      ap (λ s. written_amount a ++ s) (at_splits 63 t e) ∙ sym (append_assoc (written_amount a) (63 ∷ []) (drop 1 t)),
      refl,
    )
    go false e = (
      repeats (record { amount = a; lazy = false }),
      ap (λ o. o >>= λ b. Some (Repeats b)) (h false),
      ap (λ s. s ++ t) (sym (append-nil (written_amount a))),
      e,
    )

second_sound : (n : Characters) (min : ℕ) (m t : Characters) (k : Said) (u : Characters) → count n ≡ Some min → second min m t ≡ Some (k, u) →
    BeginsWithMark (123 ∷ (n ++ 44 ∷ (m ++ t))) k u
second_sound n min m t k u hn h =
    let (max, hm, rest) = some_parts (count m) (λ max. (is_at 125 t && nat_le min max) >> Some (repeats_then (drop 1 t) min (Some max))) (k, u) h in
    let (both, found) = guard_parts (is_at 125 t && nat_le min max) (Some (repeats_then (drop 1 t) min (Some max))) (k, u) rest in
    let (closed, ordered) = and_parts (is_at 125 t) (nat_le min max) both in
    as_pair (123 ∷ (n ++ 44 ∷ (m ++ t))) (repeats_then (drop 1 t) min (Some max)) k u
    (moved ((123 ∷ (n ++ 44 ∷ (m ++ 125 ∷ []))) ++ drop 1 t) (123 ∷ (n ++ 44 ∷ (m ++ t))) _ _
    (ap (λ s. 123 ∷ (n ++ 44 ∷ (m ++ s))) (at_splits 125 t closed) ∙ ap (λ s. 123 ∷ (n ++ 44 ∷ s)) (sym (append_assoc m (125 ∷ []) (drop 1 t)))
    ∙ ap (λ s. 123 ∷ s) (sym (append_assoc n (44 ∷ (m ++ 125 ∷ [])) (drop 1 t))))
    (repeated (between n m) min (Some max) (λ lazy. says lazy max hm ordered) (drop 1 t))) found
  where
    says : (lazy : Bool) (max : ℕ) → count m ≡ Some max → nat_le min max ≡ true → bounds_of lazy (between n m) ≡ Some (bounds lazy min (Some max))
    says lazy max hm o = ap (λ x. x >>= λ min. count m >>= λ max. nat_le min max >> Some (bounds lazy min (Some max))) hn
        ∙ ap (λ x. x >>= λ max. nat_le min max >> Some (bounds lazy min (Some max))) hm ∙ ap (λ b. b >> Some (bounds lazy min (Some max))) o

counts_sound : (n t : Characters) (k : Said) (u : Characters) → counts n t ≡ Some (k, u) → BeginsWithMark (123 ∷ (n ++ t)) k u
counts_sound n t k u h =
    let (min, hn, rest) = some_parts (count n) _ (k, u) h in
    go min hn (is_at 125 t) (is_at 44 t) (is_at 125 (drop 1 t)) refl refl refl rest
  where
    go : (min : ℕ) → count n ≡ Some min → (a b d : Bool) → is_at 125 t ≡ a → is_at 44 t ≡ b → is_at 125 (drop 1 t) ≡ d →
        (if a then Some (repeats_then (drop 1 t) min (Some min)) else if not b then None
        else if d then Some (repeats_then (drop 1 (drop 1 t)) min None)
        else second min (run is_digit (drop 1 t)) (after_run is_digit (drop 1 t))) ≡ Some (k, u) → BeginsWithMark (123 ∷ (n ++ t)) k u
    go min hn true b d ea eb ed g = as_pair (123 ∷ (n ++ t)) (repeats_then (drop 1 t) min (Some min)) k u
        (moved ((123 ∷ (n ++ 125 ∷ [])) ++ drop 1 t) (123 ∷ (n ++ t)) _ _
        (ap (λ s. 123 ∷ (n ++ s)) (at_splits 125 t ea) ∙ ap (λ s. 123 ∷ s) (sym (append_assoc n (125 ∷ []) (drop 1 t))))
        (repeated (exactly n) min (Some min) (λ lazy. ap (λ x. x >>= λ min. Some (bounds lazy min (Some min))) hn) (drop 1 t))) g
    go min hn false false d ea eb ed g = absurd (none-some (k, u) g)
    go min hn false true true ea eb ed g = as_pair (123 ∷ (n ++ t)) (repeats_then (drop 1 (drop 1 t)) min None) k u
        (moved ((123 ∷ (n ++ 44 ∷ 125 ∷ [])) ++ drop 1 (drop 1 t)) (123 ∷ (n ++ t)) _ _
        (ap (λ s. 123 ∷ (n ++ s)) (at_splits 44 t eb ∙ ap (λ s. 44 ∷ s) (at_splits 125 (drop 1 t) ed))
        ∙ ap (λ s. 123 ∷ s) (sym (append_assoc n (44 ∷ 125 ∷ []) (drop 1 (drop 1 t)))))
        (repeated (from n) min None (λ lazy. ap (λ x. x >>= λ min. Some (bounds lazy min None)) hn) (drop 1 (drop 1 t)))) g
    go min hn false true false ea eb ed g =
        moved (123 ∷ (n ++ 44 ∷ (run is_digit (drop 1 t) ++ after_run is_digit (drop 1 t)))) (123 ∷ (n ++ t)) k u
        (ap (λ s. 123 ∷ (n ++ s)) (at_splits 44 t eb ∙ ap (λ s. 44 ∷ s) (run_splits is_digit (drop 1 t))))
        (second_sound n min (run is_digit (drop 1 t)) (after_run is_digit (drop 1 t)) k u hn g)

-- ---- openings

abbrev paired : Said → Characters → Option (Said × Characters)
paired k t = Some (k, t)

flags_sound : (f t : Characters) (k : Said) (u : Characters) → flags_then f t ≡ Some (k, u) → BeginsWithMark (40 ∷ 63 ∷ (f ++ t)) k u
flags_sound f t k u h = go (is_at 41 t) (is_at 58 t) refl refl h
  where
    go : (a b : Bool) → is_at 41 t ≡ a → is_at 58 t ≡ b →
        (if a then (flags_of f >>= λ to. paired (Setting to) (drop 1 t)) else if b then (change_of true unchanged f >>= λ to. paired (Opens (Flagged to)) (drop 1 t)) else None)
        ≡ Some (k, u) → BeginsWithMark (40 ∷ 63 ∷ (f ++ t)) k u
    go true b ea eb g =
        let (to, is, same, tail) = made_parts (flags_of f) Setting (drop 1 t) k u g in (
          setting f,
          ap (λ o. o >>= λ to. Some (Setting to)) is ∙ ap Some same,
          ap (λ s. 40 ∷ 63 ∷ s) (ap (λ s. f ++ s) (at_splits 41 t ea ∙ ap (λ s. 41 ∷ s) tail) ∙ sym (append_assoc f (41 ∷ []) u)),
          refl,
        )
    go false true ea eb g =
        let (to, is, same, tail) = made_parts (change_of true unchanged f) (λ to. Opens (Flagged to)) (drop 1 t) k u g in (
          opens (flagging f),
          ap (λ o. (o >>= λ to. Some (Flagged to)) >>= λ s. Some (Opens s)) is ∙ ap Some same,
          ap (λ s. 40 ∷ 63 ∷ s) (ap (λ s. f ++ s) (at_splits 58 t eb ∙ ap (λ s. 58 ∷ s) tail) ∙ sym (append_assoc f (58 ∷ []) u)),
          refl,
        )
    go false false ea eb g = absurd (none-some (k, u) g)

name_parts : (name t : Characters) (k : Said) (u : Characters) → name_then name t ≡ Some (k, u) →
    (is_name name ≡ true) × (Opens (Named (encode_utf8_all name)) ≡ k) × (t ≡ 62 ∷ u)
name_parts name t k u h =
    let (both, found) = guard_parts (is_at 62 t && is_name name) (Some (Opens (Named (encode_utf8_all name)), drop 1 t)) (k, u) h in
    let (closed, ok) = and_parts (is_at 62 t) (is_name name) both in
    let (same, tail) = pair_parts (Opens (Named (encode_utf8_all name))) k (drop 1 t) u found in
    (ok, same, at_splits 62 t closed ∙ ap (λ s. 62 ∷ s) tail)

named : (name : Characters) (k : Said) → is_name name ≡ true → Opens (Named (encode_utf8_all name)) ≡ k →
    (p : Bool) → said (opens (naming p name)) ≡ Some k
named name k ok same p = ap (λ b. (b >> Some (Named (encode_utf8_all name))) >>= λ s. Some (Opens s)) ok ∙ ap Some same

group_sound : (t : Characters) (k : Said) (u : Characters) → group t ≡ Some (k, u) → BeginsWithMark (40 ∷ 63 ∷ t) k u
group_sound t k u h = go (is_at 80 t) (is_at 60 t) refl refl h
  where
    go : (a b : Bool) → is_at 80 t ≡ a → is_at 60 t ≡ b →
        (if a then (is_at 60 (drop 1 t) >> name_then (run (is_before 62 62) (drop 1 (drop 1 t))) (after_run (is_before 62 62) (drop 1 (drop 1 t))))
        else if b then name_then (run (is_before 62 62) (drop 1 t)) (after_run (is_before 62 62) (drop 1 t))
        else flags_then (run (is_before 41 58) t) (after_run (is_before 41 58) t)) ≡ Some (k, u) → BeginsWithMark (40 ∷ 63 ∷ t) k u
    go true b ea eb g =
        let rest : Characters = drop 1 (drop 1 t) in
        let name : Characters = run (is_before 62 62) rest in
        let (at, found) = guard_parts (is_at 60 (drop 1 t)) (name_then name (after_run (is_before 62 62) rest)) (k, u) g in
        let (ok, same, tail) = name_parts name (after_run (is_before 62 62) rest) k u found in (
          opens (naming true name),
          named name k ok same true,
          ap (λ s. 40 ∷ 63 ∷ s) (at_splits 80 t ea ∙ ap (λ s. 80 ∷ s) (at_splits 60 (drop 1 t) at ∙ ap (λ s. 60 ∷ s) (run_splits (is_before 62 62) rest
              ∙ ap (λ s. name ++ s) tail ∙ sym (append_assoc name (62 ∷ []) u)))),
          refl,
        )
    go false true ea eb g =
        let rest : Characters = drop 1 t in
        let name : Characters = run (is_before 62 62) rest in
        let (ok, same, tail) = name_parts name (after_run (is_before 62 62) rest) k u g in (
          opens (naming false name),
          named name k ok same false,
          ap (λ s. 40 ∷ 63 ∷ s) (at_splits 60 t eb ∙ ap (λ s. 60 ∷ s) (run_splits (is_before 62 62) rest
              ∙ ap (λ s. name ++ s) tail ∙ sym (append_assoc name (62 ∷ []) u))),
          refl,
        )
    go false false ea eb g = moved (40 ∷ 63 ∷ (run (is_before 41 58) t ++ after_run (is_before 41 58) t)) (40 ∷ 63 ∷ t) k u
        (ap (λ s. 40 ∷ 63 ∷ s) (run_splits (is_before 41 58) t)) (flags_sound (run (is_before 41 58) t) (after_run (is_before 41 58) t) k u g)

opening_sound : (t : Characters) (k : Said) (u : Characters) → opening t ≡ Some (k, u) → BeginsWithMark (40 ∷ t) k u
opening_sound t k u h = go (is_at 63 t) refl h
  where
    go : (a : Bool) → is_at 63 t ≡ a → (if a then group (drop 1 t) else Some (Opens Capturing, t)) ≡ Some (k, u) → BeginsWithMark (40 ∷ t) k u
    go true e g = moved (40 ∷ 63 ∷ drop 1 t) (40 ∷ t) k u (ap (λ s. 40 ∷ s) (at_splits 63 t e)) (group_sound (drop 1 t) k u g)
    go false e g =
        let (same, tail) = pair_parts (Opens Capturing) k t u g in
        (opens capturing, ap Some same, ap (λ s. 40 ∷ s) tail, ap (is_at 63) (sym tail) ∙ e)

-- ---- lists

past_splits : (d : ℕ) (t : Characters) → t ≡ written_if (is_at d t) d ++ past d t
past_splits d t = go (is_at d t) refl
  where
    go : (b : Bool) → is_at d t ≡ b → t ≡ written_if b d ++ (if b then drop 1 t else t)
    go true e = at_splits d t e
    go false e = refl

inner_splits : (p : Bool) (t : Characters) → t ≡ inner p t ++ after_inner p t
inner_splits true [] = refl
inner_splits false [] = refl
inner_splits true (c ∷ t) = ap (λ s. c ∷ s) (inner_splits false t)
inner_splits false (c ∷ t) = go (c == 93) (inner_splits (c == 92) t)
  where
    go : (b : Bool) → t ≡ inner (c == 92) t ++ after_inner (c == 92) t →
        c ∷ t ≡ (if b then [] else c ∷ inner (c == 92) t) ++ (if b then c ∷ t else after_inner (c == 92) t)
    go true h = refl
    go false h = ap (λ s. c ∷ s) h

members_sound : (n : ℕ) (t : Characters) (ms : List Member) → lex_members n t ≡ Some ms → (xs : List Atom) × (t ≡ written_atoms xs) × (members_of xs ≡ Some ms)
members_sound zero [] ms h = ([], refl, h)
members_sound (suc n) [] ms h = ([], refl, h)
members_sound zero (c ∷ t) ms h = absurd (none-some ms h)
members_sound (suc n) (c ∷ t) ms h =
    let (r, is, next) = some_parts (lex_member (c ∷ t)) (λ r. lex_members n r.1 >>= λ ms. Some (r.0 ∷ ms)) ms h in
    let (more, are, same) = some_parts (lex_members n r.1) (λ ms. Some (r.0 ∷ ms)) ms next in
    let (x, says, text) = member_sound (c ∷ t) r.0 r.1 is in
    let (xs, rest, all) = members_sound n r.1 more are in (
      x ∷ xs,
      text ∙ ap (λ s. written_atom x ++ s) rest,
      ap (λ o. o >>= λ m. members_of xs >>= λ ms. Some (m ∷ ms)) says ∙ ap (λ o. o >>= λ ms. Some (r.0 ∷ ms)) all ∙ same,
    )

inside_sound : (negated bracket : Bool) (t : Characters) (k : Said) (u : Characters) → list_inside negated bracket t ≡ Some (k, u) →
    BeginsWithMark (91 ∷ (written_if negated 94 ++ (written_if bracket 93 ++ t))) k u
inside_sound negated bracket t k u h =
    let text : Characters = inner false t in let rest : Characters = after_inner false t in
    let (both, found) = guard_parts (is_at 93 rest && is_list negated bracket text)
    (lex_members (length text) text >>= λ ms. Some (Stands (Members negated bracket ms), drop 1 rest)) (k, u) h in
    let (closed, ok) = and_parts (is_at 93 rest) (is_list negated bracket text) both in
    let (ms, are, same, tail) = made_parts (lex_members (length text) text) (λ ms. Stands (Members negated bracket ms)) (drop 1 rest) k u found in
    let (xs, is, says) = members_sound (length text) text ms are in
    let front : Characters = written_if bracket 93 in (
      stands (brackets negated bracket xs),
      ap (λ s. (is_list negated bracket s >> (members_of xs >>= λ ms. Some (Members negated bracket ms))) >>= λ s. Some (Stands s)) (sym is)
          ∙ ap (λ b. (b >> (members_of xs >>= λ ms. Some (Members negated bracket ms))) >>= λ s. Some (Stands s)) ok
          ∙ ap (λ o. (o >>= λ ms. Some (Members negated bracket ms)) >>= λ s. Some (Stands s)) says ∙ ap Some same,
      ap (λ s. 91 ∷ s) (ap (λ s. written_if negated 94 ++ s) (ap (λ s. front ++ s) (inner_splits false t
          ∙ ap (λ s. text ++ s) (at_splits 93 rest closed ∙ ap (λ s. 93 ∷ s) tail) ∙ sym (append_assoc text (93 ∷ []) u)
          ∙ ap (λ s. (s ++ 93 ∷ []) ++ u) is) ∙ sym (append_assoc front (written_atoms xs ++ 93 ∷ []) u))
          ∙ sym (append_assoc (written_if negated 94) (front ++ (written_atoms xs ++ 93 ∷ [])) u)),
      refl,
    )

list_sound : (t : Characters) (k : Said) (u : Characters) → list t ≡ Some (k, u) → BeginsWithMark (91 ∷ t) k u
list_sound t k u h = moved (91 ∷ (written_if (is_at 94 t) 94 ++ (written_if (is_at 93 (past 94 t)) 93 ++ past 93 (past 94 t)))) (91 ∷ t) k u
    (ap (λ s. 91 ∷ s) (past_splits 94 t ∙ ap (λ s. written_if (is_at 94 t) 94 ++ s) (past_splits 93 (past 94 t))))
    (inside_sound (is_at 94 t) (is_at 93 (past 94 t)) (past 93 (past 94 t)) k u h)

-- ---- all marks

escape_mark : (t : Characters) (k : Said) (u : Characters) → piece_then (lex_escape t) ≡ Some (k, u) → BeginsWithMark (92 ∷ t) k u
escape_mark t k u h =
    let (r, is, same) = some_parts (lex_escape t) (λ r. Some (Stands (sense r.0), r.1)) (k, u) h in
    let (says, tail) = pair_parts (Stands (sense r.0)) k r.1 u same in
    let (e, tells, text, alone) = escape_sound t r.0 r.1 is in (
      stands (escape e),
      ap (λ o. (o >>= λ s. Some (sense s)) >>= λ s. Some (Stands s)) tells ∙ ap Some says,
      text ∙ ap (λ v. written_escape e ++ v) tail,
      ap (takes_more (stands (escape e))) (sym tail) ∙ alone,
    )

simple : (m : Mark) (s k : Said) (t u : Characters) → said m ≡ Some s → ((v : Characters) → takes_more m v ≡ false) → ◌≡◌ {A = Option (Said × Characters)} (Some (s, t)) (Some (k, u)) → BeginsWithMark (written m ++ t) k u
simple m s k t u h alone e =
    let (says, tail) = pair_parts s k t u e in
    (m, h ∙ ap Some says, ap (λ v. written m ++ v) tail, alone u)

begins_with : (c d : ℕ) (t : Characters) (k : Said) (u : Characters) → (c == d) ≡ true → BeginsWithMark (d ∷ t) k u → BeginsWithMark (c ∷ t) k u
begins_with c d t k u e h = moved (d ∷ t) (c ∷ t) k u (ap (λ x. x ∷ t) (eqb-true c d e)) h

pub lex_sound : (t : Characters) (k : Said) (u : Characters) → lex t ≡ Some (k, u) → BeginsWithMark t k u
lex_sound [] k u h = absurd (none-some (k, u) h)
lex_sound (c ∷ t) k u h =
    go (c == 124) (c == 41) (c == 40) (c == 42) (c == 43) (c == 63) (c == 123) (c == 91) (c == 92) (c == 46) (c == 94) (c == 36)
    refl refl refl refl refl refl refl refl refl refl refl refl h
  where
    go : (b1 b2 b3 b4 b5 b6 b7 b8 b9 b10 b11 b12 : Bool) → (c == 124) ≡ b1 → (c == 41) ≡ b2 → (c == 40) ≡ b3 → (c == 42) ≡ b4 → (c == 43) ≡ b5 →
        (c == 63) ≡ b6 → (c == 123) ≡ b7 → (c == 91) ≡ b8 → (c == 92) ≡ b9 → (c == 46) ≡ b10 → (c == 94) ≡ b11 → (c == 36) ≡ b12 →
        (if b1 then Some (Bar, t) else if b2 then Some (Closes, t) else if b3 then opening t
        else if b4 then Some (repeats_then t 0 None) else if b5 then Some (repeats_then t 1 None) else if b6 then Some (repeats_then t 0 (Some 1))
        else if b7 then counts (run is_digit t) (after_run is_digit t) else if b8 then list t else if b9 then piece_then (lex_escape t)
        else if b10 then Some (Stands Dot, t) else if b11 then Some (Stands (Asserts Caret), t) else if b12 then Some (Stands (Asserts Dollar), t)
        else Some (Stands (Character c), t)) ≡ Some (k, u) → BeginsWithMark (c ∷ t) k u
    go true b2 b3 b4 b5 b6 b7 b8 b9 b10 b11 b12 e1 e2 e3 e4 e5 e6 e7 e8 e9 e10 e11 e12 g =
        begins_with c 124 t k u e1 (simple bar Bar k t u refl (λ v. refl) g)
    go false true b3 b4 b5 b6 b7 b8 b9 b10 b11 b12 e1 e2 e3 e4 e5 e6 e7 e8 e9 e10 e11 e12 g =
        begins_with c 41 t k u e2 (simple closes Closes k t u refl (λ v. refl) g)
    go false false true b4 b5 b6 b7 b8 b9 b10 b11 b12 e1 e2 e3 e4 e5 e6 e7 e8 e9 e10 e11 e12 g =
        begins_with c 40 t k u e3 (opening_sound t k u g)
    go false false false true b5 b6 b7 b8 b9 b10 b11 b12 e1 e2 e3 e4 e5 e6 e7 e8 e9 e10 e11 e12 g =
        begins_with c 42 t k u e4 (as_pair (42 ∷ t) (repeats_then t 0 None) k u (repeated any 0 None (λ lazy. refl) t) g)
    go false false false false true b6 b7 b8 b9 b10 b11 b12 e1 e2 e3 e4 e5 e6 e7 e8 e9 e10 e11 e12 g =
        begins_with c 43 t k u e5 (as_pair (43 ∷ t) (repeats_then t 1 None) k u (repeated some 1 None (λ lazy. refl) t) g)
    go false false false false false true b7 b8 b9 b10 b11 b12 e1 e2 e3 e4 e5 e6 e7 e8 e9 e10 e11 e12 g =
        begins_with c 63 t k u e6 (as_pair (63 ∷ t) (repeats_then t 0 (Some 1)) k u (repeated maybe 0 (Some 1) (λ lazy. refl) t) g)
    go false false false false false false true b8 b9 b10 b11 b12 e1 e2 e3 e4 e5 e6 e7 e8 e9 e10 e11 e12 g =
        begins_with c 123 t k u e7 (moved (123 ∷ (run is_digit t ++ after_run is_digit t)) (123 ∷ t) k u (ap (λ s. 123 ∷ s) (run_splits is_digit t))
        (counts_sound (run is_digit t) (after_run is_digit t) k u g))
    go false false false false false false false true b9 b10 b11 b12 e1 e2 e3 e4 e5 e6 e7 e8 e9 e10 e11 e12 g =
        begins_with c 91 t k u e8 (list_sound t k u g)
    go false false false false false false false false true b10 b11 b12 e1 e2 e3 e4 e5 e6 e7 e8 e9 e10 e11 e12 g =
        begins_with c 92 t k u e9 (escape_mark t k u g)
    go false false false false false false false false false true b11 b12 e1 e2 e3 e4 e5 e6 e7 e8 e9 e10 e11 e12 g =
        begins_with c 46 t k u e10 (simple (stands dot) (Stands Dot) k t u refl (λ v. refl) g)
    go false false false false false false false false false false true b12 e1 e2 e3 e4 e5 e6 e7 e8 e9 e10 e11 e12 g =
        begins_with c 94 t k u e11 (simple (stands caret) (Stands (Asserts Caret)) k t u refl (λ v. refl) g)
    go false false false false false false false false false false false true e1 e2 e3 e4 e5 e6 e7 e8 e9 e10 e11 e12 g =
        begins_with c 36 t k u e12 (simple (stands dollar) (Stands (Asserts Dollar)) k t u refl (λ v. refl) g)
    go false false false false false false false false false false false false e1 e2 e3 e4 e5 e6 e7 e8 e9 e10 e11 e12 g =
        simple (stands (character c)) (Stands (Character c)) k t u plain (λ v. refl) g
      where
        plain : said (stands (character c)) ≡ Some (Stands (Character c))
        plain = rw e9 (rw e10 (rw e5 (rw e4 (rw e6 (rw e3 (rw e2 (rw e1 (rw e8 (rw e7 (rw e11 (rw e12 refl)))))))))))

grows : (f u : Characters) → 0 < length f → length u < length (f ++ u)
grows f u h = let e = length-append f u in omega (arith, e, h)

amount_some : (a : Amount) (q : Characters) → 0 < length (written_amount a ++ q)
amount_some any q = omega arith
amount_some some q = omega arith
amount_some maybe q = omega arith
amount_some (exactly n) q = omega arith
amount_some (from n) q = omega arith
amount_some (between n m) q = omega arith

written_some : (m : Mark) → 0 < length (written m)
written_some (stands (character c)) = omega arith
written_some (stands dot) = omega arith
written_some (stands caret) = omega arith
written_some (stands dollar) = omega arith
written_some (stands (escape (short c))) = omega arith
written_some (stands (escape (fixed c ds))) = omega arith
written_some (stands (escape (braced c t))) = omega arith
written_some (stands (brackets negated bracket xs)) = omega arith
written_some bar = omega arith
written_some (setting f) = omega arith
written_some (opens capturing) = omega arith
written_some (opens (naming true name)) = omega arith
written_some (opens (naming false name)) = omega arith
written_some (opens (flagging f)) = omega arith
written_some closes = omega arith
written_some (repeats o) = amount_some o.amount (written_if o.lazy 63)

pub lex_shorter : (t : Characters) (k : Said) (u : Characters) → lex t ≡ Some (k, u) → length u < length t
lex_shorter t k u h = let (m, _, is, _) = lex_sound t k u h in subst (λ s. length u < length s) (sym is) (grows (written m) u (written_some m))
