-- The reader of marks finds exactly the marks.
use Rattle.std.proofs.Common.{◌≡◌, ℕ, Bool, true, false, not, ◌&&◌, ◌||◌, ◌==◌, [], ◌∷◌, ◌++◌, Option, Some, None, drop, encode_utf8_all, refl, ap, sym, subst, ◌∙◌, true≢false, eqb-true, if◌then◌else◌}
use Rattle.std.proofs.lemmas.Option.{none-some}
use Rattle.std.proofs.lemmas.Bool.{and_parts}
use Rattle.rc_tokens.specs.Text.{Characters, ◌>>=◌, ◌>>◌, is_at, is_empty, each}
use Rattle.rc_tokens.specs.Marks.{is_special, bounds}
use Rattle.rc_tokens.specs.Said.{Capturing, Named, Flagged}
use Rattle.rc_tokens.specs.declared.tokens.Assertion.TheVariants.{Caret, Dollar}
use Rattle.rc_tokens.specs.Lexer.{run, after_run, is_before, past}
use Rattle.rc_tokens.proofs.StepLemmas.{some_parts, guard_parts, pair_parts, at_splits, run_splits}
use Rattle.rc_tokens.proofs.ClassLemmas.{if_elim}
use Rattle.rc_full_tokens.specs.Front.{is_not}
use Rattle.rc_full_tokens.specs.Counted.{read_count}
use Rattle.rc_full_tokens.specs.Flags.{flag_changes, no_change}
use Rattle.rc_full_tokens.specs.Names.{is_group_name}
use Rattle.rc_full_tokens.specs.declared.flags.FlagChange.{FlagChange}
use Rattle.rc_full_tokens.proofs.CountLemmas.{each_run, run_ends, after_ends, count_sound, count_again}
use Rattle.rc_full_escapes.specs.Escaped.{read_escape}
use Rattle.rc_full_escapes.specs.declared.escapes.FullEscape.{FullEscape}
use Rattle.rc_full_escapes.proofs.EscapeLemmas.{all_sound, all_again}
use Rattle.rc_full_parser.specs.declared.marks.MarkSettings.{MarkSettings}
use Rattle.rc_full_parser.specs.declared.marks.Piece.{Piece}
use Rattle.rc_full_parser.specs.declared.marks.Piece.TheVariants as piece
use Rattle.rc_full_parser.specs.Marks.{Mark, bar, closes, sets, opens, repeats, brackets, stands, piece_of, IsAmount, any, some, maybe, counted, IsMark, branch, close, setting, capturing, naming, flagging, repeating, bracket, escaped, dot, caret, dollar, character}
use Rattle.rc_full_parser.specs.Marked.{Found, flags_then, name_then, named, group, opening, repeats_then, count_then, escape_then, mark_at, read_mark}

-- ---- each mark that is found is one

made : (s : MarkSettings) (t : Characters) (m : Mark) (v : Characters) (k : Mark) (u : Characters) → IsMark s t m v →
    ◌≡◌ {A = Found} (Some (m, v)) (Some (k, u)) → IsMark s t k u
made s t m v k u is h =
    let (same, tail) = pair_parts m k v u h in subst (λ k. IsMark s t k u) same (subst (λ u. IsMark s t m u) tail is)

pick : (s : MarkSettings) (c d : ℕ) (t : Characters) (a b : Found) (k : Mark) (u : Characters) → (a ≡ Some (k, u) → IsMark s (d ∷ t) k u) →
    ((c == d) ≡ false → b ≡ Some (k, u) → IsMark s (c ∷ t) k u) → (if c == d then a else b) ≡ Some (k, u) → IsMark s (c ∷ t) k u
pick s c d t a b k u f g h = if_elim (λ x. x ≡ Some (k, u) → IsMark s (c ∷ t) k u) (c == d) a b
    (λ e x. subst (λ y. IsMark s (y ∷ t) k u) (sym (eqb-true c d e)) (f x)) (λ e x. g e x) h

not_true : (b : Bool) → not b ≡ true → b ≡ false
not_true true h = absurd (true≢false (sym h))
not_true false h = refl

named_sound : (s : MarkSettings) (p : Bool) (t : Characters) (k : Mark) (u : Characters) → named t ≡ Some (k, u) →
    IsMark s (40 ∷ 63 ∷ (if p then 80 ∷ 60 ∷ t else 60 ∷ t)) k u
named_sound s p t k u h =
    let name = run (is_not 62) t in
    let rest = after_run (is_not 62) t in
    let (both, more) = guard_parts (is_at 62 rest && is_group_name name) (Some (opens (Named (encode_utf8_all name)) None, drop 1 rest)) (k, u) h in
    let (ends, known) = and_parts (is_at 62 rest) (is_group_name name) both in
    subst (λ x. IsMark s (40 ∷ 63 ∷ (if p then 80 ∷ 60 ∷ x else 60 ∷ x)) k u) (sym (run_splits (is_not 62) t ∙ ap (λ x. name ++ x) (at_splits 62 rest ends)))
    (made s _ (opens (Named (encode_utf8_all name)) None) (drop 1 rest) k u (naming p name (drop 1 rest) (each_run (is_not 62) t) known) more)

flags_sound : (s : MarkSettings) (f t : Characters) (k : Mark) (u : Characters) → each (is_before 41 58) f ≡ true → flags_then f t ≡ Some (k, u) →
    IsMark s (40 ∷ 63 ∷ (f ++ t)) k u
flags_sound s f t k u word h =
    if_elim (λ x. x ≡ Some (k, u) → IsMark s (40 ∷ 63 ∷ (f ++ t)) k u) (is_at 41 t)
    (not (is_empty f) >> (flag_changes true no_change f >>= λ to. Some (sets to, drop 1 t)))
    (is_at 58 t >> (flag_changes true no_change f >>= λ to. Some (opens (Flagged to.stated) to.ignore_whitespace, drop 1 t)))
    (λ at x.
    let (full, more) = guard_parts (not (is_empty f)) (flag_changes true no_change f >>= λ to. Some (sets to, drop 1 t)) (k, u) x in
    let (to, changes, same) = some_parts (flag_changes true no_change f) (λ to. Some (sets to, drop 1 t)) (k, u) more in
    subst (λ y. IsMark s (40 ∷ 63 ∷ (f ++ y)) k u) (sym (at_splits 41 t at))
    (made s _ (sets to) (drop 1 t) k u (setting f (drop 1 t) to word (not_true (is_empty f) full) changes) same))
    (λ _ x.
    let (at, more) = guard_parts (is_at 58 t) (flag_changes true no_change f >>= λ to. Some (opens (Flagged to.stated) to.ignore_whitespace, drop 1 t)) (k, u) x in
    let (to, changes, same) = some_parts (flag_changes true no_change f) (λ to. Some (opens (Flagged to.stated) to.ignore_whitespace, drop 1 t)) (k, u) more in
    subst (λ y. IsMark s (40 ∷ 63 ∷ (f ++ y)) k u) (sym (at_splits 58 t at))
    (made s _ (opens (Flagged to.stated) to.ignore_whitespace) (drop 1 t) k u (flagging f (drop 1 t) to word changes) same))
    h

group_sound : (s : MarkSettings) (t : Characters) (k : Mark) (u : Characters) → group t ≡ Some (k, u) → IsMark s (40 ∷ 63 ∷ t) k u
group_sound s t k u h = go (is_at 80 t) (is_at 60 t) refl refl h
  where
    go : (a b : Bool) → is_at 80 t ≡ a → is_at 60 t ≡ b →
        (if a then is_at 60 (drop 1 t) >> named (drop 1 (drop 1 t)) else if b then named (drop 1 t)
        else flags_then (run (is_before 41 58) t) (after_run (is_before 41 58) t)) ≡ Some (k, u) → IsMark s (40 ∷ 63 ∷ t) k u
    go true b p _ h =
        let (at, more) = guard_parts (is_at 60 (drop 1 t)) (named (drop 1 (drop 1 t))) (k, u) h in
        subst (λ x. IsMark s (40 ∷ 63 ∷ x) k u) (sym (at_splits 80 t p ∙ ap (λ x. 80 ∷ x) (at_splits 60 (drop 1 t) at)))
        (named_sound s true (drop 1 (drop 1 t)) k u more)
    go false true _ at h = subst (λ x. IsMark s (40 ∷ 63 ∷ x) k u) (sym (at_splits 60 t at)) (named_sound s false (drop 1 t) k u h)
    go false false _ _ h = subst (λ x. IsMark s (40 ∷ 63 ∷ x) k u) (sym (run_splits (is_before 41 58) t))
        (flags_sound s (run (is_before 41 58) t) (after_run (is_before 41 58) t) k u (each_run (is_before 41 58) t) h)

opening_sound : (s : MarkSettings) (t : Characters) (k : Mark) (u : Characters) → opening t ≡ Some (k, u) → IsMark s (40 ∷ t) k u
opening_sound s t k u h =
    if_elim (λ x. x ≡ Some (k, u) → IsMark s (40 ∷ t) k u) (is_at 63 t) (group (drop 1 t)) (Some (opens Capturing None, t))
    (λ at x. subst (λ y. IsMark s (40 ∷ y) k u) (sym (at_splits 63 t at)) (group_sound s (drop 1 t) k u x))
    (λ other x. made s (40 ∷ t) (opens Capturing None) t k u (capturing t other) x) h

repeats_sound : (s : MarkSettings) (t v : Characters) (min : ℕ) (max : Option ℕ) (k : Mark) (u : Characters) → IsAmount s.empty_min t min max v →
    repeats_then v min max ≡ Some (k, u) → IsMark s t k u
repeats_sound s t v min max k u is h = made s t (repeats (bounds (is_at 63 v) min max)) (past 63 v) k u (repeating t v min max is) h

count_then_sound : (s : MarkSettings) (t : Characters) (k : Mark) (u : Characters) → count_then s t ≡ Some (k, u) → IsMark s (123 ∷ t) k u
count_then_sound s t k u h =
    let (r, found, more) = some_parts (read_count s.empty_min t) (λ r. repeats_then r.1 r.0.0 r.0.1) (k, u) h in
    repeats_sound s (123 ∷ t) r.1 r.0.0 r.0.1 k u (counted t r.1 r.0.0 r.0.1 (count_sound s.empty_min t r.0.0 r.0.1 r.1 found)) more

abbrev as_piece : Characters → Piece → Found
as_piece t k = Some (stands k, t)

escape_then_sound : (s : MarkSettings) (t : Characters) (k : Mark) (u : Characters) → escape_then s t ≡ Some (k, u) → IsMark s t k u
escape_then_sound s t k u h =
    let (r, found, more) = some_parts (read_escape s.octal t) (λ r. piece_of s.unicode r.0 >>= as_piece r.1) (k, u) h in
    let (p, says, same) = some_parts (piece_of s.unicode r.0) (as_piece r.1) (k, u) more in
    made s t (stands p) r.1 k u (escaped t r.1 r.0 p (all_sound s.octal t r.0 r.1 found) says) same

pub mark_sound : (s : MarkSettings) (t : Characters) (k : Mark) (u : Characters) → read_mark s t ≡ Some (k, u) → IsMark s t k u
mark_sound s [] k u h = absurd (none-some (k, u) h)
mark_sound s (c ∷ t) k u h =
    pick s c 124 t _ _ k u (made s (124 ∷ t) bar t k u (branch t)) (λ a.
    pick s c 41 t _ _ k u (made s (41 ∷ t) closes t k u (close t)) (λ b.
    pick s c 40 t _ _ k u (opening_sound s t k u) (λ d.
    pick s c 42 t _ _ k u (repeats_sound s (42 ∷ t) t 0 None k u (any t)) (λ e.
    pick s c 43 t _ _ k u (repeats_sound s (43 ∷ t) t 1 None k u (some t)) (λ f.
    pick s c 63 t _ _ k u (repeats_sound s (63 ∷ t) t 0 (Some 1) k u (maybe t)) (λ g.
    pick s c 123 t _ _ k u (count_then_sound s t k u) (λ i.
    pick s c 91 t _ _ k u (made s (91 ∷ t) brackets t k u (bracket t)) (λ j.
    if_elim (λ x. x ≡ Some (k, u) → IsMark s (c ∷ t) k u) (c == 92) _ _ (λ _ x. escape_then_sound s (c ∷ t) k u x) (λ l.
    pick s c 46 t _ _ k u (made s (46 ∷ t) (stands piece.Dot) t k u (dot t)) (λ m.
    pick s c 94 t _ _ k u (made s (94 ∷ t) (stands (piece.Asserts Caret)) t k u (caret t)) (λ n.
    pick s c 36 t _ _ k u (made s (36 ∷ t) (stands (piece.Asserts Dollar)) t k u (dollar t)) (λ o.
    made s (c ∷ t) (stands (piece.Character c)) t k u (character c t (rw a (rw b (rw d (rw e (rw f (rw g (rw i (rw j (rw l (rw m (rw n (rw o refl)))))))))))))))))))))))))
    h

-- ---- each mark is found

no_flag : (d e : ℕ) (f t : Characters) (to : FlagChange) → flag_changes true no_change f ≡ Some to → ((g : Characters) → flag_changes true no_change (d ∷ g) ≡ None) →
    (e == d) ≡ false → is_at d (f ++ e ∷ t) ≡ false
no_flag d e [] t to h none other = other
no_flag d e (c ∷ f) t to h none other = go (c == d) refl
  where
    go : (b : Bool) → (c == d) ≡ b → b ≡ false
    go false is = refl
    go true is = absurd (none-some to (sym (none f) ∙ ap (λ x. flag_changes true no_change (x ∷ f)) (sym (eqb-true c d is)) ∙ h))

-- the flags stand up to the sign e
flags_front : (e : ℕ) (f t : Characters) (to : FlagChange) → is_before 41 58 e ≡ false → (e == 80) ≡ false → (e == 60) ≡ false → each (is_before 41 58) f ≡ true →
    flag_changes true no_change f ≡ Some to → group (f ++ e ∷ t) ≡ flags_then f (e ∷ t)
flags_front e f t to ends p l word changes =
    rw (no_flag 80 e f t to changes (λ g. refl) p) (rw (no_flag 60 e f t to changes (λ g. refl) l)
    (ap (λ x. flags_then x (after_run (is_before 41 58) (f ++ e ∷ t))) (run_ends (is_before 41 58) f (e ∷ t) word ends)
    ∙ ap (flags_then f) (after_ends (is_before 41 58) f (e ∷ t) word ends)))

named_again : (name t : Characters) → each (is_not 62) name ≡ true → is_group_name name ≡ true →
    named (name ++ 62 ∷ t) ≡ Some (opens (Named (encode_utf8_all name)) None, t)
named_again name t word known =
    ap (λ x. name_then x (after_run (is_not 62) (name ++ 62 ∷ t))) (run_ends (is_not 62) name (62 ∷ t) word refl)
    ∙ ap (name_then name) (after_ends (is_not 62) name (62 ∷ t) word refl) ∙ rw known refl

slash_first : (octal : Bool) (c : ℕ) (t : Characters) (r : FullEscape × Characters) →
    read_escape octal (c ∷ t) ≡ Some r → (c == 92) ≡ true
slash_first octal c t r h = (guard_parts (c == 92) _ r h).0

or_false : (a b : Bool) → (a || b) ≡ false → (a ≡ false) × (b ≡ false)
or_false true b h = absurd (true≢false h)
or_false false b h = (refl, h)

character_again : (s : MarkSettings) (c : ℕ) (t : Characters) → is_special c ≡ false → mark_at s c t ≡ Some (stands (piece.Character c), t)
character_again s c t h =
    let (h1, sign) = or_false (c == 92 || c == 46 || c == 43 || c == 42 || c == 63 || c == 40 || c == 41 || c == 124 || c == 91 || c == 123 || c == 94) (c == 36) h in
    let (h2, hat) = or_false (c == 92 || c == 46 || c == 43 || c == 42 || c == 63 || c == 40 || c == 41 || c == 124 || c == 91 || c == 123) (c == 94) h1 in
    let (h3, brace) = or_false (c == 92 || c == 46 || c == 43 || c == 42 || c == 63 || c == 40 || c == 41 || c == 124 || c == 91) (c == 123) h2 in
    let (h4, square) = or_false (c == 92 || c == 46 || c == 43 || c == 42 || c == 63 || c == 40 || c == 41 || c == 124) (c == 91) h3 in
    let (h5, stroke) = or_false (c == 92 || c == 46 || c == 43 || c == 42 || c == 63 || c == 40 || c == 41) (c == 124) h4 in
    let (h6, end) = or_false (c == 92 || c == 46 || c == 43 || c == 42 || c == 63 || c == 40) (c == 41) h5 in
    let (h7, begin) = or_false (c == 92 || c == 46 || c == 43 || c == 42 || c == 63) (c == 40) h6 in
    let (h8, question) = or_false (c == 92 || c == 46 || c == 43 || c == 42) (c == 63) h7 in
    let (h9, star) = or_false (c == 92 || c == 46 || c == 43) (c == 42) h8 in
    let (h10, plus) = or_false (c == 92 || c == 46) (c == 43) h9 in
    let (slash, point) = or_false (c == 92) (c == 46) h10 in
    rw stroke (rw end (rw begin (rw star (rw plus (rw question (rw brace (rw square (rw slash (rw point (rw hat (rw sign refl)))))))))))

pub mark_again : (s : MarkSettings) (t : Characters) (k : Mark) (u : Characters) → IsMark s t k u → read_mark s t ≡ Some (k, u)
mark_again s _ _ _ (branch t) = refl
mark_again s _ _ _ (close t) = refl
mark_again s _ _ _ (setting f t to word full changes) =
    flags_front 41 f t to refl refl refl word changes ∙ rw full (ap (λ o. o >>= λ to. Some (sets to, t)) changes)
mark_again s _ _ _ (capturing t other) = rw other refl
mark_again s _ _ _ (naming true name t word known) = named_again name t word known
mark_again s _ _ _ (naming false name t word known) = named_again name t word known
mark_again s _ _ _ (flagging f t to word changes) =
    flags_front 58 f t to refl refl refl word changes ∙ ap (λ o. o >>= λ to. Some (opens (Flagged to.stated) to.ignore_whitespace, t)) changes
mark_again s _ _ _ (repeating _ _ _ _ (any t)) = refl
mark_again s _ _ _ (repeating _ _ _ _ (some t)) = refl
mark_again s _ _ _ (repeating _ _ _ _ (maybe t)) = refl
mark_again s _ _ _ (repeating _ _ _ _ (counted t u min max is)) = ap (λ o. o >>= λ r. repeats_then r.1 r.0.0 r.0.1) (count_again s.empty_min t min max u is)
mark_again s _ _ _ (bracket t) = refl
mark_again s _ _ _ (escaped [] u e k is says) = absurd (none-some (e, u) (all_again s.octal [] e u is))
mark_again s _ _ _ (escaped (c ∷ t) u e k is says) =
    let found = all_again s.octal (c ∷ t) e u is in
    let slash = eqb-true c 92 (slash_first s.octal c t (e, u) found) in
    subst (λ y. read_mark s (y ∷ t) ≡ Some (stands k, u)) (sym slash)
    (ap (λ o. o >>= λ r. piece_of s.unicode r.0 >>= as_piece r.1) (subst (λ y. read_escape s.octal (y ∷ t) ≡ Some (e, u)) slash found)
    ∙ ap (λ o. o >>= as_piece u) says)
mark_again s _ _ _ (dot t) = refl
mark_again s _ _ _ (caret t) = refl
mark_again s _ _ _ (dollar t) = refl
mark_again s _ _ _ (character c t ordinary) = character_again s c t ordinary
