-- Marks that both grammars have.
use Rattle.std.proofs.Common.{◌≡◌, ℕ, ◌≤◌, Bool, true, false, not, ◌&&◌, ◌||◌, ◌==◌, nat_le, [], ◌∷◌, ◌++◌, Some, None, refl, ap, sym, subst, ◌∙◌, arith, true≢false, append_assoc, append-nil, encode_utf8_all, if◌then◌else◌}
use Rattle.std.proofs.lemmas.Bool.{eqb-true, false_from_ne_true}
use Rattle.std.proofs.lemmas.Option.{none-some, same_Some}
use Rattle.rc_tokens.specs.Text.{Characters, ◌>>=◌, ◌>>◌, is_at, is_empty, is_letter, is_digit, each}
use Rattle.rc_tokens.specs.Lexer.{after_run, is_before, past}
use Rattle.rc_tokens.specs.Said as said
use Rattle.rc_tokens.specs.Marks as stated
use Rattle.rc_tokens.specs.Marks.{once, letter_change, change_of, unchanged, flags_of, count, bounds, bounds_of, begins_name, goes_on_name, is_name, is_special, is_brace_name, takes_more, written, written_amount, written_if, written_escape, sense, piece_says, escape_says}
use Rattle.rc_tokens.specs.declared.tokens.Change.{Change}
use Rattle.rc_tokens.specs.declared.tokens.Bounds.{Bounds}
use Rattle.rc_tokens.specs.declared.tokens.Escape as plain
use Rattle.rc_tokens.specs.declared.tokens.Escape.TheVariants as says
use Rattle.rc_tokens.specs.declared.tokens.Assertion.TheVariants.{Caret, Dollar}
use Rattle.rc_tokens.proofs.StepLemmas.{some_parts, guard_parts, and_parts, other_code}
use Rattle.rc_tokens.proofs.ClassLemmas.{le_true}
use Rattle.rc_full_tokens.specs.Front.{is_not}
use Rattle.rc_full_tokens.specs.Counts.{IsNumber, exactly, from, between}
use Rattle.rc_full_tokens.specs.Flags.{flag_changes}
use Rattle.rc_full_tokens.specs.Names.{is_group_name}
use Rattle.rc_full_tokens.specs.declared.flags.FlagChange.{FlagChange}
use Rattle.rc_full_tokens.proofs.CountLemmas.{run_ends, after_ends}
use Rattle.rc_full_escapes.specs.Escapes.{takes_name, opens_name}
use Rattle.rc_full_escapes.specs.Escapes as escape
use Rattle.rc_full_escapes.specs.declared.escapes.FullEscape.TheVariants.{Stated}
use Rattle.rc_full_lists.specs.declared.items.Item.TheVariants as item
use Rattle.rc_full_parser.specs.declared.marks.MarkSettings.{MarkSettings}
use Rattle.rc_full_parser.specs.declared.marks.Piece.{Piece}
use Rattle.rc_full_parser.specs.declared.marks.Piece.TheVariants as piece
use Rattle.rc_full_parser.specs.Marks as mark
use Rattle.rc_full_parser.specs.Marks.{Mark, IsAmount, IsMark}
use Rattle.rc_full_parser.specs.Marked.{read_mark, named, name_then}
use Rattle.rc_full_parser.specs.Laws.{is_no_class, keeps_case, is_shared}
use Rattle.rc_full_parser.proofs.MarkLemmas.{mark_again}

not_true : (b : Bool) → not b ≡ true → b ≡ false
not_true true h = absurd (true≢false (sym h))
not_true false h = refl

-- ---- flags

abbrev pub no_x : Change → FlagChange
no_x to = record { stated = to; ignore_whitespace = None }

other_letter : (c d : ℕ) (on : Bool) (to next : Change) → letter_change c on to ≡ Some next → letter_change d on to ≡ None → (c == d) ≡ false
other_letter c d on to next h none = false_from_ne_true (c == d)
    (λ e. none-some next (sym none ∙ ap (λ x. letter_change x on to) (sym (eqb-true c d e)) ∙ h))

letter_keeps : (c : ℕ) (on : Bool) (to next : Change) → (c == 105) ≡ false → letter_change c on to ≡ Some next → next.case_insensitive ≡ to.case_insensitive
letter_keeps c on to next i h = go (c == 105) (c == 109) (c == 115) (c == 82) (c == 85) (c == 117) i h
  where
    go : (a b d e f g : Bool) → a ≡ false →
        (if a then (once on to.case_insensitive >>= λ b. Some (record to { case_insensitive = Some b }))
        else if b then (once on to.multi_line >>= λ b. Some (record to { multi_line = Some b }))
        else if d then (once on to.dot_matches_new_line >>= λ b. Some (record to { dot_matches_new_line = Some b }))
        else if e then (once on to.crlf >>= λ b. Some (record to { crlf = Some b }))
        else if f then (once on to.swap_greed >>= λ b. Some (record to { swap_greed = Some b }))
        else if g then (once on to.unicode >>= λ b. Some (record to { unicode = Some b }))
        else None) ≡ Some next → next.case_insensitive ≡ to.case_insensitive
    go true b d e f g n h = absurd (true≢false n)
    go false true d e f g n h =
        let (x, _, same) = some_parts (once on to.multi_line) _ next h in sym (ap (λ (t : Change). t.case_insensitive) (same_Some _ next same))
    go false false true e f g n h =
        let (x, _, same) = some_parts (once on to.dot_matches_new_line) _ next h in sym (ap (λ (t : Change). t.case_insensitive) (same_Some _ next same))
    go false false false true f g n h =
        let (x, _, same) = some_parts (once on to.crlf) _ next h in sym (ap (λ (t : Change). t.case_insensitive) (same_Some _ next same))
    go false false false false true g n h =
        let (x, _, same) = some_parts (once on to.swap_greed) _ next h in sym (ap (λ (t : Change). t.case_insensitive) (same_Some _ next same))
    go false false false false false true n h =
        let (x, _, same) = some_parts (once on to.unicode) _ next h in sym (ap (λ (t : Change). t.case_insensitive) (same_Some _ next same))
    go false false false false false false n h = absurd (none-some next h)

-- flags of the stated grammar are the same flags here
record Alike (f : Characters) (on : Bool) (to last : Change) : Type 0 where
  changes : flag_changes on (no_x to) f ≡ Some (no_x last)
  word : each (is_before 41 58) f ≡ true
  keeps : keeps_case f ≡ true → last.case_insensitive ≡ to.case_insensitive

flags_alike : (f : Characters) (on : Bool) (to last : Change) → change_of on to f ≡ Some last → Alike f on to last
flags_alike [] on to last h = record {
  changes = ap (λ x. Some (no_x x)) (same_Some to last h);
  word = refl;
  keeps = λ _. sym (ap (λ (t : Change). t.case_insensitive) (same_Some to last h));
}
flags_alike (c ∷ f) on to last h = go (λ on to g. flags_alike f on to last g) (c == 45) refl h
  where
    go : ((on : Bool) (to : Change) → change_of on to f ≡ Some last → Alike f on to last) → (b : Bool) → (c == 45) ≡ b →
        (if b then ((on && not (is_empty f)) >> change_of false to f) else (letter_change c on to >>= λ next. change_of on next f)) ≡ Some last → Alike (c ∷ f) on to last
    go rest true e g =
        let (ok, more) = guard_parts (on && not (is_empty f)) (change_of false to f) last g in
        let a = rest false to more in
        record {
          changes = rw e (rw ok a.changes);
          word = rw (ap (is_before 41 58) (eqb-true c 45 e)) a.word;
          keeps = λ k. a.keeps ((and_parts (not (c == 105)) (keeps_case f) k).1);
        }
    go rest false e g =
        let (next, is, more) = some_parts (letter_change c on to) (λ next. change_of on next f) last g in
        let a = rest on next more in
        record {
          changes = rw e (rw (other_letter c 120 on to next is refl) (rw is a.changes));
          word = rw (other_letter c 41 on to next is refl) (rw (other_letter c 58 on to next is refl) a.word);
          keeps = λ k. let (i, ks) = and_parts (not (c == 105)) (keeps_case f) k in
              a.keeps ks ∙ letter_keeps c on to next (not_true (c == 105) i) is;
        }

set_alike : (f : Characters) (to : Change) → flags_of f ≡ Some to → (is_empty f ≡ false) × Alike f true unchanged to
set_alike [] to h = absurd (none-some to h)
set_alike (c ∷ f) to h = (refl, flags_alike (c ∷ f) true unchanged to h)

-- ---- names

name_char : (c : ℕ) → goes_on_name c ≡ true → is_not 62 c ≡ true
name_char c h = let e = other_code goes_on_name c 62 refl h in rw e refl

name_front : (c : ℕ) → begins_name c ≡ true → is_not 62 c ≡ true
name_front c h = let e = other_code begins_name c 62 refl h in rw e refl

rest_each : (t : Characters) → each goes_on_name t ≡ true → each (is_not 62) t ≡ true
rest_each [] h = refl
rest_each (c ∷ t) h = let (a, b) = and_parts (goes_on_name c) (each goes_on_name t) h in rw (name_char c a) (rest_each t b)

name_each : (t : Characters) → is_name t ≡ true → each (is_not 62) t ≡ true
name_each [] h = absurd (true≢false (sym h))
name_each (c ∷ t) h = let (a, b) = and_parts (begins_name c) (each goes_on_name t) h in rw (name_front c a) (rest_each t b)

-- a name that is read is one of the full grammar
name_known : (name u : Characters) (found : Mark × Characters) → each (is_not 62) name ≡ true → named (name ++ 62 ∷ u) ≡ Some found → is_group_name name ≡ true
name_known name u found word h = go (is_group_name name) refl
  where
    at : named (name ++ 62 ∷ u) ≡ (is_group_name name >> Some (mark.opens (said.Named (encode_utf8_all name)) None, u))
    at = ap (λ x. name_then x (after_run (is_not 62) (name ++ 62 ∷ u))) (run_ends (is_not 62) name (62 ∷ u) word refl)
        ∙ ap (name_then name) (after_ends (is_not 62) name (62 ∷ u) word refl)

    go : (b : Bool) → is_group_name name ≡ b → b ≡ true
    go true e = refl
    go false e = absurd (none-some found (sym (at ∙ rw e refl) ∙ h))

-- ---- escapes

no_digit : (d : ℕ) → (is_letter d || d == 45) ≡ true → is_digit d ≡ false
no_digit d h = false_from_ne_true (is_digit d) (λ e.
    let (low, high) = and_parts (nat_le 48 d) (nat_le d 57) e in
    let l = le_true 48 d low in
    let m = le_true d 57 high in
    go d l m (is_letter d) refl h)
  where
    at_least : (n d : ℕ) → nat_le n d ≡ true → n ≤ d
    at_least n d h = le_true n d h

    letter : (d : ℕ) → d ≤ 57 → is_letter d ≡ true → ⊥
    letter d m h = ors (nat_le 65 d && nat_le d 90) (nat_le 97 d && nat_le d 122) h
        (λ e. let a = at_least 65 d ((and_parts (nat_le 65 d) (nat_le d 90) e).0) in omega (arith, a, m))
        (λ e. let a = at_least 97 d ((and_parts (nat_le 97 d) (nat_le d 122) e).0) in omega (arith, a, m))
      where
        ors : (a b : Bool) → (a || b) ≡ true → (a ≡ true → ⊥) → (b ≡ true → ⊥) → ⊥
        ors true b h f g = f refl
        ors false b h f g = g h

    go : (d : ℕ) → 48 ≤ d → d ≤ 57 → (a : Bool) → is_letter d ≡ a → (a || d == 45) ≡ true → ⊥
    go d l m true e h = letter d m e
    go d l m false e h = let is = eqb-true d 45 h in omega (arith, l, is)

no_name : (b : Bool) (u : Characters) → (b && is_brace_name u) ≡ false → (b && opens_name u) ≡ false
no_name false u h = refl
no_name true [] h = refl
no_name true (c ∷ []) h = refl
no_name true (c ∷ d ∷ u) h = go (c == 123) (is_letter d || d == 45) refl h
  where
    go : (a x : Bool) → (is_letter d || d == 45) ≡ x → (a && not (is_digit d)) ≡ false → (a && x) ≡ false
    go false x e h = refl
    go true false e h = refl
    go true true e h = absurd (true≢false (sym (ap not (no_digit d e)) ∙ h))

takes_none : (e : stated.Escape) (u : Characters) → takes_more (stated.stands (stated.escape e)) u ≡ false → takes_name e u ≡ false
takes_none (stated.short c) u h = no_name (c == 98) u h
takes_none (stated.fixed c ds) u h = refl
takes_none (stated.braced c t) u h = refl

-- ---- repetitions

number : (n : Characters) (k : ℕ) → count n ≡ Some k → IsNumber n k
number n k h = record { front = []; digits = n; behind = []; written = sym (append-nil n); blank_front = refl; value = h; blank_behind = refl }

amount : (e lazy : Bool) (a : stated.Amount) (u : Characters) (b : Bounds) → bounds_of lazy a ≡ Some b →
    IsAmount e (written_amount a ++ u) b.min b.max u × (b.lazy ≡ lazy)
amount e lazy stated.any u b h = subst (λ (b : Bounds). IsAmount e (42 ∷ u) b.min b.max u × (b.lazy ≡ lazy)) (same_Some _ b h) (mark.any u, refl)
amount e lazy stated.some u b h = subst (λ (b : Bounds). IsAmount e (43 ∷ u) b.min b.max u × (b.lazy ≡ lazy)) (same_Some _ b h) (mark.some u, refl)
amount e lazy stated.maybe u b h = subst (λ (b : Bounds). IsAmount e (63 ∷ u) b.min b.max u × (b.lazy ≡ lazy)) (same_Some _ b h) (mark.maybe u, refl)
amount e lazy (stated.exactly n) u b h =
    let (k, is, same) = some_parts (count n) (λ min. Some (bounds lazy min (Some min))) b h in
    subst (λ t. IsAmount e (123 ∷ t) b.min b.max u × (b.lazy ≡ lazy)) (sym (append_assoc n (125 ∷ []) u))
    (subst (λ (b : Bounds). IsAmount e (123 ∷ (n ++ 125 ∷ u)) b.min b.max u × (b.lazy ≡ lazy)) (same_Some _ b same)
    (mark.counted (n ++ 125 ∷ u) u k (Some k) (exactly n u k (number n k is)), refl))
amount e lazy (stated.from n) u b h =
    let (k, is, same) = some_parts (count n) (λ min. Some (bounds lazy min None)) b h in
    subst (λ t. IsAmount e (123 ∷ t) b.min b.max u × (b.lazy ≡ lazy)) (sym (append_assoc n (44 ∷ 125 ∷ []) u))
    (subst (λ (b : Bounds). IsAmount e (123 ∷ (n ++ 44 ∷ 125 ∷ u)) b.min b.max u × (b.lazy ≡ lazy)) (same_Some _ b same)
    (mark.counted (n ++ 44 ∷ 125 ∷ u) u k None (from n u k (number n k is)), refl))
amount e lazy (stated.between n m) u b h =
    let (k, is, next) = some_parts (count n) _ b h in
    let (j, are, rest) = some_parts (count m) _ b next in
    let (least, same) = guard_parts (nat_le k j) _ b rest in
    subst (λ t. IsAmount e (123 ∷ t) b.min b.max u × (b.lazy ≡ lazy))
    (sym (append_assoc n (44 ∷ (m ++ 125 ∷ [])) u ∙ ap (λ t. n ++ 44 ∷ t) (append_assoc m (125 ∷ []) u)))
    (subst (λ (b : Bounds). IsAmount e (123 ∷ (n ++ 44 ∷ (m ++ 125 ∷ u))) b.min b.max u × (b.lazy ≡ lazy)) (same_Some _ b same)
    (mark.counted (n ++ 44 ∷ (m ++ 125 ∷ u)) u k (Some j) (between n m u k j (number n k is) (number m j are) (le_true k j least)), refl))

lazy_sign : (lazy : Bool) (u : Characters) → (not lazy && is_at 63 u) ≡ false → (is_at 63 (written_if lazy 63 ++ u) ≡ lazy) × (past 63 (written_if lazy 63 ++ u) ≡ u)
lazy_sign true u h = (refl, refl)
lazy_sign false u h = (h, rw h refl)

-- ---- marks

abbrev as_piece : plain.Escape → Piece
as_piece (says.Character c) = piece.Character c
as_piece (says.Byte b) = piece.Byte b
as_piece (says.Perl p) = piece.Set (item.Perl p)
as_piece (says.Assertion a) = piece.Asserts a

-- the mark that says the same
abbrev pub as_mark : said.Said → Mark
as_mark (said.Stands (said.Character c)) = mark.stands (piece.Character c)
as_mark (said.Stands (said.Byte b)) = mark.stands (piece.Byte b)
as_mark (said.Stands said.Dot) = mark.stands piece.Dot
as_mark (said.Stands (said.PerlClass p)) = mark.stands (piece.Set (item.Perl p))
as_mark (said.Stands (said.Asserts a)) = mark.stands (piece.Asserts a)
as_mark (said.Stands (said.Members negated bracket ms)) = mark.brackets
as_mark said.Bar = mark.bar
as_mark (said.Setting to) = mark.sets (no_x to)
as_mark (said.Opens k) = mark.opens k None
as_mark said.Closes = mark.closes
as_mark (said.Repeats b) = mark.repeats b

-- the mark is no list
abbrev pub IsSingle : stated.Mark → Type 0
IsSingle (stated.stands (stated.character c)) = Unit {0}
IsSingle (stated.stands stated.dot) = Unit {0}
IsSingle (stated.stands stated.caret) = Unit {0}
IsSingle (stated.stands stated.dollar) = Unit {0}
IsSingle (stated.stands (stated.escape e)) = Unit {0}
IsSingle (stated.stands (stated.brackets negated bracket xs)) = ⊥
IsSingle stated.bar = Unit {0}
IsSingle (stated.setting f) = Unit {0}
IsSingle (stated.opens o) = Unit {0}
IsSingle stated.closes = Unit {0}
IsSingle (stated.repeats o) = Unit {0}

abbrev IsAs : MarkSettings → Characters → said.Said → Characters → Type 0
IsAs ms t k u = IsMark ms t (as_mark k) u

becomes : (ms : MarkSettings) (t u : Characters) (j k : said.Said) → Some j ≡ Some k → IsAs ms t j u → IsAs ms t k u
becomes ms t u j k e is = subst (λ x. IsAs ms t x u) (same_Some j k e) is

escape_piece : (ms : MarkSettings) (t u : Characters) (s : plain.Escape) → escape.IsEscape ms.octal t (Stated s) u → IsAs ms t (said.Stands (sense s)) u
escape_piece ms t u (says.Character c) is = mark.escaped t u (Stated (says.Character c)) (piece.Character c) is refl
escape_piece ms t u (says.Byte b) is = mark.escaped t u (Stated (says.Byte b)) (piece.Byte b) is refl
escape_piece ms t u (says.Perl p) is = mark.escaped t u (Stated (says.Perl p)) (piece.Set (item.Perl p)) is refl
escape_piece ms t u (says.Assertion a) is = mark.escaped t u (Stated (says.Assertion a)) (piece.Asserts a) is refl

piece_as : (ms : MarkSettings) (p : stated.Piece) (k : said.Said) (u : Characters) → IsSingle (stated.stands p) → stated.said (stated.stands p) ≡ Some k →
    takes_more (stated.stands p) u ≡ false → IsAs ms (written (stated.stands p) ++ u) k u
piece_as ms (stated.character c) k u shared h alone =
    let (x, is, same) = some_parts (piece_says (stated.character c)) (λ s. Some (said.Stands s)) k h in
    let (ordinary, e) = guard_parts (not (is_special c)) (Some (said.Character c)) x is in
    becomes ms (c ∷ u) u (said.Stands (said.Character c)) k (ap (λ s. Some (said.Stands s)) (same_Some (said.Character c) x e) ∙ same)
    (mark.character c u (not_true (is_special c) ordinary))
piece_as ms stated.dot k u shared h alone = becomes ms (46 ∷ u) u (said.Stands said.Dot) k h (mark.dot u)
piece_as ms stated.caret k u shared h alone = becomes ms (94 ∷ u) u (said.Stands (said.Asserts Caret)) k h (mark.caret u)
piece_as ms stated.dollar k u shared h alone = becomes ms (36 ∷ u) u (said.Stands (said.Asserts Dollar)) k h (mark.dollar u)
piece_as ms (stated.escape e) k u shared h alone =
    let (x, is, same) = some_parts (piece_says (stated.escape e)) (λ s. Some (said.Stands s)) k h in
    let (s, meant, there) = some_parts (escape_says e) (λ s. Some (sense s)) x is in
    becomes ms (written_escape e ++ u) u (said.Stands (sense s)) k (ap (λ s. Some (said.Stands s)) (same_Some (sense s) x there) ∙ same)
    (escape_piece ms (written_escape e ++ u) u s (escape.stated e s u meant (takes_none e u alone)))
piece_as ms (stated.brackets negated bracket xs) k u single h alone = absurd single

-- the name of the mark, if it has one, is one of the full grammar
abbrev NameKnown : stated.Mark → Type 0
NameKnown (stated.opens (stated.naming p name)) = is_group_name name ≡ true
NameKnown (stated.opens stated.capturing) = Unit {0}
NameKnown (stated.opens (stated.flagging f)) = Unit {0}
NameKnown (stated.stands p) = Unit {0}
NameKnown stated.bar = Unit {0}
NameKnown (stated.setting f) = Unit {0}
NameKnown stated.closes = Unit {0}
NameKnown (stated.repeats o) = Unit {0}

known : (ms : MarkSettings) (m : stated.Mark) (k : said.Said) (u : Characters) (found : Mark × Characters) → stated.said m ≡ Some k →
    read_mark ms (written m ++ u) ≡ Some found → NameKnown m
known ms (stated.opens (stated.naming true name)) k u found h r =
    let (x, is, _) = some_parts (stated.opening_says (stated.naming true name)) (λ s. Some (said.Opens s)) k h in
    let (fine, _) = guard_parts (is_name name) (Some (said.Named (encode_utf8_all name))) x is in
    name_known name u found (name_each name fine) (sym (ap named (append_assoc name (62 ∷ []) u)) ∙ r)
known ms (stated.opens (stated.naming false name)) k u found h r =
    let (x, is, _) = some_parts (stated.opening_says (stated.naming false name)) (λ s. Some (said.Opens s)) k h in
    let (fine, _) = guard_parts (is_name name) (Some (said.Named (encode_utf8_all name))) x is in
    name_known name u found (name_each name fine) (sym (ap named (append_assoc name (62 ∷ []) u)) ∙ r)
known ms (stated.opens stated.capturing) k u found h r = tt
known ms (stated.opens (stated.flagging f)) k u found h r = tt
known ms (stated.stands p) k u found h r = tt
known ms stated.bar k u found h r = tt
known ms (stated.setting f) k u found h r = tt
known ms stated.closes k u found h r = tt
known ms (stated.repeats o) k u found h r = tt

is_as : (ms : MarkSettings) (m : stated.Mark) (k : said.Said) (u : Characters) → IsSingle m → NameKnown m → stated.said m ≡ Some k → takes_more m u ≡ false →
    IsAs ms (written m ++ u) k u
is_as ms (stated.stands p) k u shared name h alone = piece_as ms p k u shared h alone
is_as ms stated.bar k u shared name h alone = becomes ms (124 ∷ u) u said.Bar k h (mark.branch u)
is_as ms (stated.setting f) k u shared name h alone =
    let (to, is, same) = some_parts (flags_of f) (λ to. Some (said.Setting to)) k h in
    let (full, a) = set_alike f to is in
    subst (λ t. IsAs ms (40 ∷ 63 ∷ t) k u) (sym (append_assoc f (41 ∷ []) u))
    (becomes ms (40 ∷ 63 ∷ (f ++ 41 ∷ u)) u (said.Setting to) k same (mark.setting f u (no_x to) a.word full a.changes))
is_as ms (stated.opens stated.capturing) k u shared name h alone = becomes ms (40 ∷ u) u (said.Opens said.Capturing) k h (mark.capturing u alone)
is_as ms (stated.opens (stated.naming true text)) k u shared name h alone =
    let (x, is, same) = some_parts (stated.opening_says (stated.naming true text)) (λ s. Some (said.Opens s)) k h in
    let (fine, e) = guard_parts (is_name text) (Some (said.Named (encode_utf8_all text))) x is in
    subst (λ t. IsAs ms (40 ∷ 63 ∷ 80 ∷ 60 ∷ t) k u) (sym (append_assoc text (62 ∷ []) u))
    (becomes ms (40 ∷ 63 ∷ 80 ∷ 60 ∷ (text ++ 62 ∷ u)) u (said.Opens (said.Named (encode_utf8_all text))) k
    (ap (λ s. Some (said.Opens s)) (same_Some _ x e) ∙ same) (mark.naming true text u (name_each text fine) name))
is_as ms (stated.opens (stated.naming false text)) k u shared name h alone =
    let (x, is, same) = some_parts (stated.opening_says (stated.naming false text)) (λ s. Some (said.Opens s)) k h in
    let (fine, e) = guard_parts (is_name text) (Some (said.Named (encode_utf8_all text))) x is in
    subst (λ t. IsAs ms (40 ∷ 63 ∷ 60 ∷ t) k u) (sym (append_assoc text (62 ∷ []) u))
    (becomes ms (40 ∷ 63 ∷ 60 ∷ (text ++ 62 ∷ u)) u (said.Opens (said.Named (encode_utf8_all text))) k
    (ap (λ s. Some (said.Opens s)) (same_Some _ x e) ∙ same) (mark.naming false text u (name_each text fine) name))
is_as ms (stated.opens (stated.flagging f)) k u shared name h alone =
    let (x, is, same) = some_parts (stated.opening_says (stated.flagging f)) (λ s. Some (said.Opens s)) k h in
    let (to, changes, e) = some_parts (change_of true unchanged f) (λ to. Some (said.Flagged to)) x is in
    let a = flags_alike f true unchanged to changes in
    subst (λ t. IsAs ms (40 ∷ 63 ∷ t) k u) (sym (append_assoc f (58 ∷ []) u))
    (becomes ms (40 ∷ 63 ∷ (f ++ 58 ∷ u)) u (said.Opens (said.Flagged to)) k (ap (λ s. Some (said.Opens s)) (same_Some _ x e) ∙ same)
    (mark.flagging f u (no_x to) a.word a.changes))
is_as ms stated.closes k u shared name h alone = becomes ms (41 ∷ u) u said.Closes k h (mark.close u)
is_as ms (stated.repeats o) k u shared name h alone =
    let (b, is, same) = some_parts (bounds_of o.lazy o.amount) (λ b. Some (said.Repeats b)) k h in
    let v = written_if o.lazy 63 ++ u in
    let (is_amount, lazy) = amount ms.empty_min o.lazy o.amount v b is in
    let (sign, rest) = lazy_sign o.lazy u alone in
    subst (λ t. IsAs ms t k u) (sym (append_assoc (written_amount o.amount) (written_if o.lazy 63) u))
    (becomes ms (written_amount o.amount ++ v) u (said.Repeats b) k same
    (subst (λ x. IsMark ms (written_amount o.amount ++ v) (mark.repeats (bounds x b.min b.max)) u) (sign ∙ sym lazy)
    (subst (λ x. IsMark ms (written_amount o.amount ++ v) (mark.repeats (bounds (is_at 63 v) b.min b.max)) x) rest
    (mark.repeating (written_amount o.amount ++ v) v b.min b.max is_amount))))

-- what the full grammar finds where a mark of both begins
pub found_alike : (ms : MarkSettings) (m : stated.Mark) (k : said.Said) (u : Characters) (found : Mark × Characters) → IsSingle m → stated.said m ≡ Some k →
    takes_more m u ≡ false → read_mark ms (written m ++ u) ≡ Some found → (as_mark k, u) ≡ found
found_alike ms m k u found shared h alone r =
    same_Some (as_mark k, u) found (sym (mark_again ms (written m ++ u) (as_mark k) u (is_as ms m k u shared (known ms m k u found h r) h alone)) ∙ r)

-- ---- what is said of the flag i

-- neither a class nor a flag i
abbrev pub IsSame : said.Said → Type 0
IsSame (said.Stands (said.PerlClass p)) = ⊥
IsSame (said.Stands (said.Members negated bracket ms)) = ⊥
IsSame (said.Stands (said.Character c)) = Unit {0}
IsSame (said.Stands (said.Byte b)) = Unit {0}
IsSame (said.Stands said.Dot) = Unit {0}
IsSame (said.Stands (said.Asserts a)) = Unit {0}
IsSame (said.Setting to) = to.case_insensitive ≡ None
IsSame (said.Opens (said.Flagged to)) = to.case_insensitive ≡ None
IsSame (said.Opens said.Capturing) = Unit {0}
IsSame (said.Opens (said.Named name)) = Unit {0}
IsSame said.Bar = Unit {0}
IsSame said.Closes = Unit {0}
IsSame (said.Repeats b) = Unit {0}

same_sense : (s : plain.Escape) → is_no_class (Some s) ≡ true → IsSame (said.Stands (sense s))
same_sense (says.Character c) h = tt
same_sense (says.Byte b) h = tt
same_sense (says.Perl p) h = absurd (true≢false (sym h))
same_sense (says.Assertion a) h = tt

pub said_same : (m : stated.Mark) (k : said.Said) → IsSingle m → is_shared m ≡ true → stated.said m ≡ Some k → IsSame k
said_same (stated.stands (stated.character c)) k single shared h =
    let (x, is, same) = some_parts (piece_says (stated.character c)) (λ s. Some (said.Stands s)) k h in
    let (_, e) = guard_parts (not (is_special c)) (Some (said.Character c)) x is in
    subst IsSame (same_Some (said.Stands (said.Character c)) k (ap (λ s. Some (said.Stands s)) (same_Some (said.Character c) x e) ∙ same)) tt
said_same (stated.stands stated.dot) k single shared h = subst IsSame (same_Some _ k h) tt
said_same (stated.stands stated.caret) k single shared h = subst IsSame (same_Some _ k h) tt
said_same (stated.stands stated.dollar) k single shared h = subst IsSame (same_Some _ k h) tt
said_same (stated.stands (stated.escape e)) k single shared h =
    let (x, is, same) = some_parts (piece_says (stated.escape e)) (λ s. Some (said.Stands s)) k h in
    let (s, meant, there) = some_parts (escape_says e) (λ s. Some (sense s)) x is in
    subst IsSame (same_Some (said.Stands (sense s)) k (ap (λ s. Some (said.Stands s)) (same_Some (sense s) x there) ∙ same))
    (same_sense s (subst (λ o. is_no_class o ≡ true) meant shared))
said_same (stated.stands (stated.brackets negated bracket xs)) k single shared h = absurd single
said_same stated.bar k single shared h = subst IsSame (same_Some _ k h) tt
said_same (stated.setting f) k single shared h =
    let (to, is, same) = some_parts (flags_of f) (λ to. Some (said.Setting to)) k h in
    let (_, a) = set_alike f to is in
    subst IsSame (same_Some (said.Setting to) k same) (a.keeps shared)
said_same (stated.opens stated.capturing) k single shared h = subst IsSame (same_Some _ k h) tt
said_same (stated.opens (stated.naming p name)) k single shared h =
    let (x, is, same) = some_parts (stated.opening_says (stated.naming p name)) (λ s. Some (said.Opens s)) k h in
    let (_, e) = guard_parts (is_name name) (Some (said.Named (encode_utf8_all name))) x is in
    subst IsSame (same_Some (said.Opens (said.Named (encode_utf8_all name))) k (ap (λ s. Some (said.Opens s)) (same_Some _ x e) ∙ same)) tt
said_same (stated.opens (stated.flagging f)) k single shared h =
    let (x, is, same) = some_parts (stated.opening_says (stated.flagging f)) (λ s. Some (said.Opens s)) k h in
    let (to, changes, e) = some_parts (change_of true unchanged f) (λ to. Some (said.Flagged to)) x is in
    subst IsSame (same_Some (said.Opens (said.Flagged to)) k (ap (λ s. Some (said.Opens s)) (same_Some _ x e) ∙ same))
    ((flags_alike f true unchanged to changes).keeps shared)
said_same stated.closes k single shared h = subst IsSame (same_Some _ k h) tt
said_same (stated.repeats o) k single shared h =
    let (b, is, same) = some_parts (bounds_of o.lazy o.amount) (λ b. Some (said.Repeats b)) k h in subst IsSame (same_Some (said.Repeats b) k same) tt

-- the flag i is neither set nor cleared
abbrev pub KeepsCase : said.Said → Type 0
KeepsCase (said.Stands k) = Unit {0}
KeepsCase (said.Setting to) = to.case_insensitive ≡ None
KeepsCase (said.Opens (said.Flagged to)) = to.case_insensitive ≡ None
KeepsCase (said.Opens said.Capturing) = Unit {0}
KeepsCase (said.Opens (said.Named name)) = Unit {0}
KeepsCase said.Bar = Unit {0}
KeepsCase said.Closes = Unit {0}
KeepsCase (said.Repeats b) = Unit {0}

pub same_keeps : (k : said.Said) → IsSame k → KeepsCase k
same_keeps (said.Stands k) h = tt
same_keeps (said.Setting to) h = h
same_keeps (said.Opens (said.Flagged to)) h = h
same_keeps (said.Opens said.Capturing) h = tt
same_keeps (said.Opens (said.Named name)) h = tt
same_keeps said.Bar h = tt
same_keeps said.Closes h = tt
same_keeps (said.Repeats b) h = tt
