-- A mark that is written is found by the reader of marks.
use Rattle.std.proofs.Common.{◌≡◌, ℕ, zero, suc, ◌≤◌, ◌^◌, Bool, true, false, not, ◌&&◌, ◌||◌, ◌==◌, nat_le, nat_lt, List, [], ◌∷◌, ◌++◌, Option, Some, None, length, take, drop, refl, ap, sym, subst, ◌∙◌, arith, if◌then◌else◌, append_assoc, append-nil, encode_utf8_all, codes}
use Rattle.std.proofs.lemmas.Bool.{eqb-true, false_from_ne_true, ltb-true}
use Rattle.std.proofs.lemmas.Option.{none-some, same_Some}
use Rattle.std.proofs.lemmas.Str.Parse.{digit_from_value}
use Rattle.std.specs.Char.{digit_value}
use Rattle.rc_tokens.specs.Text.{Characters, ◌>>=◌, ◌>>◌, is_at, is_empty, each, same_text, has_twice, is_digit, is_digit_of, number, value_from}
use Rattle.rc_tokens.specs.Said.{Said, Stands, Setting, Opens, Repeats, Character, Members, Named, Flagged}
use Rattle.rc_tokens.specs.Marks.{Amount, any, some, maybe, exactly, from, between, Escape, short, fixed, braced, Piece, Mark, stands, bar, setting, opens, closes, repeats, character, dot, caret, dollar, escape, brackets, capturing, naming, flagging, Atom, plain, escaped, written, written_amount, written_atom, written_atoms, written_escape, written_piece, written_if, written_opening, bounds, bounds_of, count, unchanged, letter_change, change_of, flags_of, is_name, begins_name, goes_on_name, is_list, is_special, member_of, members_of, escaped_member, plain_member, short_says, fixed_says, scalar_says, boundary_says, escape_says, piece_says, opening_says, takes_scalar, is_brace_name, sense, said, takes_more, BeginsWithMark}
use Rattle.rc_tokens.specs.Lexer.{run, after_run, is_before, past, repeats_then, second, counts, flags_then, name_then, brace_then, fixed_then, lex_escape, inner, after_inner, lex_member, lex_members, escaped_then, plain_then, list_then, list_inside, list, piece_then, lex}
use Rattle.rc_tokens.specs.declared.tokens.Escape as escapes
use Rattle.rc_tokens.specs.declared.tokens.Bounds.{Bounds}
use Rattle.rc_tokens.specs.declared.tokens.Change.{Change}
use Rattle.rc_tokens.specs.declared.tokens.Member.{Member}
use Rattle.rc_tokens.specs.declared.tokens.Escape.TheVariants as says
use Rattle.rc_tokens.proofs.MemberLemmas.{member_shorter}
use Rattle.rc_tokens.proofs.StepLemmas.{some_parts, guard_parts, and_parts, Passes, run_front, after_front, other_code}

-- ---- digits

each_passes : (test wide : ℕ → Bool) (t : Characters) → ((c : ℕ) → test c ≡ true → wide c ≡ true) → each test t ≡ true → Passes wide t
each_passes test wide [] g h = tt
each_passes test wide (c ∷ t) g h = let (a, b) = and_parts (test c) (each test t) h in (g c a, each_passes test wide t g b)

number_each : (radix limit : ℕ) (t : Characters) (n : ℕ) → number radix limit t ≡ Some n → each (is_digit_of radix) t ≡ true
number_each radix limit [] n h = absurd (none-some n h)
number_each radix limit (d ∷ ds) n h =
    let (both, _) = guard_parts (each (is_digit_of radix) (d ∷ ds) && nat_lt (value_from radix 0 (d ∷ ds)) limit) (Some (value_from radix 0 (d ∷ ds))) n h in
    (and_parts (each (is_digit_of radix) (d ∷ ds)) (nat_lt (value_from radix 0 (d ∷ ds)) limit) both).0

le_yes : (a b : ℕ) → a ≤ b → nat_le a b ≡ true
le_yes a b h = grind (arith, h)

decimal : (c : ℕ) → is_digit_of 10 c ≡ true → is_digit c ≡ true
decimal c h = let r = digit_from_value c (ltb-true (digit_value c) 10 h) in rw (le_yes 48 c r.0) (rw (le_yes c 57 r.1) refl)

count_passes : (n : Characters) (k : ℕ) → count n ≡ Some k → Passes is_digit n
count_passes n k h = each_passes (is_digit_of 10) is_digit n decimal (number_each 10 (2 ^ 32) n k h)

hex_other : (c d : ℕ) → is_digit_of 16 d ≡ false → is_digit_of 16 c ≡ true → (c == d) ≡ false
hex_other c d e h = other_code (is_digit_of 16) c d e h

hex_before : (c : ℕ) → is_digit_of 16 c ≡ true → is_before 125 125 c ≡ true
hex_before c h = rw (hex_other c 125 refl h) refl

-- it is neither `]` nor `\`
abbrev is_free : ℕ → Bool
is_free c = not (c == 93 || c == 92)

hex_free : (c : ℕ) → is_digit_of 16 c ≡ true → is_free c ≡ true
hex_free c h = rw (hex_other c 93 refl h) (rw (hex_other c 92 refl h) refl)

scalar_each : (ds : Characters) (s : escapes.Escape) → scalar_says ds ≡ Some s → each (is_digit_of 16) ds ≡ true
scalar_each ds s h = let (n, is, _) = some_parts (number 16 0x110000 ds) _ s h in number_each 16 0x110000 ds n is

-- ---- operators

past_again : (lazy : Bool) (u : Characters) → (not lazy && is_at 63 u) ≡ false → past 63 (written_if lazy 63 ++ u) ≡ u
past_again true u h = refl
past_again false u h = rw h refl

lazy_again : (lazy : Bool) (u : Characters) → (not lazy && is_at 63 u) ≡ false → is_at 63 (written_if lazy 63 ++ u) ≡ lazy
lazy_again true u h = refl
lazy_again false u h = h

operator_again : (lazy : Bool) (u : Characters) (min : ℕ) (max : Option ℕ) → (not lazy && is_at 63 u) ≡ false →
    ◌≡◌ {A = Option (Said × Characters)} (Some (repeats_then (written_if lazy 63 ++ u) min max)) (Some (Repeats (bounds lazy min max), u))
operator_again true u min max h = refl
operator_again false u min max h = rw h refl

counts_at : (n : Characters) (d : ℕ) (v : Characters) (k : ℕ) → count n ≡ Some k → is_digit d ≡ false →
    counts (run is_digit (n ++ d ∷ v)) (after_run is_digit (n ++ d ∷ v)) ≡ counts n (d ∷ v)
counts_at n d v k h e =
    ap (λ s. counts s (after_run is_digit (n ++ d ∷ v))) (run_front is_digit n d v (count_passes n k h) e)
    ∙ ap (counts n) (after_front is_digit n d v (count_passes n k h) e)

not_brace : (m v : Characters) (k : ℕ) → count m ≡ Some k → is_at 125 (m ++ 125 ∷ v) ≡ false
not_brace [] v k e = absurd (none-some k e)
not_brace (c ∷ m) v k e = other_code is_digit c 125 refl ((count_passes (c ∷ m) k e).0)

amount_again : (a : Amount) (lazy : Bool) (u : Characters) (b : Bounds) → bounds_of lazy a ≡ Some b → (not lazy && is_at 63 u) ≡ false →
    lex ((written_amount a ++ written_if lazy 63) ++ u) ≡ Some (Repeats b, u)
amount_again any lazy u b h e = operator_again lazy u 0 None e ∙ ap (λ b. Some (Repeats b, u)) (same_Some _ b h)
amount_again some lazy u b h e = operator_again lazy u 1 None e ∙ ap (λ b. Some (Repeats b, u)) (same_Some _ b h)
amount_again maybe lazy u b h e = operator_again lazy u 0 (Some 1) e ∙ ap (λ b. Some (Repeats b, u)) (same_Some _ b h)
amount_again (exactly n) lazy u b h e =
    let q : Characters = written_if lazy 63 in
    let (min, hn, same) = some_parts (count n) _ b h in
    ap (λ s. lex (123 ∷ s)) (append_assoc (n ++ 125 ∷ []) q u ∙ append_assoc n (125 ∷ []) (q ++ u))
    ∙ counts_at n 125 (q ++ u) min hn refl ∙ ap (λ o. o >>= λ min. Some (repeats_then (q ++ u) min (Some min))) hn
    ∙ operator_again lazy u min (Some min) e ∙ ap (λ b. Some (Repeats b, u)) (same_Some _ b same)
amount_again (from n) lazy u b h e =
    let q : Characters = written_if lazy 63 in
    let (min, hn, same) = some_parts (count n) _ b h in
    ap (λ s. lex (123 ∷ s)) (append_assoc (n ++ 44 ∷ 125 ∷ []) q u ∙ append_assoc n (44 ∷ 125 ∷ []) (q ++ u))
    ∙ counts_at n 44 (125 ∷ (q ++ u)) min hn refl ∙ ap (λ o. o >>= λ min. Some (repeats_then (q ++ u) min None)) hn
    ∙ operator_again lazy u min None e ∙ ap (λ b. Some (Repeats b, u)) (same_Some _ b same)
amount_again (between n m) lazy u b h e =
    let q : Characters = written_if lazy 63 in
    let v : Characters = q ++ u in
    let (min, hn, next) = some_parts (count n) _ b h in
    let (max, hm, rest) = some_parts (count m) _ b next in
    let (ordered, same) = guard_parts (nat_le min max) _ b rest in
    ap (λ s. lex (123 ∷ s)) (append_assoc (n ++ 44 ∷ (m ++ 125 ∷ [])) q u ∙ append_assoc n (44 ∷ (m ++ 125 ∷ [])) v
    ∙ ap (λ s. n ++ 44 ∷ s) (append_assoc m (125 ∷ []) v))
    ∙ counts_at n 44 (m ++ 125 ∷ v) min hn refl
    ∙ second_again min max hn hm ordered ∙ operator_again lazy u min (Some max) e ∙ ap (λ b. Some (Repeats b, u)) (same_Some _ b same)
  where
    second_again : (min max : ℕ) → count n ≡ Some min → count m ≡ Some max → nat_le min max ≡ true →
        counts n (44 ∷ (m ++ 125 ∷ (written_if lazy 63 ++ u))) ≡ Some (repeats_then (written_if lazy 63 ++ u) min (Some max))
    second_again min max hn hm ordered =
        let v : Characters = written_if lazy 63 ++ u in
        rw hn (rw (not_brace m v max hm) (ap (λ s. second min s (after_run is_digit (m ++ 125 ∷ v))) (run_front is_digit m 125 v (count_passes m max hm) refl)
        ∙ ap (second min m) (after_front is_digit m 125 v (count_passes m max hm) refl) ∙ rw hm (rw ordered refl)))

-- ---- openings

letter_before : (c : ℕ) (on : Bool) (to next : Change) → letter_change c on to ≡ Some next → is_before 41 58 c ≡ true
letter_before c on to next h = go (c == 41) (c == 58) refl refl
  where
    at : (d : ℕ) → (c == d) ≡ true → letter_change d on to ≡ Some next
    at d e = ap (λ x. letter_change x on to) (sym (eqb-true c d e)) ∙ h

    go : (a b : Bool) → (c == 41) ≡ a → (c == 58) ≡ b → not (a || b) ≡ true
    go true b e f = absurd (none-some next (at 41 e))
    go false true e f = absurd (none-some next (at 58 f))
    go false false e f = refl

flags_pass : (f : Characters) (on : Bool) (to last : Change) → change_of on to f ≡ Some last → Passes (is_before 41 58) f
flags_pass [] on to last h = tt
flags_pass (c ∷ f) on to last h = go (λ on to g. flags_pass f on to last g) (c == 45) refl h
  where
    go : ((on : Bool) (to : Change) → change_of on to f ≡ Some last → Passes (is_before 41 58) f) → (b : Bool) → (c == 45) ≡ b → (if b then ((on && not (is_empty f)) >> change_of false to f) else (letter_change c on to >>= λ next. change_of on next f)) ≡ Some last →
        (is_before 41 58 c ≡ true) × Passes (is_before 41 58) f
    go rest true e g = let (_, more) = guard_parts (on && not (is_empty f)) (change_of false to f) last g in
        (ap (is_before 41 58) (eqb-true c 45 e), rest false to more)
    go rest false e g = let (next, is, more) = some_parts (letter_change c on to) (λ next. change_of on next f) last g in
        (letter_before c on to next is, rest on next more)

flags_of_pass : (f : Characters) (to : Change) → flags_of f ≡ Some to → Passes (is_before 41 58) f
flags_of_pass [] to h = tt
flags_of_pass (c ∷ f) to h = flags_pass (c ∷ f) true unchanged to h

-- a text of flags begins no name
abbrev NotNamed : Characters → Type 0
NotNamed t = (is_at 80 t ≡ false) × (is_at 60 t ≡ false)

flag_not_named : (f : Characters) (d : ℕ) (u : Characters) (on : Bool) (to last : Change) → change_of on to f ≡ Some last → (d == 80) ≡ false → (d == 60) ≡ false → NotNamed (f ++ d ∷ u)
flag_not_named [] d u on to last h x y = (x, y)
flag_not_named (c ∷ f) d u on to last h x y = (no 80 (λ e. clash (at 80 e)), no 60 (λ e. clash' (at 60 e)))
  where
    no : (d : ℕ) → ((c == d) ≡ true → ⊥) → (c == d) ≡ false
    no d g = false_from_ne_true (c == d) (λ e. g e)

    at : (d : ℕ) → (c == d) ≡ true → change_of on to (d ∷ f) ≡ Some last
    at d e = ap (λ x. change_of on to (x ∷ f)) (sym (eqb-true c d e)) ∙ h

    clash : change_of on to (80 ∷ f) ≡ Some last → ⊥
    clash e = none-some last e

    clash' : change_of on to (60 ∷ f) ≡ Some last → ⊥
    clash' e = none-some last e

flagged_again : (f : Characters) (d : ℕ) (u : Characters) → Passes (is_before 41 58) f → is_before 41 58 d ≡ false → NotNamed (f ++ d ∷ u) →
    lex (40 ∷ 63 ∷ ((f ++ d ∷ []) ++ u)) ≡ flags_then f (d ∷ u)
flagged_again f d u h e n = ap (λ s. lex (40 ∷ 63 ∷ s)) (append_assoc f (d ∷ []) u) ∙ rw n.0 (rw n.1
    (ap (λ s. flags_then s (after_run (is_before 41 58) (f ++ d ∷ u))) (run_front (is_before 41 58) f d u h e) ∙ ap (flags_then f) (after_front (is_before 41 58) f d u h e)))

name_char : (c : ℕ) → goes_on_name c ≡ true → is_before 62 62 c ≡ true
name_char c h = let e = other_code goes_on_name c 62 refl h in rw e refl

name_first : (c : ℕ) → begins_name c ≡ true → is_before 62 62 c ≡ true
name_first c h = let e = other_code begins_name c 62 refl h in rw e refl

name_passes : (name : Characters) → is_name name ≡ true → Passes (is_before 62 62) name
name_passes [] h = tt
name_passes (c ∷ t) h = let (a, b) = and_parts (begins_name c) (each goes_on_name t) h in
    (name_first c a, each_passes goes_on_name (is_before 62 62) t name_char b)

name_again : (name u : Characters) → is_name name ≡ true →
    name_then (run (is_before 62 62) (name ++ 62 ∷ u)) (after_run (is_before 62 62) (name ++ 62 ∷ u)) ≡ Some (Opens (Named (encode_utf8_all name)), u)
name_again name u h =
    ap (λ s. name_then s (after_run (is_before 62 62) (name ++ 62 ∷ u))) (run_front (is_before 62 62) name 62 u (name_passes name h) refl)
    ∙ ap (name_then name) (after_front (is_before 62 62) name 62 u (name_passes name h) refl) ∙ rw h refl

named_again : (p : Bool) (name u : Characters) → is_name name ≡ true → lex (written_opening (naming p name) ++ u) ≡ Some (Opens (Named (encode_utf8_all name)), u)
named_again true name u h = ap (λ s. lex (40 ∷ 63 ∷ 80 ∷ 60 ∷ s)) (append_assoc name (62 ∷ []) u) ∙ name_again name u h
named_again false name u h = ap (λ s. lex (40 ∷ 63 ∷ 60 ∷ s)) (append_assoc name (62 ∷ []) u) ∙ name_again name u h

-- ---- escapes

-- the text behind the `\`
abbrev behind : Escape → Characters
behind (short c) = c ∷ []
behind (fixed c ds) = c ∷ ds
behind (braced c t) = c ∷ 123 ∷ (t ++ 125 ∷ [])

take_again : (ds u : Characters) (n : ℕ) → length ds ≡ n → take n (ds ++ u) ≡ ds
take_again [] u zero h = refl
take_again [] u (suc n) h = absurd (omega (arith, h))
take_again (d ∷ ds) u zero h = absurd (omega (arith, h))
take_again (d ∷ ds) u (suc n) h = ap (λ s. d ∷ s) (take_again ds u n (omega (arith, h)))

drop_again : (ds u : Characters) (n : ℕ) → length ds ≡ n → drop n (ds ++ u) ≡ u
drop_again [] u zero h = refl
drop_again [] u (suc n) h = absurd (omega (arith, h))
drop_again (d ∷ ds) u zero h = absurd (omega (arith, h))
drop_again (d ∷ ds) u (suc n) h = drop_again ds u n (omega (arith, h))

no_brace : (ds u : Characters) (n : ℕ) → length ds ≡ suc n → each (is_digit_of 16) ds ≡ true → is_at 123 (ds ++ u) ≡ false
no_brace [] u n h e = absurd (omega (arith, h))
no_brace (d ∷ ds) u n h e = hex_other d 123 refl ((and_parts (is_digit_of 16 d) (each (is_digit_of 16) ds) e).0)

same_length : (ds : Characters) (n : ℕ) → (length ds == n) ≡ true → length ds ≡ n
same_length ds n e = eqb-true (length ds) n e

fixed_then_again : (c n : ℕ) (ds u : Characters) (s : escapes.Escape) → length ds ≡ n → fixed_says c ds ≡ Some s → fixed_then c n (ds ++ u) ≡ Some (s, u)
fixed_then_again c n ds u s l h =
    ap (λ x. fixed_says c x >>= λ s. Some (s, drop n (ds ++ u))) (take_again ds u n l)
    ∙ ap (λ o. o >>= λ s. Some (s, drop n (ds ++ u))) h ∙ ap (λ x. Some (s, x)) (drop_again ds u n l)

fixed_again : (c : ℕ) (ds u : Characters) (s : escapes.Escape) → fixed_says c ds ≡ Some s → lex_escape (c ∷ (ds ++ u)) ≡ Some (s, u)
fixed_again c ds u s h = go (c == 120) (c == 117) (c == 85) refl refl refl
  where
    at : (d : ℕ) → (c == d) ≡ true → lex_escape (d ∷ (ds ++ u)) ≡ Some (s, u) → lex_escape (c ∷ (ds ++ u)) ≡ Some (s, u)
    at d e g = ap (λ x. lex_escape (x ∷ (ds ++ u))) (eqb-true c d e) ∙ g

    says : (d : ℕ) → (c == d) ≡ true → fixed_says d ds ≡ Some s
    says d e = ap (λ x. fixed_says x ds) (sym (eqb-true c d e)) ∙ h

    go : (x y z : Bool) → (c == 120) ≡ x → (c == 117) ≡ y → (c == 85) ≡ z → lex_escape (c ∷ (ds ++ u)) ≡ Some (s, u)
    go true y z e f g =
        let (l, more) = guard_parts (length ds == 2) _ s (says 120 e) in
        let (n, is, _) = some_parts (number 16 256 ds) _ s more in
        at 120 e (rw (no_brace ds u 1 (same_length ds 2 l) (number_each 16 256 ds n is)) (fixed_then_again 120 2 ds u s (same_length ds 2 l) (says 120 e)))
    go false true z e f g =
        let (l, more) = guard_parts (length ds == 4) _ s (says 117 f) in
        at 117 f (rw (no_brace ds u 3 (same_length ds 4 l) (scalar_each ds s more)) (fixed_then_again 117 4 ds u s (same_length ds 4 l) (says 117 f)))
    go false false true e f g =
        let (l, more) = guard_parts (length ds == 8) _ s (says 85 g) in
        at 85 g (rw (no_brace ds u 7 (same_length ds 8 l) (scalar_each ds s more)) (fixed_then_again 85 8 ds u s (same_length ds 8 l) (says 85 g)))
    go false false false e f g =
        absurd (none-some s (sym (rw e (rw f (rw g refl))) ∙ h))

short_again : (c : ℕ) (u : Characters) (s : escapes.Escape) → short_says c ≡ Some s → (c == 98 && is_brace_name u) ≡ false → lex_escape (c ∷ u) ≡ Some (s, u)
short_again c u s h e = rw (no 120 (λ x. none-some s (at 120 x))) (rw (no 117 (λ x. none-some s (at 117 x))) (rw (no 85 (λ x. none-some s (at 85 x)))
    (rw e (ap (λ o. o >>= λ s. Some (s, u)) h))))
  where
    no : (d : ℕ) → ((c == d) ≡ true → ⊥) → (c == d) ≡ false
    no d g = false_from_ne_true (c == d) (λ e. g e)

    at : (d : ℕ) → (c == d) ≡ true → short_says d ≡ Some s
    at d x = ap short_says (sym (eqb-true c d x)) ∙ h

-- the names of boundaries
same_is : (t s : Characters) → same_text t s ≡ true → t ≡ s
same_is [] [] h = refl
same_is [] (d ∷ s) h = absurd (cc)
same_is (c ∷ t) [] h = absurd (cc)
same_is (c ∷ t) (d ∷ s) h =
    let (a, b) = and_parts (c == d) (same_text t s) h in ap (λ x. x ∷ t) (eqb-true c d a) ∙ ap (λ x. d ∷ x) (same_is t s b)

named_boundary : (t : Characters) (s : escapes.Escape) (P : Characters → Type 0) → boundary_says t ≡ Some s →
    P (codes "start") → P (codes "end") → P (codes "start-half") → P (codes "end-half") → P t
named_boundary t s P h p1 p2 p3 p4 =
    go (same_text t (codes "start")) (same_text t (codes "end")) (same_text t (codes "start-half")) (same_text t (codes "end-half")) refl refl refl refl
  where
    at : (n : Characters) → same_text t n ≡ true → P n → P t
    at n e p = subst P (sym (same_is t n e)) p

    go : (a b d f : Bool) → same_text t (codes "start") ≡ a → same_text t (codes "end") ≡ b → same_text t (codes "start-half") ≡ d → same_text t (codes "end-half") ≡ f → P t
    go true b d f ea eb ed ef = at (codes "start") ea p1
    go false true d f ea eb ed ef = at (codes "end") eb p2
    go false false true f ea eb ed ef = at (codes "start-half") ed p3
    go false false false true ea eb ed ef = at (codes "end-half") ef p4
    go false false false false ea eb ed ef = absurd (none-some s (sym (rw ea (rw eb (rw ed (rw ef refl)))) ∙ h))

boundary_again : (t u : Characters) (s : escapes.Escape) → boundary_says t ≡ Some s → lex_escape (98 ∷ 123 ∷ (t ++ 125 ∷ u)) ≡ Some (s, u)
boundary_again t u s h = named_boundary t s (λ x. boundary_says x ≡ Some s → lex_escape (98 ∷ 123 ∷ (x ++ 125 ∷ u)) ≡ Some (s, u)) h
    (λ g. ap (λ o. o >>= λ s. Some (s, u)) g) (λ g. ap (λ o. o >>= λ s. Some (s, u)) g) (λ g. ap (λ o. o >>= λ s. Some (s, u)) g) (λ g. ap (λ o. o >>= λ s. Some (s, u)) g) h

in_brace_again : (c : ℕ) (t u : Characters) (s : escapes.Escape) → (c == 98) ≡ false → takes_scalar c ≡ true → scalar_says t ≡ Some s →
    lex_escape (c ∷ 123 ∷ (t ++ 125 ∷ u)) ≡ Some (s, u)
in_brace_again c t u s e k h =
    let pass = each_passes (is_digit_of 16) (is_before 125 125) t hex_before (scalar_each t s h) in
    rw k (ap (λ x. brace_then c x (after_run (is_before 125 125) (t ++ 125 ∷ u))) (run_front (is_before 125 125) t 125 u pass refl)
    ∙ ap (brace_then c t) (after_front (is_before 125 125) t 125 u pass refl) ∙ rw e (ap (λ o. o >>= λ s. Some (s, u)) h))

escape_again : (e : Escape) (s : escapes.Escape) (u : Characters) → escape_says e ≡ Some s → takes_more (stands (escape e)) u ≡ false →
    lex_escape (behind e ++ u) ≡ Some (s, u)
escape_again (short c) s u h n = short_again c u s h n
escape_again (fixed c ds) s u h n = fixed_again c ds u s h
escape_again (braced c t) s u h n = ap (λ x. lex_escape (c ∷ 123 ∷ x)) (append_assoc t (125 ∷ []) u) ∙ go (c == 98) refl h
  where
    go : (b : Bool) → (c == 98) ≡ b → (if b then boundary_says t else takes_scalar c >> scalar_says t) ≡ Some s → lex_escape (c ∷ 123 ∷ (t ++ 125 ∷ u)) ≡ Some (s, u)
    go true e g = ap (λ x. lex_escape (x ∷ 123 ∷ (t ++ 125 ∷ u))) (eqb-true c 98 e) ∙ boundary_again t u s g
    go false e g = let (k, is) = guard_parts (takes_scalar c) (scalar_says t) s g in in_brace_again c t u s e k is

written_behind : (e : Escape) (u : Characters) → written_escape e ++ u ≡ 92 ∷ (behind e ++ u)
written_behind (short c) u = refl
written_behind (fixed c ds) u = refl
written_behind (braced c t) u = refl

-- ---- lists

member_alone : (e : Escape) (m : Member) (u : Characters) → (escape_says e >>= escaped_member) ≡ Some m → takes_more (stands (escape e)) u ≡ false
member_alone (fixed c ds) m u h = refl
member_alone (braced c t) m u h = refl
member_alone (short c) m u h = go (c == 98) refl
  where
    go : (b : Bool) → (c == 98) ≡ b → (b && is_brace_name u) ≡ false
    go true e = absurd (none-some m (ap (λ x. short_says x >>= escaped_member) (sym (eqb-true c 98 e)) ∙ h))
    go false e = refl

plain_other : (c d : ℕ) (m : Member) → plain_member d ≡ None → plain_member c ≡ Some m → (c == d) ≡ false
plain_other c d m e h = false_from_ne_true (c == d) (λ x. absurd (none-some m (sym e ∙ ap plain_member (sym (eqb-true c d x)) ∙ h)))

member_again : (a : Atom) (m : Member) (u : Characters) → member_of a ≡ Some m → lex_member (written_atom a ++ u) ≡ Some (m, u)
member_again (plain c) m u h = no_slash (c == 92) (plain_other c 92 m refl h) ∙ ap (λ (o : Option Member). o >>= member_then u) h
  where
    member_then : Characters → Member → Option (Member × Characters)
    member_then u m = Some (m, u)

    no_slash : (b : Bool) → b ≡ false → (if b then escaped_then (lex_escape u) else plain_then c u) ≡ plain_then c u
    no_slash true e = absurd (cc)
    no_slash false e = refl
member_again (escaped e) m u h =
    let (s, says, is) = some_parts (escape_says e) escaped_member m h in
    ap lex_member (written_behind e u) ∙ ap escaped_then (escape_again e s u says (member_alone e m u h)) ∙ ap (λ o. o >>= λ m. Some (m, u)) is

members_again : (xs : List Atom) (ms : List Member) (n : ℕ) → members_of xs ≡ Some ms → length (written_atoms xs) ≤ n → lex_members n (written_atoms xs) ≡ Some ms
members_again [] ms zero h l = h
members_again [] ms (suc n) h l = h
members_again (x ∷ xs) ms n h l =
    let (m, says, next) = some_parts (member_of x) (λ m. members_of xs >>= λ ms. Some (m ∷ ms)) ms h in
    let (more, are, same) = some_parts (members_of xs) (λ ms. Some (m ∷ ms)) ms next in
    go (λ more n are l. members_again xs more n are l) (written_atom x ++ written_atoms xs) n refl l m more says are same
  where
    go : ((more : List Member) (n : ℕ) → members_of xs ≡ Some more → length (written_atoms xs) ≤ n → lex_members n (written_atoms xs) ≡ Some more) → (t : Characters) (n : ℕ) → t ≡ written_atom x ++ written_atoms xs → length t ≤ n → (m : Member) (more : List Member) → member_of x ≡ Some m →
        members_of xs ≡ Some more → Some (m ∷ more) ≡ Some ms → lex_members n t ≡ Some ms
    go rest [] n e l m more says are same = absurd (none-some (m, written_atoms xs) (ap lex_member e ∙ member_again x m (written_atoms xs) says))
    go rest (c ∷ t) zero e l m more says are same = absurd (omega (arith, l))
    go rest (c ∷ t) (suc n) e l m more says are same =
        let shorter = member_shorter (c ∷ t) m (written_atoms xs) (ap lex_member e ∙ member_again x m (written_atoms xs) says) in
        ap (λ o. o >>= λ r. lex_members n r.1 >>= λ ms. Some (r.0 ∷ ms)) (ap lex_member e ∙ member_again x m (written_atoms xs) says)
        ∙ ap (λ o. o >>= λ ms. Some (m ∷ ms)) (rest more n are (omega (arith, l, shorter))) ∙ same

-- the text goes into a list's text as it is
abbrev GoesIn : Characters → Type 0
GoesIn t = (v : Characters) → (inner false (t ++ v) ≡ t ++ inner false v) × (after_inner false (t ++ v) ≡ after_inner false v)

free_parts : (c : ℕ) → is_free c ≡ true → ((c == 93) ≡ false) × ((c == 92) ≡ false)
free_parts c h = go (c == 93) (c == 92) h
  where
    go : (a b : Bool) → not (a || b) ≡ true → (a ≡ false) × (b ≡ false)
    go true b h = absurd (cc)
    go false true h = absurd (cc)
    go false false h = (refl, refl)

free_in : (t : Characters) → Passes is_free t → GoesIn t
free_in [] h v = (refl, refl)
free_in (c ∷ t) h v =
    let (a, b) = free_parts c h.0 in
    let (x, y) = free_in t h.1 v in
    (rw a (ap (λ s. c ∷ s) (rw b x)), rw a (rw b y))

both_in : (s t : Characters) → GoesIn s → GoesIn t → GoesIn (s ++ t)
both_in s t g h v = (
  ap (inner false) (append_assoc s t v) ∙ (g (t ++ v)).0 ∙ ap (λ x. s ++ x) ((h v).0) ∙ sym (append_assoc s t (inner false v)),
  ap (after_inner false) (append_assoc s t v) ∙ (g (t ++ v)).1 ∙ (h v).1,
)

slash_in : (c : ℕ) (t : Characters) → GoesIn t → GoesIn (92 ∷ c ∷ t)
slash_in c t h v = (ap (λ s. 92 ∷ c ∷ s) ((h v).0), (h v).1)

boundary_none : (t : Characters) (s : escapes.Escape) (m : Member) → boundary_says t ≡ Some s → escaped_member s ≡ Some m → ⊥
boundary_none t s m h e = named_boundary t s (λ x. boundary_says x ≡ Some s → ⊥) h clash clash clash clash h
  where
    clash : {a : _} → ◌≡◌ {A = Option (escapes.Escape)} (Some (says.Assertion a)) (Some s) → ⊥
    clash g = none-some m (ap escaped_member (same_Some _ s g) ∙ e)

hex_in : (ds : Characters) → each (is_digit_of 16) ds ≡ true → GoesIn ds
hex_in ds h = free_in ds (each_passes (is_digit_of 16) is_free ds hex_free h)

fixed_in : (c : ℕ) (ds : Characters) (s : escapes.Escape) → fixed_says c ds ≡ Some s → each (is_digit_of 16) ds ≡ true
fixed_in c ds s h = go (c == 120) (c == 117) h
  where
    go : (a b : Bool) → (if a then ((length ds == 2) >> (number 16 256 ds >>= λ b. Some (says.Byte b))) else if b then (length ds == 4) >> scalar_says ds
        else (c == 85 && length ds == 8) >> scalar_says ds) ≡ Some s → each (is_digit_of 16) ds ≡ true
    go true b g = let (_, more) = guard_parts (length ds == 2) _ s g in let (n, is, _) = some_parts (number 16 256 ds) _ s more in number_each 16 256 ds n is
    go false true g = let (_, more) = guard_parts (length ds == 4) _ s g in scalar_each ds s more
    go false false g = let (_, more) = guard_parts (c == 85 && length ds == 8) _ s g in scalar_each ds s more

atom_in : (a : Atom) (m : Member) → member_of a ≡ Some m → GoesIn (written_atom a)
atom_in (plain c) m h = free_in (c ∷ []) (rw (plain_other c 93 m refl h) (rw (plain_other c 92 m refl h) refl), tt)
atom_in (escaped (short c)) m h = slash_in c [] (λ v. (refl, refl))
atom_in (escaped (fixed c ds)) m h = let (s, is, _) = some_parts (fixed_says c ds) escaped_member m h in slash_in c ds (hex_in ds (fixed_in c ds s is))
atom_in (escaped (braced c t)) m h =
    let (s, is, member) = some_parts (escape_says (braced c t)) escaped_member m h in
    slash_in c (123 ∷ (t ++ 125 ∷ [])) (both_in (123 ∷ []) (t ++ 125 ∷ []) (free_in (123 ∷ []) (refl, tt))
    (both_in t (125 ∷ []) (go s (c == 98) is member) (free_in (125 ∷ []) (refl, tt))))
  where
    go : (s : escapes.Escape) (b : Bool) → (if b then boundary_says t else takes_scalar c >> scalar_says t) ≡ Some s → escaped_member s ≡ Some m → GoesIn t
    go s true g e = absurd (boundary_none t s m g e)
    go s false g e = let (_, is) = guard_parts (takes_scalar c) (scalar_says t) s g in hex_in t (scalar_each t s is)

atoms_in : (xs : List Atom) (ms : List Member) → members_of xs ≡ Some ms → GoesIn (written_atoms xs)
atoms_in [] ms h = λ v. (refl, refl)
atoms_in (x ∷ xs) ms h =
    let (m, says, next) = some_parts (member_of x) (λ m. members_of xs >>= λ ms. Some (m ∷ ms)) ms h in
    let (more, are, _) = some_parts (members_of xs) (λ ms. Some (m ∷ ms)) ms next in
    both_in (written_atom x) (written_atoms xs) (atom_in x m says) (atoms_in xs more are)

inside_again : (negated bracket : Bool) (xs : List Atom) (ms : List Member) (u : Characters) → is_list negated bracket (written_atoms xs) ≡ true → members_of xs ≡ Some ms →
    list_inside negated bracket (written_atoms xs ++ 93 ∷ u) ≡ Some (Stands (Members negated bracket ms), u)
inside_again negated bracket xs ms u ok are =
    let (x, y) = atoms_in xs ms are (93 ∷ u) in
    ap (λ s. list_then negated bracket s (after_inner false (written_atoms xs ++ 93 ∷ u))) (x ∙ append-nil (written_atoms xs))
    ∙ ap (list_then negated bracket (written_atoms xs)) y
    ∙ rw ok (rw (members_again xs ms (length (written_atoms xs)) are (omega arith)) refl)

-- what a list begins with
first_of : (xs : List Atom) (ms : List Member) (v : Characters) → members_of xs ≡ Some ms → is_empty (written_atoms xs) ≡ false →
    (is_at 93 (written_atoms xs ++ v) ≡ false) × (is_at 94 (written_atoms xs ++ v) ≡ is_at 94 (written_atoms xs))
first_of [] ms v h e = absurd (cc)
first_of (plain c ∷ xs) ms v h e = let (m, says, _) = some_parts (plain_member c) _ ms h in (plain_other c 93 m refl says, refl)
first_of (escaped (short c) ∷ xs) ms v h e = (refl, refl)
first_of (escaped (fixed c ds) ∷ xs) ms v h e = (refl, refl)
first_of (escaped (braced c t) ∷ xs) ms v h e = (refl, refl)

list_at : (negated bracket : Bool) (t : Characters) → (negated ≡ false → is_at 94 (written_if bracket 93 ++ t) ≡ false) → (bracket ≡ false → is_at 93 t ≡ false) →
    list (written_if negated 94 ++ (written_if bracket 93 ++ t)) ≡ list_inside negated bracket t
list_at true true t f g = refl
list_at true false t f g = rw (g refl) refl
list_at false true t f g = refl
list_at false false t f g = rw (f refl) (rw (g refl) refl)

not_true : (b : Bool) → not b ≡ true → b ≡ false
not_true true h = absurd (cc)
not_true false h = refl

list_again : (negated bracket : Bool) (xs : List Atom) (ms : List Member) (u : Characters) → is_list negated bracket (written_atoms xs) ≡ true → members_of xs ≡ Some ms →
    lex (written_piece (brackets negated bracket xs) ++ u) ≡ Some (Stands (Members negated bracket ms), u)
list_again negated bracket xs ms u ok are =
    let w : Characters = written_atoms xs in
    ap (λ s. list s) (append_assoc (written_if negated 94) (written_if bracket 93 ++ (w ++ 93 ∷ [])) u
    ∙ ap (λ s. written_if negated 94 ++ s) (append_assoc (written_if bracket 93) (w ++ 93 ∷ []) u ∙ ap (λ s. written_if bracket 93 ++ s) (append_assoc w (93 ∷ []) u)))
    ∙ list_at negated bracket (w ++ 93 ∷ u) (caret_free negated bracket ok) (bracket_free negated bracket ok) ∙ inside_again negated bracket xs ms u ok are
  where
    full : (negated : Bool) → is_list negated false (written_atoms xs) ≡ true → is_empty (written_atoms xs) ≡ false
    full negated h = go (is_empty (written_atoms xs)) h
      where
        go : (b : Bool) → (((false || not b) && (negated || false || not (is_at 94 (written_atoms xs)))) && not (has_twice 38 (written_atoms xs)) && not (has_twice 126 (written_atoms xs))) ≡ true → b ≡ false
        go true h = absurd (cc)
        go false h = refl

    no_caret : is_list false false (written_atoms xs) ≡ true → is_at 94 (written_atoms xs) ≡ false
    no_caret h = go (is_empty (written_atoms xs)) (is_at 94 (written_atoms xs)) h
      where
        go : (a b : Bool) → (not a && not b && not (has_twice 38 (written_atoms xs)) && not (has_twice 126 (written_atoms xs))) ≡ true → b ≡ false
        go true b h = absurd (cc)
        go false true h = absurd (cc)
        go false false h = refl

    bracket_free : (negated bracket : Bool) → is_list negated bracket (written_atoms xs) ≡ true → bracket ≡ false → is_at 93 (written_atoms xs ++ 93 ∷ u) ≡ false
    bracket_free negated true h e = absurd (cc)
    bracket_free negated false h e = (first_of xs ms (93 ∷ u) are (full negated h)).0

    caret_free : (negated bracket : Bool) → is_list negated bracket (written_atoms xs) ≡ true → negated ≡ false →
        is_at 94 (written_if bracket 93 ++ (written_atoms xs ++ 93 ∷ u)) ≡ false
    caret_free true bracket h e = absurd (cc)
    caret_free false true h e = refl
    caret_free false false h e = (first_of xs ms (93 ∷ u) are (full false h)).1 ∙ no_caret h

-- ---- all marks

not_special : (c d : ℕ) → is_special d ≡ true → not (is_special c) ≡ true → (c == d) ≡ false
not_special c d s h = other_code (λ x. not (is_special x)) c d (ap not s) h

piece_again : (p : Piece) (s : _) (u : Characters) → piece_says p ≡ Some s → takes_more (stands p) u ≡ false → lex (written_piece p ++ u) ≡ Some (Stands s, u)
piece_again (character c) s u h e =
    let (ok, same) = guard_parts (not (is_special c)) (Some (Character c)) s h in
    rw (not_special c 124 refl ok) (rw (not_special c 41 refl ok) (rw (not_special c 40 refl ok) (rw (not_special c 42 refl ok)
    (rw (not_special c 43 refl ok) (rw (not_special c 63 refl ok) (rw (not_special c 123 refl ok) (rw (not_special c 91 refl ok)
    (rw (not_special c 92 refl ok) (rw (not_special c 46 refl ok) (rw (not_special c 94 refl ok) (rw (not_special c 36 refl ok)
    (ap (λ s. Some (Stands s, u)) (same_Some _ s same)))))))))))))
piece_again dot s u h e = ap (λ s. Some (Stands s, u)) (same_Some _ s h)
piece_again caret s u h e = ap (λ s. Some (Stands s, u)) (same_Some _ s h)
piece_again dollar s u h e = ap (λ s. Some (Stands s, u)) (same_Some _ s h)
piece_again (escape x) s u h e =
    let (r, says, same) = some_parts (escape_says x) (λ s. Some (sense s)) s h in
    ap lex (written_behind x u) ∙ ap piece_then (escape_again x r u says e) ∙ ap (λ s. Some (Stands s, u)) (same_Some _ s same)
piece_again (brackets negated bracket xs) s u h e =
    let (ok, more) = guard_parts (is_list negated bracket (written_atoms xs)) _ s h in
    let (ms, are, same) = some_parts (members_of xs) (λ ms. Some (Members negated bracket ms)) s more in
    list_again negated bracket xs ms u ok are ∙ ap (λ s. Some (Stands s, u)) (same_Some _ s same)

opening_again : (o : _) (s : _) (u : Characters) → opening_says o ≡ Some s → takes_more (opens o) u ≡ false → lex (written_opening o ++ u) ≡ Some (Opens s, u)
opening_again capturing s u h e = rw e (ap (λ s. Some (Opens s, u)) (same_Some _ s h))
opening_again (naming p name) s u h e =
    let (ok, same) = guard_parts (is_name name) (Some (Named (encode_utf8_all name))) s h in
    named_again p name u ok ∙ ap (λ s. Some (Opens s, u)) (same_Some _ s same)
opening_again (flagging f) s u h e =
    let (to, is, same) = some_parts (change_of true unchanged f) (λ to. Some (Flagged to)) s h in
    flagged_again f 58 u (flags_pass f true unchanged to is) refl (flag_not_named f 58 u true unchanged to is refl refl)
    ∙ ap (λ o. o >>= λ to. Some (Opens (Flagged to), u)) is ∙ ap (λ s. Some (Opens s, u)) (same_Some _ s same)

setting_not_named : (f : Characters) (u : Characters) (to : Change) → flags_of f ≡ Some to → NotNamed (f ++ 41 ∷ u)
setting_not_named [] u to h = absurd (none-some to h)
setting_not_named (c ∷ f) u to h = flag_not_named (c ∷ f) 41 u true unchanged to h refl refl

mark_again : (m : Mark) (k : Said) (u : Characters) → said m ≡ Some k → takes_more m u ≡ false → lex (written m ++ u) ≡ Some (k, u)
mark_again (stands p) k u h e = let (s, is, same) = some_parts (piece_says p) (λ s. Some (Stands s)) k h in
    piece_again p s u is e ∙ ap (λ k. Some (k, u)) (same_Some _ k same)
mark_again bar k u h e = ap (λ k. Some (k, u)) (same_Some _ k h)
mark_again (setting f) k u h e = let (to, is, same) = some_parts (flags_of f) (λ to. Some (Setting to)) k h in
    flagged_again f 41 u (flags_of_pass f to is) refl (setting_not_named f u to is)
    ∙ ap (λ o. o >>= λ to. Some (Setting to, u)) is ∙ ap (λ k. Some (k, u)) (same_Some _ k same)
mark_again (opens o) k u h e = let (s, is, same) = some_parts (opening_says o) (λ s. Some (Opens s)) k h in
    opening_again o s u is e ∙ ap (λ k. Some (k, u)) (same_Some _ k same)
mark_again closes k u h e = ap (λ k. Some (k, u)) (same_Some _ k h)
mark_again (repeats o) k u h e = let (b, is, same) = some_parts (bounds_of o.lazy o.amount) (λ b. Some (Repeats b)) k h in
    amount_again o.amount o.lazy u b is e ∙ ap (λ k. Some (k, u)) (same_Some _ k same)

pub lex_again : (t : Characters) (k : Said) (u : Characters) → BeginsWithMark t k u → lex t ≡ Some (k, u)
lex_again t k u (m, says, is, alone) = ap lex is ∙ mark_again m k u says alone
