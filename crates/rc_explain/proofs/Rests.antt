-- What the full grammar reads leaves the end of the text.
use Rattle.std.proofs.Common.{◌≡◌, ◌∙◌, ◌-◌, ◌<◌, ◌≤◌, ℕ, Bool, true, false, ◌==◌, [], ◌∷◌, ◌++◌, Option, ap, append-nil, append_assoc, arith, drop, length, length-append, refl, subst, sym, if◌then◌else◌}
use Rattle.std.proofs.Math.Seq.{drop-append_seam}
use Rattle.rc_tokens.specs.Text.{Characters}
use Rattle.rc_tokens.specs.Lexer.{past}
use Rattle.rc_tokens.specs.Marks.{Escape, short, fixed, braced, written_escape}
use Rattle.rc_full_tokens.specs.Gaps.{Gaps, none, blank, comment, last_comment}
use Rattle.rc_full_tokens.specs.Counts.{IsCount, exactly, from, between, up_to}
use Rattle.rc_full_escapes.specs.Escapes.{IsEscape, property_letter, stated, digits, letter, name}
use Rattle.rc_full_escapes.specs.declared.escapes.FullEscape.{FullEscape}
use Rattle.rc_full_lists.specs.Parts.{Passes}
use Rattle.rc_full_parser.specs.declared.marks.MarkSettings.{MarkSettings}
use Rattle.rc_full_parser.specs.Marks.{Mark, IsAmount, any, some, maybe, counted, IsMark, branch, close, setting, capturing, naming, flagging, repeating, bracket, escaped, dot, caret, dollar, character}

-- u is the end of t
abbrev pub Ends : Characters → Characters → Type 0
Ends u t = (x : Characters) × (t ≡ x ++ u)

whole : (t : Characters) → Ends t t
whole t = ([], refl)

pub more : (c : ℕ) (u t : Characters) → Ends u t → Ends u (c ∷ t)
more c u t (x, e) = (c ∷ x, ap (λ s. c ∷ s) e)

pub longer : (f u t : Characters) → Ends u t → Ends u (f ++ t)
longer f u t (x, e) = (f ++ x, ap (λ s. f ++ s) e ∙ sym (append_assoc f x u))

pub within : (v u t : Characters) → Ends v u → Ends u t → Ends v t
within v u t e (x, f) = subst (Ends v) (sym f) (longer x v u e)

-- so the text is that end behind as many characters as it has more
pub drops : (u t : Characters) → Ends u t → drop (length t - length u) t ≡ u
drops u t (x, e) =
    let long = ap length e ∙ length-append x u in
    let many : length t - length u ≡ length x = omega (arith, long) in
    subst (λ n. drop n t ≡ u) (sym many) (subst (λ s. drop (length x) s ≡ u) (sym e) (drop-append_seam x u))

pub shorter : (u t : Characters) → Ends u t → length u ≤ length t
shorter u t (x, e) = let long = ap length e ∙ length-append x u in omega (arith, long)

gaps_end : (t u : Characters) → Gaps t u → Ends u t
gaps_end _ _ (none t solid) = whole t
gaps_end _ _ (blank c t u white g) = more c u t (gaps_end t u g)
gaps_end _ _ (comment line t u is g) = more 35 u (line ++ 10 ∷ t) (longer line u (10 ∷ t) (more 10 u t (gaps_end t u g)))
gaps_end _ _ (last_comment line is) = (35 ∷ line, sym (append-nil (35 ∷ line)))

pub passes_end : (x : Bool) (t u : Characters) → Passes x t u → Ends u t
passes_end true t u p = gaps_end t u p
passes_end false t u p = subst (λ s. Ends s t) p (whole t)

-- u is the end of t, behind one character or more
abbrev pub Behind : Characters → Characters → Type 0
Behind u t = (c : ℕ) × (v : Characters) × (t ≡ c ∷ v) × Ends u v

pub behind_ends : (u t : Characters) → Behind u t → Ends u t
behind_ends u t (c, v, e, h) = subst (Ends u) (sym e) (more c u v h)

pub behind_shorter : (u t : Characters) → Behind u t → length u < length t
behind_shorter u t (c, v, e, h) = let long = ap length e in let less = shorter u v h in omega (arith, long, less)

at_once : (c : ℕ) (t : Characters) → Behind t (c ∷ t)
at_once c t = (c, t, refl, whole t)

written_behind : (e : Escape) (u : Characters) → Behind u (written_escape e ++ u)
written_behind (short c) u = (92, c ∷ u, refl, (c ∷ [], refl))
written_behind (fixed c ds) u = (92, c ∷ (ds ++ u), refl, (c ∷ ds, refl))
written_behind (braced c t) u = (92, c ∷ 123 ∷ ((t ++ 125 ∷ []) ++ u), refl, (c ∷ 123 ∷ (t ++ 125 ∷ []), refl))

pub escape_behind : (octal : Bool) (t u : Characters) (e : FullEscape) → IsEscape octal t e u → Behind u t
escape_behind octal _ _ _ (stated e s u says alone) = written_behind e u
escape_behind octal _ _ _ (digits ds s u on says are few ends) = (92, ds ++ u, refl, (ds, refl))
escape_behind octal _ _ _ (letter negated c e u other says) = (92, property_letter negated ∷ c ∷ u, refl, (property_letter negated ∷ c ∷ [], refl))
escape_behind octal _ _ _ (name negated word e u are says) =
    (92, property_letter negated ∷ 123 ∷ (word ++ 125 ∷ u), refl, more _ u _ (more 123 u _ (longer word u (125 ∷ u) (more 125 u u (whole u)))))

past_end : (d : ℕ) (t : Characters) → Ends (past d t) t
past_end d [] = whole []
past_end d (c ∷ t) = go (c == d)
  where
    go : (b : Bool) → Ends (if b then t else c ∷ t) (c ∷ t)
    go true = more c t t (whole t)
    go false = whole (c ∷ t)

-- the rest behind this character, which is d, is its end
closed : (f u : Characters) (d : ℕ) → Ends u (f ++ d ∷ u)
closed f u d = longer f u (d ∷ u) (more d u u (whole u))

count_end : (e : Bool) (t u : Characters) (n : ℕ) (m : Option ℕ) → IsCount e t n m u → Ends u t
count_end e _ _ _ _ (exactly a u n is) = closed a u 125
count_end e _ _ _ _ (from a u n is) = longer a u (44 ∷ 125 ∷ u) (more 44 u (125 ∷ u) (more 125 u u (whole u)))
count_end e _ _ _ _ (between a b u n m is are least) = longer a u (44 ∷ (b ++ 125 ∷ u)) (more 44 u (b ++ 125 ∷ u) (closed b u 125))
count_end e _ _ _ _ (up_to a b u m on bare is) = longer a u (44 ∷ (b ++ 125 ∷ u)) (more 44 u (b ++ 125 ∷ u) (closed b u 125))

amount_behind : (e : Bool) (t u : Characters) (n : ℕ) (m : Option ℕ) → IsAmount e t n m u → Behind u t
amount_behind e _ _ _ _ (any t) = at_once 42 t
amount_behind e _ _ _ _ (some t) = at_once 43 t
amount_behind e _ _ _ _ (maybe t) = at_once 63 t
amount_behind e _ _ _ _ (counted t u n m is) = (123, t, refl, count_end e t u n m is)

pub mark_behind : (s : MarkSettings) (t u : Characters) (k : Mark) → IsMark s t k u → Behind u t
mark_behind s _ _ _ (branch t) = at_once 124 t
mark_behind s _ _ _ (close t) = at_once 41 t
mark_behind s _ _ _ (setting f t to word full says) = (40, 63 ∷ (f ++ 41 ∷ t), refl, more 63 t _ (closed f t 41))
mark_behind s _ _ _ (capturing t other) = at_once 40 t
mark_behind s _ _ _ (naming true text t word known) = (40, 63 ∷ 80 ∷ 60 ∷ (text ++ 62 ∷ t), refl, more 63 t _ (more 80 t _ (more 60 t _ (closed text t 62))))
mark_behind s _ _ _ (naming false text t word known) = (40, 63 ∷ 60 ∷ (text ++ 62 ∷ t), refl, more 63 t _ (more 60 t _ (closed text t 62)))
mark_behind s _ _ _ (flagging f t to word says) = (40, 63 ∷ (f ++ 58 ∷ t), refl, more 63 t _ (closed f t 58))
mark_behind s _ _ _ (repeating t u n m is) =
    let (c, v, e, h) = amount_behind s.empty_min t u n m is in (c, v, e, within (past 63 u) u v (past_end 63 u) h)
mark_behind s _ _ _ (bracket t) = at_once 91 t
mark_behind s _ _ _ (escaped t u e k is says) = escape_behind s.octal t u e is
mark_behind s _ _ _ (dot t) = at_once 46 t
mark_behind s _ _ _ (caret t) = at_once 94 t
mark_behind s _ _ _ (dollar t) = at_once 36 t
mark_behind s _ _ _ (character c t other) = at_once c t
