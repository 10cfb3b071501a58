-- A mark makes the text shorter.
use Rattle.std.proofs.Common.{ℕ, ◌≤◌, ◌<◌, Bool, true, false, ◌==◌, [], ◌∷◌, ◌++◌, Option, length, length-append, sym, subst, arith, if◌then◌else◌}
use Rattle.rc_tokens.specs.Text.{Characters}
use Rattle.rc_tokens.specs.Lexer.{past}
use Rattle.rc_parser.specs.Settings.{Settings}
use Rattle.rc_full_tokens.specs.Counts.{IsCount, exactly, from, between, up_to}
use Rattle.rc_full_lists.proofs.OpeningLemmas.{passed_shorter}
use Rattle.rc_full_lists.proofs.ShorterLemmas.{passes_shorter, escape_shorter, list_shorter}
use Rattle.rc_full_parser.specs.declared.marks.MarkSettings.{MarkSettings}
use Rattle.rc_full_parser.specs.Marks as mark
use Rattle.rc_full_parser.specs.Marks.{Mark, IsAmount, any, some, maybe, counted, IsMark, branch, close, setting, capturing, naming, flagging, repeating, bracket, escaped, dot, caret, dollar, character}
use Rattle.rc_full_parser.specs.Grammar.{flags, list_settings}
use Rattle.rc_full_parser.specs.Machine.{State, place, Moves, Steps}

past_shorter : (d : ℕ) (t : Characters) → length (past d t) ≤ length t
past_shorter d [] = omega arith
past_shorter d (c ∷ t) = go (c == d)
  where
    go : (b : Bool) → length (if b then t else c ∷ t) ≤ length (c ∷ t)
    go true = omega arith
    go false = omega arith

count_shorter : (e : Bool) (t u : Characters) (n : ℕ) (m : Option ℕ) → IsCount e t n m u → length u ≤ length t
count_shorter e _ _ _ _ (exactly a u n is) = let h = length-append a (125 ∷ u) in omega (arith, h)
count_shorter e _ _ _ _ (from a u n is) = let h = length-append a (44 ∷ 125 ∷ u) in omega (arith, h)
count_shorter e _ _ _ _ (between a b u n m is are least) =
    let h = length-append a (44 ∷ (b ++ 125 ∷ u)) in let g = length-append b (125 ∷ u) in omega (arith, h, g)
count_shorter e _ _ _ _ (up_to a b u m on blank is) =
    let h = length-append a (44 ∷ (b ++ 125 ∷ u)) in let g = length-append b (125 ∷ u) in omega (arith, h, g)

amount_shorter : (e : Bool) (t u : Characters) (n : ℕ) (m : Option ℕ) → IsAmount e t n m u → length u < length t
amount_shorter e _ _ _ _ (any t) = omega arith
amount_shorter e _ _ _ _ (some t) = omega arith
amount_shorter e _ _ _ _ (maybe t) = omega arith
amount_shorter e _ _ _ _ (counted t u n m is) = let h = count_shorter e t u n m is in omega (arith, h)

mark_shorter : (s : MarkSettings) (t u : Characters) (k : Mark) → IsMark s t k u → length u < length t
mark_shorter s _ _ _ (branch t) = omega arith
mark_shorter s _ _ _ (close t) = omega arith
mark_shorter s _ _ _ (setting f t to word full says) = let h = length-append f (41 ∷ t) in omega (arith, h)
mark_shorter s _ _ _ (capturing t other) = omega arith
mark_shorter s _ _ _ (naming true text t word known) = let h = length-append text (62 ∷ t) in omega (arith, h)
mark_shorter s _ _ _ (naming false text t word known) = let h = length-append text (62 ∷ t) in omega (arith, h)
mark_shorter s _ _ _ (flagging f t to word says) = let h = length-append f (58 ∷ t) in omega (arith, h)
mark_shorter s _ _ _ (repeating t u n m is) = let h = amount_shorter s.empty_min t u n m is in let g = past_shorter 63 u in omega (arith, h, g)
mark_shorter s _ _ _ (bracket t) = omega arith
mark_shorter s _ _ _ (escaped t u e k is says) = escape_shorter s.octal t u e is
mark_shorter s _ _ _ (dot t) = omega arith
mark_shorter s _ _ _ (caret t) = omega arith
mark_shorter s _ _ _ (dollar t) = omega arith
mark_shorter s _ _ _ (character c t other) = omega arith

moves_shorter : (s : Settings) (k : Mark) (m n : State) (t u : Characters) → Moves s k m t n u → length u ≤ length t
moves_shorter s mark.bar m n t u (h, e) = subst (λ x. length x ≤ length t) e (omega arith)
moves_shorter s mark.closes m n t u (h, e) = subst (λ x. length x ≤ length t) e (omega arith)
moves_shorter s (mark.sets to) m n t u (h, e) = subst (λ x. length x ≤ length t) e (omega arith)
moves_shorter s (mark.opens k x) m n t u (h, e) = subst (λ x. length x ≤ length t) e (omega arith)
moves_shorter s (mark.repeats b) m n t u (h, e) = subst (λ x. length x ≤ length t) e (omega arith)
moves_shorter s mark.brackets m n t u (c, d, q, is, part, same) =
    let h = list_shorter (list_settings s (place m)) (flags (place m)).case_insensitive t u c d is in omega (arith, h)
moves_shorter s (mark.stands k) m n t u (q, is, same, e) = subst (λ x. length x ≤ length t) e (omega arith)

pub steps_shorter : (s : Settings) (m n : State) (t v : Characters) → Steps s m t n v → length v < length t
steps_shorter s m n t v (k, u, w, b, moves, e) =
    let gaps = passes_shorter m.verbose t b.front b.gaps in
    let here = mark_shorter _ b.front u k b.is_mark in
    let list = moves_shorter s k m n u w moves in
    let more : length v ≤ length w = subst (λ x. length x ≤ length w) (sym e) (passed_shorter n.verbose w) in
    omega (arith, gaps, here, list, more)
