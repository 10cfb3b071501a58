-- Gaps end where the function says.
use Rattle.std.proofs.Common.{◌≡◌, ℕ, ◌-◌, Bool, true, false, not, ◌&&◌, ◌==◌, [], ◌∷◌, ◌++◌, length, take, drop, length-drop, refl, sym, ap, subst, ◌∙◌, true≢false, eqb-true, append-nil, append_assoc, arith, if◌then◌else◌}
use Rattle.std.proofs.lemmas.Bool.{and_parts}
use Rattle.unicode.specs.Binary.{is_white_space}
use Rattle.unicode.proofs.PropsComputing.{ucd_props}
use Rattle.rc_tokens.specs.Text.{Characters}
use Rattle.rc_tokens.proofs.TextLemmas.{take_few}
use Rattle.rc_tokens.proofs.ClassLemmas.{if_elim}
use Rattle.rc_full_tokens.specs.Gaps.{is_solid, is_line, Gaps, none, blank, comment, last_comment, OneGapLaw}
use Rattle.rc_full_tokens.specs.Skips.{behind_gaps}

-- what `&text[n..]` is
pub rest_whole : (t : Characters) (n : ℕ) → take (length t - n) (drop n t) ≡ drop n t
rest_whole t n = let same = length-drop n t in take_few (drop n t) (length t - n) (omega (arith, same))

-- ---- the function gives what the relation says

both_not : (a b : Bool) → a ≡ false → b ≡ false → (not a && not b) ≡ true
both_not true b e f = absurd (true≢false e)
both_not false true e f = absurd (true≢false f)
both_not false false e f = refl

last_one : (b : Bool) → b ≡ false → (not b && true) ≡ true
last_one true e = absurd (true≢false e)
last_one false e = refl

line_more : (front : Characters) (c : ℕ) → is_line front ≡ true → (c == 10) ≡ false → is_line (front ++ c ∷ []) ≡ true
line_more [] c l other = last_one (c == 10) other
line_more (d ∷ front) c l other =
    let parts = and_parts (not (d == 10)) (is_line front) l in
    rw parts.0 (line_more front c parts.1 other)

-- a text with the part of a comment that stands before it
abbrev Behind : Bool → Characters → Characters → Characters → Type 0
Behind false front t u = Gaps t u
Behind true front t u = Gaps (35 ∷ (front ++ t)) u

behind : (in_comment : Bool) (t front : Characters) → is_line front ≡ true → Behind in_comment front t (behind_gaps in_comment t)
behind false [] front l = none [] refl
behind true [] front l = subst (λ x. Gaps (35 ∷ x) []) (sym (append-nil front)) (last_comment front l)
behind false (c ∷ t) front l =
    if_elim (λ x. Gaps (c ∷ t) x) (c == 35) (behind_gaps true t) (if is_white_space c then behind_gaps false t else c ∷ t)
    (λ e. subst (λ d. Gaps (d ∷ t) (behind_gaps true t)) (sym (eqb-true c 35 e)) (behind true t [] refl))
    (λ n. if_elim (λ x. Gaps (c ∷ t) x) (is_white_space c) (behind_gaps false t) (c ∷ t)
    (λ w. blank c t (behind_gaps false t) w (behind false t [] refl))
    (λ m. none (c ∷ t) (both_not (is_white_space c) (c == 35) m n)))
behind true (c ∷ t) front l =
    if_elim (λ x. Gaps (35 ∷ (front ++ c ∷ t)) x) (c == 10) (behind_gaps false t) (behind_gaps true t)
    (λ e. subst (λ d. Gaps (35 ∷ (front ++ d ∷ t)) (behind_gaps false t)) (sym (eqb-true c 10 e)) (comment front t (behind_gaps false t) l (behind false t [] refl)))
    (λ n. subst (λ x. Gaps (35 ∷ x) (behind_gaps true t)) (append_assoc front (c ∷ []) t) (behind true t (front ++ c ∷ []) (line_more front c l n)))

pub gaps_end : (t : Characters) → Gaps t (behind_gaps false t)
gaps_end t = behind false t [] refl

-- ---- and only that

not_true : (b : Bool) → not b ≡ true → b ≡ false
not_true true h = absurd (true≢false (sym h))
not_true false h = refl

sign_solid : is_white_space 35 ≡ false
unfolding ucd_props
sign_solid = refl

solid_stays : (t : Characters) → is_solid t ≡ true → t ≡ behind_gaps false t
solid_stays [] h = refl
solid_stays (c ∷ t) h =
    let parts = and_parts (not (is_white_space c)) (not (c == 35)) h in
    if_elim (λ x. c ∷ t ≡ x) (c == 35) (behind_gaps true t) (if is_white_space c then behind_gaps false t else c ∷ t)
    (λ e. absurd (true≢false (sym e ∙ not_true (c == 35) parts.1)))
    (λ _. if_elim (λ x. c ∷ t ≡ x) (is_white_space c) (behind_gaps false t) (c ∷ t)
    (λ w. absurd (true≢false (sym w ∙ not_true (is_white_space c) parts.0))) (λ _. refl))

blank_passed : (c : ℕ) (t : Characters) → is_white_space c ≡ true → behind_gaps false t ≡ behind_gaps false (c ∷ t)
blank_passed c t w =
    if_elim (λ x. behind_gaps false t ≡ x) (c == 35) (behind_gaps true t) (if is_white_space c then behind_gaps false t else c ∷ t)
    (λ e. absurd (true≢false (sym w ∙ ap is_white_space (eqb-true c 35 e) ∙ sign_solid)))
    (λ _. if_elim (λ x. behind_gaps false t ≡ x) (is_white_space c) (behind_gaps false t) (c ∷ t) (λ _. refl)
    (λ m. absurd (true≢false (sym w ∙ m))))

line_step : (c : ℕ) (t : Characters) → not (c == 10) ≡ true → behind_gaps true (c ∷ t) ≡ behind_gaps true t
line_step c t h =
    if_elim (λ x. x ≡ behind_gaps true t) (c == 10) (behind_gaps false t) (behind_gaps true t)
    (λ e. absurd (true≢false (sym e ∙ not_true (c == 10) h))) (λ _. refl)

line_passed : (line t : Characters) → is_line line ≡ true → behind_gaps true (line ++ 10 ∷ t) ≡ behind_gaps false t
line_passed [] t l = refl
line_passed (c ∷ line) t l =
    let parts = and_parts (not (c == 10)) (is_line line) l in
    line_step c (line ++ 10 ∷ t) parts.0 ∙ line_passed line t parts.1

last_passed : (line : Characters) → is_line line ≡ true → behind_gaps true line ≡ []
last_passed [] l = refl
last_passed (c ∷ line) l =
    let parts = and_parts (not (c == 10)) (is_line line) l in line_step c line parts.0 ∙ last_passed line parts.1

pub ends_there : (t u : Characters) → Gaps t u → u ≡ behind_gaps false t
ends_there _ _ (none t solid) = solid_stays t solid
ends_there _ _ (blank c t u w rest) = ends_there t u rest ∙ blank_passed c t w
ends_there _ _ (comment line t u l rest) = ends_there t u rest ∙ sym (line_passed line t l)
ends_there _ _ (last_comment line l) = sym (last_passed line l)

pub one_gap_law : OneGapLaw
one_gap_law t u v g h = ends_there t u g ∙ sym (ends_there t v h)
