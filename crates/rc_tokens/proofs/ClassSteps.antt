-- The steps of the loops that make classes.
use Rattle.std.proofs.Common.{◌≡◌, ℕ, ◌+◌, ◌<◌, ◌≤◌, Bool, true, false, List, [], ◌∷◌, ◌++◌, length, drop, get_or, max, nat_lt, nat_le, refl, ap, sym, ◌∙◌, if◌then◌else◌}
use Rattle.std.proofs.lemmas.List.{drop_more, drop_all}
use Rattle.rc_tokens.specs.ClassView.{pair, pairs}
use Rattle.rc_tokens.specs.Classes.{next, before, shared, lower, upper, folded, gaps, last_code}
use Rattle.rc_tokens.specs.Merged.{merges}
use Rattle.rc_tokens.specs.declared.classes.CodeRange.{CodeRange}

none : CodeRange
none = record { start = 0; end = 0 }

-- the ranges from the one at i on
pub from_at : (rs : List CodeRange) (i : ℕ) (q : CodeRange) → i < length rs → q ≡ get_or rs i q → pairs (drop i rs) ≡ pair q ∷ pairs (drop (i + 1) rs)
from_at rs i q h e = ap pairs (drop_more rs i q h) ∙ ap (λ x. pair x ∷ pairs (drop (i + 1) rs)) (sym e)

pub gaps_step : (u : Bool) (start : ℕ) (rs : List CodeRange) (i : ℕ) (q : CodeRange) → i < length rs → q ≡ get_or rs i q →
    gaps u start (pairs (drop i rs)) ≡ (if nat_lt start q.start then (start, before u q.start) ∷ [] else []) ++ gaps u (next u q.end) (pairs (drop (i + 1) rs))
gaps_step u start rs i q h e = ap (gaps u start) (from_at rs i q h e)

pub gaps_end : (u : Bool) (start : ℕ) (rs : List CodeRange) (i : ℕ) → length rs ≤ i →
    gaps u start (pairs (drop i rs)) ≡ (if nat_le start (last_code u) then (start, last_code u) ∷ [] else [])
gaps_end u start rs i h = ap (λ x. gaps u start (pairs x)) (drop_all i rs h)

pub folded_step : (rs : List CodeRange) (i : ℕ) (q : CodeRange) → i < length rs → q ≡ get_or rs i q →
    folded (pairs (drop i rs)) ≡ pair q ∷ (lower (shared 65 90 (pair q)) ++ (upper (shared 97 122 (pair q)) ++ folded (pairs (drop (i + 1) rs))))
folded_step rs i q h e = ap folded (from_at rs i q h e)

pub folded_end : (rs : List CodeRange) (i : ℕ) → length rs ≤ i → folded (pairs (drop i rs)) ≡ []
folded_end rs i h = ap (λ x. folded (pairs x)) (drop_all i rs h)

pub merges_apart : (u : Bool) (c : CodeRange) (rs : List CodeRange) (i : ℕ) (q : CodeRange) → i < length rs → q ≡ get_or rs i q →
    nat_lt (next u c.end) q.start ≡ true → merges u (pair c) (pairs (drop i rs)) ≡ pair c ∷ merges u (pair q) (pairs (drop (i + 1) rs))
merges_apart u c rs i q h e t = ap (merges u (pair c)) (from_at rs i q h e) ∙ rw t refl

pub merges_touch : (u : Bool) (c : CodeRange) (rs : List CodeRange) (i : ℕ) (q : CodeRange) → i < length rs → q ≡ get_or rs i q →
    nat_lt (next u c.end) q.start ≡ false → merges u (pair c) (pairs (drop i rs)) ≡ merges u (c.start, max c.end q.end) (pairs (drop (i + 1) rs))
merges_touch u c rs i q h e t = ap (merges u (pair c)) (from_at rs i q h e) ∙ rw t refl

pub merges_end : (u : Bool) (c : CodeRange) (rs : List CodeRange) (i : ℕ) → length rs ≤ i → merges u (pair c) (pairs (drop i rs)) ≡ pair c ∷ []
merges_end u c rs i h = ap (λ x. merges u (pair c) (pairs x)) (drop_all i rs h)
