-- The definitions of the reader of marks at a text that is known to begin with a character.
use Rattle.std.proofs.Common.{◌≡◌, ℕ, [], ◌∷◌, Some, None, refl, ap, ◌∙◌, length, drop, take, ◌≤◌}
use Rattle.std.proofs.lemmas.List.{drop_all}
use Rattle.rc_tokens.specs.Text.{◌>>=◌}
use Rattle.rc_tokens.specs.Marks.{fixed_says}
use Rattle.rc_tokens.specs.Lexer.{fixed_then}
use Rattle.rc_tokens.proofs.TextLemmas.{take_few}
use Rattle.rc_tokens.specs.Text.{Characters}
use Rattle.rc_tokens.specs.Lexer.{lex_escape, escape_at, lex_member, member_at, lex, lex_at}

pub escape_is : (t : Characters) (c : ℕ) (rest : Characters) → t ≡ c ∷ rest → lex_escape t ≡ escape_at c rest
escape_is t c rest e = ap lex_escape e

pub escape_none : (t : Characters) → t ≡ [] → lex_escape t ≡ None
escape_none t e = ap lex_escape e

pub member_is : (t : Characters) (c : ℕ) (rest : Characters) → t ≡ c ∷ rest → lex_member t ≡ member_at c rest
member_is t c rest e = ap lex_member e

pub member_none : (t : Characters) → t ≡ [] → lex_member t ≡ None
member_none t e = ap lex_member e

pub lex_is : (t : Characters) (c : ℕ) (rest : Characters) → t ≡ c ∷ rest → lex t ≡ lex_at c rest
lex_is t c rest e = ap lex e

pub lex_none : (t : Characters) → t ≡ [] → lex t ≡ None
lex_none t e = ap lex e

-- a text that is shorter than the digits wanted is no number of them
pub fixed_few : (c n : ℕ) (t : Characters) → length t ≤ n → fixed_then c n t ≡ (fixed_says c t >>= λ s. Some (s, []))
fixed_few c n t h = ap (λ s. fixed_says c s >>= λ e. Some (e, drop n t)) (take_few t n h)
    ∙ ap (λ u. fixed_says c t >>= λ e. Some (e, u)) (drop_all n t h)

pub fixed_many : (c n : ℕ) (t : Characters) → fixed_then c n t ≡ (fixed_says c (take n t) >>= λ s. Some (s, drop n t))
fixed_many c n t = refl
