-- Only proofs use this file.
-- What the values of the reader of marks stand for.
use Rattle.std.specs.Prelude.{◌≡◌, ◌⊎◌, ℕ, List, Option, Some, None, Result, MatchOption, MatchResult, string_bytes}
use Rattle.std.specs.Borrow.{Bor}
use Rattle.rc_tokens.specs.Said as said
use Rattle.rc_tokens.specs.declared.tokens.Opening.{Opening}
use Rattle.rc_tokens.specs.declared.tokens.Opening.TheVariants as opening
use Rattle.rc_tokens.specs.declared.tokens.Token.{Token}
use Rattle.rc_tokens.specs.declared.tokens.Token.TheVariants as token
use Rattle.rc_tokens.specs.declared.refusal.Refusal.{Refusal}
use Rattle.rc_tokens.specs.declared.refusal.Refusal.TheVariants.{Memory}

abbrev pub start_of : Opening → said.Start
start_of opening.Capturing = said.Capturing
start_of (opening.Named name) = said.Named (string_bytes name)
start_of (opening.Flagged to) = said.Flagged to

-- what the token says
abbrev pub said_of : Token → said.Said
said_of (token.Character c) = said.Stands (said.Character c)
said_of (token.Byte b) = said.Stands (said.Byte b)
said_of token.Dot = said.Stands said.Dot
said_of (token.Perl p) = said.Stands (said.PerlClass p)
said_of (token.Assertion a) = said.Stands (said.Asserts a)
said_of (token.List l) = said.Stands (said.Members l.negated l.bracket l.members.items)
said_of token.Bar = said.Bar
said_of (token.Setting to) = said.Setting to
said_of (token.Opens o) = said.Opens (start_of o)
said_of token.Closes = said.Closes
said_of (token.Repeats b) = said.Repeats b

-- the reader found what the definition gives
abbrev pub Lexes : {A : Type 0} → Option (A × Bor (List ℕ)) → Option (A × List ℕ) → Type 0
Lexes r o = MatchOption r (o ≡ None) (λ p. o ≡ Some (p.0, p.1.now))

-- the result is what the definition gives, or memory ran out
abbrev pub IsResultOf : {A B : Type 0} → Result A Refusal → Option B → (A → B) → Type 0
IsResultOf r o view = MatchResult r (λ a. o ≡ Some (view a)) (λ e. (e ≡ Memory) ⊎ (o ≡ None))

-- the reader found a token that says what the definition gives, or memory ran out
abbrev pub LexesToken : Result (Token × Bor (List ℕ)) Refusal → Option (said.Said × List ℕ) → Type 0
LexesToken r o = IsResultOf r o (λ p. (said_of p.0, p.1.now))
