-- What the words of a command line give.
use Rattle.std.specs.Prelude.{ℕ, Bool, false, ◌==◌, List, [], ◌∷◌, ◌++◌, Option, None, Some, bytes_eq, chars, encode_utf8_all, if◌then◌else◌, length, nat_lt}
use Rattle.std.specs.List.{after_first, before_first, position_or_len}
use Rattle.grep_options.specs.declared.table.Entry.{Entry}
use Rattle.grep_options.specs.declared.table.Id.{Id}
use Rattle.grep_options.specs.declared.table.Takes.{Takes}
use Rattle.grep_options.specs.declared.table.Takes.TheVariants.{Nothing, Value}

abbrev pub Text : Type 0
Text = List ℕ

-- an option, with its value if it has one
abbrev pub Chosen : Type 0
Chosen = Id × Option Text

-- what is wrong with a word: it is no option, or a letter of it is none; its option lacks a value; its option takes none
pub data Fault : Type 0 where
  unknown : Fault
  no_value : Fault
  unneeded : Fault

-- what the next word is
pub data Turn : Type 0 where
  -- an option or an operand
  any : Turn
  -- the value of the option in this word
  value : Id → Text → Turn
  -- an operand, as is each word behind it
  operand : Turn

-- what one word says: options, operands, and what the next word is
pub data Said : Type 0 where
  says : List Chosen → List Text → Turn → Said
  wrong : Fault → Said

-- the first entry that passes
abbrev pub first : (Entry → Bool) → List Entry → Option Entry
first test [] = None
first test (e ∷ table) = if test e then Some e else first test table

abbrev pub is_letter : ℕ → Option ℕ → Bool
is_letter c None = false
is_letter c (Some d) = d == c

abbrev pub has_letter : ℕ → Entry → Bool
has_letter c e = is_letter c e.letter

abbrev pub has_name : Text → Entry → Bool
has_name name e = bytes_eq e.name.now name

-- an option that stands in the word, with its value there
abbrev pub option_says : (word : Text) → Option Text → Id → Takes → Said
option_says word None id (Value name) = says [] [] (value id word)
option_says word None id takes = says ((id, None) ∷ []) [] any
option_says word (Some v) id Nothing = wrong unneeded
option_says word (Some v) id takes = says ((id, Some v) ∷ []) [] any

abbrev pub entry_says : (word : Text) → Option Text → Option Entry → Said
entry_says word v None = wrong unknown
entry_says word v (Some e) = option_says word v e.id e.takes

-- the name, and the value behind the first `=`
abbrev pub name_in : Text → Text
name_in text = before_first (λ b. b == 61) text

abbrev pub value_in : Text → Option Text
value_in text = if nat_lt (position_or_len (λ b. b == 61) text) (length text) then Some (after_first (λ b. b == 61) text) else None

-- the text behind two dashes
abbrev pub name_says : List Entry → (word text : Text) → Said
name_says table word text = entry_says word (value_in text) (first (has_name (name_in text)) table)

abbrev pub with_option : Chosen → Said → Said
with_option o (says os xs turn) = says (o ∷ os) xs turn
with_option o (wrong fault) = wrong fault

abbrev pub some_text : Text → Option Text
some_text [] = None
some_text (b ∷ text) = Some (b ∷ text)

abbrev pub taking_says : (word : Text) → (rest : List ℕ) → (others : Said) → Id → Takes → Said
taking_says word rest others id Nothing = with_option (id, None) others
taking_says word rest others id takes = option_says word (some_text (encode_utf8_all rest)) id takes

abbrev pub letter_says : (word : Text) → (rest : List ℕ) → (others : Said) → Option Entry → Said
letter_says word rest others None = wrong unknown
letter_says word rest others (Some e) = taking_says word rest others e.id e.takes

-- The letters behind a dash. Each is an option, and all that is behind the first one that takes a value is its value.
abbrev pub letters_say : List Entry → (word : Text) → List ℕ → Said
letters_say table word [] = says [] [] any
letters_say table word (c ∷ rest) = letter_says word rest (letters_say table word rest) (first (has_letter c) table)

abbrev pub behind_dash : Text → Option Text
behind_dash [] = None
behind_dash (b ∷ text) = if b == 45 then Some text else None

-- a word, the text behind its dash, and that behind a second one
abbrev pub dashes_say : List Entry → (word text : Text) → Option Text → Said
dashes_say table word text None = letters_say table word (chars text)
dashes_say table word text (Some []) = says [] [] operand
dashes_say table word text (Some (b ∷ name)) = name_says table word (b ∷ name)

-- a word, and the text behind its dash
abbrev pub dash_says : List Entry → (word : Text) → Option Text → Said
dash_says table word None = says [] (word ∷ []) any
dash_says table word (Some []) = says [] (word ∷ []) any
dash_says table word (Some (b ∷ text)) = dashes_say table word (b ∷ text) (behind_dash (b ∷ text))

-- a word that is an option or an operand
abbrev pub word_says : List Entry → Text → Said
word_says table word = dash_says table word (behind_dash word)

abbrev pub next_says : List Entry → Turn → Text → Said
next_says table any word = word_says table word
next_says table (value id before) word = says ((id, Some word) ∷ []) [] any
next_says table operand word = says [] (word ∷ []) operand

-- what words give: options and operands, each in their order; or the first fault, and its word
pub data Outcome : Type 0 where
  gives : List Chosen → List Text → Outcome
  refused : Fault → Text → Outcome

abbrev pub with_these : List Chosen → List Text → Outcome → Outcome
with_these os xs (gives options operands) = gives (os ++ options) (xs ++ operands)
with_these os xs (refused fault word) = refused fault word

abbrev pub at_end : Turn → Outcome
at_end (value id word) = refused no_value word
at_end turn = gives [] []

abbrev pub then_give : (others : Turn → Outcome) → (word : Text) → Said → Outcome
then_give others word (says os xs turn) = with_these os xs (others turn)
then_give others word (wrong fault) = refused fault word

-- The words, of which the first is what the turn says.
abbrev pub words_give : List Entry → Turn → List Text → Outcome
words_give table turn [] = at_end turn
words_give table turn (word ∷ words) = then_give (λ t. words_give table t words) word (next_says table turn word)
