-- One word more, and one option more.
use Rattle.std.proofs.Common.{Bor, ℕ, ◌≡◌, ◌≢◌, ◌++◌, ◌∷◌, ◌∙◌, [], true, List, Option, None, Some, Result, Ok, Err, ap, append_assoc, append-nil, arith, ◌==◌, chars, encode_utf8_all, eqb→eq, false, if◌then◌else◌, length, length-append, refl, subst, sym}
use lib.Dec.{T}
use Rattle.std.specs.Prelude.{IsErr, IsErrAnd, MatchOption, encode_utf8}
use Rattle.std.specs.Option.{option_map}
use Rattle.std.specs.Str.{IsUtf8, all_scalars}
use Rattle.std.proofs.lemmas.Bool.{and_parts}
use Rattle.std.proofs.lemmas.Str.{chars-encodes, encode_same, len_utf8_bounds, length-encode}
use Rattle.grep_options.specs.Given.{IsWordsError, chosen_of, operands_of}
use Rattle.grep_options.specs.Taken.{HasGrown, HasTaken, IsMemory, IsWrong}
use Rattle.grep_options.specs.Words.{Chosen, Outcome, Said, Text, Turn, behind_dash, first, has_letter, letter_says, letters_say, option_says, some_text, taking_says, then_give, with_option, with_these}
use Rattle.grep_options.specs.Words.Fault.{unknown}
use Rattle.grep_options.specs.Words.Outcome.{gives, refused}
use Rattle.grep_options.specs.Words.Said.{says, wrong}
use Rattle.grep_options.specs.Words.Turn.{any}
use Rattle.grep_options.specs.declared.read.Given.{Given}
use Rattle.grep_options.specs.declared.table.Entry.{Entry}
use Rattle.grep_options.specs.declared.table.Id.{Id}
use Rattle.grep_options.specs.declared.table.Takes.{Takes}
use Rattle.grep_options.specs.declared.table.Takes.TheVariants.{Choice, Nothing, Value}
use Rattle.grep_options.specs.declared.read.Next.{Next}
use Rattle.grep_options.specs.declared.read.Next.TheVariants.{Any}
use Rattle.grep_options.specs.declared.read.WordsError.{WordsError}
use Rattle.grep_options.specs.declared.read.WordsError.TheVariants.{Memory, NoValue, Unknown, Unneeded}

these_join : (a os : List Chosen) (b xs : List Text) (o : Outcome) → with_these a b (with_these os xs o) ≡ with_these (a ++ os) (b ++ xs) o
these_join a os b xs (gives options operands) = simp append_assoc
these_join a os b xs (refused fault word) = refl

-- what is given so far, and what a word adds
pub grown_step : (old new : Given) (others : Turn → Outcome) (word : Text) (turn : Turn) (said : Said) → HasGrown old new turn said →
    with_these (chosen_of old) (operands_of old) (then_give others word said) ≡ with_these (chosen_of new) (operands_of new) (others turn)
grown_step old new others word turn (says os xs next) h = rw (h.0, h.1, h.2) (these_join (chosen_of old) os (operands_of old) xs (others next))
grown_step old new others word turn (wrong fault) h = absurd h

memory_error : (e : WordsError) (o : Outcome) → IsMemory e → IsWordsError e o
memory_error (Unknown word) o h = absurd h
memory_error (NoValue word) o h = absurd h
memory_error (Unneeded word) o h = absurd h
memory_error Memory o h = tt

pub wrong_step : (options : List Chosen) (operands : List Text) (others : Turn → Outcome) (word : Text) (e : WordsError) (said : Said) → IsWrong word e said →
    IsWordsError e (with_these options operands (then_give others word said))
wrong_step options operands others word e (says os xs next) h = memory_error e _ h
wrong_step options operands others word e (wrong fault) h = h

pub taken_more : (old mid new : Given) (o : Chosen) (word : Text) (r : Result Next WordsError) (said : Said) →
    chosen_of mid ≡ chosen_of old ++ o ∷ [] → operands_of mid ≡ operands_of old → HasTaken mid new word r said → HasTaken old new word r (with_option o said)
taken_more old mid new o word (Ok next) (says os xs turn) e f h = (h.0 ∙ ap (λ l. l ++ os) e ∙ append_assoc (chosen_of old) (o ∷ []) os, h.1 ∙ ap (λ l. l ++ xs) f, h.2)
taken_more old mid new o word (Ok next) (wrong fault) e f h = h
taken_more old mid new o word (Err error) (says os xs turn) e f h = h
taken_more old mid new o word (Err error) (wrong fault) e f h = h

lacks_memory : (word : Text) (said : Said) → IsWrong word Memory said
lacks_memory word (says os xs turn) = tt
lacks_memory word (wrong fault) = tt

-- want of memory says nothing of a word
pub memory_taken : (old new : Given) (word : Text) (r : Result Next WordsError) (said : Said) → IsErr r × IsErrAnd r (λ e. e ≡ Memory) → HasTaken old new word r said
memory_taken old new word (Ok next) said h = absurd (let e : false ≡ true = h.0 in cc)
memory_taken old new word (Err e) said h = subst (λ (x : WordsError). IsWrong word x said) (sym h.1) (lacks_memory word said)

-- ---- letters

-- What the letters that are left say goes on with what those before them say: `old` is what was given before them all.
pub record Left (old now : Given) (table : List Entry) (word : Text) (all : List ℕ) (rest : Text) : Type 0 where
  pub letters : List ℕ
  pub scalar : all_scalars letters ≡ true
  pub spell : encode_utf8_all letters ≡ rest
  pub goes_on : (new : Given) (r : Result Next WordsError) → HasTaken now new word r (letters_say table word letters) → HasTaken old new word r (letters_say table word all)

no_letter : (letters : List ℕ) (text : Text) → encode_utf8_all letters ≡ text → length text ≡ 0 → letters ≡ []
no_letter [] text spell e = refl
no_letter (c ∷ letters) text spell e = absurd (omega (arith, ap length spell, e, length-append (encode_utf8 c) (encode_utf8_all letters), length-encode c, len_utf8_bounds c))

takes_value : (word : Text) (rest : List ℕ) (others : Said) (id : Id) (takes : Takes) → takes ≢ Nothing → taking_says word rest others id takes ≡ option_says word (some_text (encode_utf8_all rest)) id takes
takes_value word rest others id Nothing h = absurd (h refl)
takes_value word rest others id (Value name) h = refl
takes_value word rest others id (Choice name) h = refl

module _ (table : List Entry) (word : Text) where
  pub all_left : (g : Given) (text : Text) → IsUtf8 text → Left g g table word (chars text) text
  all_left g text u =
      let is : chars text ≡ u.0 = ap chars (sym u.1.1) ∙ chars-encodes u.0 u.1.0 in
      record {
        letters = u.0;
        scalar = u.1.0;
        spell = u.1.1;
        goes_on = λ new r h. subst (λ (cs : List ℕ). HasTaken g new word r (letters_say table word cs)) (sym is) h;
      }

  -- the letters behind a first one
  record Behind (letters : List ℕ) (c : ℕ) (rest : Text) : Type 0 where
    pub others : List ℕ
    pub is : letters ≡ c ∷ others
    pub scalar : all_scalars others ≡ true
    pub spell : encode_utf8_all others ≡ rest

  behind : (letters : List ℕ) (c : ℕ) (text rest : Text) → all_scalars letters ≡ true → encode_utf8_all letters ≡ text → text ≡ encode_utf8 c ++ rest → Behind letters c rest
  behind [] c text rest sc spell e = absurd (omega (arith, ap length (spell ∙ e), length-append (encode_utf8 c) rest, length-encode c, len_utf8_bounds c))
  behind (d ∷ letters) c text rest sc spell e =
      let same = encode_same d c (encode_utf8_all letters) rest (spell ∙ e) in
      record { others = letters; is = ap (λ x. x ∷ letters) same.0; scalar = (and_parts _ _ sc).1; spell = same.1 }

  -- one letter less, whose option is `o`
  pub one_less : {old now : Given} {all : List ℕ} (c : ℕ) (text rest : Text) (o : Option Entry) → Left old now table word all text → text ≡ encode_utf8 c ++ rest → o ≡ first (has_letter c) table →
      (others : List ℕ) × (all_scalars others ≡ true) × (encode_utf8_all others ≡ rest)
      × ((new : Given) (r : Result Next WordsError) → HasTaken now new word r (letter_says word others (letters_say table word others) o) → HasTaken old new word r (letters_say table word all))
  one_less {old} {now} {all} c text rest o left e is =
      let cut = behind left.letters c text rest left.scalar left.spell e in (
        cut.others,
        cut.scalar,
        cut.spell,
        λ new r h. left.goes_on new r (subst (λ (cs : List ℕ). HasTaken now new word r (letters_say table word cs)) (sym cut.is) (subst (λ (x : Option Entry). HasTaken now new word r (letter_says word cut.others (letters_say table word cut.others) x)) is h)),
      )

  pub none_left : {old now : Given} {all : List ℕ} (text : Text) → Left old now table word all text → length text ≡ 0 → HasGrown old now any (letters_say table word all)
  none_left {old} {now} {all} text left e = left.goes_on now (Ok Any) (subst (λ (cs : List ℕ). HasGrown now now any (letters_say table word cs)) (sym (no_letter left.letters text left.spell e))
      (sym (append-nil (chosen_of now)), sym (append-nil (operands_of now)), refl))

  pub letter_unknown : {old now : Given} {all : List ℕ} (c : ℕ) (text rest : Text) (o : Option Entry) (e : WordsError) → Left old now table word all text → text ≡ encode_utf8 c ++ rest →
      o ≡ first (has_letter c) table → o ≡ None → IsWordsError e (refused unknown word) → IsWrong word e (letters_say table word all)
  letter_unknown {old} {now} {all} c text rest o e left split is none told =
      let one = one_less c text rest o left split is in
      one.3 now (Err e) (subst (λ (x : Option Entry). IsWrong word e (letter_says word one.0 (letters_say table word one.0) x)) (sym none) told)

  pub letter_taking : {old now : Given} {all : List ℕ} (c : ℕ) (text rest : Text) (entry : Entry) (v : Option Text) (new : Given) (r : Result Next WordsError) → Left old now table word all text →
      text ≡ encode_utf8 c ++ rest → Some entry ≡ first (has_letter c) table → entry.takes ≢ Nothing → v ≡ some_text rest → HasTaken now new word r (option_says word v entry.id entry.takes) →
      HasTaken old new word r (letters_say table word all)
  letter_taking {old} {now} {all} c text rest entry v new r left split is takes value h =
      let one = one_less c text rest (Some entry) left split is in
      let same : v ≡ some_text (encode_utf8_all one.0) = value ∙ ap some_text (sym one.2) in
      one.3 new r (subst (λ (x : Said). HasTaken now new word r x) (sym (takes_value word one.0 (letters_say table word one.0) entry.id entry.takes takes))
      (subst (λ (x : Option Text). HasTaken now new word r (option_says word x entry.id entry.takes)) same h))

  pub letter_alone : {old now : Given} {all : List ℕ} (mid : Given) (c : ℕ) (text rest : Text) (entry : Entry) → Left old now table word all text → text ≡ encode_utf8 c ++ rest →
      Some entry ≡ first (has_letter c) table → entry.takes ≡ Nothing → chosen_of mid ≡ chosen_of now ++ (entry.id, None) ∷ [] → operands_of mid ≡ operands_of now → Left old mid table word all rest
  letter_alone {old} {now} {all} mid c text rest entry left split is takes e f =
      let one = one_less c text rest (Some entry) left split is in
      record {
        letters = one.0;
        scalar = one.1;
        spell = one.2;
        goes_on = λ new r h. one.3 new r (subst (λ (t : Takes). HasTaken now new word r (taking_says word one.0 (letters_say table word one.0) entry.id t)) (sym takes)
            (taken_more now mid new (entry.id, None) word r (letters_say table word one.0) e f h));
      }

-- ---- dashes

if_false : (b : ℕ) (x : Option Text) → (b ≡ 45 → ⊥) → None ≡ (if b == 45 then x else None)
if_false b x h = elim (b == 45) as (λ v. ((b == 45) ≡ v) → None ≡ (if v then x else None)) [ true ↦ λ e. absurd (h (eqb→eq b 45 (subst T (sym e) tt))) | false ↦ λ e. refl ] refl

pub dash_behind : (text : Text) (r : Option (Bor Text)) → MatchOption r ((rest : Text) → text ≢ 45 ∷ rest) (λ x. text ≡ 45 ∷ x.now) → option_map (λ (t : Bor Text). t.now) r ≡ behind_dash text
dash_behind [] None h = refl
dash_behind (b ∷ text) None h = if_false b (Some text) (λ e. h text (ap (λ x. x ∷ text) e))
dash_behind text (Some x) h = rw h refl
