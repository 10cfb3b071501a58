-- Only proofs use this file.
-- The spans of the matches in a text.
use Rattle.std.proofs.Common.{ℕ, ◌≡◌, ◌∙◌, ◌++◌, ◌∷◌, [], Bool, true, false, List, Some, None, ap, ap₂, append_assoc, cond, map, refl, sym, take}
use Rattle.std.specs.Iterator.{Yields}
use Rattle.std.proofs.lemmas.List.{append-nil, map-append}
use Rattle.rc_text.specs.Found.{Found}
use Rattle.rc_text.specs.Text.{Searched}
use Rattle.rc_text.specs.declared.types.Span.{Span}
use Rattle.rc_program.specs.Kinds.{matches_by_kind}
use Rattle.api_meta.specs.Lent.{FindNextWith, find_with_left}
use Rattle.api_meta.specs.Views.{regex_kind, sought}
use Rattle.api_meta.specs.declared.lists.FindMatchesWith.{FindMatchesWith}
use Rattle.api_meta.specs.declared.regex.Regex.{Regex}
use Rattle.regex_cursor.specs.Output.{IsWhole}
use Rattle.rcgrep.specs.Picked.{span_of, spans_of, text_matches}

-- the span of one match more
pub spans_more : (old now new : List Span) (ms : List Found) (m : Found) (s : Span) → new ≡ now ++ s ∷ [] → s ≡ span_of m →
    now ≡ old ++ map span_of ms → new ≡ old ++ map span_of (ms ++ m ∷ [])
spans_more old now new ms m s is one before =
    is ∙ ap (λ xs. xs ++ s ∷ []) before ∙ append_assoc old (map span_of ms) (s ∷ [])
    ∙ ap (λ xs. old ++ xs) (ap (λ x. map span_of ms ++ x ∷ []) one ∙ sym (map-append span_of ms (m ∷ [])))

-- the span of the first match alone
pub first_span : (old now new : List Span) (before ms all : List Found) (m : Found) (s : Span) → new ≡ now ++ s ∷ [] → s ≡ span_of m → now ≡ old ++ map span_of before →
    before ≡ [] → all ≡ before ++ m ∷ ms → new ≡ old ++ take 1 (map span_of all)
first_span old now new before ms all m s is one told none rest =
    is ∙ ap₂ (λ xs x. xs ++ x ∷ []) (told ∙ ap (λ xs. old ++ map span_of xs) none ∙ append-nil old) one
    ∙ ap (λ xs. old ++ take 1 (map span_of xs)) (sym (rest ∙ ap (λ xs. xs ++ m ∷ ms) none))

-- what was left is what was given, and what is left behind it
given_and_left : {C : Type 0} (s : FindMatchesWith C) (items : List Found) (t : FindMatchesWith C) → Yields FindNextWith s items t →
    find_with_left s ≡ items ++ find_with_left t
given_and_left s [] t y = ap find_with_left y
given_and_left s (x ∷ xs) t y = y.1.0.0 ∙ ap (λ l. x ∷ l) (given_and_left y.0 xs t y.2)

-- the spans of all matches, or there is none
all_spans : (first : Bool) (old new : List Span) (items all : List Found) → new ≡ old ++ map span_of items → all ≡ items → (first ≡ true → items ≡ []) →
    new ≡ old ++ cond first (take 1 (map span_of all)) (map span_of all)
all_spans true old new items all is same none =
    let no = none refl in
    is ∙ ap (λ xs. old ++ map span_of xs) no ∙ ap (λ xs. old ++ take 1 (map span_of xs)) (sym (same ∙ no))
all_spans false old new items all is same none = is ∙ ap (λ xs. old ++ map span_of xs) (sym same)

module _ {C : Type 0} (i t u : FindMatchesWith C) (items all : List Found) (left : find_with_left i ≡ all) (yields : Yields FindNextWith i items t) where
  -- the iterator was asked for the first match alone
  pub first_given : (first : Bool) (m : Found) (old now new : List Span) (s : Span) → first ≡ true → FindNextWith t (Some m) u → (first ≡ true → items ≡ []) →
      new ≡ now ++ s ∷ [] → s ≡ span_of m → now ≡ old ++ map span_of items → new ≡ old ++ cond first (take 1 (map span_of all)) (map span_of all)
  first_given first m old now new s asked next none is one told =
      first_span old now new items (find_with_left u) all m s is one told (none asked)
      (sym left ∙ given_and_left i items t yields ∙ ap (λ l. items ++ l) next.0.0)
      ∙ ap (λ b. old ++ cond b (take 1 (map span_of all)) (map span_of all)) (sym asked)

  -- it gave all
  pub all_given : (first : Bool) (old new : List Span) → FindNextWith t None u → (first ≡ true → items ≡ []) → new ≡ old ++ map span_of items →
      new ≡ old ++ cond first (take 1 (map span_of all)) (map span_of all)
  all_given first old new next none told =
      all_spans first old new items all told
      (sym left ∙ given_and_left i items t yields ∙ ap (λ l. items ++ l) next.0.0.0 ∙ append-nil items) none

-- the matches in an input over the whole text
pub text_spans : (r : Regex) (text : List ℕ) (input : Searched) (first : Bool) (old new : List Span) → old ≡ [] → IsWhole text input →
    new ≡ old ++ cond first (take 1 (spans_of r input)) (spans_of r input) → new ≡ cond first (take 1 (text_matches r text)) (text_matches r text)
text_spans r text input first old new none w is =
    is ∙ ap (λ xs. xs ++ cond first (take 1 (spans_of r input)) (spans_of r input)) none
    ∙ ap (λ xs. cond first (take 1 xs) xs) (ap₂ (λ s k. map span_of (matches_by_kind (regex_kind r) s k None)) (w.same (sought r)) w.start)
