-- How a batch is filled: one match after another is taken from the list of those that are left.
use Rattle.std.proofs.Common.{◌≡◌, ◌∙◌, ◌+◌, ◌<◌, ◌≤◌, ℕ, Bool, true, false, if◌then◌else◌, List, [], ◌∷◌, ◌++◌, All, IfSome, MatchOption, Option, Some, None, ap, refl, arith, length, map, set, slice_get, subst, sym, take, append_assoc}
use Rattle.std.proofs.lemmas.List.{get_or-set_same, length-set, map-append, take_more_set}
use Rattle.std.proofs.lemmas.Option.{slice_get-get_or}
use Rattle.rc_text.specs.Found.{Found}
use Rattle.rc_text.specs.Text.{Searched, Keeps}
use Rattle.rc_text.specs.declared.types.Span.{Span}
use Rattle.rc_text.specs.declared.types.Anchored.TheVariants.{No, Yes}
use Rattle.rc_text.specs.declared.types.MatchKind.{MatchKind}
use Rattle.rc_program.specs.Kinds.{answer_by, answer_by_from, matches_by_kind}
use Rattle.rc_program.specs.Matches.{begin_of, end_of, from_on, next_match, unless_again}
use Rattle.rc_program.specs.Program.{program, shown}
use Rattle.rc_program.specs.Sought.{Sought, passes_over, search_for}
use Rattle.rc_pikevm_search.specs.Moved.{IsMoved}
use Rattle.rc_pikevm_search.proofs.Steps.{search_kept, search_moved, step_none, step_some}
use Rattle.searcher.specs.Places.{GoesOn, IsFilled, found_at}
use Rattle.searcher.specs.Flags.{is_on}
use Rattle.searcher.specs.Ranges.{anchoring, at_start, in_bounds, in_range}
use Rattle.searcher.specs.declared.answers.Bounds.{Bounds}
use Rattle.searcher.specs.declared.answers.MatchAt.{MatchAt}

-- an input in a range is searched as the text in that range
pub same_search : (q : Sought) (text : List ℕ) (start end : ℕ) (i : Searched) → Keeps (in_range text start end) i →
    search_for q i ≡ search_for q (in_range text start end)
same_search q text start end i = search_kept (program (shown q.grouped q.patterns)) q.terminator (passes_over q) (in_range text start end) i

-- an input in a range that is anchored is searched as the text in that range for a match at its start
pub same_anchored : (q : Sought) (text : List ℕ) (start end : ℕ) (i j : Searched) → Keeps (in_range text start end) i → j ≡ record i { anchored = Yes } →
    search_for q j ≡ search_for q (at_start text start end)
same_anchored q text start end i j k e =
    search_kept (program (shown q.grouped q.patterns)) q.terminator (passes_over q) (at_start text start end) j
    (subst (λ x. Keeps (at_start text start end) x) (sym e)
    (record { content = k.content; span = k.span; slice = k.slice; anchored = refl; earliest = k.earliest }))

-- an input in a range that is anchored by a flag is searched as the text within those bounds
pub same_bounds : (q : Sought) (text : List ℕ) (b : Bounds) (i j : Searched) → Keeps (in_range text b.start b.end) i →
    j ≡ record i { anchored = anchoring b.anchored } → search_for q j ≡ search_for q (in_bounds text b)
same_bounds q text b i j k e =
    search_kept (program (shown q.grouped q.patterns)) q.terminator (passes_over q) (in_bounds text b) j
    (subst (λ x. Keeps (in_bounds text b) x) (sym e)
    (record { content = k.content; span = k.span; slice = k.slice; anchored = refl; earliest = k.earliest }))

-- within bounds there is the match in the range, or the one at its start
pub bounds_are : (kind : MatchKind) (q : Sought) (text : List ℕ) (b : Bounds) → answer_by kind (search_for q (in_bounds text b)) ≡
    (if is_on b.anchored then answer_by kind (search_for q (at_start text b.start b.end)) else answer_by kind (search_for q (in_range text b.start b.end)))
bounds_are kind q text b = by_flag (is_on b.anchored)
  where
    by_flag : (x : Bool) → answer_by kind (search_for q (record (in_range text b.start b.end) { anchored = if x then Yes else No })) ≡
        (if x then answer_by kind (search_for q (at_start text b.start b.end)) else answer_by kind (search_for q (in_range text b.start b.end)))
    by_flag true = refl
    by_flag false = refl

moved : (q : Sought) (i j : Searched) → IsMoved i j → search_for q j ≡ from_on (search_for q i) j.span.start
moved q = search_moved (program (shown q.grouped q.patterns)) q.terminator (passes_over q)

same_next : (kind : MatchKind) (q : Sought) (i j : Searched) (last : Option ℕ) (o : Option Found) → IsMoved i j →
    o ≡ next_match begin_of end_of (answer_by_from kind (search_for q j)) j.span.start last →
    o ≡ next_match begin_of end_of (answer_by_from kind (search_for q i)) j.span.start last
same_next kind q i j last o m e = e ∙ ap (λ x. next_match begin_of end_of (answer_by_from kind x) j.span.start last) (moved q i j m)

-- one match more is listed
one_listed : (xs : List MatchAt) (n : ℕ) (x : MatchAt) (m : Found) (rest : List Found) → n < length xs → found_at x ≡ m →
    map found_at (take n xs) ++ m ∷ rest ≡ map found_at (take (n + 1) (set xs n x)) ++ rest
one_listed xs n x m rest inside is =
    sym (ap (λ l. l ++ rest) (ap (map found_at) (take_more_set xs n x inside) ∙ map-append found_at (take n xs) (x ∷ []) ∙ ap (λ y. map found_at (take n xs) ++ y ∷ []) is)
    ∙ append_assoc (map found_at (take n xs)) (m ∷ []) rest)

-- before any match it goes on from where it is
pub goes_on_none : (xs : List MatchAt) (from next : ℕ) (last after : Option ℕ) → next ≡ from → after ≡ last → GoesOn xs 0 from last next after
goes_on_none xs from next last after begins ends = record {
  none = λ _. (begins, ends);
  some = λ k e. absurd (omega (arith, e));
}

-- after one match more it goes on from that one's end
pub goes_on_more : (xs : List MatchAt) (n : ℕ) (x : MatchAt) (m : Found) (from : ℕ) (last : Option ℕ) (next end : ℕ) → n < length xs → found_at x ≡ m →
    next ≡ m.end → end ≡ m.end → GoesOn (set xs n x) (n + 1) from last next (Some end)
goes_on_more xs n x m from last next end inside is begins ends = record {
  none = λ e. absurd (omega (arith, e));
  some = λ k e. subst At (omega (arith, e)) (subst (λ o. IfSome o IsEnd) (sym there) (begins ∙ sym last_one, ap Some (ends ∙ sym last_one)));
}
  where
    IsEnd : MatchAt → Type 0
    IsEnd y = (next ≡ y.end) × (Some end ≡ Some y.end)

    At : ℕ → Type 0
    At i = IfSome (slice_get (set xs n x) i) IsEnd

    there : slice_get (set xs n x) n ≡ Some x
    there = slice_get-get_or (set xs n x) n x (omega (arith, inside, length-set xs n x)) ∙ ap Some (get_or-set_same xs n x x inside)

    last_one : x.end ≡ m.end
    last_one = ap (λ (f : Found). f.end) is

-- what a list begins with
abbrev first_in : List Found → Option Found
first_in [] = None
first_in (m ∷ ms) = Some m

-- it was taken from the list, or there was nothing to take
abbrev IsTaken : Option Found → (left rest : List Found) → Type 0
IsTaken o left rest = MatchOption o ((left ≡ []) × (rest ≡ [])) (λ m. left ≡ m ∷ rest)

taken_first : (o : Option Found) (left rest : List Found) → IsTaken o left rest → first_in left ≡ o
taken_first None left rest t = ap first_in t.0
taken_first (Some m) left rest t = ap first_in t

pub taken_within : (P : Found → Type 0) (o : Option Found) (left rest : List Found) → All P left → IsTaken o left rest → IfSome o P
taken_within P None left rest all t = _
taken_within P (Some m) left rest all t = subst (All P) t all 0 m (omega arith)

module _ (kind : MatchKind) (q : Sought) where
  abbrev Left : Searched → ℕ → Option ℕ → List Found
  Left i from last = matches_by_kind kind (search_for q i) from last

  abbrev Finds : Searched → Option ℕ → Option Found → Type 0
  Finds j last o = o ≡ next_match begin_of end_of (answer_by_from kind (search_for q j)) j.span.start last

  listed_first : (i : Searched) (o : Option Found) → o ≡ answer_by kind (search_for q i) → first_in (Left i i.span.start None) ≡ o
  listed_first i None e =
      let next = ap (unless_again begin_of end_of (answer_by_from kind (search_for q i)) i.span.start None) e in
      ap first_in (step_none kind (search_for q i) i.span.start None next)
  listed_first i (Some m) e =
      let next = ap (unless_again begin_of end_of (answer_by_from kind (search_for q i)) i.span.start None) e in
      ap first_in (step_some kind (search_for q i) i.span.start None m next)

  -- what is taken from the list of an input's matches is what a search of that input finds
  pub taken_is_found : (i : Searched) (o : Option Found) (left rest : List Found) → left ≡ Left i i.span.start None → IsTaken o left rest →
      o ≡ answer_by kind (search_for q i)
  taken_is_found i o left rest e t = sym (taken_first o left rest t) ∙ ap first_in e ∙ listed_first i (answer_by kind (search_for q i)) refl

  -- the next match was written: it is listed, and those behind it are left
  pub listed_more : (i j : Searched) (last : Option ℕ) (m : Found) (all : List Found) (xs : List MatchAt) (n : ℕ) (x : MatchAt) (from end : ℕ) →
      IsMoved i j → Finds j last (Some m) → n < length xs → found_at x ≡ m → from ≡ m.end → end ≡ m.end →
      all ≡ map found_at (take n xs) ++ Left i j.span.start last → all ≡ map found_at (take (n + 1) (set xs n x)) ++ Left i from (Some end)
  listed_more i j last m all xs n x from end moves finds inside is begins ends e =
      let written = map found_at (take (n + 1) (set xs n x)) in
      e ∙ ap (λ l. map found_at (take n xs) ++ l) (step_some kind (search_for q i) j.span.start last m (same_next kind q i j last (Some m) moves finds))
      ∙ one_listed xs n x m (Left i m.end (Some m.end)) inside is
      ∙ ap (λ k. written ++ Left i k (Some m.end)) (sym begins)
      ∙ ap (λ l. written ++ Left i from (Some l)) (sym ends)

  -- none is left: what was written is all
  pub filled_none : (i j : Searched) (last : Option ℕ) (all : List Found) (xs : List MatchAt) (n from : ℕ) →
      IsMoved i j → Finds j last None → n ≤ length xs → from ≡ j.span.start →
      all ≡ map found_at (take n xs) ++ Left i j.span.start last → IsFilled all (Left i from last) xs n
  filled_none i j last all xs n from moves finds inside begins e = record {
    within = inside;
    listed = e ∙ ap (λ k. map found_at (take n xs) ++ Left i k last) (sym begins);
    over = λ short. ap (λ k. Left i k last) begins ∙ step_none kind (search_for q i) j.span.start last (same_next kind q i j last None moves finds);
  }

  -- the list is the same, whatever the search that it is told by begins at
  left_same : (text : List ℕ) (start from end : ℕ) (last : Option ℕ) → Left (in_range text start end) from last ≡ Left (in_range text from end) from last
  unfolding matches_by_kind
  left_same text start from end last = refl

  -- the matches of an input in a range are those of the text in that range
  pub same_matches : (text : List ℕ) (start end : ℕ) (i : Searched) → Keeps (in_range text start end) i →
      Left i i.span.start None ≡ Left (in_range text start end) start None
  same_matches text start end i in_it =
      ap (λ x. matches_by_kind kind x i.span.start None) (same_search q text start end i in_it)
      ∙ ap (λ (s : Span). Left (in_range text start end) s.start None) in_it.span

  -- a batch that was filled from an input in a range was filled from the text in that range
  pub filled_in : (text : List ℕ) (from end : ℕ) (i : Searched) (last : Option ℕ) (next : ℕ) (after : Option ℕ) (xs : List MatchAt) (n : ℕ) →
      Keeps (in_range text from end) i → IsFilled (Left i i.span.start last) (Left i next after) xs n →
      IsFilled (Left (in_range text from end) from last) (Left (in_range text next end) next after) xs n
  filled_in text from end i last next after xs n in_it filled =
      let same = same_search q text from end i in_it in
      let begins = ap (λ (s : Span). s.start) in_it.span in
      subst (λ l. IsFilled l (Left (in_range text next end) next after) xs n)
      (ap (λ x. matches_by_kind kind x i.span.start last) same ∙ ap (λ k. Left (in_range text from end) k last) begins)
      (subst (λ l. IsFilled (Left i i.span.start last) l xs n) (ap (λ x. matches_by_kind kind x next after) same ∙ left_same text from next end after) filled)
