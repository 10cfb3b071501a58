-- Searches that ask first whether a match begins where they do, also where matches are passed over.
use Rattle.std.proofs.Common.{◌≡◌, ℕ, Bool, true, true≢false, List, Option, Some, None, Result, Ok, Err, IfOk, IfSome, is_some, sym, subst, refl, arith}
use Rattle.rc_text.specs.Found.{Found}
use Rattle.rc_walks.specs.Walks.{Pair}
use Rattle.rc_text.specs.Text.{Searched, low, high}
use Rattle.rc_text.specs.declared.types.MatchError.{MatchError}
use Rattle.rc_text.specs.declared.types.Anchored.{Anchored}
use Rattle.rc_text.specs.declared.types.Anchored.TheVariants.{Yes}
use Rattle.rc_pattern.specs.Re.{Re}
use Rattle.rc_program.specs.Text.{Text}
use Rattle.rc_program.specs.Program.{Place, program}
use Rattle.rc_program.specs.Answer.{Search, IsFirstFrom, anywhere, answer, at_start}
use Rattle.rc_program.specs.Longest.{IsLongestFrom, longest}
use Rattle.rc_program.specs.Kinds.{IsAnswerBy, answer_by}
use Rattle.rc_program.specs.Sought.{text_of}
use Rattle.rc_program.proofs.ReachLemmas.{longest_law}
use Rattle.rc_text.specs.declared.types.MatchKind.{MatchKind}
use Rattle.rc_text.specs.declared.types.MatchKind.TheVariants.{All as all_matches, LeftmostFirst as leftmost_first, LeftmostLongest as leftmost_longest}
use Rattle.rc_dfa_search.specs.declared.search.Aim.{Aim}
use Rattle.rc_dfa_search.specs.Aims.{search_for, search_from}
use Rattle.rc_dfa_search.specs.Firsts.{MayBeginThere}
use Rattle.rc_dfa_search.specs.Leftmost.{IsLeftmost}
use Rattle.rc_dfa_search.proofs.BeginLemmas.{IsTold, first_told}

-- WHERE A MATCH BEGINS WITH THE SEARCH

module _ (places : List Place) (text : Text) (lo hi : ℕ) (over : Bool) where
  -- the search
  abbrev pub Any : Search
  Any = record { places = places; text = text; lo = lo; hi = hi; anchoring = anywhere; passes_over = over }

  -- that for a match that begins where it does
  abbrev pub Here : Search
  Here = record { places = places; text = text; lo = lo; hi = hi; anchoring = at_start; passes_over = over }

  -- no start comes before, whichever walk of a start counts
  stays_of : (Counts : ℕ → List Pair → Type 0) (gives : Search → Option Found) (m : Found) →
      IsTold (gives Any) Any Counts m → IsTold (gives Here) Here Counts m → gives Here ≡ Some m → gives Any ≡ Some m
  stays_of Counts gives m any_some here_some e =
      let r = here_some.0 e in
      let a = r.1 in
      let start : r.0.start ≡ lo = a.is_start.2 refl in
      any_some.1 (
        r.0,
        record {
          is_start = (a.is_start.0, a.is_start.1, λ t. absurd (true≢false (sym t)));
          counts = a.counts;
          allowed = a.allowed;
          none_before = λ y is lt. let above = is.0 in absurd (omega (arith, above, lt, start));
        },
        r.2,
      )

  pub stays : (kind : MatchKind) → IsLeftmost kind → (m : Found) → answer_by kind Here ≡ Some m → answer_by kind Any ≡ Some m
  stays all_matches l = absurd l
  stays leftmost_first l = λ m. stays_of (IsFirstFrom Any) answer m (first_told Any m) (first_told Here m)
  stays leftmost_longest l = λ m. stays_of (IsLongestFrom Any) longest m (longest_law.answer_some Any m) (longest_law.answer_some Here m)

-- IN CODE

module _ (aim : Aim) (hs : List Re) (terminator : ℕ) (s : Searched) (may : MayBeginThere aim s.anchored) where
  -- the search where it is anchored so
  abbrev By : Anchored → Search
  By a = search_for aim hs terminator (record s { anchored = a })

  same : (m : Found) → answer_by aim.kind (By Yes) ≡ Some m → answer_by aim.kind (By s.anchored) ≡ Some m
  same m h =
      subst (λ a. answer_by aim.kind (By a) ≡ Some m) (sym may.free)
      (stays (program hs) (text_of terminator s) (low s) (high s) aim.passes_over aim.kind may.kind m h)

  -- what is found anchored is the match of the search
  pub found_there : (t : Searched) → t ≡ record s { anchored = Yes } → (from : ℕ) → from ≡ low s → (r : Result (Option Found) MatchError) →
      IfOk r (IsAnswerBy aim.kind aim.earliest (search_from aim hs terminator t from)) →
      IfOk r (λ o. IfSome o (λ m. answer_by aim.kind (search_for aim hs terminator s) ≡ Some m))
  found_there t is from begins (Err e) h = tt
  found_there t is from begins (Ok None) h = tt
  found_there t is from begins (Ok (Some m)) h =
      let whole : IsAnswerBy aim.kind aim.earliest (search_from aim hs terminator (record s { anchored = Yes }) (low s)) (Some m) =
      subst (λ x. IsAnswerBy aim.kind aim.earliest (search_from aim hs terminator (record s { anchored = Yes }) x) (Some m)) begins
      (subst (λ x. IsAnswerBy aim.kind aim.earliest (search_from aim hs terminator x from) (Some m)) is h) in
      let plain : Some m ≡ answer_by aim.kind (By Yes) =
      subst (λ e. IsAnswerBy aim.kind e (By Yes) (Some m)) may.late whole in
      same m (sym plain)

  -- which the search may return
  pub is_found : (o : Option Found) → is_some o ≡ true → IfSome o (λ m. answer_by aim.kind (search_for aim hs terminator s) ≡ Some m) →
      IsAnswerBy aim.kind aim.earliest (search_for aim hs terminator s) o
  is_found None some h = absurd (true≢false (sym some))
  is_found (Some m) some h = subst (λ e. IsAnswerBy aim.kind e (search_for aim hs terminator s) (Some m)) (sym may.late) (sym h)
