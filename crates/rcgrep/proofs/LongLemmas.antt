-- Only proofs use this file.
-- What a stream tells of a line, and of the line when it ends.
use Rattle.std.proofs.Common.{ℕ, ◌≡◌, ◌<◌, ◌+◌, ◌∙◌, ◌++◌, ◌∷◌, [], Bool, true, false, List, Option, Some, None, min, ap, ap₂, append_assoc, arith, refl, sym, subst, length}
use Rattle.std.specs.Option.{is_some}
use Rattle.std.specs.Prelude.{MatchOption}
use Rattle.std.proofs.lemmas.List.{append-nil}
use Rattle.std.proofs.lemmas.Option.{none-some}
use Rattle.rc_text.specs.Found.{Found}
use Rattle.rc_program.specs.Answer.{Search}
use Rattle.rc_program.specs.Kinds.{answer_by}
use Rattle.rc_program.specs.Matches
use Rattle.rc_program.specs.Matches.{AreMatches, begin_of, end_of, next_match, unless_again}
use Rattle.rc_program.specs.Sought.{Sought, search_for}
use Rattle.rc_program.proofs.KindLemmas.{kinds_law}
use Rattle.rc_reach.specs.Live.{found_by, over_content}
use Rattle.api_meta.specs.Views.{regex_kind, sought}
use Rattle.api_meta.specs.declared.regex.Regex.{Regex}
use Rattle.regex_cursor.specs.Output.{whole}
use Rattle.stream_search.specs.Searches.{matches_of, seeks}
use Rattle.stream_search.specs.Searching.{Streaming, WasFed}
use Rattle.stream_search.specs.Streams.{MayBecome}
use Rattle.rcgrep.specs.Long.{AlwaysMatches, IsKnown}
use Rattle.rcgrep.specs.Picked.{has_match}

-- ---- the first of a list of matches

module _ (find : ℕ → Option Found) where
  none_at : (k : ℕ) (o : Option Found) → unless_again begin_of end_of find k None o ≡ None → is_some o ≡ false
  none_at k None e = refl
  none_at k (Some m) e = absurd (none-some m (sym e))

  some_at : (k : ℕ) (o : Option Found) (m : Found) → unless_again begin_of end_of find k None o ≡ Some m → is_some o ≡ true
  some_at k None m e = absurd (none-some m e)
  some_at k (Some n) m e = refl

  none_found : (k : ℕ) (ms : List Found) → AreMatches begin_of end_of find k None ms → ms ≡ [] → is_some (find k) ≡ false
  none_found k [] (Matches.ends e) is = none_at k (find k) e
  none_found k (m ∷ ms) are is = absurd (omega (arith, ap length is))

  some_found : (k : ℕ) (m : Found) (ms : List Found) → AreMatches begin_of end_of find k None (m ∷ ms) → is_some (find k) ≡ true
  some_found k m ms (Matches.goes_on n e more) = some_at k (find k) m e

-- ---- the matches of a line

-- the search of a whole content is that of its input
whole_search : (q : Sought) (content : List ℕ) → length content < 18446744073709551616 → over_content (search_for q (whole [])) content ≡ search_for q (whole content)
whole_search q content fits =
    let a : length content ≡ min 18446744073709551615 (length content) = omega (arith, fits) in
    let b : length content ≡ min (min (length content) 18446744073709551615) (length content) = omega (arith, fits) in
    ap₂ (λ e h. record (search_for q (whole content)) {
      text = record (search_for q (whole content)).text { slice_end = e };
      hi = h;
    }) a b

module _ (r : Regex) (line : List ℕ) (fits : length line < 18446744073709551616) where
  found_is : is_some (found_by (regex_kind r) (seeks r) line 0) ≡ has_match r line
  found_is = ap (λ (s : Search). is_some (answer_by (regex_kind r) s)) (whole_search (sought r) line fits)

  are_listed : AreMatches begin_of end_of (found_by (regex_kind r) (seeks r) line) 0 None (matches_of r line)
  are_listed = kinds_law.are_matches (regex_kind r) (over_content (seeks r) line) 0

  -- where the list is empty there is none
  pub lacks_match : [] ≡ matches_of r line → has_match r line ≡ false
  lacks_match none = sym found_is ∙ none_found (found_by (regex_kind r) (seeks r) line) 0 (matches_of r line) are_listed (sym none)

  -- else there is one
  pub finds_match : (m : Found) (rest : List Found) → matches_of r line ≡ m ∷ rest → has_match r line ≡ true
  finds_match m rest is =
      sym found_is
      ∙ some_found (found_by (regex_kind r) (seeks r) line) 0 m rest (subst (AreMatches begin_of end_of (found_by (regex_kind r) (seeks r) line) 0 None) is are_listed)

-- ---- what is known

-- a match was given while the line may go on
always_matches : (s : Streaming) (bytes : List ℕ) (m : Found) → s.is_finished ≡ false → WasFed bytes (m ∷ []) s → AlwaysMatches s.regex bytes
always_matches s bytes m going was = λ more fits.
    let b = was.begins (bytes ++ more) (subst (λ f. MayBecome f bytes (bytes ++ more)) (sym going) (more, refl)) in
    finds_match s.regex (bytes ++ more) fits m b.0 b.1

-- it goes on with a match
pub matches_more : (r : Regex) (bytes piece : List ℕ) → AlwaysMatches r bytes → AlwaysMatches r (bytes ++ piece)
matches_more r bytes piece h = λ more fits.
    let same : (bytes ++ piece) ++ more ≡ bytes ++ (piece ++ more) = append_assoc bytes piece more in
    subst (λ xs. has_match r xs ≡ true) (sym same) (h (piece ++ more) (subst (λ xs. length xs < 18446744073709551616) same fits))

module _ (s t : Streaming) (bytes : List ℕ) (stays : t ≡ record s { from = t.from; last = t.last }) where
  -- the next match was asked for, and more may follow
  pub asked : (o : Option Found) (b : Bool) → b ≡ is_some o → s.is_finished ≡ false →
      MatchOption o (WasFed bytes [] t) (λ m. WasFed bytes (m ∷ []) t) → IsKnown b t bytes
  asked None b is going told = subst (λ c. IsKnown c t bytes) (sym is) (told, ap (λ (x : Streaming). x.is_finished) stays ∙ going)
  asked (Some m) b is going told =
      subst (λ c. IsKnown c t bytes) (sym is) (always_matches t bytes m (ap (λ (x : Streaming). x.is_finished) stays ∙ going) told)

  -- no more follows
  pub ended : (o : Option Found) (b : Bool) → b ≡ is_some o → s.is_finished ≡ true → length bytes < 18446744073709551616 →
      MatchOption o (WasFed bytes [] t) (λ m. WasFed bytes (m ∷ []) t) → (o ≡ None → [] ≡ matches_of s.regex bytes) → b ≡ has_match s.regex bytes
  ended None b is over fits told none = is ∙ sym (lacks_match s.regex bytes fits (none refl))
  ended (Some m) b is over fits told none =
      let begun = told.begins bytes (subst (λ f. MayBecome f bytes bytes) (sym (ap (λ (x : Streaming). x.is_finished) stays ∙ over)) refl) in
      is ∙ sym (finds_match t.regex bytes fits m begun.0 begun.1) ∙ ap (λ (x : Streaming). has_match x.regex bytes) stays

-- a line with a match has one at its end
pub matched : (r : Regex) (line : List ℕ) → AlwaysMatches r line → length line < 18446744073709551616 → has_match r line ≡ true
matched r line h fits =
    subst (λ xs. has_match r xs ≡ true) (append-nil line) (h [] (subst (λ xs. length xs < 18446744073709551616) (sym (append-nil line)) fits))
